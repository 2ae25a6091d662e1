-- Fragments: what is added to a ring, and the loop that adds it.
pub mod Fragments
-- Queue: what a queue means, and its counter. Fronts: taking the head. Adding: fragments have joined a ring. Lifetimes: they start from
-- the back. Runs: a message is removed from the front. Each has the definitions that contracts cite and the laws of callers and proofs.
pub mod Queue
pub mod Fronts
pub mod Adding
pub mod Lifetimes
pub mod Runs
