-- The three demands, said of the model: words, then claims. Each claim is proved in proofs/ for every room, every first number and
-- every list of calls.
pub mod Words
pub mod Demand3
pub mod Kept
pub mod States
pub mod Numbers
pub mod Rfc9260
pub mod Refusals
pub mod Sacks
pub mod Requests
pub mod Data
