-- Sizes: a sender of 01's sizes has 01's room. Value: what a sender as one value means. Runs: calls and SACKs of a face, one after the other.
-- Reached: the sender as one value behind any of them.
pub mod Sizes
pub mod Value
pub mod Runs
pub mod Reached
