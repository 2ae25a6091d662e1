-- Runs: requests that follow the model's, one after the other. Reached: those of the sender as one value do.
pub mod Runs
pub mod Reached
