pub mod Back
pub mod Onto
