-- The worked examples hold by computation.
pub mod Worked
pub mod Walk
