-- Writes: what each way out of a write comes to.
pub mod Writes
