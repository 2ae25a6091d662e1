-- Document 01's limits and refusals, moments of the clock, flags, and what an answer tells, as the definitions of every crate cite them.
pub mod Limits
pub mod Refusals
pub mod Moments
pub mod Flags
pub mod Told
