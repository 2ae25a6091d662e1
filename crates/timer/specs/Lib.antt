pub mod Entries
-- Document 01, "Leaves first: `timer.rs`": the timers, as the contracts of `timer` cite them.
pub mod Timers
pub mod Told
pub mod Calls
pub mod Claims
