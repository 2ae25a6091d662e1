-- Pushes: what a push does, in 01's words, and what each way out of it comes to.
pub mod Pushes
-- Lean: the two calls as the code makes them of any state. Sends: what each way out of them comes to.
pub mod Lean
pub mod Sends
