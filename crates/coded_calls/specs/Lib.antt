-- Tapes: what was written, and what comes behind it.
pub mod Tapes
-- Coded: the table of coded requests. Picked: one row of it. Onto: it reaches every request.
pub mod Coded
pub mod Picked
pub mod Onto
-- Words: the answers as words. Worded: of values that are the same. Back: a reply is read back from its words.
pub mod Words
pub mod Worded
pub mod Back
