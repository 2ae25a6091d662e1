-- Ends: the furthest ends of blocks, and that they tell what is covered. Notes: one end is noted. Walks: the entries of a window are walked.
-- Windows: window behind window.
pub mod Ends
pub mod Notes
pub mod Walks
pub mod Windows
-- Covers: the entries that go, and what is acknowledged of the others. Reads: the call, as the model's.
pub mod Covers
pub mod Reads
