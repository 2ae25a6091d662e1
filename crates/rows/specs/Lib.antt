-- View: a ring's contents at a room. Rounds: the same where the room is the number of cells, shut, with the laws that a ring's proofs cite.
-- Adjusts: `adjust` of the model by index. Joins: one more at the end, where there is room. Turns: loops over a list by index, going up. Ends: one that goes down. Fills: one that writes
-- a list into lent cells. Walks: what contracts and invariants say of a list. Parts: a slice that is lent in parts. Spared: a refusal that
-- changes nothing.
pub mod Adjusts
pub mod Joins
pub mod View
pub mod Rounds
pub mod Walks
pub mod Turns
pub mod Ends
pub mod Fills
pub mod Parts
pub mod Spared
