-- Calls: what a call with a flat reply does, from what the call does.
pub mod Calls
-- Replies: the flat reply of each answer.
pub mod Replies
