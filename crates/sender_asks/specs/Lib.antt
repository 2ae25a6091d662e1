-- Answers: what is asked of one stream. Beside: the questions beside 01's, which are no calls of the model. Chunks: the ways out of a
-- call that writes a chunk.
pub mod Answers
pub mod Beside
pub mod Chunks
