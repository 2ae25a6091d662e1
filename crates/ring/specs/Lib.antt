-- What a ring holds, and the laws that its calls' proofs and its callers' cite.
pub mod Held
pub mod Sums
pub mod Streams
