-- What the proofs of `rto` share.
pub mod Cases
pub mod Cast
-- What the quicker way of `rto_cells` goes by: a usual state, a float by its value, its range, the next rttvar, and the floor of 4 x rttvar.
pub mod Usual
pub mod Value
pub mod Within
pub mod Scaled
pub mod Floor
-- The proofs of the claims that `specs/` makes, over any calls, and what they share.
pub mod AtMost
pub mod Exact
pub mod Float
pub mod Range
pub mod Refusals
pub mod Rfc
pub mod Runs
