-- Document 01's estimator.
pub mod Rto
-- Where `rto_cells` has a quicker way to the same numbers.
pub mod Usual
-- What a run of calls on the estimator does, and what is claimed of it.
pub mod Told
pub mod Calls
pub mod Exact
pub mod Range
pub mod Rfc
