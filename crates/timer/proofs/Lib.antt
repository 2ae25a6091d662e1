-- What the proofs of `timer` share.
pub mod Laws
pub mod Claims
