-- Says: what each thin function says of the estimator behind its reference.
pub mod Says
