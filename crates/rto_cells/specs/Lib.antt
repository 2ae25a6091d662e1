-- Words: the estimator that head and words mean. Says: what each call says of it.
pub mod Words
pub mod Says
