pub mod Claims
pub mod Any
