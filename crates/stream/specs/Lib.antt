-- The buffered amount of one stream.
pub mod Amounts
