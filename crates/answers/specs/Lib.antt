-- What lines do to the script's arrays of bytes.
pub mod Arrays
