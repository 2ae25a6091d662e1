-- Numbers: a number of 16 or 32 bits as bytes, the highest first. Puts: bytes that are written one behind the other.
pub mod Numbers
pub mod Puts
