pub mod Streams
pub mod Tables
