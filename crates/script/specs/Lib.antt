-- The script's table: its lines; a word as an argument; which call a row is.
pub mod Table
pub mod Arguments
pub mod Commands
-- A script's line: its words, which call it is, and how it is read byte by byte.
pub mod Meaning
pub mod Lines
pub mod Claims
pub mod Shown
