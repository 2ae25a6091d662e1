-- The words of a script: what a word is, and how it is read byte by byte.
pub mod Figures
pub mod Tokens
pub mod Claims
