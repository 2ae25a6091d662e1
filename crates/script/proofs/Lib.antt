-- What is proved of the definitions alone.
pub mod Reading
pub mod Shown
