-- Document 01's sender, as definitions: lists, records and numbers, section by section. Each call is a function from a sender and
-- the call's arguments to a sender and an answer. This is what a reader has to believe; the code is proved equal to it.
pub mod Lists
pub mod Records
pub mod Answers
pub mod State
pub mod Streams
pub mod Messages
pub mod Rings
pub mod Flight
pub mod Told
pub mod Calls
pub mod Sack
pub mod Sacks
pub mod Requests
pub mod Data
pub mod Scenes
