-- Slots: what a slice of words holds, eight to a slot. Words: numbers and bits in words.
pub mod Slots
pub mod Words
