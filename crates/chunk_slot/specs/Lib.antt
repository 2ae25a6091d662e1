-- Marks: the word of the small fields. Remarks: that word when some of them change.
pub mod Marks
pub mod Remarks
pub mod Chunks
pub mod Changes
pub mod Meaning
