-- Says: what each thin function says of the sender behind its reference. Called: which of the model's requests it is. Reached: the sender
-- behind any of them. Refused: a refusal leaves every word of it.
pub mod Says
pub mod Called
pub mod Reached
pub mod Refused
