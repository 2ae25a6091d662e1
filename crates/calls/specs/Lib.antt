-- Meant: which of the model's calls and answers a value is, and what the code does in states that no call makes. Told: from a
-- question's own contract to that of the question as a value. Coincide: what a promise allows is one outcome.
pub mod Meant
pub mod Told
pub mod Coincide
