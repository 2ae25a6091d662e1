-- Whole: what the head and the lent cells mean as the model's sender, and what a part that came back leaves of it. Lent: a call of the queue
-- as one of the whole sender.
pub mod Whole
pub mod Lent
-- Calls: what a contract promises, in one word.
pub mod Calls
-- Tables: the table came back from a call, and the queue's words stay.
pub mod Tables
