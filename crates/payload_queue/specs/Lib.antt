-- Queue: what the queue's numbers and cells mean, and what each call does, in the model's words. Sums: the counter of bytes stays the sum.
-- OneRun: the entries of a message around a place. Dues: the bound stays one. Cases: the ways out of the calls. Listing: the list of TSNs.
-- Model: the calls as document 01's, of a whole sender.
pub mod Queue
pub mod Sums
pub mod OneRun
pub mod Dues
pub mod Cases
pub mod Listing
pub mod Model
