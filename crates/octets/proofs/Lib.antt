-- Calls: an array that a closure fills. Room: what is read and written where there may be no room for all.
mod Calls
mod Room
