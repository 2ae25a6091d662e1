-- Behind: what an expiry's answer means for the streams.
pub mod Behind
-- Listing: what has expired in flight, of the whole sender.
pub mod Listing
