-- Lean: the call as the code makes it of any state. Together: a message's entries in flight are one run. Abandons: a message is cut off.
pub mod Lean
pub mod Together
pub mod Abandons
-- Lean: the two calls as the code makes them of any state. Expiry: an unsent message goes. Tails: the rest of a message goes.
pub mod LeanExpiry
pub mod Expiry
pub mod Tails
-- Lean: the list as the code makes it of any state. Listings: what has expired in flight.
pub mod LeanListing
pub mod Listings
