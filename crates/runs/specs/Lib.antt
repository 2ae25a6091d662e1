-- Runs: lists of requests and of replies as words. Listings: a listing as words. Going: what holds between two requests of a run. Claims: of
-- further requests. Any: any list of requests has words and bytes, and the tape tells its replies.
pub mod Runs
pub mod Listings
pub mod Going
pub mod Claims
pub mod Any
