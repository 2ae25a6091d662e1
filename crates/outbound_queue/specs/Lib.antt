-- Outbound: what the queue's numbers and cells mean as the model's sender, and what the calls of the crates above lean on. Flights: the
-- calls of the flight alone.
pub mod Outbound
pub mod Flights
-- Calls: what a contract promises, in one word.
pub mod Calls
-- Asked: what is asked of the queue, as code finds it out.
pub mod Asked
-- Steps: what each step comes to, of a sender that is a variable.
pub mod Steps
