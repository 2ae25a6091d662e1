-- Document 01, "What the caller hears": the number of each answer.
use Rattle.std.specs.Prelude.{ℕ}
use Rattle.limits.specs.declared.Refusal.{Refusal}
use Rattle.limits.specs.declared.Refusal.TheVariants.{BeyondLimit, BadBounds, NotOpen, AlreadyOpen, StreamsFull, MessageLong, BufferFull, RingFull, NumbersSpent, FlightFull, ListShort, CountFull, BadSack, BadBlock, NoEntry, PayloadOutside, OutputShort}

-- done: no refusal
abbrev pub done : ℕ
done = 0

-- a number is beyond its limit, and no other line names it
abbrev pub beyond_limit : ℕ
beyond_limit = 1

-- the payload maximum is outside 1 to 65,515, or the RTO minimum is above the maximum
abbrev pub bad_bounds : ℕ
bad_bounds = 2

-- the stream is not open
abbrev pub not_open : ℕ
not_open = 3

-- the stream is already open
abbrev pub already_open : ℕ
already_open = 4

-- all the streams that there is room for are open
abbrev pub streams_full : ℕ
streams_full = 5

-- the message is too long
abbrev pub message_long : ℕ
message_long = 6

-- the buffered amount would pass its limit
abbrev pub buffer_full : ℕ
buffer_full = 7

-- the message's ring lacks room for all its fragments
abbrev pub ring_full : ℕ
ring_full = 8

-- the message has a fragment, and the last message number is taken
abbrev pub numbers_spent : ℕ
numbers_spent = 9

-- the flight has room for no more than a terminator, and a chunk is pending
abbrev pub flight_full : ℕ
flight_full = 10

-- the lent list is shorter than the list of expired TSNs
abbrev pub list_short : ℕ
list_short = 11

-- an expiry that would be counted finds the timer's count at its limit
abbrev pub count_full : ℕ
count_full = 12

-- the bytes are no SACK
abbrev pub bad_sack : ℕ
bad_sack = 13

-- a block of a SACK that is not stale has start 0, its start above its end, or its end beyond the newest entry
abbrev pub bad_block : ℕ
bad_block = 14

-- no entry in flight has the TSN, or the one that has it is acknowledged or abandoned
abbrev pub no_entry : ℕ
no_entry = 15

-- the entry's payload is not within the bytes lent
abbrev pub payload_outside : ℕ
payload_outside = 16

-- the chunk is longer than the output lent
abbrev pub output_short : ℕ
output_short = 17

-- a refusal's number
abbrev pub refusal_number : Refusal → ℕ
refusal_number BeyondLimit = beyond_limit
refusal_number BadBounds = bad_bounds
refusal_number NotOpen = not_open
refusal_number AlreadyOpen = already_open
refusal_number StreamsFull = streams_full
refusal_number MessageLong = message_long
refusal_number BufferFull = buffer_full
refusal_number RingFull = ring_full
refusal_number NumbersSpent = numbers_spent
refusal_number FlightFull = flight_full
refusal_number ListShort = list_short
refusal_number CountFull = count_full
refusal_number BadSack = bad_sack
refusal_number BadBlock = bad_block
refusal_number NoEntry = no_entry
refusal_number PayloadOutside = payload_outside
refusal_number OutputShort = output_short
