-- Every chunk, message and stream of the definitions is made or changed by one of these, so that a further field changes these alone.
use Rattle.std.specs.Prelude.{ℕ, Bool, false, None}
use Rattle.model.specs.declared.Chunk.{Chunk}
use Rattle.model.specs.declared.Message.{Message}
use Rattle.model.specs.declared.Reliability.{Reliability}
use Rattle.model.specs.declared.Statistics.{Statistics}
use Rattle.model.specs.declared.Stream.{Stream}
use Rattle.limits.specs.Moments.{Moment}

-- ---- a stream

-- every field given, where words are read
abbrev pub make_stream : (identifier maximum : ℕ) → (unordered : Bool) → Reliability → (ssn buffered low high : ℕ) → Statistics → Stream
make_stream id m u r n b l h x =
    record { identifier = id; maximum = m; unordered = u; reliability = r; ssn = n; buffered = b; low = l; high = h; statistics = x }

-- a stream of which nothing was written, with this high threshold: ordered, Reliable, with value 0; its low threshold is 0
abbrev pub new_stream : (identifier maximum high : ℕ) → Stream
new_stream id m h = make_stream id m false (record { kind = 0; value = 0 }) 0 0 0 h (record { messages = 0; bytes = 0 })

-- what words that are 0 read as
abbrev pub blank_stream : Stream
blank_stream = new_stream 0 0 0

-- how its messages are delivered
abbrev pub delivering : (unordered : Bool) → Reliability → Stream → Stream
delivering u r t =
    record { identifier = t.identifier; maximum = t.maximum; unordered = u; reliability = r; ssn = t.ssn; buffered = t.buffered; low = t.low; high = t.high; statistics = t.statistics }

-- another low and another high threshold
abbrev pub thresholds : (low high : ℕ) → Stream → Stream
thresholds l h t =
    record { identifier = t.identifier; maximum = t.maximum; unordered = t.unordered; reliability = t.reliability; ssn = t.ssn; buffered = t.buffered; low = l; high = h; statistics = t.statistics }

-- what a write, a release or an expiry changes: next SSN, buffered amount and statistics
abbrev pub accounted : (ssn buffered : ℕ) → Statistics → Stream → Stream
accounted n b x t =
    record { identifier = t.identifier; maximum = t.maximum; unordered = t.unordered; reliability = t.reliability; ssn = n; buffered = b; low = t.low; high = t.high; statistics = x }

-- ---- what the fragments of a message share

-- every field given, where words are read
abbrev pub make_message : (stream ssn : ℕ) → (unordered : Bool) → (protocol number : ℕ) → Reliability → (deadline : Moment) → Message
make_message id n u p k r d =
    record { stream = id; ssn = n; unordered = u; protocol = p; number = k; reliability = r; deadline = d }

-- a message as it is written: its lifetime starts later
abbrev pub new_message : (unordered : Bool) → (protocol number : ℕ) → Stream → Message
new_message u p k t = make_message t.identifier t.ssn u p k t.reliability None

-- what words that are 0 read as
abbrev pub blank_message : Message
blank_message = new_message false 0 0 blank_stream

-- another SSN and another deadline
abbrev pub renewed : (ssn : ℕ) → (deadline : Moment) → Message → Message
renewed n d x =
    record { stream = x.stream; ssn = n; unordered = x.unordered; protocol = x.protocol; number = x.number; reliability = x.reliability; deadline = d }

-- another number
abbrev pub numbered_as : (number : ℕ) → Message → Message
numbered_as n x =
    record { stream = x.stream; ssn = x.ssn; unordered = x.unordered; protocol = x.protocol; number = n; reliability = x.reliability; deadline = x.deadline }

-- ---- a chunk

-- every field given, where words are read
abbrev pub make_chunk : Message → (beginning ending : Bool) → (offset length : ℕ) → (since : Moment) → (nsent : ℕ) → (acked abandoned retransmit : Bool) → Chunk
make_chunk x b e o l s n a d r =
    record { message = x; beginning = b; ending = e; offset = o; length = l; since = s; nsent = n; acked = a; abandoned = d; retransmit = r }

-- one fragment, as it is written
abbrev pub piece : Message → (beginning ending : Bool) → (offset length : ℕ) → Chunk
piece x b e o l = make_chunk x b e o l None 0 false false false

-- what words that are 0 read as
abbrev pub blank_chunk : Chunk
blank_chunk = piece blank_message false false 0 0

-- its message is another
abbrev pub with_message : Message → Chunk → Chunk
with_message x c =
    record { message = x; beginning = c.beginning; ending = c.ending; offset = c.offset; length = c.length; since = c.since; nsent = c.nsent; acked = c.acked; abandoned = c.abandoned; retransmit = c.retransmit }

-- another place in its message: B and E
abbrev pub flagged : (beginning ending : Bool) → Chunk → Chunk
flagged b e c =
    record { message = c.message; beginning = b; ending = e; offset = c.offset; length = c.length; since = c.since; nsent = c.nsent; acked = c.acked; abandoned = c.abandoned; retransmit = c.retransmit }

-- when it was last sent, and how often
abbrev pub sent_as : (since : Moment) → (nsent : ℕ) → Chunk → Chunk
sent_as s n c =
    record { message = c.message; beginning = c.beginning; ending = c.ending; offset = c.offset; length = c.length; since = s; nsent = n; acked = c.acked; abandoned = c.abandoned; retransmit = c.retransmit }

-- what a flight entry still holds, and its marks
abbrev pub marked : (length : ℕ) → (acked abandoned retransmit : Bool) → Chunk → Chunk
marked l a b r c =
    record { message = c.message; beginning = c.beginning; ending = c.ending; offset = c.offset; length = l; since = c.since; nsent = c.nsent; acked = a; abandoned = b; retransmit = r }
