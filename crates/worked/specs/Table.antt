-- The cases that 01 asks a proof of, as the rows of one table under one claim.
use Rattle.std.specs.Prelude.{ℕ, ◌≡◌, Bool, true, false, List, [], ◌∷◌, ◌++◌, map, length, replicate, ℤ, pos, negsuc, Float, Some, None, Ok, Err}
use Rattle.std.specs.Float.{binary64}
use Rattle.std.specs.Float.Ieee.{div}
use Rattle.limits.specs.Limits.{room01}
use Rattle.timer.specs.declared.Timer.TheVariants.{T3RTX}
use Rattle.timer.specs.Calls.{get_of, new_of}
use Rattle.timer.specs.Claims as Timers
use Rattle.rto.specs.Rto.{f64, fresh as estimator}
use Rattle.rto.specs.Calls as Rto
use Rattle.model.specs.State.{Sender, fresh, with_streams}
use Rattle.model.specs.Streams.{opened, accounted, release}
use Rattle.model.specs.Calls.{Open, SetLow, Write, run}
use Rattle.limits.specs.Moments.{Moment}
use Rattle.model.specs.Answers.{Released}

-- a question of 01: one constructor for each kind
pub data Case : Type 0 where
  -- a timer with this many expiries counted is started with this interval: how long it waits
  Wait : (interval rtoMax count : ℕ) → Case
  -- these round trips are measured, with limits 1,000 to 60,000: srtt and RTO, and rttvar as it stands in the float
  Measured : List ℕ → Case
  -- a message of so many bytes is written on a stream with this payload maximum: the bytes of each chunk that it queues
  Fragments : (maximum length : ℕ) → Case
  -- an ordered message is written on a stream whose next SSN is this: how many chunks it queues, and the next SSN
  OrderedWrite : (ssn length : ℕ) → Case
  -- bytes are released on a stream with this low threshold and buffered amount: the answer, 1 for yes and 0 for no, and the amount
  Releasing : (low buffered : ℕ) → ℤ → Case

-- ---- what the definitions answer: whole numbers, and floats where the question is of one

pub record Answer : Type 0 where
  pub numbers : List ℕ
  pub floats : List Float

-- whole numbers alone
abbrev pub numbered : List ℕ → Answer
numbered l = record { numbers = l; floats = [] }

-- the deadline, if there is one
abbrev pub time_of : Moment → List ℕ
time_of None = []
time_of (Some d) = d ∷ []

-- the deadline of T3RTX started at 0, after as many expiries as its count is to be
abbrev pub wait_after : (interval rtoMax count : ℕ) → List ℕ
wait_after interval rtoMax n =
    time_of (get_of (Timers.after (new_of None None rtoMax).table (Timers.set T3RTX (Some 0) ∷ (replicate n (Timers.is_expired T3RTX 0) ++ (Timers.start T3RTX 0 interval ∷ [])))) T3RTX)

-- stream 1 is open in a fresh sender, and its next SSN is n
abbrev pub at_ssn : (n : ℕ) → Sender
at_ssn n = with_streams (accounted n 0 (opened 1 1200).statistics (opened 1 1200) ∷ []) (fresh 0 0)

abbrev pub yes_no : Bool → ℕ
yes_no true = 1
yes_no false = 0

-- of a refusal, nothing
abbrev pub told : Released → List ℕ
told (Ok low) = yes_no low ∷ []
told (Err n) = []

abbrev pub answer_of : Case → Answer
answer_of (Wait interval rtoMax n) = numbered (wait_after interval rtoMax n)
answer_of (Measured rs) =
    let t = Rto.after (estimator 3000 1000 60000) (map Rto.measure rs) in
    record { numbers = t.srtt ∷ t.rto ∷ []; floats = t.rttvar ∷ [] }
answer_of (Fragments m l) = numbered (map (λ c. c.length) (run room01 (Open 1 m ∷ Write 1 53 0 l ∷ []) (fresh 0 0)).pending.ordered)
answer_of (OrderedWrite n l) =
    let s = run room01 (Write 1 53 0 l ∷ []) (at_ssn n) in
    numbered (length s.pending.ordered ∷ map (λ t. t.ssn) s.streams)
answer_of (Releasing low b r) =
    let out = release 1 r (run room01 (Open 1 1200 ∷ SetLow 1 low ∷ Write 1 53 0 b ∷ []) (fresh 0 0)) in
    numbered (told out.says ++ map (λ t. t.buffered) out.after.streams)

-- ---- the table

pub record Row : Type 0 where
  pub asked : Case
  pub answer : Answer

abbrev pub row : Case → List ℕ → Row
row c l = record { asked = c; answer = numbered l }

-- measurements, and the srtt, rttvar and RTO after the last
abbrev pub measured : List ℕ → ℕ → Float → ℕ → Row
measured rs srtt rttvar rto = record { asked = Measured rs; answer = record { numbers = srtt ∷ rto ∷ []; floats = rttvar ∷ [] } }

abbrev pub table : List Row
table =
    -- an interval of 1,000 doubles up to count 5, and is capped at count 6
    row (Wait 1000 60000 5) (32000 ∷ [])
    ∷ row (Wait 1000 60000 6) (60000 ∷ [])
    -- an interval of 0 stays 0 up to count 30; from 31 on the wait is the cap
    ∷ row (Wait 0 60000 30) (0 ∷ [])
    ∷ row (Wait 0 60000 31) (60000 ∷ [])
    -- 600, then 1,000, then 101
    ∷ measured (600 ∷ []) 600 (f64 300) 1800
    ∷ measured (600 ∷ 1000 ∷ []) 650 (f64 325) 1950
    ∷ measured (600 ∷ 1000 ∷ 101 ∷ []) 581 (f64 381) 2105
    -- 1, then 0, which makes 500 count as first again
    ∷ measured (1 ∷ []) 1 (div binary64 (f64 1) (f64 2)) 1000
    ∷ measured (1 ∷ 0 ∷ []) 0 (div binary64 (f64 5) (f64 8)) 1000
    ∷ measured (1 ∷ 0 ∷ 500 ∷ []) 500 (f64 250) 1500
    -- 3,000 bytes at 1,200 a chunk: two full ones and 600
    ∷ row (Fragments 1200 3000) (1200 ∷ 1200 ∷ 600 ∷ [])
    -- 2,400 bytes: two, with no empty third
    ∷ row (Fragments 1200 2400) (1200 ∷ 1200 ∷ [])
    -- an empty ordered message at SSN 7: no chunk, and SSN 8
    ∷ row (OrderedWrite 7 0) (0 ∷ 8 ∷ [])
    -- one byte at SSN 65,535: one chunk, and SSN 0 again
    ∷ row (OrderedWrite 65535 1) (1 ∷ 0 ∷ [])
    -- 6 of 10 released with low threshold 4: yes, and 4 are left
    ∷ row (Releasing 4 10 (pos 6)) (1 ∷ 4 ∷ [])
    -- -1 released: no, and 10 are left
    ∷ row (Releasing 4 10 (negsuc 0)) (0 ∷ 10 ∷ [])
    -- 99 released: yes, and none are left
    ∷ row (Releasing 4 10 (pos 99)) (1 ∷ 0 ∷ [])
    ∷ []

-- each row has the answer that the definitions give; row by row, so that a wrong one is refused alone
abbrev pub Computed : List Row → Type 0
Computed [] = Unit
Computed (w ∷ ws) = (answer_of w.asked ≡ w.answer) × Computed ws

-- the claim: every row is as the definitions give it
abbrev pub Worked : Type 0
Worked = Computed table
