-- Which call a row is, of words: the calls of the sender are coded calls, and the others stand here. A number that an argument cannot have
-- is taken modulo what it can, as in the coded calls.
use Rattle.std.specs.Prelude.{ℕ, ◌/◌, ◌%◌, ◌^◌, true, cond, ◌&&◌, List, [], ◌∷◌, get_or, eqb, leb, Option, Some, None, option_map, option_and_then, unwrap_or}
use Rattle.timer.specs.declared.Timer.{Timer}
use Rattle.timer.specs.Entries.{order}
use Rattle.coded_calls.specs.Coded.{plain_of}
use Rattle.words.specs.declared.Token.{Token}
use Rattle.words.specs.Tokens.{code_of}
use Rattle.clock_calls.specs.declared.TimerCall.{TimerCall}
use Rattle.clock_calls.specs.declared.RtoCall.{RtoCall}
use Rattle.script.specs.declared.commands.Command.{Command}
use Rattle.script.specs.declared.arguments.Words.{Words}
use Rattle.script.specs.declared.table.Own.{Own}
use Rattle.script.specs.declared.table.Clock.{Clock}
use Rattle.script.specs.declared.table.Estimate.{Estimate}
use Rattle.script.specs.declared.table.Means.{Means}
use Rattle.script.specs.declared.table.Row.{Row}
use Rattle.script.specs.Table.{row_of}
use Rattle.script.specs.Arguments.{word_at, words_of}

-- ---- the script's own

-- so many of a number's bytes, one to all eight
abbrev pub put_of : (at width value : ℕ) → Command
put_of at width value = cond (leb 1 width && leb width 8) (Command.Put at width value) Command.Bad

abbrev pub own_of : Own → (a b c : ℕ) → Command
own_of Own.Sender a b c = Command.Sender (a % 2 ^ 32) b
own_of Own.List a b c = Command.List a
own_of Own.ListWithin a b c = Command.ListWithin a b
own_of Own.Counts a b c = Command.Counts
own_of Own.Stream a b c = Command.Stream (a % 2 ^ 16)
own_of Own.SetBuffered a b c = Command.SetBuffered (a % 2 ^ 16) (b % 2 ^ 32)
own_of Own.State a b c = Command.State true true true
own_of Own.Parts a b c = Command.State (eqb (a % 2) 1) (eqb (a / 2 % 2) 1) (eqb (a / 4 % 2) 1)
own_of Own.Wipe a b c = Command.Wipe (a % 2 ^ 8)
own_of Own.Put a b c = put_of a b c
own_of Own.Look a b c = Command.Look a b
own_of Own.Sack a b c = Command.Sack a
own_of Own.Fill a b c = Command.Fill (a % 2 ^ 8)
own_of Own.Lend a b c = Command.Lend a
own_of Own.Read a b c = Command.Read a b
own_of Own.Data a b c = Command.Data (a % 2 ^ 32) b

-- ---- the timers'

-- the timer at a place of the six
abbrev pub timer_of : ℕ → Timer
timer_of place = get_or order (place % 6) Timer.T1Init

-- a maximum or a moment: there is none, where it is marked
abbrev pub optional_of : (value mark : ℕ) → Option ℕ
optional_of value mark = cond (eqb mark 1) None (Some value)

abbrev pub clock_of : Clock → (a b c d e : ℕ) → TimerCall
clock_of Clock.Make a b c d e = TimerCall.Make (optional_of a b) (optional_of c d) e
clock_of Clock.NextTimeout a b c d e = TimerCall.NextTimeout
clock_of Clock.Set a b c d e = TimerCall.Set (timer_of a) (optional_of b c)
clock_of Clock.Get a b c d e = TimerCall.Get (timer_of a)
clock_of Clock.Start a b c d e = TimerCall.Start (timer_of a) b c
clock_of Clock.Restart a b c d e = TimerCall.Restart (timer_of a) b c
clock_of Clock.Stop a b c d e = TimerCall.Stop (timer_of a)
clock_of Clock.Reset a b c d e = TimerCall.Reset (timer_of a)
clock_of Clock.Suppress a b c d e = TimerCall.Suppress (timer_of a)
clock_of Clock.IsExpired a b c d e = TimerCall.IsExpired (timer_of a) b
clock_of Clock.SetCount a b c d e = TimerCall.SetCount (timer_of a) (b % 2 ^ 32)

-- ---- the estimator's

abbrev pub estimate_of : Estimate → (a b c : ℕ) → RtoCall
estimate_of Estimate.Make a b c = RtoCall.Make a b c
estimate_of Estimate.Measure a b c = RtoCall.Measure a
estimate_of Estimate.Reset a b c = RtoCall.Reset
estimate_of Estimate.Set a b c = RtoCall.Set a (eqb (b % 2) 1)
estimate_of Estimate.Get a b c = RtoCall.Get

-- ---- all of them

-- the call that a row means, of words that its arguments gave; a part of a state is none
abbrev pub made_of : Means → Words → Command
made_of (Means.Sender row) w = Command.Run (plain_of row w.0 w.1 w.2 w.3)
made_of (Means.Own call) w = own_of call w.0 w.1 w.2
made_of (Means.Clock call) w = Command.Clock (clock_of call w.0 w.1 w.2 w.3 w.4)
made_of (Means.Estimate call) w = Command.Estimate (estimate_of call w.0 w.1 w.2)
made_of (Means.Part n) w = Command.Bad

-- of so many words that stand in five places, by the row with the name and so many words
abbrev pub row_given : List Token → Row → Option Command
row_given words row = option_map (λ (w : Words). made_of row.3 w) (words_of row.2 words)

abbrev pub given_of : (count : ℕ) → List Token → Option Command
given_of count words = option_and_then (row_given words) (row_of (code_of (word_at words 0)) count)

-- the call of so many words that stand in five places
abbrev pub command_in : (count : ℕ) → List Token → Command
command_in count words = cond (eqb count 0) Command.Blank (unwrap_or (given_of count words) Command.Bad)

-- the call of a line's words: none is a blank line, and no call has more than five
abbrev pub command_of : List Token → Command
command_of [] = Command.Blank
command_of (name ∷ []) = command_in 1 (name ∷ Token.Other ∷ Token.Other ∷ Token.Other ∷ Token.Other ∷ [])
command_of (name ∷ x1 ∷ []) = command_in 2 (name ∷ x1 ∷ Token.Other ∷ Token.Other ∷ Token.Other ∷ [])
command_of (name ∷ x1 ∷ x2 ∷ []) = command_in 3 (name ∷ x1 ∷ x2 ∷ Token.Other ∷ Token.Other ∷ [])
command_of (name ∷ x1 ∷ x2 ∷ x3 ∷ []) = command_in 4 (name ∷ x1 ∷ x2 ∷ x3 ∷ Token.Other ∷ [])
command_of (name ∷ x1 ∷ x2 ∷ x3 ∷ x4 ∷ []) = command_in 5 (name ∷ x1 ∷ x2 ∷ x3 ∷ x4 ∷ [])
command_of (name ∷ x1 ∷ x2 ∷ x3 ∷ x4 ∷ x5 ∷ more) = Command.Bad
