-- The table at work: a line for each of its rows, with the call that the line is; and lines that are none.
use Rattle.std.specs.Prelude.{◌≡◌, true, false, pos, negsuc, Some, None}
use Prim.Native.String.{String}
use Rattle.timer.specs.declared.Timer.{Timer}
use Rattle.calls.specs.declared.Call.{Call}
use Rattle.calls.specs.declared.Query.{Query}
use Rattle.clock_calls.specs.declared.TimerCall.{TimerCall}
use Rattle.clock_calls.specs.declared.RtoCall.{RtoCall}
use Rattle.script.specs.declared.commands.Command.{Command}
use Rattle.script.specs.Table.{letters}
use Rattle.script.specs.Meaning.{line_means}

abbrev Line : String → Command → Type 0
Line text command = line_means (letters text) ≡ command

abbrev Runs : String → Call → Type 0
Runs text call = Line text (Command.Run call)

abbrev Asks : String → Query → Type 0
Asks text query = Runs text (Call.Ask query)

abbrev Clocks : String → TimerCall → Type 0
Clocks text call = Line text (Command.Clock call)

abbrev Estimates : String → RtoCall → Type 0
Estimates text call = Line text (Command.Estimate call)

abbrev Bad : String → Type 0
Bad text = Line text Command.Bad

-- the sender's
abbrev pub ShowsSender : Type 0
ShowsSender =
    Runs "open 65535 4294967295" (Call.Open 65535 4294967295)
    × Runs "rel 1 2 255 4294967295" (Call.SetReliability 1 true 255 4294967295)
    × Runs "rel 1 0 3 4" (Call.SetReliability 1 false 3 4)
    × Runs "low 1 18446744073709551615" (Call.SetLow 1 18446744073709551615)
    × Runs "high 1 2" (Call.SetHigh 1 2)
    × Runs "write 1 2 3 4" (Call.Write 1 2 3 4)
    × Runs "released 1 9223372036854775807" (Call.Release 1 (pos 9223372036854775807))
    × Runs "released 1 -9223372036854775808" (Call.Release 1 (negsuc 9223372036854775807))
    × Runs "released 1 -0" (Call.Release 1 (pos 0))
    × Runs "lifetimes 1" (Call.StartLifetimes 1)
    × Runs "send 1" (Call.Send 1)
    × Runs "expire 1" (Call.ExpirePending 1)
    × Runs "tail 1" (Call.ExpirePendingTail 1)
    × Runs "abandon 1" (Call.Abandon 1)
    × Runs "ack 1" (Call.Acknowledge 1)
    × Runs "pop 1" (Call.Pop 1)
    × Runs "markall" Call.MarkAll
    × Asks "get 1" (Query.Get 1)
    × Asks "isab 1" (Query.IsAbandoned 1)
    × Asks "peek" Query.PeekPending
    × Asks "nextmsg" Query.NextMessage
    × Asks "nexttsn" Query.NextTsn
    × Asks "earliest" Query.EarliestOutstanding
    × Asks "haspend 1" (Query.PendingContainsStream 1)
    × Asks "has 1" (Query.ContainsStream 1)

-- the script's own
abbrev pub ShowsOwn : Type 0
ShowsOwn =
    Line "sender 4294967295 2" (Command.Sender 4294967295 2)
    × Line "expired 1" (Command.List 1)
    × Line "expired 1 2" (Command.ListWithin 1 2)
    × Line "counts" Command.Counts
    × Line "stream 1" (Command.Stream 1)
    × Line "setbuf 1 2" (Command.SetBuffered 1 2)
    × Line "state" (Command.State true true true)
    × Line "state s" (Command.State true false false)
    × Line "state t" (Command.State false true false)
    × Line "state r" (Command.State false false true)
    × Line "state st" (Command.State true true false)
    × Line "state sr" (Command.State true false true)
    × Line "state tr" (Command.State false true true)
    × Line "state str" (Command.State true true true)
    × Line "wipe 255" (Command.Wipe 255)
    × Line "put 65544 1 18446744073709551615" (Command.Put 65544 1 18446744073709551615)
    × Line "put 0 8 3" (Command.Put 0 8 3)
    × Line "look 0 18446744073709551615" (Command.Look 0 18446744073709551615)
    × Line "sack 20" (Command.Sack 20)
    × Line "fill 255" (Command.Fill 255)
    × Line "lend 18446744073709551615" (Command.Lend 18446744073709551615)
    × Line "read 65544 1" (Command.Read 65544 1)
    × Line "data 4294967295 20" (Command.Data 4294967295 20)
    × Line " # nothing" Command.Blank

-- the timers' and the estimator's
abbrev pub ShowsClocks : Type 0
ShowsClocks =
    Clocks "timers 1 - 3" (TimerCall.Make (Some 1) None 3)
    × Clocks "tnext" TimerCall.NextTimeout
    × Clocks "tset 0 18446744073709551615" (TimerCall.Set Timer.T1Init (Some 18446744073709551615))
    × Clocks "tset 1 -" (TimerCall.Set Timer.T1Cookie None)
    × Clocks "tget 2" (TimerCall.Get Timer.T2Shutdown)
    × Clocks "tstart 3 4 5" (TimerCall.Start Timer.T3RTX 4 5)
    × Clocks "trestart 4 5 6" (TimerCall.Restart Timer.Reconfig 5 6)
    × Clocks "tstop 5" (TimerCall.Stop Timer.Ack)
    × Clocks "treset 0" (TimerCall.Reset Timer.T1Init)
    × Clocks "tsuppress 0" (TimerCall.Suppress Timer.T1Init)
    × Clocks "texpired 0 1" (TimerCall.IsExpired Timer.T1Init 1)
    × Clocks "setcount 0 1" (TimerCall.SetCount Timer.T1Init 1)
    × Estimates "rto 1 2 3" (RtoCall.Make 1 2 3)
    × Estimates "measure 1" (RtoCall.Measure 1)
    × Estimates "rreset" RtoCall.Reset
    × Estimates "setrto 1 255" (RtoCall.Set 1 true)
    × Estimates "getrto" RtoCall.Get

-- a name, a number of words, a kind, a range: each makes a line bad
abbrev pub ShowsBad : Type 0
ShowsBad =
    Bad "opened 1 2"
    × Bad "open 1"
    × Bad "open 1 2 3"
    × Bad "write 1 2 3 4 5"
    × Bad "open - 2"
    × Bad "open 65536 2"
    × Bad "open 1 4294967296"
    × Bad "low 1 18446744073709551616"
    × Bad "rel 1 256 3 4"
    × Bad "rel 1 2 256 4"
    × Bad "released 1 9223372036854775808"
    × Bad "released 1 -9223372036854775809"
    × Bad "tget 6"
    × Bad "state ts"
    × Bad "state 1"
    × Bad "wipe 256"
    × Bad "put 0 0 3"
    × Bad "put 0 9 3"
    × Bad "sack"
    × Bad "fill 256"
    × Bad "lend -"
    × Bad "read 0"
    × Bad "data 4294967296 20"
    × Bad "send -1"
    × Bad "s"
    × Bad "1"
