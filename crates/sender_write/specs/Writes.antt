-- What each way out of a write comes to, of a sender that is a variable.
use Rattle.std.specs.Prelude.{◌≡◌, refl, Bool, true, false, ◌&&◌, List, ℕ, ◌+◌, ◌≤◌, ◌<◌, length, set, leb, ltb, eqb, Ok, Err, Some, None}
use Rattle.std.proofs.Math.Path.{sym, ap}
use Rattle.std.proofs.Common.{◌∙◌, lt-ltb, le-ltb}
use Rattle.std.proofs.Math.Option.{Option}
use Rattle.limits.specs.Limits.{Room, offset_max, number_max}
use Rattle.model.specs.declared.Stream.{Stream}
use Rattle.model.specs.Lists.{when◌then◌else◌}
use Rattle.model.specs.State.{Sender, Out, same, at, lane_of, with_streams}
use Rattle.model.specs.Streams.{put}
use Rattle.model.specs.Messages.{pieces, is_unordered, message_of, written, accepted, writing, write}
use Rattle.stream.specs.Amounts.{Accepted, overflows, rises, accepting, accepting_fits}
use Rattle.stream_table.specs.Tables.{sought, none_found, at_found, update_put}
use Rattle.outbound_send.specs.Pushes.{queued, pushing}
use Rattle.limits.specs.declared.Refusal.{Refusal}
use Rattle.limits.specs.declared.Refusal.TheVariants.{BeyondLimit, NotOpen, MessageLong, BufferFull, RingFull, NumbersSpent}
use Rattle.model.specs.Answers.{Done, Written, did}

module _ (room : Room) (id p o l : ℕ) (s : Sender) where
  -- this is what the write gives back
  abbrev Answers : Out Written → Type 0
  Answers r = r ≡ write room id p o l s

  -- 3: the table has no such stream
  pub write_closed : None ≡ sought id s.streams → Answers (same (Err NotOpen) s)
  unfolding write
  write_closed e = sym (ap (λ (f : Option Stream). writing f room p o l s) (none_found id s.streams e))

  -- it has the stream t, at the place i
  module _ (i : ℕ) (t : Stream) (e : Some (i, t) ≡ sought id s.streams) where
    -- the write, by its five tests
    abbrev picks : (long far over full spent : Bool) → Out Written
    picks a b c d f =
        when a then same (Err MessageLong) s else when b then same (Err BeyondLimit) s else when c then same (Err BufferFull) s else
        when d then same (Err RingFull) s else when f then same (Err NumbersSpent) s else
        record { after = accepted p o l t s; says = Ok (rises (t.buffered + l) t) }

    -- the message is too long
    abbrev long : Bool
    long = ltb room.message l

    -- its offset is beyond the limit
    abbrev far : Bool
    far = ltb offset_max o

    -- its ring lacks room for all its fragments
    abbrev full : Bool
    full = ltb room.ring (length (at (lane_of (is_unordered p t)) s.pending) + pieces l t.maximum)

    -- it has a fragment, and the last number is taken
    abbrev spent : Bool
    spent = leb 1 (pieces l t.maximum) && eqb s.numbers.next number_max

    write_is : write room id p o l s ≡ picks long far (overflows l t) full spent
    unfolding write
    write_is = ap (λ (f : Option Stream). writing f room p o l s) (at_found id s.streams i t e).0

    -- 6
    pub write_long : room.message < l → Answers (same (Err MessageLong) s)
    write_long h = sym (write_is ∙ ap (λ (b : Bool). picks b far (overflows l t) full spent) (lt-ltb room.message l h))

    module _ (short : l ≤ room.message) where
      not_long : write room id p o l s ≡ picks false far (overflows l t) full spent
      not_long = write_is ∙ ap (λ (b : Bool). picks b far (overflows l t) full spent) (le-ltb room.message l short)

      -- 1
      pub write_far : offset_max < o → Answers (same (Err BeyondLimit) s)
      write_far h = sym (not_long ∙ ap (λ (b : Bool). picks false b (overflows l t) full spent) (lt-ltb offset_max o h))

      -- `v` is what code finds of the amount
      module _ (near : o ≤ offset_max) {v : Bool} (q : v ≡ overflows l t) where
        not_far : write room id p o l s ≡ picks false false v full spent
        not_far =
            not_long ∙ ap (λ (b : Bool). picks false b (overflows l t) full spent) (le-ltb offset_max o near)
            ∙ ap (λ (b : Bool). picks false false b full spent) (sym q)

        -- 7
        pub write_over : v ≡ true → Answers (same (Err BufferFull) s)
        write_over h = sym (not_far ∙ ap (λ (b : Bool). picks false false b full spent) h)

        -- `j` is any number: the push gives the message the sender's next
        module _ (fits : v ≡ false) (j : ℕ) where
          -- the message is pushed
          abbrev push : Out Done
          push = pushing room.ring (message_of p j t) t.maximum o l s

          -- the push, by its three tests
          abbrev pushes : (far full spent : Bool) → Out Done
          pushes a b c =
              when a then same (Err BeyondLimit) s else when b then same (Err RingFull) s else when c then same (Err NumbersSpent) s else
              record { after = queued (message_of p j t) t.maximum o l s; says = did }

          -- the write, by what the push answered: a message that joined its ring counts for its stream
          abbrev turned : Done → Sender → Out Written
          turned (Ok _) z = record { after = with_streams (put (written p l t) z.streams) z; says = Ok (rises (t.buffered + l) t) }
          turned (Err n) z = same (Err n) z

          push_is : push ≡ pushes false full spent
          unfolding pushing
          push_is = ap (λ (b : Bool). pushes b full spent) (le-ltb offset_max o near)

          turns : (b c : Bool) → turned (pushes false b c).says (pushes false b c).after ≡ picks false false false b c
          turns true c = refl
          turns false true = refl
          turns false false = refl

          keeps : (b c : Bool) → (pushes false b c).after.streams ≡ s.streams
          keeps true c = refl
          keeps false true = refl
          keeps false false = refl

          -- `z` is the sender behind the push, and `d` its answer
          module _ {z : Sender} {d : Done} (r : record { after = z; says = d } ≡ push) where
            turn : Answers (turned d z)
            turn =
                ap (λ (x : Out Done). turned x.says x.after) (r ∙ push_is) ∙ turns full spent
                ∙ sym (not_far ∙ ap (λ (b : Bool). picks false false b full spent) fits)

            -- 8 and 9
            pub write_refused : {r : Refusal} → d ≡ Err r → Answers (same (Err r) z)
            write_refused h = sym (ap (λ (x : Done). turned x z) h) ∙ turn

            streams_stay : z.streams ≡ s.streams
            streams_stay = ap (λ (x : Out Done). x.after.streams) (r ∙ push_is) ∙ keeps full spent

            placed : set z.streams i (written p l t) ≡ put (written p l t) z.streams
            placed =
                ap (λ (x : List Stream). set x i (written p l t)) streams_stay ∙ update_put id s.streams i t (written p l t) e refl
                ∙ sym (ap (put (written p l t)) streams_stay)

            -- `w` is what the write makes of the stream, and `y` the sender that has `v` at the place
            pub write_done : d ≡ did → {w : Accepted} → w ≡ accepting p l t → {y : Sender} {v : Stream} → y ≡ with_streams (set z.streams i v) z → v ≡ w.stream → Answers (record { after = y; says = Ok w.high })
            write_done h {w} a b k =
                let f : w ≡ record { stream = written p l t; high = rises (t.buffered + l) t } = a ∙ accepting_fits p l t (sym q ∙ fits) in
                ap (λ (x : Sender). record { after = x; says = Ok w.high }) (b ∙ ap (λ (x : Stream). with_streams (set z.streams i x) z) k)
                ∙ ap (λ (x : Accepted). record { after = with_streams (set z.streams i x.stream) z; says = Ok x.high }) f
                ∙ ap (λ (x : List Stream). record { after = with_streams x z; says = Ok (rises (t.buffered + l) t) }) placed
                ∙ sym (ap (λ (x : Done). turned x z) h)
                ∙ turn
