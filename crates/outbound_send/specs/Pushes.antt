-- A message is pushed, with the next number: what that is, and what each way out of the call comes to, of a sender that is a variable.
use Rattle.std.specs.Prelude.{◌≡◌, refl, Bool, true, ◌&&◌, List, ℕ, zero, suc, ◌+◌, ◌≤◌, ◌<◌, length, leb, ltb, Err}
use Rattle.std.proofs.Math.Path.{sym}
use Rattle.std.proofs.Common.{ap, ap₂, ◌∙◌, arith, le-leb, lt-ltb, le-ltb, ltb-false}
use Rattle.std.proofs.Math.Bool.{false}
use Rattle.std.proofs.Math.Dec.{eqb}
use Rattle.std.proofs.lemmas.Bool.{eqb-false}
use Rattle.limits.specs.Limits.{offset_max, number_max}
use Rattle.model.specs.declared.Chunk.{Chunk}
use Rattle.model.specs.declared.Message.{Message}
use Rattle.model.specs.Lists.{when◌then◌else◌}
pub use Rattle.model.specs.Records.{numbered_as}
use Rattle.model.specs.State.{Sender, Numbers, Out, same, at, lane_of, with_pending, with_numbers, with_ring}
use Rattle.model.specs.Messages.{pieces, cut, number_after, pushed}
use Rattle.pending_queue.specs.Fragments.{with_fragments, fits_yes, added_all}
use Rattle.limits.specs.declared.Refusal.TheVariants.{BeyondLimit, RingFull, NumbersSpent}
use Rattle.model.specs.Answers.{Done, did}

-- its fragments join the back of their ring, and a number is taken if there is one, as `accepted` of the model says
abbrev pub queued : Message → (maximum offset length : ℕ) → Sender → Sender
queued x m off n s =
    with_numbers (number_after (pieces n m) s.numbers)
    (pushed (lane_of x.unordered) (cut (numbered_as s.numbers.next x) true (pieces n m) m off n) s)

-- 1, 8, 9 of a write, and then that
unfoldable pub pushing : (room : ℕ) → Message → (maximum offset length : ℕ) → Sender → Out Done
pushing room x m off n s =
    when ltb offset_max off then same (Err BeyondLimit) s else
    when ltb room (length (at (lane_of x.unordered) s.pending) + pieces n m) then same (Err RingFull) s else
    when leb 1 (pieces n m) && eqb s.numbers.next number_max then same (Err NumbersSpent) s else
    record { after = queued x m off n s; says = did }

module _ (room : ℕ) (x : Message) (m off n : ℕ) (s : Sender) where
  abbrev ahead : List Chunk
  ahead = at (lane_of x.unordered) s.pending

  -- by what code finds of the three tests
  abbrev picks : (far full spent : Bool) → Out Done
  picks a b d =
      when a then same (Err BeyondLimit) s else when b then same (Err RingFull) s else when d then same (Err NumbersSpent) s else
      record { after = queued x m off n s; says = did }

  pub push_far : offset_max < off → same (Err BeyondLimit) s ≡ pushing room x m off n s
  unfolding pushing
  push_far h = sym (ap (λ (a : Bool). picks a (ltb room (length ahead + pieces n m)) (leb 1 (pieces n m) && eqb s.numbers.next number_max)) (lt-ltb offset_max off h))

  module _ (near : off ≤ offset_max) where
    tests : {r : Out Done} {b d : Bool} → ltb room (length ahead + pieces n m) ≡ b → (leb 1 (pieces n m) && eqb s.numbers.next number_max) ≡ d → r ≡ picks false b d → r ≡ pushing room x m off n s
    unfolding pushing
    tests {b = b} {d} e f q =
        q ∙ sym (ap₂ (λ (t u : Bool). picks false t u) e f)
        ∙ sym (ap (λ (a : Bool). picks a (ltb room (length ahead + pieces n m)) (leb 1 (pieces n m) && eqb s.numbers.next number_max)) (le-ltb offset_max off near))

    -- `k` fragments, as code counts them
    module _ {k : ℕ} (count : k ≡ pieces n m) {b : Bool} (e : b ≡ ltb room (length ahead + k)) where
      room_test : ltb room (length ahead + pieces n m) ≡ b
      room_test = sym (e ∙ ap (λ (i : ℕ). ltb room (length ahead + i)) count)

      pub push_full : b ≡ true → same (Err RingFull) s ≡ pushing room x m off n s
      push_full t = tests (room_test ∙ t) refl refl

      module _ (t : b ≡ false) {d : Bool} (f : d ≡ (leb 1 k && eqb s.numbers.next number_max)) where
        number_test : (leb 1 (pieces n m) && eqb s.numbers.next number_max) ≡ d
        number_test = sym (f ∙ ap (λ (i : ℕ). leb 1 i && eqb s.numbers.next number_max) count)

        pub push_spent : d ≡ true → same (Err NumbersSpent) s ≡ pushing room x m off n s
        push_spent u = tests (room_test ∙ t) (number_test ∙ u) refl

        module _ (u : d ≡ false) {y : Message} (r : y ≡ numbered_as s.numbers.next x) {z : Sender} (v : z ≡ with_pending (with_fragments room y m off n s.pending) s) where
          abbrev fragments : List Chunk
          fragments = cut (numbered_as s.numbers.next x) true (pieces n m) m off n

          joined : z ≡ pushed (lane_of x.unordered) fragments s
          joined =
              v ∙ ap (λ (w : Message). with_pending (with_fragments room w m off n s.pending) s) r
              ∙ ap (λ (l : List Chunk). with_pending (with_ring (lane_of x.unordered) s.pending.under_way l s.pending) s)
              (sym (added_all room m off n ahead (numbered_as s.numbers.next x) (fits_yes room m off n ahead near (ltb-false room (length ahead + pieces n m) (room_test ∙ t)))))

          -- `w` are the numbers then
          pub push_done : {w : Numbers} → w ≡ number_after (pieces n m) s.numbers → record { after = with_numbers w z; says = did } ≡ pushing room x m off n s
          push_done q = ap₂ (λ (j : Numbers) (o : Sender). record { after = with_numbers j o; says = did }) q joined ∙ tests (room_test ∙ t) (number_test ∙ u) refl

          pub push_none : k < 1 → record { after = z; says = did } ≡ pushing room x m off n s
          push_none h =
              ap (λ (o : Sender). record { after = o; says = did }) joined
              ∙ ap (λ (w : Numbers). record { after = with_numbers w (pushed (lane_of x.unordered) fragments s); says = did }) stay
              ∙ tests (room_test ∙ t) (number_test ∙ u) refl
            where
              stay : s.numbers ≡ number_after (pieces n m) s.numbers
              stay = let e : pieces n m ≡ 0 = omega (arith, count) in sym (ap (λ (i : ℕ). number_after i s.numbers) e)

          pub push_some : 1 ≤ k → {i : ℕ} → i ≡ s.numbers.next + 1 → record { after = with_numbers (record { next = i; unstarted = s.numbers.unstarted }) z; says = did } ≡ pushing room x m off n s
          push_some h {i} q = push_done (by (pieces n m) (omega (arith, count)))
            where
              by : (j : ℕ) → 1 ≤ j → record { next = i; unstarted = s.numbers.unstarted } ≡ number_after j s.numbers
              by zero l = absurd (omega arith)
              by (suc j) l = let e : i ≡ suc s.numbers.next = omega arith in ap (λ (o : ℕ). record { next = o; unstarted = s.numbers.unstarted }) e

-- a number that is not the last has one behind it
pub spare : {k n : ℕ} {d : Bool} → n ≤ number_max → 1 ≤ k → d ≡ (leb 1 k && eqb n number_max) → d ≡ false → n < number_max
spare {k} {n} h l e q = omega (arith, eqb-false n number_max (sym (ap (λ (t : Bool). t && eqb n number_max) (le-leb 1 k l)) ∙ sym e ∙ q))
