-- The rest of a message expires that was sent in part: what each way out of the call comes to, of a sender that is a variable.
use Rattle.std.specs.Prelude.{◌≡◌, refl, Bool, true, false, length, Some, None, Ok, Err}
use Rattle.std.proofs.Math.Path.{sym, ap}
use Rattle.std.proofs.Common.{ap₂, ◌∙◌, lt-ltb, le-ltb}
use Rattle.std.proofs.Math.Option.{Option, none, some}
use Prim.Native.Nat.{ℕ, ◌≤◌, ◌<◌}
use Rattle.std.proofs.Math.Dec.{ltb}
use Rattle.limits.specs.Limits.{Room, clock_max}
use Rattle.model.specs.declared.Chunk.{Chunk}
use Rattle.model.specs.Lists.{when◌then◌else◌, last}
use Rattle.model.specs.State.{Sender, Out, same}
use Rattle.model.specs.Rings.{head, pending_of, abandoned, held_by, tail_expires, tail_expiring, expire_pending_tail}
use Rattle.model.specs.Flight.{found}
use Rattle.demands.specs.Words.{number_under_way}
use Rattle.outbound_queue.specs.Outbound.{Good}
use Rattle.outbound_abandon.specs.Together.{near_end}
use Rattle.outbound_abandon.specs.Lean.{leanly_abandoned, leanly_held}
use Rattle.outbound_abandon.specs.LeanExpiry.{leanly_tail_expiring, lean_expire_tail}
use Rattle.ring.specs.Held.{found_some, found_none}
use Rattle.outbound_abandon.specs.Abandons.{lean_abandoned, lean_held}
use Rattle.limits.specs.declared.Refusal.TheVariants.{BeyondLimit}
use Rattle.model.specs.Answers.{TailExpired, expired_rest}

-- ---- in a Good state the runs are the whole message, and its terminator has a place

module _ {room : Room} {s : Sender} (g : Good room s) where
  pub lean_expire_tail_lem : (now : ℕ) → lean_expire_tail room now s ≡ expire_pending_tail now s
  unfolding lean_expire_tail expire_pending_tail
  lean_expire_tail_lem now = ap (λ (r : Out TailExpired). when ltb clock_max now then same (Err BeyondLimit) s else r) (by (head s.pending) refl)
    where
      told : Chunk → Sender → ℕ → Out TailExpired
      told c a k = record { after = a; says = expired_rest c.message.stream c.message.number k }

      goes : (c : Chunk) → head s.pending ≡ some c → c.beginning ≡ false
          → told c (leanly_abandoned room c.message.number (length s.flight.entries) s) (leanly_held c.message.number (length s.flight.entries) s) ≡ told c (abandoned c.message.number s) (held_by c.message.number s)
      goes c e b =
          let n = c.message.number in
          let w = g.head_rest c e b in
          let l = s.flight.entries in
          let near = near_end n (number_under_way s.pending) l g.contiguous (g.unended n w) in
          let run = g.head_run c e in
          let left : (d : Chunk) → last (pending_of n s.pending) ≡ some d → length s.flight.entries < room.flight = λ d q. g.terminator_room n w in
          ap₂ (told c) (lean_abandoned room s n (length l) near run left) (lean_held room s n (length l) near run left)

      by : (o : Option Chunk) → head s.pending ≡ o → leanly_tail_expiring o room now s ≡ tail_expiring o now s
      by none e = refl
      by (some c) e = at_flag c.beginning refl
        where
          at_flag : (b : Bool) → c.beginning ≡ b → leanly_tail_expiring (some c) room now s ≡ tail_expiring (some c) now s
          at_flag true q = rw q refl
          at_flag false q = ap (λ (r : Out TailExpired). when tail_expires now c then r else same (Ok None) s) (goes c e q)

-- ---- the ways out

module _ (room : Room) (now : ℕ) (s : Sender) where
  pub tail_late : clock_max < now → same (Err BeyondLimit) s ≡ lean_expire_tail room now s
  unfolding lean_expire_tail
  tail_late h = sym (ap (λ (b : Bool). when b then same (Err BeyondLimit) s else leanly_tail_expiring (head s.pending) room now s) (lt-ltb clock_max now h))

  module _ (h : now ≤ clock_max) where
    at_head : (o : Option Chunk) {r : Out TailExpired} → head s.pending ≡ o → r ≡ leanly_tail_expiring o room now s → r ≡ lean_expire_tail room now s
    unfolding lean_expire_tail
    at_head o e q =
        q ∙ sym (ap (λ (y : Option Chunk). leanly_tail_expiring y room now s) e)
        ∙ sym (ap (λ (b : Bool). when b then same (Err BeyondLimit) s else leanly_tail_expiring (head s.pending) room now s) (le-ltb clock_max now h))

    pub tail_none : found (head s.pending) ≡ None → same (Ok None) s ≡ lean_expire_tail room now s
    tail_none e = at_head none (found_none (head s.pending) e) refl

    module _ (c : Chunk) (e : found (head s.pending) ≡ Some c) where
      abbrev gives_up : (near : ℕ) → Out TailExpired
      gives_up i = record { after = leanly_abandoned room c.message.number i s; says = expired_rest c.message.stream c.message.number (leanly_held c.message.number i s) }

      abbrev leaves : Bool → Out TailExpired
      leaves b = when b then gives_up (length s.flight.entries) else same (Ok None) s

      pub tail_not : tail_expires now c ≡ false → same (Ok None) s ≡ lean_expire_tail room now s
      tail_not q = at_head (some c) (found_some (head s.pending) c e) (sym (ap leaves q))

      -- `i` is the end of the flight
      pub tail_one : tail_expires now c ≡ true → {i : ℕ} → i ≡ length s.flight.entries → {after : Sender} {n : ℕ} → after ≡ leanly_abandoned room c.message.number i s → n ≡ leanly_held c.message.number i s
          → record { after = after; says = expired_rest c.message.stream c.message.number n } ≡ lean_expire_tail room now s
      tail_one q p v w =
          ap₂ (λ (a : Sender) (k : ℕ). record { after = a; says = expired_rest c.message.stream c.message.number k }) v w ∙ ap gives_up p
          ∙ at_head (some c) (found_some (head s.pending) c e) (sym (ap leaves q))
