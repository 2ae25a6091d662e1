-- A wholly unsent message at the head expires: what each way out of the call comes to, of a sender that is a variable.
use Rattle.std.specs.Prelude.{◌≡◌, refl, Bool, true, false, not, ◌&&◌, List, map, ℕ, ◌≤◌, ◌<◌, leb, ltb, Some, None, Ok, Err}
use Rattle.std.proofs.Math.Path.{sym}
use Rattle.std.proofs.Common.{ap, ap₂, ◌∙◌, lt-ltb, le-ltb}
use Rattle.std.proofs.Math.Option.{Option, none, some}
use Rattle.limits.specs.Limits.{Room, clock_max}
use Rattle.limits.specs.Moments.{passed}
use Rattle.model.specs.declared.Chunk.{Chunk}
use Rattle.model.specs.State.{Ordered, Sender, Pending, Out, same, with_streams, with_pending, with_ring}
use Rattle.model.specs.declared.Stream.{Stream}
use Rattle.model.specs.Lists.{when◌then◌else◌}
use Rattle.model.specs.Streams.{find}
use Rattle.model.specs.Messages.{is_dcep}
use Rattle.model.specs.Rings.{head, lowered, drop_ssn, compacted, bytes, overdue, expires, expiring, expire_pending, tail_expires}
use Rattle.model.specs.Flight.{found}
use Rattle.pending_queue.specs.Runs.{runs, without_runs, runs_without, runs_pending}
use Rattle.outbound_queue.specs.Outbound.{Good}
use Rattle.ring.specs.Held.{found_some, found_none}
use Rattle.outbound_abandon.specs.LeanExpiry.{dropped, leanly_expiring, lean_expire}
use Rattle.limits.specs.declared.Refusal.TheVariants.{BeyondLimit}
use Rattle.model.specs.Answers.{Expired, expired_message}

-- ---- the tests, by what code finds of their parts

pub overdue_is : (now : ℕ) (x : Chunk) {d : Bool} → is_dcep x.message.protocol ≡ d → (not d && passed now x.message.deadline) ≡ overdue now x
overdue_is now x g = ap (λ (y : Bool). not y && passed now x.message.deadline) (sym g)

pub expires_is : (now : ℕ) (x : Chunk) {a b : Bool} → x.beginning ≡ a → leb 1 x.length ≡ b → (a && (b && overdue now x)) ≡ expires now x
expires_is now x e f = ap₂ (λ (y z : Bool). y && (z && overdue now x)) (sym e) (sym f)

pub tail_expires_is : (now : ℕ) (x : Chunk) {a : Bool} → x.beginning ≡ a → (not a && overdue now x) ≡ tail_expires now x
tail_expires_is now x e = ap (λ (y : Bool). not y && overdue now x) (sym e)

-- ---- in a Good state the head's run is all of its message

pub lean_expire_lem : (now : ℕ) {room : Room} {s : Sender} → Good room s → lean_expire now s ≡ expire_pending now s
unfolding lean_expire expire_pending
lean_expire_lem now {room} {s} g = ap (λ (r : Out Expired). when ltb clock_max now then same (Err BeyondLimit) s else r) (by (head s.pending) refl)
  where
    by : (o : Option Chunk) → head s.pending ≡ o → leanly_expiring o now s ≡ expiring o now s
    by none e = refl
    by (some c) e =
        let x = c.message in
        let k = g.head_run c e in
        ap₂ (λ (p : Pending) (l : List Chunk). when expires now c then record { after = compacted x.unordered x.stream (with_pending p s); says = expired_message x.stream x.unordered (bytes l) } else same (Ok None) s)
        (runs_without x.number s.pending k) (runs_pending x.number s.pending k)

-- ---- the ways out

module _ (now : ℕ) (s : Sender) where
  pub expire_late : clock_max < now → same (Err BeyondLimit) s ≡ lean_expire now s
  unfolding lean_expire
  expire_late h = sym (ap (λ (b : Bool). when b then same (Err BeyondLimit) s else leanly_expiring (head s.pending) now s) (lt-ltb clock_max now h))

  module _ (h : now ≤ clock_max) where
    -- at a head that is known
    at_head : (o : Option Chunk) {r : Out Expired} → head s.pending ≡ o → r ≡ leanly_expiring o now s → r ≡ lean_expire now s
    unfolding lean_expire
    at_head o e q =
        q ∙ sym (ap (λ (y : Option Chunk). leanly_expiring y now s) e)
        ∙ sym (ap (λ (b : Bool). when b then same (Err BeyondLimit) s else leanly_expiring (head s.pending) now s) (le-ltb clock_max now h))

    pub expire_none : found (head s.pending) ≡ None → same (Ok None) s ≡ lean_expire now s
    expire_none e = at_head none (found_none (head s.pending) e) refl

    module _ (c : Chunk) (e : found (head s.pending) ≡ Some c) where
      abbrev id : ℕ
      id = c.message.stream

      abbrev number : ℕ
      number = c.message.number

      -- the message goes, with this answer
      abbrev gone : (unordered : Bool) → Out Expired
      gone u =
          record {
            after = compacted u id (with_pending (without_runs number s.pending) s);
            says = expired_message id c.message.unordered (bytes (runs number s.pending));
          }

      abbrev picks : Bool → Out Expired
      picks b = when b then gone c.message.unordered else same (Ok None) s

      pub expire_not : expires now c ≡ false → same (Ok None) s ≡ lean_expire now s
      expire_not q = at_head (some c) (found_some (head s.pending) c e) (sym (ap picks q))

      -- `at-streams` is the sender then, by its streams
      module _ (q : expires now c ≡ true) (at-streams : List Stream → Sender) {n : ℕ} (w : n ≡ bytes (runs number s.pending)) where
        abbrev told : List Stream → Out Expired
        told ts = record { after = at-streams ts; says = expired_message id c.message.unordered n }

        leaves : gone c.message.unordered ≡ lean_expire now s
        leaves = at_head (some c) (found_some (head s.pending) c e) (sym (ap picks q))

        pub expire_unordered : c.message.unordered ≡ true → at-streams s.streams ≡ with_pending (without_runs number s.pending) s
            → told (dropped (expired_message id c.message.unordered n) s.streams) ≡ lean_expire now s
        expire_unordered u v =
            ap (λ (b : Bool). told (when b then s.streams else drop_ssn (find id s.streams) s.streams)) u
            ∙ ap₂ (λ (x : Sender) (k : ℕ). record { after = x; says = expired_message id c.message.unordered k }) v w
            ∙ sym (ap gone u) ∙ leaves

        -- `x` has the message removed, and from it the gap is closed
        pub expire_ordered : c.message.unordered ≡ false → {x : Sender} → x ≡ with_pending (without_runs number s.pending) (with_streams (drop_ssn (find id s.streams) s.streams) s)
            → at-streams (drop_ssn (find id s.streams) s.streams) ≡ with_pending (with_ring Ordered x.pending.under_way (map (lowered id) x.pending.ordered) x.pending) x
            → told (dropped (expired_message id c.message.unordered n) s.streams) ≡ lean_expire now s
        expire_ordered u v k =
            ap (λ (b : Bool). told (when b then s.streams else drop_ssn (find id s.streams) s.streams)) u
            ∙ ap₂ (λ (x : Sender) (i : ℕ). record { after = x; says = expired_message id c.message.unordered i })
            (k ∙ ap (λ (x : Sender). with_pending (with_ring Ordered x.pending.under_way (map (lowered id) x.pending.ordered) x.pending) x) v) w
            ∙ sym (ap gone u) ∙ leaves
