-- The calls of the flight alone, as the model's: `f` is the flight behind a call, and `n` what it answers.
use Rattle.std.specs.Prelude.{◌≡◌, map, ℕ}
use Rattle.std.proofs.Math.Path.{sym, ap, ap₂}
use Rattle.std.proofs.Common.{◌∙◌}
use Rattle.model.specs.State.{Sender, Flight, in_flight}
use Rattle.model.specs.Flight.{acknowledge, pop, mark_all, to_retransmit}
use Rattle.payload_queue.specs.Queue.{Pop, popped, acked, held_in, changed}
use Rattle.payload_queue.specs.Model.{with_flight, popping_is, acknowledging_is}

module _ (t : ℕ) (s : Sender) where
  pub pop_is : {r : Pop} → r ≡ popped t s.flight → record { after = with_flight r.flight s; says = r.front } ≡ pop t s
  unfolding pop
  pop_is e = ap (λ (y : Pop). record { after = with_flight y.flight s; says = y.front }) e ∙ sym (popping_is s.flight.entries t s)

  -- `x` is the sender then
  pub acked_is : {x : Sender} {f : Flight} {n : ℕ} → x ≡ with_flight f s → f ≡ acked t s.flight → n ≡ held_in (in_flight t s.flight) → record { after = x; says = n } ≡ acknowledge t s
  unfolding acknowledge
  acked_is {n = n} z e q =
      ap (λ (y : Sender). record { after = y; says = n }) z
      ∙ ap₂ (λ (g : Flight) (m : ℕ). record { after = with_flight g s; says = m }) e q ∙ sym (acknowledging_is t s)

pub marked_is : (s : Sender) {x : Sender} {f : Flight} → x ≡ with_flight f s → f ≡ changed (map to_retransmit) s.flight → x ≡ mark_all s
unfolding mark_all
marked_is s z e = z ∙ ap (λ (g : Flight). with_flight g s) e
