-- The zeros that there is room for.
use Rattle.std.proofs.Common.{◌≡◌, ℕ, ◌+◌, ◌-◌, length, take, drop, sym, ap, ◌∙◌, arith, length-take-le, length-drop}
use Rattle.std.proofs.lemmas.List.{length-replicate, take-replicate}
use Rattle.octets.specs.Numbers.{zeros}
use Rattle.octets.proofs.Room.{room}
use Rattle.octets.proofs.clear.Goals as goal

pub returns : goal.returns
returns c =
    let a = c.args in
    let start = c.min-start.result in
    let n = start + c.min.result - start in
    let fits = length-replicate {A = ℕ} a.count 0 in
    let l : length (take n (drop start a.out.now)) ≡ n = length-take-le n (drop start a.out.now) (omega (arith, length-drop start a.out.now)) in
    room (zeros a.count) a.out.now a.at start n (omega arith) (omega arith) (c.fill.ensures.after (λ y h. h) ∙ ap zeros l ∙ sym (take-replicate n a.count 0 (omega arith)))
