-- Header, payload and zeros stand one behind the other.
use Rattle.std.proofs.Common.{◌≡◌, ◌-◌, drop, take, ap, ◌∙◌, arith}
use Rattle.std.proofs.lemmas.List.{take_rest}
use Rattle.std.proofs.lemmas.List.Edits.{sets}
use Rattle.wire.specs.DataWrites.{all_put}
use Rattle.wire.proofs.data.write.Goals as goal

pub returns : goal.returns
returns c =
    let a = c.args in
    let l = a.bytes.now in
    let x = a.chunk in
    let z = c.zeros_behind-zeros.ensures.0 in
    let rest = rw c.in_ok-rest.ensures.ok_part at c.get.ensures.lookup.0 in
    let payload = rw c.in_ok-payload.ensures.ok_part at c.get-2.ensures.lookup.0 in
    let k : x.length - 0 ≡ x.length = omega arith in
    let behind : c.in_ok-rest.rest.now ≡ drop x.offset l = rest.2 ∙ take_rest l x.offset in
    all_put a.tsn x l (omega (arith, rest.3, payload.1)) a.out.now (omega (arith, z)) z c.put_header.ensures (c.copy.ensures ∙ ap (sets c.put_header.new.out 16) (payload.2 ∙ (λ i. take (k i) (behind i)))) c.clear.ensures
