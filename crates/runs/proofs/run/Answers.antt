-- Between two requests the state is one that requests have reached, so that each is the model's; the rest of the list is still to come.
use Rattle.std.proofs.Common.{◌≡◌, List, [], ◌∷◌, ◌++◌, ℕ, ◌/◌, ◌<◌, length, refl, sym, ap, subst, ◌∙◌, arith, rules}
use Rattle.std.specs.Slice.Iter.{chunks_exact_rest, chunks_exact_size}
use Rattle.limits.specs.Limits.{Room, tsns}
use Rattle.model.specs.State.{fresh}
use Rattle.model.specs.Requests.{Request}
use Rattle.demands.specs.Demand3.{Demand3}
use Rattle.demands.proofs.Requests.{requests_from_fresh, every_state_served}
use Rattle.outbound_queue.specs.Outbound.{Good, kept_good}
use Rattle.sender_head.specs.Whole.{room_in, sender_of}
use Rattle.coded_calls.specs.Coded.{request_of}
use Rattle.runs.specs.Runs.{requests_from, requests_in}
use Rattle.runs.specs.Going.{Going, begun, gone_on, same_room, after_in}
use Rattle.runs.proofs.Any.{requests_join, one_request}
use Rattle.runs.proofs.run.Goals as goal

-- eight words in front are the next request
next_in : (ws rest bytes : List ℕ) → length ws ≡ 8 → requests_in (ws ++ rest) bytes ≡ request_of ws bytes ∷ requests_in rest bytes
next_in ws rest bytes e = requests_join ws rest bytes (omega (arith, e)) ∙ ap (λ (rs : List Request). rs ++ requests_in rest bytes) (one_request bytes ws e)

-- fewer are none
none_in : (ws bytes : List ℕ) → length ws < 8 → requests_in ws bytes ≡ []
none_in ws bytes h = let e : length ws / 8 ≡ 0 = omega arith in ap (λ (n : ℕ). requests_from n 0 ws bytes) e

pub loop-words-init : goal.loop-words-init
loop-words-init c =
    let a = c.args in
    let m = c.new-head.ensures a.cells.now in
    let words = c.chunks_exact-words-items.ensures in
    let i = c.into_iter-words-iterator.ensures.into_iter_gives in
    let bytes = a.bytes.now in
    let all = requests_in a.coded.now bytes in
    let room = room_in a.cells.now in
    let s₀ = fresh a.tsn a.number in
    let s = sender_of c.new-head.result a.cells.now in
    record {
      same_reference = refl;
      eights = ap chunks_exact_size i ∙ words.size;
      cells = refl;
      counted = m.1;
      going = subst (λ (ws : List ℕ). Going room s₀ all (requests_in ws bytes) s a.tape.now a.tape.now 0) (sym (ap chunks_exact_rest i ∙ words.rest)) (begun room s₀ s all a.tape.now m.0);
    }

pub loop-words-preserved : goal.loop-words-preserved
loop-words-preserved c =
    let a = c.args in
    let l = c.loop-words in
    let room = room_in a.cells.now in
    let bytes = a.bytes.now in
    let v = l.invariant in
    let t = c.in-Some.ensures.steps in
    let s = sender_of l.head l.cells in
    let e = same_room a.cells.now l.cells v.cells in
    let ahead = ap (λ (ws : List ℕ). requests_in ws bytes) t.1.0 ∙ next_in c.in-Some.words.now (chunks_exact_rest c.next.new.self) bytes (t.1.1 ∙ v.eights) in
    let good : Good room s = subst (Good room) (sym v.going.reached) (kept_good (every_state_served room a.tsn a.number v.going.sofar)) in
    let good' = subst (λ (r : Room). Good r s) (sym e) good in
    let o = c.one.ensures.served good' v.counted in
    record {
      same_reference = c.one.ensures.same_reference good' v.counted ∙ v.same_reference;
      eights = t.0 ∙ v.eights;
      cells = search rules;
      counted = o.counted v.counted;
      going = gone_on (subst (λ (rs : List Request). Going room (fresh a.tsn a.number) (requests_in a.coded.now bytes) rs s a.tape.now l.tape.words.now l.tape.at) ahead v.going) (after_in e o.after);
    }

pub returns : goal.returns
returns c =
    let a = c.args in
    let l = c.loop-words in
    let room = room_in a.cells.now in
    let bytes = a.bytes.now in
    let v = l.invariant in
    let t = c.in-None.ensures.steps in
    let ends = none_in (chunks_exact_rest l.words-iterator) bytes (rw v.eights at t.1.0) in
    let g = subst (λ (rs : List Request). Going room (fresh a.tsn a.number) (requests_in a.coded.now bytes) rs (sender_of l.head l.cells) a.tape.now l.tape.words.now l.tape.at) ends v.going in
    let fits : a.tsn < tsns = search rules in
    (g.ahead, search (rules, g.told, v.same_reference), v.counted, subst (Demand3 room) (sym g.ahead) (requests_from_fresh room (omega arith) a.tsn a.number fits (requests_in a.coded.now bytes)))
