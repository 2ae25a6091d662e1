-- Unknown, abandoned before, or given up now.
use mathlib.Core.Path.{sym, ap, ◌∙◌}
use Rattle.model.specs.Answers.{Abandoned}
use Rattle.model.specs.State.{same}
use Rattle.outbound_queue.specs.Outbound.{sender_of, does}
use Rattle.outbound_abandon.specs.Abandons.{lean_abandon_lem, abandon_none, abandon_again, abandon_one}
use Rattle.outbound_abandon.proofs.abandon.Goals as goal

pub returns-in_err-chunk : goal.returns-in_err-chunk
returns-in_err-chunk c =
    let a = c.args in
    let e = sym c.get.ensures ∙ c.in_err-chunk.was in (
      λ room ts h.
          let s = sender_of ts a.q.now a.cells.now in
          does (λ g. lean_abandon_lem g a.tsn) (ap (λ (x : Abandoned). same x s) c.from_residual.ensures ∙ abandon_none room a.tsn s e),
      λ k. k,
    )

pub returns-then-chunk : goal.returns-then-chunk
returns-then-chunk c =
    let a = c.args in
    let e = sym c.get.ensures ∙ c.in_ok-chunk.was in
    (λ room ts h. does (λ g. lean_abandon_lem g a.tsn) (abandon_again room a.tsn (sender_of ts a.q.now a.cells.now) c.in_ok-chunk.chunk e c.if-chunk.true), λ k. k)

pub returns : goal.returns
returns c =
    let a = c.args in
    let e = sym c.get.ensures ∙ c.in_ok-chunk.was in
    let i = c.place-near.ensures in
    let u = c.give_up-bytes.ensures in (
      λ room ts h. let r = u.0 room ts h in does (λ g. lean_abandon_lem g a.tsn) (abandon_one room a.tsn (sender_of ts a.q.now a.cells.now) c.in_ok-chunk.chunk e c.if-chunk.false i r.0 r.1),
      u.1,
    )
