-- A law for each way out.
use Prim.Native.Nat.{ℕ, ◌+◌}
use mathlib.Core.Path.{refl, ap, ◌∙◌}
use Rattle.model.specs.Answers.{Done, did}
use Rattle.model.specs.State.{Sender, Out, with_numbers}
use native.Mathlib.Omega.{arith}
use Rattle.outbound_queue.specs.Outbound.{ring_room, sender_of}
use Rattle.outbound_send.specs.Pushes.{push_far, push_full, push_spent, push_none, push_some, spare}
use Rattle.outbound_send.proofs.push.push.Goals as goal

pub returns-then-offset-gt-OFFSET_MAX : goal.returns-then-offset-gt-OFFSET_MAX
returns-then-offset-gt-OFFSET_MAX c =
    let a = c.args in
    ((λ ts. push_far (ring_room a.cells.now) a.message a.maximum a.offset a.length (sender_of ts a.q.now a.cells.now) c.if-offset-gt-OFFSET_MAX.true, λ k. k), λ n. (refl, refl))

pub returns-then-lacks_room : goal.returns-then-lacks_room
returns-then-lacks_room c =
    let a = c.args in (
      (λ ts. push_full (ring_room a.cells.now) a.message a.maximum a.offset a.length (sender_of ts a.q.now a.cells.now) c.if-offset-gt-OFFSET_MAX.false c.fragments-fragments.ensures.0 c.lacks_room.ensures c.if-lacks_room.true, λ k. k),
      λ n. (refl, refl),
    )

pub returns-then-is_spent : goal.returns-then-is_spent
returns-then-is_spent c =
    let a = c.args in (
      (λ ts. push_spent (ring_room a.cells.now) a.message a.maximum a.offset a.length (sender_of ts a.q.now a.cells.now) c.if-offset-gt-OFFSET_MAX.false c.fragments-fragments.ensures.0 c.lacks_room.ensures c.if-lacks_room.false c.is_spent.ensures.0 c.if-is_spent.true, λ k. k),
      λ n. (refl, refl),
    )

pub returns-then-fragments-lt1 : goal.returns-then-fragments-lt1
returns-then-fragments-lt1 c =
    let a = c.args in
    let j = c.add_fragments.ensures in (
      (λ ts. push_none (ring_room a.cells.now) a.message a.maximum a.offset a.length (sender_of ts a.q.now a.cells.now) c.if-offset-gt-OFFSET_MAX.false c.fragments-fragments.ensures.0 c.lacks_room.ensures c.if-lacks_room.false c.is_spent.ensures.0 c.if-is_spent.false refl (j.0.0 ts) c.if-fragments-lt1.true, j.0.1),
      λ n. absurd (n refl),
    )

pub overflow_add-q : goal.overflow_add-q
overflow_add-q c = omega (arith, spare c.is_spent.ensures.1 c.if-fragments-lt1.false c.is_spent.ensures.0 c.if-is_spent.false)

pub returns : goal.returns
returns c =
    let a = c.args in
    let joined = c.add_fragments in
    let j = joined.ensures in (
      (
        λ ts.
            let z = sender_of ts joined.new.self joined.new.cells in
            let numbered : ℕ → Out Done = λ u. record { after = with_numbers (record { next = a.q.now.next_message_id + 1; unstarted = u }) z; says = did } in
            ap numbered (ap (λ (o : Sender). o.numbers.unstarted) (j.0.0 ts))
            ∙ push_some (ring_room a.cells.now) a.message a.maximum a.offset a.length (sender_of ts a.q.now a.cells.now) c.if-offset-gt-OFFSET_MAX.false c.fragments-fragments.ensures.0 c.lacks_room.ensures c.if-lacks_room.false c.is_spent.ensures.0 c.if-is_spent.false refl (j.0.0 ts) c.if-fragments-lt1.false refl,
        j.0.1,
      ),
      λ n. absurd (n refl),
    )
