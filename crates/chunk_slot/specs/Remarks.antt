-- The small fields when some of them are taken from their word and added anew.
use Rattle.std.specs.Prelude.{◌≡◌, refl, Bool, true, false, not, ◌||◌, ℕ, zero, suc, ◌+◌, ◌*◌, ◌/◌, ◌%◌, ◌<◌, eqb}
use Rattle.std.proofs.Common.{sym, ap, ◌∙◌, arith}
use Rattle.std.proofs.Math.Bool.{or-true}
use Rattle.model.specs.Rings.{ssn_before}
use Rattle.cells.specs.Words.{bit_of, bit_at}
use Rattle.chunk_slot.specs.Marks.{Marks, marks_in, marks_word, marks_back}

-- what the changes below change of them
abbrev pub remarked : (ssn : ℕ) → (acked abandoned retransmit timed sent : Bool) → Marks → Marks
remarked n k a r t z x =
    record { stream = x.stream; ssn = n; kind = x.kind; unordered = x.unordered; beginning = x.beginning; ending = x.ending; acked = k; abandoned = a; retransmit = r; timed = t; sent = z }

-- to be sent again, if neither acknowledged nor abandoned
abbrev pub sent_again : Marks → Marks
sent_again x = remarked x.ssn x.acked x.abandoned (x.retransmit || not (x.acked || x.abandoned)) x.timed x.sent x

-- abandoned, and not to be sent again
abbrev pub left_off : Marks → Marks
left_off x = remarked x.ssn x.acked true false x.timed x.sent x

-- acknowledged, and not to be sent again
abbrev pub mark_acked : Marks → Marks
mark_acked x = remarked x.ssn true x.abandoned false x.timed x.sent x

-- the SSN drops by 1
abbrev pub one_lower : Marks → Marks
one_lower x = remarked (ssn_before x.ssn) x.acked x.abandoned x.retransmit x.timed x.sent x

-- there is a deadline
abbrev pub with_deadline : Marks → Marks
with_deadline x = remarked x.ssn x.acked x.abandoned x.retransmit true x.sent x

-- there is a since
abbrev pub with_since : Marks → Marks
with_since x = remarked x.ssn x.acked x.abandoned x.retransmit x.timed true x

pub bit_of_lem : (n : ℕ) → n < 2 → bit_of (eqb n 1) ≡ n
bit_of_lem zero h = refl
bit_of_lem (suc zero) h = refl
bit_of_lem (suc (suc n)) h = absurd (omega arith)

-- a word is its parts: each quotient is the next part and the next quotient
joined : (m n s k u b e a d r t z q1 q2 q3 q4 q5 q6 q7 q8 q9 qa qb : ℕ)
    → m ≡ n + q1 * 65536 → q1 ≡ s + q2 * 65536 → q2 ≡ k + q3 * 256 → q3 ≡ u + q4 * 2 → q4 ≡ b + q5 * 2 → q5 ≡ e + q6 * 2 → q6 ≡ a + q7 * 2 → q7 ≡ d + q8 * 2 → q8 ≡ r + q9 * 2 → q9 ≡ t + qa * 2 → qa ≡ z + qb * 2
    → m
    ≡ n + s * 65536 + k * 4294967296 + (u + b * 2 + e * 4 + a * 8) * 1099511627776 + (d + r * 2 + t * 4 + z * 8) * 17592186044416 + qb * 281474976710656
joined m n s k u b e a d r t z q1 q2 q3 q4 q5 q6 q7 q8 q9 qa qb e0 e1 e2 e3 e4 e5 e6 e7 e8 e9 ea = omega arith

marks_split : (m : ℕ) → m ≡ marks_word (marks_in m) + m / 281474976710656 * 281474976710656
unfolding marks_in marks_word
marks_split m =
    joined m (m % 65536) (m / 65536 % 65536) (m / 4294967296 % 256)
    (bit_of (bit_at 1099511627776 m)) (bit_of (bit_at 2199023255552 m)) (bit_of (bit_at 4398046511104 m)) (bit_of (bit_at 8796093022208 m)) (bit_of (bit_at 17592186044416 m)) (bit_of (bit_at 35184372088832 m)) (bit_of (bit_at 70368744177664 m)) (bit_of (bit_at 140737488355328 m))
    (m / 65536) (m / 4294967296) (m / 1099511627776) (m / 2199023255552) (m / 4398046511104) (m / 8796093022208) (m / 17592186044416) (m / 35184372088832) (m / 70368744177664) (m / 140737488355328) (m / 281474976710656)
    (omega arith) (omega arith) (omega arith)
    (omega (arith, bit_of_lem (m / 1099511627776 % 2) (omega arith))) (omega (arith, bit_of_lem (m / 2199023255552 % 2) (omega arith))) (omega (arith, bit_of_lem (m / 4398046511104 % 2) (omega arith))) (omega (arith, bit_of_lem (m / 8796093022208 % 2) (omega arith))) (omega (arith, bit_of_lem (m / 17592186044416 % 2) (omega arith))) (omega (arith, bit_of_lem (m / 35184372088832 % 2) (omega arith))) (omega (arith, bit_of_lem (m / 70368744177664 % 2) (omega arith))) (omega (arith, bit_of_lem (m / 140737488355328 % 2) (omega arith)))

-- a word from which some parts are taken, and to which they are added anew
remark_all : (m m' n : ℕ) (k a r t z : Bool) → n < 65536
    → m' + (m / 65536 % 65536 * 65536 + m / 8796093022208 % 2 * 8796093022208 + m / 17592186044416 % 2 * 17592186044416 + m / 35184372088832 % 2 * 35184372088832 + m / 70368744177664 % 2 * 70368744177664 + m / 140737488355328 % 2 * 140737488355328)
    ≡ m + (n * 65536 + bit_of k * 8796093022208 + bit_of a * 17592186044416 + bit_of r * 35184372088832 + bit_of t * 70368744177664 + bit_of z * 140737488355328)
    → marks_in m' ≡ remarked n k a r t z (marks_in m)
unfolding marks_in marks_word
remark_all m m' n k a r t z h e =
    let x = remarked n k a r t z (marks_in m) in
    let q : m' ≡ marks_word x + m / 281474976710656 * 281474976710656 =
    omega (arith, marks_split m, bit_of_lem (m / 8796093022208 % 2) (omega arith), bit_of_lem (m / 17592186044416 % 2) (omega arith), bit_of_lem (m / 35184372088832 % 2) (omega arith), bit_of_lem (m / 70368744177664 % 2) (omega arith), bit_of_lem (m / 140737488355328 % 2) (omega arith)) in
    ap marks_in q ∙ marks_back x (m / 281474976710656) (omega arith) h (omega arith)

-- of which the acknowledgement and the sending stay
pub remark : (m m' n : ℕ) (a r t : Bool) → n < 65536
    → m' + (m / 65536 % 65536 * 65536 + m / 17592186044416 % 2 * 17592186044416 + m / 35184372088832 % 2 * 35184372088832 + m / 70368744177664 % 2 * 70368744177664)
    ≡ m + (n * 65536 + bit_of a * 17592186044416 + bit_of r * 35184372088832 + bit_of t * 70368744177664)
    → marks_in m' ≡ remarked n (marks_in m).acked a r t (marks_in m).sent (marks_in m)
unfolding marks_in
remark m m' n a r t h e =
    remark_all m m' n (bit_at 8796093022208 m) a r t (bit_at 140737488355328 m) h
    (omega (arith, bit_of_lem (m / 8796093022208 % 2) (omega arith), bit_of_lem (m / 140737488355328 % 2) (omega arith)))

-- or two of the bits are taken, and one is added
pub remark_acked : (m m' : ℕ) → m' + (m / 8796093022208 % 2 * 8796093022208 + m / 35184372088832 % 2 * 35184372088832) ≡ m + 8796093022208 → marks_in m' ≡ mark_acked (marks_in m)
unfolding marks_in
remark_acked m m' e =
    remark_all m m' (m / 65536 % 65536) true (bit_at 17592186044416 m) false (bit_at 70368744177664 m) (bit_at 140737488355328 m) (omega arith)
    (omega (arith, bit_of_lem (m / 17592186044416 % 2) (omega arith), bit_of_lem (m / 70368744177664 % 2) (omega arith), bit_of_lem (m / 140737488355328 % 2) (omega arith)))

-- or a bit is taken and added
pub remark_since : (m m' : ℕ) → m' + m / 140737488355328 % 2 * 140737488355328 ≡ m + 140737488355328 → marks_in m' ≡ with_since (marks_in m)
unfolding marks_in
remark_since m m' e =
    remark_all m m' (m / 65536 % 65536) (bit_at 8796093022208 m) (bit_at 17592186044416 m) (bit_at 35184372088832 m) (bit_at 70368744177664 m) true (omega arith)
    (omega (arith, bit_of_lem (m / 8796093022208 % 2) (omega arith), bit_of_lem (m / 17592186044416 % 2) (omega arith), bit_of_lem (m / 35184372088832 % 2) (omega arith), bit_of_lem (m / 70368744177664 % 2) (omega arith)))

-- whether it is to be sent again already says so, unless it is neither marked nor acknowledged nor abandoned
pub again_same : (x : Marks) → (x.retransmit || not (x.acked || x.abandoned)) ≡ x.retransmit → x ≡ sent_again x
again_same x e = sym (ap (λ (r : Bool). remarked x.ssn x.acked x.abandoned r x.timed x.sent x) e)

pub again_new : (x : Marks) → x.acked ≡ false → x.abandoned ≡ false → remarked x.ssn x.acked x.abandoned true x.timed x.sent x ≡ sent_again x
again_new x a b =
    let e : (x.retransmit || not (x.acked || x.abandoned)) ≡ true =
    ap (λ (t : Bool). x.retransmit || not (t || x.abandoned)) a ∙ ap (λ (t : Bool). x.retransmit || not t) b ∙ or-true x.retransmit in
    sym (ap (λ (r : Bool). remarked x.ssn x.acked x.abandoned r x.timed x.sent x) e)
