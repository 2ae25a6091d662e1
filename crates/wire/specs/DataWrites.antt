-- A DATA chunk's writer puts header, payload and zeros one behind the other, over variable outputs.
use Rattle.std.specs.Prelude.{◌≡◌, List, ◌++◌, ℕ, ◌+◌, ◌≤◌, length, drop, Ok}
use Rattle.std.proofs.Common.{sym, ap, ◌∙◌, arith, le-ltb}
use Rattle.std.proofs.lemmas.List.Edits.{sets}
use Rattle.octets.specs.Numbers.{zeros}
use Rattle.octets.specs.Puts.{sets_append, sets_front}
use Rattle.model.specs.declared.Chunk.{Chunk}
use Rattle.model.specs.Data.{padding, data_header, payload_of, data_bytes, data_laid}
use Rattle.demands.specs.Data.{data_size, payload_length, data_length}

-- with `m` zeros
pub all_put : (t : ℕ) (c : Chunk) (l : List ℕ) → c.offset + c.length ≤ length l → (out : List ℕ) {a b o : List ℕ} {m : ℕ} → data_size c ≤ length out
    → m ≡ padding c.length → a ≡ sets out 0 (data_header t c) → b ≡ sets a 16 (payload_of c l) → o ≡ sets b (16 + c.length) (zeros m)
    → record { answer = Ok (16 + c.length + m); out = o } ≡ data_laid t c l out
all_put t c l fits out {a} {b} {o} {m} h x p q r = (λ i. record { answer = Ok (e' i); out = o' i }) ∙ sym (rw (le-ltb (length l) (c.offset + c.length) fits, le-ltb (length out) (length (data_bytes t c l)) (omega (arith, data_length t c l fits))))
  where
    e' : 16 + c.length + m ≡ length (data_bytes t c l)
    e' = ap (λ (j : ℕ). 16 + c.length + j) x ∙ sym (data_length t c l fits)

    z : List ℕ
    z = zeros (padding c.length)

    b' : b ≡ sets (sets out 0 (data_header t c)) 16 (payload_of c l)
    b' = q ∙ (λ i. sets (p i) 16 (payload_of c l))

    o' : o ≡ data_bytes t c l ++ drop (length (data_bytes t c l)) out
    o' =
        r ∙ (λ i. sets (b' i) (16 + c.length) (zeros (x i)))
        ∙ ap (λ (j : ℕ). sets (sets (sets out 0 (data_header t c)) 16 (payload_of c l)) (16 + j) z) (sym (payload_length t c l fits))
        ∙ sym (sets_append (payload_of c l) z (sets out 0 (data_header t c)) 16)
        ∙ sym (sets_append (data_header t c) (payload_of c l ++ z) out 0)
        ∙ sets_front (data_bytes t c l) out (omega (arith, data_length t c l fits))
