-- A row of the table, of a word that is its number.
use Rattle.std.specs.Prelude.{◌≡◌, ◌≢◌, List, ℕ, zero, suc, ◌<◌, ◌≤◌, get_or}
use Rattle.std.proofs.Common.{ap, arith, lt-ltb, ne_eqb}
use Rattle.model.specs.Calls as Model
use Rattle.model.specs.Requests.{Single}
use Rattle.calls.specs.declared.Call.{Call}
use Rattle.calls.specs.Meant.{meant}
use Rattle.coded_calls.specs.Coded.{plain_of, call_in, request_in, request_of}

-- a number that is none of the first n is not below n
abbrev pub Passed : (n row : ℕ) → Type 0
Passed zero row = Unit {0}
Passed (suc n) row = Passed n row × (row ≢ n)

pub passed : (n row : ℕ) → Passed n row → n ≤ row
passed zero row p = omega arith
passed (suc n) row p = let l = passed n row p.0 in let h = p.1 in omega (arith, l, h)

-- ---- the words of a request

-- the same of the words themselves
pub all_words_lem : {row row' a a' b b' c c' d d' : ℕ} → row ≡ row' → a ≡ a' → b ≡ b' → c ≡ c' → d ≡ d' → plain_of row a b c d ≡ plain_of row' a' b' c' d'
all_words_lem p q r s t = λ i. plain_of (p i) (q i) (r i) (s i) (t i)

-- every row but one is a call
pub is_call : {k : Model.Call} (row a b c d : ℕ) → row ≢ 31 → k ≡ call_in row a b c d → (bytes : List ℕ) → Single k ≡ request_in row a b c d bytes
is_call row a b c d h q bytes = rw (ne_eqb row 31 h) (ap Single q)

module _ (w : List ℕ) where
  abbrev row : ℕ
  row = get_or w 0 0

  pub is_plain : {x : Call} → row < 30 → x ≡ plain_of row (get_or w 1 0) (get_or w 2 0) (get_or w 3 0) (get_or w 4 0) → (bytes : List ℕ) → Single (meant x) ≡ request_of w bytes
  is_plain {x} h q =
      let e : meant x ≡ call_in row (get_or w 1 0) (get_or w 2 0) (get_or w 3 0) (get_or w 4 0) = rw (lt-ltb row 30 h) (ap meant q) in
      is_call row (get_or w 1 0) (get_or w 2 0) (get_or w 3 0) (get_or w 4 0) (λ e. omega (arith, h, e)) e
