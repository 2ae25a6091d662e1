-- By induction on the requests, and on the replies.
use mathlib.Core.Path.{◌≡◌, refl, sym, ap, subst, ◌∙◌}
use mathlib.Core.List.{List, [], ◌∷◌, ◌++◌, append_assoc}
use Prim.Native.Nat.{ℕ, zero, suc, ◌+◌, ◌-◌, ◌*◌, ◌/◌, ◌^◌, ◌≤◌, ◌<◌}
use native.Mathlib.Omega.{arith}
use lib.ListN.{length, take, drop, length-append, length-drop}
use lib.Seq.{sets, sets-eq, take_all, take-append-le, drop-append-le, drop-append-add}
use Rattle.limits.specs.Limits.{Room}
use Rattle.model.specs.State.{Sender}
use Rattle.model.specs.Requests.{Request, Single, ReadSack, serve, replies}
use Rattle.demands.specs.Words.{Each}
use Rattle.rows.specs.Parts.{part}
use Rattle.coded_calls.specs.Coded.{request_of}
use Rattle.coded_calls.specs.Words.{reply_words}
use Rattle.coded_calls.specs.Onto.{Fit, RequestFits, bytes_of, words_of}
use Rattle.coded_calls.specs.Back.{Read}
use Rattle.coded_calls.proofs.Onto.{requests_have_words}
use Rattle.coded_calls.proofs.Back.{words_tell}
use Rattle.runs.specs.Runs.{requests_from, requests_in, all_words, Taped}
use Rattle.runs.specs.Any.{RequestsJoin, bytes_of_all, words_of_all, EveryListHasWords, Reads, reads, read_all, TapeTells, RunTells, AnyListIsTold}

-- ---- the words of a list of requests

module _ (bytes : List ℕ) where
  -- of the words in front
  in_front : (n i : ℕ) (ws vs : List ℕ) → (i + n) * 8 ≤ length ws → requests_from n i (ws ++ vs) bytes ≡ requests_from n i ws bytes
  in_front zero i ws vs h = refl
  in_front (suc n) i ws vs h =
      let a : i * 8 ≤ length ws = omega (arith, h) in
      let b : i * 8 + 8 - i * 8 ≤ length (drop (i * 8) ws) = simp length-drop (omega (arith, h)) in
      let e = ap (take (i * 8 + 8 - i * 8)) (drop-append-le (i * 8) ws vs a) ∙ take-append-le (i * 8 + 8 - i * 8) (drop (i * 8) ws) vs b in
      let c : (suc i + n) * 8 ≤ length ws = omega (arith, h) in
      λ j. request_of (e j) bytes ∷ in_front n (suc i) ws vs c j

  -- of those behind m requests
  behind : (n m i : ℕ) (ws vs : List ℕ) → length ws ≡ m * 8 → requests_from n (m + i) (ws ++ vs) bytes ≡ requests_from n i vs bytes
  behind zero m i ws vs h = refl
  behind (suc n) m i ws vs h =
      let a : (m + i) * 8 ≡ length ws + i * 8 = omega (arith, h) in
      let b : (m + i) * 8 + 8 - (m + i) * 8 ≡ i * 8 + 8 - i * 8 = omega arith in
      let c : suc (m + i) ≡ m + suc i = omega arith in
      let d = ap (λ (k : ℕ). drop k (ws ++ vs)) a ∙ drop-append-add ws vs (i * 8) in
      let r = ap (λ (k : ℕ). requests_from n k (ws ++ vs) bytes) c ∙ behind n m (suc i) ws vs h in
      λ j. request_of (take (b j) (d j)) bytes ∷ r j

  -- some requests, and then some more
  then_more : (n m i : ℕ) (ws : List ℕ) → requests_from (n + m) i ws bytes ≡ requests_from n i ws bytes ++ requests_from m (i + n) ws bytes
  then_more zero m i ws =
      let a : 0 + m ≡ m = omega arith in
      let b : i ≡ i + 0 = omega arith in
      λ j. requests_from (a j) (b j) ws bytes
  then_more (suc n) m i ws =
      let a : suc n + m ≡ suc (n + m) = omega arith in
      let b : suc i + n ≡ i + suc n = omega arith in
      let r = request_of (part (i * 8) (i * 8 + 8) ws) bytes in
      ap (λ (k : ℕ). requests_from k i ws bytes) a ∙ ap (λ (l : List Request). r ∷ l) (then_more n m (suc i) ws)
      ∙ ap (λ (k : ℕ). r ∷ (requests_from n (suc i) ws bytes ++ requests_from m k ws bytes)) b

  -- eight words are one request
  pub one_request : (ws : List ℕ) → length ws ≡ 8 → requests_in ws bytes ≡ request_of ws bytes ∷ []
  one_request ws h =
      let a : length ws / 8 ≡ 1 = omega (arith, h) in
      let b : length ws ≤ 8 = omega (arith, h) in
      ap (λ (k : ℕ). requests_from k 0 ws bytes) a ∙ ap (λ (vs : List ℕ). request_of vs bytes ∷ []) (take_all 8 ws b)

pub requests_join : RequestsJoin
requests_join ws vs bytes h =
    let n = length ws / 8 in
    let m = length vs / 8 in
    let l = length-append ws vs in
    let a : length (ws ++ vs) / 8 ≡ length ws / 8 + length vs / 8 = omega (arith, l, h) in
    let b : 0 + length ws / 8 ≡ length ws / 8 + 0 = omega arith in
    let c : length ws ≡ length ws / 8 * 8 = omega (arith, h) in
    let d : (0 + length ws / 8) * 8 ≤ length ws = omega arith in
    ap (λ (k : ℕ). requests_from k 0 (ws ++ vs) bytes) a ∙ then_more bytes n m 0 (ws ++ vs)
    ∙ λ j. in_front bytes n 0 ws vs d j ++ (ap (λ (k : ℕ). requests_from m k (ws ++ vs) bytes) b ∙ behind bytes m n 0 ws vs c) j

fit_joined : (bits : ℕ) (ws vs : List ℕ) → Fit bits ws → Fit bits vs → Fit bits (ws ++ vs)
fit_joined bits [] vs f g = g
fit_joined bits (w ∷ ws) vs f g = (f.0, fit_joined bits ws vs f.1 g)

-- the bytes of a request are such
octets_of : (r : Request) → RequestFits r → Fit 8 (bytes_of r)
octets_of (Single k) f = tt
octets_of (ReadSack p) f = f

octets_of_all : (rs : List Request) → Each RequestFits rs → Fit 8 (bytes_of_all rs)
octets_of_all [] f = tt
octets_of_all (r ∷ rs) f = fit_joined 8 (bytes_of r) (bytes_of_all rs) (octets_of r f.0) (octets_of_all rs f.1)

-- the words of requests whose bytes stand behind others, whatever these are
record Told (before : List ℕ) (rs : List Request) (ws : List ℕ) : Type 0 where
  requests : requests_in ws (before ++ bytes_of_all rs) ≡ rs
  eights : length ws ≡ length rs * 8
  fit : Fit 64 ws

told_behind : (before : List ℕ) (rs : List Request) → Each RequestFits rs → length before + length (bytes_of_all rs) < 2 ^ 64
    → Told before rs (words_of_all (length before) rs)
told_behind before [] f h = record { requests = refl; eights = refl; fit = tt }
told_behind before (r ∷ rs) f h =
    let from = length before in
    let own = bytes_of r in
    let all = before ++ (own ++ bytes_of_all rs) in
    let l = length-append own (bytes_of_all rs) in
    let n = length-append before own in
    let one = requests_have_words from r f.0 (omega (arith, h, l)) in
    let ws = words_of from r in
    let vs = words_of_all (from + length own) rs in
    let e = one.eight in
    let k : length (before ++ own) + length (bytes_of_all rs) < 2 ^ 64 = omega (arith, h, l, n) in
    let rest = subst (λ (m : ℕ). Told (before ++ own) rs (words_of_all m rs)) n (told_behind (before ++ own) rs f.1 k) in
    let g = rest.eights in
    let w = length-append ws vs in
    record {
      requests = requests_join ws vs all (omega (arith, e)) ∙ ap (λ (qs : List Request). qs ++ requests_in vs all) (one_request all ws e)
          ∙ λ j. one.request before (bytes_of_all rs) refl j
          ∷ (ap (λ (bytes : List ℕ). requests_in vs bytes) (sym (append_assoc before own (bytes_of_all rs))) ∙ rest.requests) j;
      eights = omega (arith, e, g, w);
      fit = fit_joined 64 ws vs one.fit rest.fit;
    }

pub every_list_has_words : EveryListHasWords
every_list_has_words rs f h =
    let k : 0 + length (bytes_of_all rs) < 2 ^ 64 = omega (arith, h) in
    let t = told_behind [] rs f k in
    record { requests = t.requests; eights = t.eights; fit = t.fit; octets = octets_of_all rs f }

-- ---- the replies on a tape

-- the first reply, and n behind it
abbrev first : ℕ → Read → Reads
first n r = reads (r.reply ∷ (read_all n r.rest).replies) (read_all n r.rest).rest

pub tape_tells : TapeTells
tape_tells [] us = refl
tape_tells (x ∷ xs) us =
    ap (λ (ws : List ℕ). read_all (suc (length xs)) ws) (append_assoc (reply_words x) (all_words xs) us) ∙ ap (first (length xs)) (words_tell x (all_words xs ++ us))
    ∙ ap (λ (r : Reads). reads (x ∷ r.replies) r.rest) (tape_tells xs us)

-- a reply to each request
replies_length : (room : Room) (rs : List Request) (s : Sender) → length (replies room rs s) ≡ length rs
replies_length room [] s = refl
replies_length room (r ∷ rs) s = ap suc (replies_length room rs (serve room r s).after)

-- what is put at the front of a tape stands there
at_front : (ws vs : List ℕ) → length vs ≤ length ws → sets ws 0 vs ≡ vs ++ drop (length vs) ws
at_front ws vs h =
    let a : 0 + length vs ≤ length ws = omega (arith, h) in
    let b : 0 + length vs ≡ length vs = omega arith in
    sets-eq vs ws 0 a ∙ ap (λ (k : ℕ). vs ++ drop k ws) b

pub run_tells : RunTells
run_tells room rs s before after e h =
    let said = replies room rs s in
    let l : length (all_words said) ≤ length before = omega (arith, h) in
    ap (read_all (length rs)) (e ∙ at_front before (all_words said) l)
    ∙ ap (λ (n : ℕ). read_all n (all_words said ++ drop (length (all_words said)) before)) (sym (replies_length room rs s))
    ∙ tape_tells said (drop (length (all_words said)) before)

pub any_list_is_told : AnyListIsTold
any_list_is_told room rs s before after f k e h =
    let q = subst (λ (qs : List Request). Taped room qs s before after) (every_list_has_words rs f k).requests e in
    ap (λ (r : Reads). r.replies) (run_tells room rs s before after q h)
