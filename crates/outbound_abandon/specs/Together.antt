-- A message's entries stand together in flight: where the flight is contiguous, the run around one of them, or at its end, is all of them.
use Rattle.std.specs.Prelude.{◌≡◌, refl, ◌≢◌, Bool, true, false, List, [], ◌∷◌, map, ℕ, zero, suc, ◌+◌, length, get_or}
use Rattle.std.proofs.Common.{sym, ap, subst, ◌∙◌, arith, eq-eqb, eqb-true}
use Rattle.std.proofs.Math.Option.{Option, none, some}
use Rattle.std.proofs.Math.ListN.{get_elem?}
use Rattle.model.specs.declared.Chunk.{Chunk}
use Rattle.model.specs.declared.Message.{Message}
use Rattle.model.specs.Lists.{when◌then◌else◌, keep}
use Rattle.model.specs.State.{is_of}
use Rattle.model.specs.Rings.{bytes, given_up}
use Rattle.demands.specs.Words.{Each}
use Rattle.demands.specs.States.{Contiguous, Has}
use Rattle.chunk_slot.specs.Chunks.{blank_chunk}
use Rattle.chunk_slot.specs.Changes.{given_other}
use Rattle.payload_queue.specs.OneRun.{first_of, given_up_run, held_run, given_up_from, held_from, given_up_near, held_near}

-- an entry is of its message
pub has_entry : (l : List Chunk) (i : ℕ) (c : Chunk) → get_elem? l i ≡ some c → Has c.message.number l
has_entry [] zero c e = let z : none ≡ some c = e in let y : ◌≡◌ {A = ℕ} 0 1 = cc in absurd (omega arith)
has_entry [] (suc i) c e = let z : none ≡ some c = e in let y : ◌≡◌ {A = ℕ} 0 1 = cc in absurd (omega arith)
has_entry (d ∷ l) zero c e = by (is_of c.message.number d) (let q : d ≡ c = cc in eq-eqb d.message.number c.message.number (ap (λ (y : Chunk). y.message.number) q))
  where
    by : (b : Bool) → b ≡ true → (when b then (d ∷ keep (is_of c.message.number) l) else keep (is_of c.message.number) l) ≢ []
    by true e = λ q. let z : ◌≡◌ {A = ℕ} 0 1 = cc in omega arith
    by false e = let z : ◌≡◌ {A = ℕ} 0 1 = cc in absurd (omega arith)
has_entry (d ∷ l) (suc i) c e = by (is_of c.message.number d) (has_entry l i c e)
  where
    by : (b : Bool) → Has c.message.number l → (when b then (d ∷ keep (is_of c.message.number) l) else keep (is_of c.message.number) l) ≢ []
    by true h = λ q. let z : ◌≡◌ {A = ℕ} 0 1 = cc in omega arith
    by false h = h

module _ (n : ℕ) where
  -- the run around a place is all of the message
  abbrev pub AllNear : (near : ℕ) → List Chunk → Type 0
  AllNear i l = (map (given_up n) l ≡ given_up_near n i l) × (bytes (keep (is_of n) l) ≡ held_near n i l)

  -- the leading run is
  abbrev Leads : List Chunk → Type 0
  Leads l = (map (given_up n) l ≡ given_up_run n l) × (bytes (keep (is_of n) l) ≡ held_run n l)

  none_given : (l : List Chunk) → keep (is_of n) l ≡ [] → map (given_up n) l ≡ l
  none_given [] e = refl
  none_given (c ∷ l) e = by (is_of n c) refl e (none_given l)
    where
      by : (b : Bool) → is_of n c ≡ b → (when b then (c ∷ keep (is_of n) l) else keep (is_of n) l) ≡ [] → (keep (is_of n) l ≡ [] → map (given_up n) l ≡ l) → map (given_up n) (c ∷ l) ≡ c ∷ l
      by true h q r = let z : ◌≡◌ {A = ℕ} 0 1 = cc in absurd (omega arith)
      by false h q r = ap (λ (d : Chunk). d ∷ map (given_up n) l) (given_other n c h) ∙ ap (λ (m : List Chunk). c ∷ m) (r q)

  none_run : (l : List Chunk) → keep (is_of n) l ≡ [] → (l ≡ given_up_run n l) × (0 ≡ held_run n l)
  none_run [] e = (refl, refl)
  none_run (c ∷ l) e = by (is_of n c) e
    where
      by : (b : Bool) → (when b then (c ∷ keep (is_of n) l) else keep (is_of n) l) ≡ [] → (c ∷ l ≡ (when b then (given_up n c ∷ given_up_run n l) else (c ∷ l))) × (0 ≡ (when b then c.length + held_run n l else 0))
      by true q = let z : ◌≡◌ {A = ℕ} 0 1 = cc in absurd (omega arith)
      by false q = (refl, refl)

  none_leads : (l : List Chunk) → keep (is_of n) l ≡ [] → Leads l
  none_leads l e = let z = none_run l e in (none_given l e ∙ z.0, ap bytes e ∙ z.1)

  more_leads : (c : Chunk) (l : List Chunk) → is_of n c ≡ true → Leads l → Leads (c ∷ l)
  more_leads c l h a = (
    ap (λ (r : List Chunk). given_up n c ∷ r) a.0 ∙ sym (ap (λ (b : Bool). when b then (given_up n c ∷ given_up_run n l) else (c ∷ l)) h),
    ap (λ (b : Bool). bytes (when b then (c ∷ keep (is_of n) l) else keep (is_of n) l)) h ∙ ap (λ (k : ℕ). c.length + k) a.1
        ∙ sym (ap (λ (b : Bool). when b then c.length + held_run n l else 0) h),
  )

  -- ---- from an entry of the message on

  module _ (w : Option ℕ) where
    -- an entry that does not end the message has another behind it
    next_own : (c d : Chunk) → is_of n c ≡ true → d.message ≡ c.message → is_of n d ≡ true
    next_own c d h q = eq-eqb d.message.number n (ap (λ (x : Message). x.number) q ∙ eqb-true c.message.number n h)

    leads : (c : Chunk) (l : List Chunk) → is_of n c ≡ true → Contiguous w (c ∷ l) → Leads (c ∷ l)
    leads c [] h k = more_leads c [] h (refl, refl)
    leads c (d ∷ l) h k = more_leads c (d ∷ l) h (by c.ending k.0 (λ o. leads d l o k.1))
      where
        by : (b : Bool) → (when b then keep (is_of c.message.number) (d ∷ l) ≡ [] else (d.message ≡ c.message) × (d.beginning ≡ false)) → (is_of n d ≡ true → Leads (d ∷ l)) → Leads (d ∷ l)
        by true q r = none_leads (d ∷ l) (subst (λ (i : ℕ). keep (is_of i) (d ∷ l) ≡ []) (eqb-true c.message.number n h) q)
        by false q r = r (next_own c d h q.0)

    -- ---- where the run begins, by the first entry

    first_own : (c : Chunk) (l : List Chunk) (i : ℕ) → is_of n c ≡ true → first_of n i l ≡ 0 → first_of n (suc i) (c ∷ l) ≡ 0
    first_own c l zero h e = ap (λ (b : Bool). when b then 0 else 1) h
    first_own c l (suc i) h e = by (is_of n (get_or l i blank_chunk)) e (first_own c l i h)
      where
        by : (b : Bool) → (when b then first_of n i l else suc i) ≡ 0 → (first_of n i l ≡ 0 → first_of n (suc i) (c ∷ l) ≡ 0) → (when b then first_of n (suc i) (c ∷ l) else suc (suc i)) ≡ 0
        by true q r = r q
        by false q r = absurd (omega arith)

    first_other : (c : Chunk) (l : List Chunk) (i : ℕ) → is_of n c ≡ false → first_of n (suc i) (c ∷ l) ≡ suc (first_of n i l)
    first_other c l zero h = ap (λ (b : Bool). when b then 0 else 1) h
    first_other c l (suc i) h = by (is_of n (get_or l i blank_chunk)) (first_other c l i h)
      where
        by : (b : Bool) → first_of n (suc i) (c ∷ l) ≡ suc (first_of n i l) → (when b then first_of n (suc i) (c ∷ l) else suc (suc i)) ≡ suc (when b then first_of n i l else suc i)
        by true r = r
        by false r = refl

    whole_run : (c : Chunk) (l : List Chunk) (i : ℕ) → is_of n c ≡ true → Contiguous w (c ∷ l) → first_of n i (c ∷ l) ≡ 0 → AllNear i (c ∷ l)
    whole_run c l i h k e = let a = leads c l h k in (a.0 ∙ ap (λ (j : ℕ). given_up_from n j (c ∷ l)) (sym e), a.1 ∙ ap (λ (j : ℕ). held_from n j (c ∷ l)) (sym e))

    skipped : (c : Chunk) (l : List Chunk) (i : ℕ) → is_of n c ≡ false → AllNear i l → AllNear (suc i) (c ∷ l)
    skipped c l i h a =
        let f = sym (first_other c l i h) in (
          ap (λ (d : Chunk). d ∷ map (given_up n) l) (given_other n c h) ∙ ap (λ (r : List Chunk). c ∷ r) a.0 ∙ ap (λ (j : ℕ). given_up_from n j (c ∷ l)) f,
          ap (λ (b : Bool). bytes (when b then (c ∷ keep (is_of n) l) else keep (is_of n) l)) h ∙ a.1 ∙ ap (λ (j : ℕ). held_from n j (c ∷ l)) f,
        )

    -- ---- around an entry of the message

    first_entry : (c : Chunk) (l : List Chunk) (i : ℕ) (d : Chunk) → Contiguous w (c ∷ l) → is_of n c ≡ true → get_elem? (c ∷ l) i ≡ some d → is_of n d ≡ true → first_of n i (c ∷ l) ≡ 0
    first_entry c l zero d k h e q = refl
    first_entry c [] (suc zero) d k h e q = let z : none ≡ some d = e in let y : ◌≡◌ {A = ℕ} 0 1 = cc in absurd (omega arith)
    first_entry c [] (suc (suc i)) d k h e q = let z : none ≡ some d = e in let y : ◌≡◌ {A = ℕ} 0 1 = cc in absurd (omega arith)
    first_entry c (x ∷ l) (suc i) d k h e q = first_own c (x ∷ l) i h (by c.ending k.0 (λ o. first_entry x l i d k.1 o e q))
      where
        by : (b : Bool) → (when b then keep (is_of c.message.number) (x ∷ l) ≡ [] else (x.message ≡ c.message) × (x.beginning ≡ false)) → (is_of n x ≡ true → first_of n i (x ∷ l) ≡ 0) → first_of n i (x ∷ l) ≡ 0
        by true z r =
            let same : c.message.number ≡ d.message.number = eqb-true c.message.number n h ∙ sym (eqb-true d.message.number n q) in
            absurd (has_entry (x ∷ l) i d e (subst (λ (j : ℕ). keep (is_of j) (x ∷ l) ≡ []) same z))
        by false z r = r (next_own c x h z.0)

    pub near_entry : (l : List Chunk) (i : ℕ) (d : Chunk) → Contiguous w l → get_elem? l i ≡ some d → is_of n d ≡ true → AllNear i l
    near_entry [] zero d k e q = let z : none ≡ some d = e in let y : ◌≡◌ {A = ℕ} 0 1 = cc in absurd (omega arith)
    near_entry [] (suc i) d k e q = let z : none ≡ some d = e in let y : ◌≡◌ {A = ℕ} 0 1 = cc in absurd (omega arith)
    near_entry (c ∷ l) zero d k e q = let z : some c ≡ some d = e in let y : c ≡ d = cc in whole_run c l 0 (ap (is_of n) y ∙ q) k refl
    near_entry (c ∷ l) (suc i) d k e q = by (is_of n c) refl (near_entry l i d k.1 e q)
      where
        by : (b : Bool) → is_of n c ≡ b → AllNear i l → AllNear (suc i) (c ∷ l)
        by true h r = whole_run c l (suc i) h k (first_entry c l (suc i) d k h e q)
        by false h r = skipped c l i h r

    -- ---- at the end, where no entry ends the message

    abbrev Unended : List Chunk → Type 0
    Unended l = Each (λ c. is_of n c ≡ true → c.ending ≡ false) l

    first_end : (c : Chunk) (l : List Chunk) → Contiguous w (c ∷ l) → Unended (c ∷ l) → is_of n c ≡ true → first_of n (suc (length l)) (c ∷ l) ≡ 0
    first_end c [] k u h = first_own c [] 0 h refl
    first_end c (x ∷ l) k u h = first_own c (x ∷ l) (suc (length l)) h (first_end x l k.1 u.1 (next_own c x h (by c.ending (u.0 h) k.0)))
      where
        by : (b : Bool) → b ≡ false → (when b then keep (is_of c.message.number) (x ∷ l) ≡ [] else (x.message ≡ c.message) × (x.beginning ≡ false)) → x.message ≡ c.message
        by true z q = let y : ◌≡◌ {A = ℕ} 0 1 = cc in absurd (omega arith)
        by false z q = q.0

    pub near_end : (l : List Chunk) → Contiguous w l → Unended l → AllNear (length l) l
    near_end [] k u = (refl, refl)
    near_end (c ∷ l) k u = by (is_of n c) refl (near_end l k.1 u.1)
      where
        by : (b : Bool) → is_of n c ≡ b → AllNear (length l) l → AllNear (suc (length l)) (c ∷ l)
        by true h r = whole_run c l (suc (length l)) h k (first_end c l k u h)
        by false h r = skipped c l (length l) h r
