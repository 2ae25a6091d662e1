-- What holds between two requests of a run, and from one to the next.
use Rattle.std.specs.Prelude.{◌≡◌, refl, List, [], ◌∷◌, ◌++◌, ℕ, ◌-◌, ◌/◌, min, length}
use Rattle.std.proofs.Common.{sym, ap, subst, ◌∙◌, arith}
use Rattle.std.proofs.lemmas.List.Edits.{sets}
use Rattle.limits.specs.Limits.{Room}
use Rattle.model.specs.State.{Sender}
use Rattle.model.specs.Requests.{Request, serve, served, replies}
use Rattle.rows.specs.Parts.{part_length}
use Rattle.cells.specs.Slots.{limit}
use Rattle.sender_head.specs.Whole.{table_words, halves, room_in}
use Rattle.coded_calls.specs.Words.{reply_words}
use Rattle.runs.specs.Runs.{all_words, After}

-- From s₀ the requests so far have led to s, and the tape, which was ws₀, is ws. `rs` are still to come, of `all`.
pub record Going (room : Room) (s₀ : Sender) (all rs : List Request) (s : Sender) (ws₀ ws : List ℕ) (at : ℕ) : Type 0 where
  pub sofar : List Request
  pub reached : s ≡ served room sofar s₀
  pub ahead : served room rs s ≡ served room all s₀
  pub told : sets ws at (all_words (replies room rs s)) ≡ sets ws₀ 0 (all_words (replies room all s₀))

pub begun : (room : Room) (s₀ s : Sender) (all : List Request) (ws : List ℕ) → s ≡ s₀ → Going room s₀ all all s ws ws 0
begun room s₀ s all ws e =
    record { sofar = []; reached = e; ahead = ap (served room all) e; told = ap (λ (o : Sender). sets ws 0 (all_words (replies room all o))) e }

-- one more request
served_more : (room : Room) (qs : List Request) (r : Request) (s : Sender) → served room (qs ++ r ∷ []) s ≡ (serve room r (served room qs s)).after
served_more room [] r s = refl
served_more room (q ∷ qs) r s = served_more room qs r (serve room q s).after

pub gone_on : {room : Room} {s₀ s t : Sender} {all rs : List Request} {r : Request} {ws₀ ws vs : List ℕ} {at n : ℕ} → Going room s₀ all (r ∷ rs) s ws₀ ws at
    → After room r s t ws vs at n → Going room s₀ all rs t ws₀ vs n
gone_on {room} {s₀} {s} {t} {all} {rs} {r} {ws₀} {ws} {vs} {at} {n} g a =
    record {
      sofar = g.sofar ++ r ∷ [];
      reached = a.state ∙ ap (λ (o : Sender). (serve room r o).after) g.reached ∙ sym (served_more room g.sofar r s₀);
      ahead = ap (served room rs) a.state ∙ g.ahead;
      told =
          a.tape (all_words (replies room rs t))
          ∙ ap (λ (o : Sender). sets ws at (reply_words (serve room r s).says ++ all_words (replies room rs o))) a.state ∙ g.told;
    }

-- cells of the same number have the same room
pub same_room : (ws vs : List ℕ) → length vs ≡ length ws → room_in vs ≡ room_in ws
same_room ws vs e =
    let k : table_words vs ≡ table_words ws = ap (λ (n : ℕ). min n 512) e in
    let a = part_length 0 (table_words ws) ws (omega arith) in
    let b = part_length 0 (table_words vs) vs (omega arith) in
    let c = part_length (table_words ws) (length ws) ws (omega arith) in
    let d = part_length (table_words vs) (length vs) vs (omega arith) in
    let t : length (halves vs).table ≡ length (halves ws).table = b ∙ ap (λ (n : ℕ). n - 0) k ∙ sym a in
    let q : length (halves vs).queue ≡ length (halves ws).queue = d ∙ (λ i. e i - k i) ∙ sym c in
    λ i. record { streams = min (t i / 8) limit; message = 65536; ring = min (q i / 24) limit; flight = min (q i / 24) limit }

-- the same of another name for the room
pub after_in : {room other : Room} {r : Request} {s t : Sender} {ws vs : List ℕ} {at n : ℕ} → room ≡ other → After room r s t ws vs at n → After other r s t ws vs at n
after_in {r = r} {s} {t} {ws} {vs} {at} {n} e a = subst (λ (o : Room). After o r s t ws vs at n) e a
