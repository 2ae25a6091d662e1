-- By induction on the requests; the single calls of a SACK acknowledge and pop, and yield nothing.
use mathlib.Core.Path.{◌≡◌, refl, sym, ap, ◌∙◌}
use mathlib.Core.Bool.{Bool, true, false}
use mathlib.Core.List.{List, [], ◌∷◌, ◌++◌, map, append_assoc, append-nil}
use Prim.Native.Nat.{ℕ, ◌+◌, ◌-◌, ◌%◌}
use lib.ListN.{length}
use Rattle.limits.specs.Limits.{Room, tsns}
use Rattle.model.specs.declared.Block.{Block}
use Rattle.model.specs.declared.Chunk.{Chunk}
use Rattle.model.specs.Lists.{when◌then◌else◌}
use Rattle.model.specs.State.{Sender}
use Rattle.model.specs.Calls.{Call, Acknowledge, Pop, step, run, answers, yielded, yields_of}
use Rattle.model.specs.Sack.{cumulative_of, is_sack, blocks_in, all_within}
use Rattle.model.specs.Sacks.{covered, is_stale, tsns_from, acknowledged_and_popped, block_calls, sack_calls}
use Rattle.model.specs.Requests.{Request, Single, ReadSack, Reply, answered, serve, served, replies, singles, all_singles}
use Rattle.demands.proofs.Requests.{are_single_calls}
use Rattle.runs.specs.Claims.{CallsAreRequests, FurtherRequests, yielded_in, YieldsAreTold}

calls_state : (room : Room) (ks : List Call) (s : Sender) → served room (map Single ks) s ≡ run room ks s
calls_state room [] s = refl
calls_state room (k ∷ ks) s = calls_state room ks (step room k s).after

calls_told : (room : Room) (ks : List Call) (s : Sender) → replies room (map Single ks) s ≡ map answered (answers room ks s)
calls_told room [] s = refl
calls_told room (k ∷ ks) s = ap (λ (rest : List Reply). answered (step room k s).says ∷ rest) (calls_told room ks (step room k s).after)

pub calls_are_requests : CallsAreRequests
calls_are_requests = record { state = calls_state; told = calls_told }

pub further_requests : FurtherRequests
further_requests room [] qs s = refl
further_requests room (r ∷ rs) qs s = ap (λ (rest : List Reply). (serve room r s).says ∷ rest) (further_requests room rs qs (serve room r s).after)

-- ---- what is yielded

-- by some calls, and then by more
yields_join : (room : Room) (ks js : List Call) (s : Sender) → yields_of room (ks ++ js) s ≡ yields_of room ks s ++ yields_of room js (run room ks s)
yields_join room [] js s = refl
yields_join room (k ∷ ks) js s =
    let t = (step room k s).after in
    ap (λ (rest : List Chunk). yielded (step room k s).says ++ rest) (yields_join room ks js t)
    ∙ sym (append_assoc (yielded (step room k s).says) (yields_of room ks t) (yields_of room js (run room ks t)))

-- calls of which none yields
abbrev Silent : Room → List Call → Type 0
Silent room ks = (s : Sender) → yields_of room ks s ≡ []

silent_join : (room : Room) (ks js : List Call) → Silent room ks → Silent room js → Silent room (ks ++ js)
silent_join room ks js p q s = yields_join room ks js s ∙ λ i. p s i ++ q (run room ks s) i

silent_popped : (room : Room) (ts : List ℕ) → Silent room (acknowledged_and_popped ts)
silent_popped room [] s = refl
silent_popped room (t ∷ ts) s = silent_popped room ts (step room (Pop t) (step room (Acknowledge t) s).after).after

silent_acknowledged : (room : Room) (ts : List ℕ) → Silent room (map Acknowledge ts)
silent_acknowledged room [] s = refl
silent_acknowledged room (t ∷ ts) s = silent_acknowledged room ts (step room (Acknowledge t) s).after

silent_blocks : (room : Room) (t : ℕ) (l : List Block) → Silent room (block_calls t l)
silent_blocks room t [] s = refl
silent_blocks room t (b ∷ l) s =
    let ts = tsns_from (b.end + 1 - b.start) ((t + b.start) % tsns) in
    silent_join room (map Acknowledge ts) (block_calls t l) (silent_acknowledged room ts) (silent_blocks room t l) s

-- by whether it is one, whether it is stale, and whether its blocks are good
silent_singles : (room : Room) (ks : List Call) (is stale good : Bool) → Silent room ks → Silent room (when is then (when stale then [] else when good then ks else []) else [])
silent_singles room ks true true good p s = refl
silent_singles room ks true false true p s = p s
silent_singles room ks true false false p s = refl
silent_singles room ks false stale good p s = refl

silent_sack : (room : Room) (p : List ℕ) (s : Sender) → yields_of room (singles (ReadSack p) s) s ≡ []
silent_sack room p s =
    let t = cumulative_of p in
    let l = blocks_in p in
    let f = s.flight in
    let ts = tsns_from (covered t f) f.oldest in
    silent_singles room (sack_calls t l f) (is_sack p) (is_stale t f) (all_within (length f.entries - covered t f) l)
    (silent_join room (acknowledged_and_popped ts) (block_calls t l) (silent_popped room ts) (silent_blocks room t l)) s

yields_of_lem : (room : Room) (r : Request) (s : Sender) → yields_of room (singles r s) s ≡ yielded_in (serve room r s).says
yields_of_lem room (Single k) s = append-nil (yielded (step room k s).says)
yields_of_lem room (ReadSack p) s = silent_sack room p s

-- the state that a request leaves is that of its single calls
after_singles : (room : Room) (r : Request) (s : Sender) → run room (singles r s) s ≡ (serve room r s).after
after_singles room r s = ap (λ (ks : List Call). run room ks s) (sym (append-nil (singles r s))) ∙ sym (are_single_calls room (r ∷ []) s)

pub yields_are_told : YieldsAreTold
yields_are_told room [] s = refl
yields_are_told room (r ∷ rs) s =
    let t = (serve room r s).after in
    yields_join room (singles r s) (all_singles room rs t) s
    ∙ ap (λ (o : Sender). yields_of room (singles r s) s ++ yields_of room (all_singles room rs t) o) (after_singles room r s)
    ∙ λ i. yields_of_lem room r s i ++ yields_are_told room rs t i
