-- What each fragment of a message is: of that message, untouched, of 1 to m bytes, and within the message.
use Prim.Native.Nat.{ℕ, zero, suc, ◌+◌, ◌-◌, ◌≤◌}
use native.Mathlib.Nat.{le_refl, div-zero}
use native.Mathlib.Omega.{arith}
use mathlib.Core.Path.{◌≡◌, refl}
use mathlib.Core.Bool.{Bool, false}
use Rattle.model.specs.declared.Chunk.{Chunk}
use Rattle.model.specs.declared.Message.{Message}
use Rattle.model.specs.Messages.{pieces, cut}
use Rattle.demands.specs.Words.{Each}
use Rattle.demands.proofs.Fragments.{each_fragment}
use Rattle.std.specs.Prelude.{None}

-- a fragment of x, of at most m bytes, that ends at e or before
pub record Piece (x : Message) (m e : ℕ) (c : Chunk) : Type 0 where
  pub message : c.message ≡ x
  pub full : 1 ≤ c.length
  pub short : c.length ≤ m
  pub reach : c.offset + c.length ≤ e
  pub unsent : c.since ≡ None
  pub nsent : c.nsent ≡ 0
  pub acked : c.acked ≡ false
  pub abandoned : c.abandoned ≡ false
  pub retransmit : c.retransmit ≡ false

-- for every m: into pieces of no bytes a message is cut into none
pub pieces_are : (x : Message) (b : Bool) (m o l : ℕ) → Each (Piece x m (o + l)) (cut x b (pieces l m) m o l)
pieces_are x b zero o l = rw (div-zero (l + (0 - 1))) tt
pieces_are x b (suc m) o l =
    each_fragment (Piece x (suc m) (o + l)) x (suc m) (o + l) (omega arith)
    (λ b e i k f g h. record { message = refl; full = f; short = g; reach = h; unsent = refl; nsent = refl; acked = refl; abandoned = refl; retransmit = refl })
    b o l (le_refl (o + l))
