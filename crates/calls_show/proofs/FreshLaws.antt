-- A header of a node that holds nothing. Assumes nothing.
use Prim.Native.Nat.{ℕ, ◌^◌, ◌≤◌, ◌<◌}
use mathlib.Core.Path.{◌≡◌, refl, subst}
use mathlib.Core.List.{List, []}
use lib.ListN.{length}
use native.Mathlib.Omega.{arith}
use Rattle.node_header.specs.Formed.{slots_fit}
use Rattle.node_header.specs.declared.Node.{Node}
use Rattle.node_show.specs.Shows.{StartsOver}
use Rattle.image_parts.specs.Shape.{Stored}
use Rattle.image_header.specs.Image.{no_node, head_of}
use Rattle.image_header.specs.Becomes.{HeaderWrites}
use Rattle.image_header.proofs.Back.{Fits}
use Rattle.image_header_put.proofs.Back.{whole}
use Rattle.calls_header.specs.Fresh.{fresh_node}

module _ (id incarnation : ℕ) where
  fits : id < 256 ^ 8 → incarnation < 256 ^ 8 → Fits (fresh_node id incarnation)
  unfolding no_node
  fits a b = record { id = a; incarnation = b; version = omega arith; expiry = omega arith; long = refl; rows = tt }

  -- without a row in use the first bytes are all
  pub fresh-put : (s t : List ℕ) → 10288 ≤ length s → id < 256 ^ 8 → incarnation < 256 ^ 8 → Stored s t 0 (head_of id incarnation 0 0 0 0) 48
      → HeaderWrites s t (fresh_node id incarnation)
  fresh-put s t room a b head = whole s t t (fresh_node id incarnation) [] room (fits a b) head refl refl

pub over : (n : Node) (id fresh : ℕ) → n.id.0 ≡ id → StartsOver n fresh (fresh_node id fresh)
unfolding slots_fit
over n id fresh e = record { same = λ s. rw e; slots = refl; slots_are = refl }

pub fresh_as : {s t : List ℕ} {id other incarnation : ℕ} → id ≡ other → HeaderWrites s t (fresh_node id incarnation) → HeaderWrites s t (fresh_node other incarnation)
fresh_as {s} {t} {id} {other} {incarnation} e w = subst (λ (x : ℕ). HeaderWrites s t (fresh_node x incarnation)) e w
