-- What a lease grant over a header's image promises: 21 and 24 as every call, then the contract of the grant on the header that the bytes are
-- read as, its number, and every byte after. Definitions only.
use Rattle.std.specs.Prelude.{ℕ, Bool, true, false, ◌≡◌, List}
use Rattle.spec.specs.Lists.{◌or◌}
use Rattle.spec.specs.Node.Held as held
use Rattle.spec.specs.Node.Shards.{Result}
use Rattle.spec.specs.Node.Lease as leases
use Rattle.spec.specs.Node.Calls as calls
use Rattle.node_header.specs.declared.GrantAnswer.{GrantAnswer}
use Rattle.node_header.specs.declared.GrantAnswer.TheVariants as G
use Rattle.node_header.specs.declared.NodeGranted.{NodeGranted}
use Rattle.node_header.specs.Answers.{GrantsNode}
use Rattle.node_header.specs.View.{Stores, view_node}
use Rattle.node_header.specs.Formed.{lent_node}
use Rattle.node_header.specs.Slots.{Keeps}
use Rattle.image_header.specs.Image.{header_lent, node_at}
use Rattle.calls_header.specs.Asked.{Asked, image_after}
use Rattle.calls_header.specs.Leaves.{LeavesSlots, Stays, StaysFormed}

abbrev pub grant_number : GrantAnswer → ℕ
grant_number G.Granted = 0
grant_number (G.Refused k) = k

abbrev pub is_granted : GrantAnswer → Bool
is_granted G.Granted = true
is_granted (G.Refused k) = false

-- the specification's grant, on the header that the bytes are read as
abbrev pub granted : List ℕ → (incarnation sent lease : ℕ) → Stores → Result leases.GrantAnswer held.Node
granted s incarnation sent lease st = calls.grant_with (lent_node st (node_at s)) (view_node st (node_at s)) incarnation sent lease

-- the image holds s before and t after
pub record GrantsImage (s t : List ℕ) (incarnation sent lease r : ℕ) : Type 0 where
  pub after : NodeGranted
  pub call : GrantsNode (node_at s) incarnation sent lease after
  pub keeps : Keeps (node_at s) after.node
  pub answer : r ≡ grant_number after.answer
  pub image : t ≡ image_after (is_granted after.answer) s after.node
  pub leaves : is_granted after.answer ≡ true → LeavesSlots s t (λ st. (granted s incarnation sent lease st).after)
  pub stays : is_granted after.answer ≡ false → Stays s t (λ st. (granted s incarnation sent lease st).after)
  pub formed : StaysFormed s t (λ st. (granted s incarnation sent lease st).after)

abbrev pub Grants : (s t : List ℕ) → (incarnation sent lease r : ℕ) → Type 0
Grants s t incarnation sent lease r =
    Asked (calls.late_time sent or calls.late_time lease) (header_lent s) r (t ≡ s) (GrantsImage s t incarnation sent lease r)
