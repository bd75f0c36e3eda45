-- What a call that is not refused leaves of a header's image: every byte is a function of the bytes before, and the image is read as the
-- `spec`'s node after the call. Definitions only.
use Rattle.std.specs.Prelude.{ℕ, true, ◌≡◌, List}
use Rattle.std.proofs.lemmas.List.Edits.{sets}
use Rattle.spec.specs.Lists.{every}
use Rattle.spec.specs.Node.Held as held
use Rattle.spec.specs.Node.WellFormed.{well_formed_header}
use Rattle.node_header.specs.View.{Stores, view_node}
use Rattle.node_header.specs.Formed.{formed_node}
use Rattle.node_header.specs.Slots.{slots_of}
use Rattle.image_header.specs.Image.{header_lent, node_at}
use Rattle.image_header.specs.Becomes.{Counted, table_fits, header_image}

-- s became t, in which `after` stands, its shards in `slots`, for whatever the stores hold: its bytes, those past them as they were; that it
-- lends a header; and that this is read as `after`, each shard in its slot
pub record Leaves (s t : List ℕ) (after : Stores → held.Node) (slots : Stores → List ℕ) : Type 0 where
  pub bytes : (st : Stores) → Counted st → t ≡ sets s 0 (header_image (after st) (slots st))
  pub lent : header_lent t ≡ true
  pub read : (st : Stores) → view_node st (node_at t) ≡ after st
  pub slots_are : (st : Stores) → slots_of (node_at t) ≡ slots st

-- a call that begins no shard and ends none: each has the slot that it had
abbrev pub LeavesSlots : (s t : List ℕ) → (after : Stores → held.Node) → Type 0
LeavesSlots s t after = Leaves s t after (λ st. slots_of (node_at s))

-- a refused call: no byte changes, and the specification's node after it is the node before, as which the image is read
pub record Stays (s t : List ℕ) (after : Stores → held.Node) : Type 0 where
  pub bytes : t ≡ s
  pub read : (st : Stores) → view_node st (node_at t) ≡ after st

-- a header that is well formed is well formed after, if the specification's node after is: the next call does not find it malformed
abbrev pub StaysFormed : (s t : List ℕ) → (after : Stores → held.Node) → Type 0
StaysFormed s t after = formed_node (node_at s) ≡ true → (st : Stores) → well_formed_header (after st) ≡ true → formed_node (node_at t) ≡ true

-- the same of a map shown, after which the tables fit as well
abbrev pub ShownFormed : (s t : List ℕ) → (after : Stores → held.Node) → Type 0
ShownFormed s t after =
    formed_node (node_at s) ≡ true → (st : Stores) → Counted st → well_formed_header (after st) ≡ true → every table_fits (after st).held ≡ true
    → formed_node (node_at t) ≡ true
