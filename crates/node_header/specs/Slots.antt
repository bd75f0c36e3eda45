-- Which slot each shard of a header has: the store that keeps its log and its vectors. What the specification does not speak of, and what a call
-- that begins no shard and ends none leaves as it was. Definitions only.
use Rattle.std.specs.Prelude.{ℕ, ◌≡◌, List, map}
use Rattle.node_header.specs.declared.HeldRow.{HeldRow}
use Rattle.node_header.specs.declared.Node.{Node}
use Rattle.node_header.specs.View.{used}
use Rattle.node_header.specs.Arrays.{Fitting}

-- the slots of the shards in use, in their order
abbrev pub slots_of : Node → List ℕ
slots_of n = map (λ (x : HeldRow). x.slot) (used n)

-- r has the shards of n, by their slots
abbrev pub SameSlots : Node → Node → Type 0
SameSlots n r = slots_of r ≡ slots_of n

-- what is kept of a header's arrays by a call that begins no shard and ends none
pub record Keeps (n r : Node) : Type 0 where
  pub fits : Fitting n r
  pub slots_are : SameSlots n r
