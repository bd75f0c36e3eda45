-- Paper 01, 'Who is turned down', 24: what is malformed of a header as it is lent: the paper's list on what it is read as, a count over
-- what its array holds, and a slot that is none of the eight or has two shards (DECISIONS). Definitions only.
use Rattle.std.specs.Prelude.{ℕ, Bool, true, not, ◌≡◌, List, [], ◌∷◌, eqb, leb, ltb}
use Rattle.spec.specs.Lists.{◌and◌, any, every, rising}
use Rattle.spec.specs.Limits.{max_held, max_name, max_entries, max_replicas, max_workers}
use Rattle.spec.specs.Keys.{key_below}
use Rattle.spec.specs.Node.WellFormed.{well_formed_header}
use Rattle.node_shard.specs.Formed.{formed_held}
use Rattle.map_tables.specs.Names.{view_key}
use Rattle.node_header.specs.declared.HeldRow.{HeldRow}
use Rattle.node_header.specs.declared.Node.{Node}
use Rattle.node_header.specs.View.{Stores, view_node, used}

-- ---- the definition

-- 'a count over its limit', of the arrays and the table of one shard
unfoldable pub counts_fit : HeldRow → Bool
counts_fit x =
    leb x.key.collection.len max_name
    and leb x.stored max_entries
    and leb x.held.holders max_replicas
    and leb x.held.count max_workers

-- a shard in that slot
abbrev pub on_slot : ℕ → HeldRow → Bool
on_slot s x = eqb x.slot s

-- every slot is one of the eight, and no two shards have the same
unfoldable pub slots_fit : List HeldRow → Bool
slots_fit [] = true
slots_fit (x ∷ xs) = ltb x.slot max_held and not (any (on_slot x.slot) xs) and slots_fit xs

-- 'Who is turned down', 24, of a lent header
unfoldable pub lent_node : Stores → Node → Bool
lent_node s n =
    leb n.count max_held and every counts_fit (used n) and slots_fit (used n) and well_formed_header (view_node s n)

-- ---- the same without the stores

unfoldable pub held_row_fits : HeldRow → Bool
held_row_fits x = leb x.key.collection.len max_name and leb x.stored max_entries and formed_held x.held

abbrev pub held_row_below : HeldRow → HeldRow → Bool
held_row_below x y = key_below (view_key x.key) (view_key y.key)

unfoldable pub formed_node : Node → Bool
formed_node n = leb n.count max_held and rising held_row_below (used n) and every held_row_fits (used n) and slots_fit (used n)

-- what the test of a header promises
pub record Formed (n : Node) (r : Bool) : Type 0 where
  pub plain : r ≡ formed_node n
  pub same : (s : Stores) → r ≡ lent_node s n
