-- What a shard that begins is given: its slot, and its place. Definitions only.
use Rattle.std.specs.Prelude.{ℕ, zero, suc, ◌+◌, Bool, true, cond, ◌≡◌, List, [], map, eqb}
use Rattle.std.proofs.Math.Option.{none}
use Rattle.spec.specs.Lists.{any, lead, put}
use Rattle.spec.specs.Limits.{max_held}
use Rattle.spec.specs.Keys.{Key, key_below}
use Rattle.spec.specs.Node.Shards.{held_below, held_shard, with_held}
use Rattle.node_shard.specs.declared.Held.{Held}
use Rattle.node_shard.specs.View.{view_held, insert_at}
use Rattle.map_tables.specs.declared.ShardKey.{ShardKey}
use Rattle.map_tables.specs.Names.{view_key}
use Rattle.node_header.specs.declared.HeldRow.{HeldRow}
use Rattle.node_header.specs.declared.Node.{Node}
use Rattle.node_header.specs.View.{Stores, view_held_row, view_node, used}
use Rattle.node_header.specs.Formed.{slots_fit}
use Rattle.node_header.specs.Slots.{slots_of}

-- the first of `k` slots from `s` on that is none of these, or the next
unfoldable pub free_from : (k s : ℕ) → List ℕ → ℕ
free_from zero s l = s
free_from (suc k) s l = cond (any (λ t. eqb t s) l) (free_from k (s + 1) l) s

-- the lowest slot that is none of these; one of the eight unless all eight are among them
abbrev pub lowest_slot : List ℕ → ℕ
lowest_slot l = free_from max_held 0 l

-- the lowest slot that no shard has
abbrev pub lowest_free : List HeldRow → ℕ
lowest_free l = lowest_slot (map (λ (x : HeldRow). x.slot) l)

-- the shards below a key
abbrev pub below_key : Key → HeldRow → Bool
below_key k x = key_below (view_key x.key) k

-- a shard whose log is empty, put in by its key: behind those below it, in the lowest slot that is free
pub record Inserts (n : Node) (key : ShardKey) (h : Held) (r : Node) : Type 0 where
  pub count : r.count ≡ n.count + 1
  pub slots : slots_fit (used n) ≡ true → slots_fit (used r) ≡ true
  pub same : (s : Stores) → h.last ≡ 0 → held_shard (view_node s n) (view_key key) ≡ none
      → view_node s r ≡ with_held (view_node s n) (put held_below (view_held (view_key key) [] [] h) (map (view_held_row s) (used n)))
  pub slots_are : slots_of r ≡ insert_at (slots_of n) (lead (below_key (view_key key)) (used n)) (lowest_free (used n))
