-- The slots of the shards held after a map: a shard that was held keeps its slot, and each that begins takes, in the order of the keys,
-- the lowest slot that no other has then. Definitions only.
use Rattle.std.specs.Prelude.{ℕ, Bool, true, not, cond, ◌≡◌, List, [], ◌∷◌, ◌++◌, map, eqb, leb, ltb, get_or}
use Rattle.spec.specs.Lists.{◌and◌, ◌or◌, any, lead}
use Rattle.spec.specs.Limits.{max_held}
use Rattle.spec.specs.Keys.{Key, same_key}
use Rattle.spec.specs.Node.Held as held
use Rattle.node_header.specs.declared.HeldRow.{HeldRow}
use Rattle.node_header.specs.View.{Stores, view_held_row}
use Rattle.node_header.specs.Formed.{on_slot, slots_fit}
use Rattle.node_header.specs.Grow.{lowest_slot}

-- ---- the slots after

abbrev pub keys_of : held.Node → List Key
keys_of n = map (λ (h : held.Held). h.key) n.held

-- the slot of a key's shard, of the shards of these keys in these slots; none where there is no such shard
abbrev pub slot_before : List Key → List ℕ → Key → ℕ
slot_before keys slots k = get_or slots (lead (λ j. not (same_key j k)) keys) max_held

-- `before` have a slot. Of `rest`, one that has a slot keeps it, and one that has none takes the lowest that none of the others has then
unfoldable pub slotted : (before rest : List ℕ) → List ℕ
slotted before [] = before
slotted before (t ∷ rest) = slotted (before ++ (cond (ltb t max_held) t (lowest_slot (before ++ rest)) ∷ [])) rest

-- the slots of the shards of the node n, where those of the node before it had `slots`
unfoldable pub slots_after : held.Node → (slots : List ℕ) → (n : held.Node) → List ℕ
slots_after old slots n = slotted [] (map (slot_before (keys_of old) slots) (keys_of n))

-- ---- what the loop that gives out slots keeps

abbrev pub slotted_at : HeldRow → ℕ → HeldRow
slotted_at x slot = record { key = x.key; slot = slot; stored = x.stored; held = x.held }

-- a shard that has a slot, or one that begins
abbrev pub open_fits : HeldRow → Bool
open_fits x = ltb x.slot max_held or (eqb x.held.last 0 and eqb x.stored 0)

-- no two shards that have a slot have the same
unfoldable pub slots_open : List HeldRow → Bool
slots_open [] = true
slots_open (x ∷ xs) = (leb max_held x.slot or not (any (on_slot x.slot) xs)) and slots_open xs

-- every shard has a slot of its own then, the lowest that was left where it had none, and nothing else changed
pub record Assigns (l r : List HeldRow) : Type 0 where
  pub same : (s : Stores) → map (view_held_row s) r ≡ map (view_held_row s) l
  pub slots : slots_open l ≡ true → slots_fit r ≡ true
  pub slots_are : map (λ (x : HeldRow). x.slot) r ≡ slotted [] (map (λ (x : HeldRow). x.slot) l)
