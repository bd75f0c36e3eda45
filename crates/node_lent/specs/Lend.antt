-- The lent state of a call that touches one shard's log (paper 01, 'Who is turned down', 24): a header, and the columns of one store.
-- Definitions only.
use Rattle.std.specs.Prelude.{ℕ, ◌≤◌, ◌<◌, ◌≡◌, Bool, true, false, cond, List, eqb, leb, ltb, Float, length, get_or, set}
use Rattle.spec.specs.Lists.{◌and◌, lead}
use Rattle.spec.specs.Limits.{min_floats}
use Rattle.spec.specs.Keys.{Key}
use Rattle.node_shard.specs.declared.Held.{Held}
use Rattle.log_store.specs.View.{Columns, columns, log_of}
use Rattle.log_store.specs.Table.{rows_of, vectors_of}
use Rattle.log_store.specs.Store.{Store, lent, Sized, well_formed_store}
use Rattle.log_calls.specs.Fits.{lent_fits}
use Rattle.node_header.specs.declared.HeldRow.{HeldRow}
use Rattle.node_header.specs.declared.Node.{Node}
use Rattle.node_header.specs.View.{Stores, used, other_key, no_held_row, with_held_rows}
use Rattle.node_header.specs.Formed.{lent_node, formed_node}
use Rattle.node_header.specs.Grow.{lowest_free}
use Rattle.node_lent.specs.declared.Lent.TheVariants as L
use Rattle.node_lent.specs.declared.Lent as found

-- the eight columns of a store; how much of them is used is in the header
pub record LentStore : Type 0 where
  pub columns : Columns
  pub keys : List ℕ
  pub places : List ℕ

abbrev pub lent_store : (epochs offsets ids codes lengths : List ℕ) → List Float → (keys places : List ℕ) → LentStore
lent_store es os is cs ls fs ks ps = record { columns = columns es os is cs ls fs; keys = ks; places = ps }

abbrev pub store_in : LentStore → (count stored : ℕ) → Store
store_in a count stored = lent a.columns a.keys a.places count stored

-- the store of a held shard
abbrev pub store_of : LentStore → HeldRow → Store
store_of a x = store_in a x.held.last x.stored

-- ---- the test

-- the lent store of a shard that is held, with as many entries and rows as the header says
unfoldable pub held_row_store : LentStore → HeldRow → Bool
held_row_store a x = lent_fits (store_of a x)

-- where the shard of a key stands, or the count
abbrev pub place_of : Node → Key → ℕ
place_of n k = lead (other_key k) (used n)

-- of a shard that is not held only the floats' length is tested
unfoldable pub lent_at : Node → LentStore → ℕ → Bool
lent_at n a at = cond (ltb at n.count) (held_row_store a (get_or n.held at no_held_row)) (leb min_floats (length a.columns.floats))

-- 'Who is turned down', 24, of a lent header and a lent store, for a call that names the key
unfoldable pub lent_for : Stores → Node → LentStore → Key → Bool
lent_for s n a k = lent_node s n and lent_at n a (place_of n k)

-- ---- whose store is lent

abbrev pub slot_at : Node → ℕ → ℕ
slot_at n at = cond (ltb at n.count) (get_or n.held at no_held_row).slot (lowest_free (used n))

-- the shard's own slot, or that in which it would begin
unfoldable pub slot_of : Node → Key → ℕ
slot_of n k = slot_at n (place_of n k)

-- a family of stores has these columns in a slot
pub record Lends (s : Stores) (slot : ℕ) (a : LentStore) : Type 0 where
  pub log : (last : ℕ) → s.log slot last ≡ log_of a.columns last
  pub vectors : (last stored : ℕ) → s.vectors slot last stored ≡ vectors_of (log_of a.columns last) (rows_of a.keys a.places stored)

-- two families, s before a call and t after it: the lent columns in the slot, and every other store the same
pub record Changes (s t : Stores) (slot : ℕ) (a b : LentStore) : Type 0 where
  pub before : Lends s slot a
  pub after : Lends t slot b
  pub log : (i : ℕ) → eqb i slot ≡ false → (last : ℕ) → t.log i last ≡ s.log i last
  pub vectors : (i : ℕ) → eqb i slot ≡ false → (last stored : ℕ) → t.vectors i last stored ≡ s.vectors i last stored

-- ---- what the test found

pub record Absents (n : Node) (k : Key) (a : LentStore) : Type 0 where
  pub lent : (s : Stores) → lent_for s n a k ≡ true
  pub inside : n.count ≤ length n.held
  pub gone : n.count ≤ place_of n k
  pub formed : formed_node n ≡ true

pub record Found (n : Node) (k : Key) (a : LentStore) (at : ℕ) : Type 0 where
  pub lent : (s : Stores) → lent_for s n a k ≡ true
  pub inside : n.count ≤ length n.held
  pub is : at ≡ place_of n k
  pub under : at < n.count
  pub formed : formed_node n ≡ true
  pub sized : Sized (store_of a (get_or n.held at no_held_row))
  pub well : well_formed_store (store_of a (get_or n.held at no_held_row)) ≡ true

abbrev pub Finds : Node → Key → LentStore → found.Lent → Type 0
Finds n k a L.Malformed = (s : Stores) → lent_for s n a k ≡ false
Finds n k a L.Absent = Absents n k a
Finds n k a (L.At at) = Found n k a at

-- ---- what a call leaves of the shard

abbrev pub held_row_with : HeldRow → Held → (stored : ℕ) → HeldRow
held_row_with x h stored = record { key = x.key; slot = x.slot; stored = stored; held = h }

abbrev pub with_store : Node → ℕ → Held → (stored : ℕ) → Node
with_store n at h stored = with_held_rows n (set n.held at (held_row_with (get_or n.held at no_held_row) h stored))

-- n the header before a call, p and b the header and the columns after: the store of a shard that was held before is well formed, with as
-- many entries and rows as the header then says
abbrev pub Whole : (n p : Node) → (b : LentStore) → Key → Type 0
Whole n p b k =
    let x = get_or p.held (place_of n k) no_held_row in
    ltb (place_of n k) n.count ≡ true → Sized (store_of b x) × (well_formed_store (store_of b x) ≡ true)
