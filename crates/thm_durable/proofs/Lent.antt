-- What passes the contracts' tests of the lent arrays (24) passes the definitions' tests of what they are read as. Assumes nothing.
use Prim.Native.Nat.{ℕ, ◌<◌}
use native.Mathlib.Omega.{arith}
use mathlib.Core.Path.{◌≡◌, refl, sym, ap, subst, ◌∙◌}
use mathlib.Core.Bool.{Bool, true, cond, not}
use mathlib.Core.List.{List, [], ◌∷◌, map}
use mathlib.Core.Option.{none, some}
use mathlib.Core.Logic.{◌⊎◌, inl, inr, ⊎_elim}
use lib.Dec.{leb}
use lib.ListN.{length, get_or, length-take}
use lib.Seq.{get_or-take}
use borrow.Author.Tests.{lt-ltb}
use Rattle.spec.specs.Lists.{◌and◌, find, lead, every}
use Rattle.spec.specs.Limits.{max_held, min_floats}
use Rattle.spec.specs.Keys.{Key}
use Rattle.spec.specs.Map.WellFormed.{well_formed_map}
use Rattle.spec.specs.Node.Held as held
use Rattle.spec.specs.Node.Shards.{of_key, held_shard}
use Rattle.spec.specs.Node.WellFormed.{well_formed_header, well_formed_log, log_if_held, well_formed_lent}
use Rattle.spec_laws.proofs.Lists.{and_true, and_left, and_right}
use Rattle.spec_laws.proofs.Node.Logs.{formed-log}
use Rattle.map_tables.specs.Names.{view_key}
use Rattle.map_tables.specs.View.{view_map}
use Rattle.map_tables.specs.declared.ShardMap.{ShardMap}
use Rattle.map_check.specs.Lent as maps
use Rattle.log_store.specs.Store.{replica_in}
use Rattle.log_store.proofs.Facts.{facts, store_in_step}
use Rattle.log_calls.proofs.FitLaws.{fits-well}
use Rattle.node_log_write.specs.Writes.{view_stored}
use Rattle.node_header.specs.declared.HeldRow.{HeldRow}
use Rattle.node_header.specs.declared.Node.{Node}
use Rattle.node_header.specs.View.{Stores, view_held_row, view_node, used, no_held_row}
use Rattle.node_header.specs.Formed.{counts_fit, slots_fit, lent_node}
use Rattle.node_header.proofs.Lists.{by_case}
use Rattle.node_lent.specs.Lend.{LentStore, store_of, held_row_store, place_of, lent_at, lent_for, slot_of, Lends}
use Rattle.node_lent.proofs.Lend.{slot_held, lends_view}

-- ---- a map

pub map-well : (m : ShardMap) → maps.well_formed_lent m ≡ true → well_formed_map (view_map m) ≡ true
unfolding maps.well_formed_lent
map-well m e = and_right (maps.counted m) (well_formed_map (view_map m)) e

-- ---- a header

pub header-well : (s : Stores) (n : Node) → lent_node s n ≡ true → well_formed_header (view_node s n) ≡ true
unfolding lent_node
header-well s n e =
    let w = well_formed_header (view_node s n) in
    let b = slots_fit (used n) in
    let c = every counts_fit (used n) in
    and_right b w (and_right c (b and w) (and_right (leb n.count max_held) (c and b and w) e))

-- ---- a header and the store of the shard that a call names

-- the first that passes is at the place where those that do not end
find-lead : {A B : Type 0} (v : A → B) (p : B → Bool) (d : A) (l : List A)
    → (find p (map v l) ≡ none)
    ⊎ ((lead (λ x. not (p (v x))) l < length l) × (find p (map v l) ≡ some (v (get_or l (lead (λ x. not (p (v x))) l) d))))
unfolding find lead
find-lead v p d [] = inl refl
find-lead v p d (x ∷ xs) =
    by_case (p (v x)) (λ e. inr (rw e (omega arith), rw e))
    (λ e.
    ⊎_elim (λ q. inl (rw e q)) (λ q. inr (rw e (let h = q.0 in omega arith), rw e q.1)) (find-lead v p d xs))

-- a store that passes is a log that is well formed
stored-well : (k : Key) (x : HeldRow) (a : LentStore) → held_row_store a x ≡ true → well_formed_log (view_stored k x.held (store_of a x)).replica ≡ true
unfolding held_row_store replica_in
stored-well k x a e =
    let s = store_of a x in
    let f = facts s (fits-well s e) in
    formed-log (replica_in x.held.epoch.0 x.held.metric s)
    (record { numbered = f.numbered; entries = f.entries; played = store_in_step s f x.held.epoch.0 x.held.metric })

module _ (s : Stores) (slot : ℕ) (a : LentStore) (n : Node) (k : Key) (l : Lends s slot a) (own : slot ≡ slot_of n k) where
  held-well : lent_at n a (place_of n k) ≡ true → place_of n k < length (used n)
      → log_if_held (some (view_held_row s (get_or (used n) (place_of n k) no_held_row))) ≡ true
  unfolding lent_at
  held-well e h =
      let at = place_of n k in
      let x = get_or n.held at no_held_row in
      let under : at < n.count = let q = length-take n.count n.held in omega arith in
      let stored : held_row_store a x ≡ true = subst (λ (b : Bool). cond b (held_row_store a x) (leb min_floats (length a.columns.floats)) ≡ true) (lt-ltb at n.count under) e in
      subst (λ (h : held.Held). log_if_held (some h) ≡ true)
      (sym (ap (view_held_row s) (get_or-take n.count n.held at no_held_row under) ∙ lends_view s slot a l x (sym (own ∙ slot_held n k at refl under))))
      (stored-well (view_key x.key) x a stored)

  log-well : lent_at n a (place_of n k) ≡ true → log_if_held (held_shard (view_node s n) k) ≡ true
  unfolding held_shard
  log-well e =
      ⊎_elim (λ q. rw q) (λ q. rw q.1 (held-well e q.0))
      (find-lead (view_held_row s) (of_key k) no_held_row (used n))

  pub lent-well : lent_for s n a k ≡ true → well_formed_lent (view_node s n) k ≡ true
  unfolding lent_for well_formed_lent
  lent-well e =
      and_true (well_formed_header (view_node s n)) (log_if_held (held_shard (view_node s n) k))
      (header-well s n (and_left (lent_node s n) (lent_at n a (place_of n k)) e))
      (log-well (and_right (lent_node s n) (lent_at n a (place_of n k)) e))
