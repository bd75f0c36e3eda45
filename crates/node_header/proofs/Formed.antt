-- Laws of the header's test: its loops, and that it is the definition's test of what the header is read as, whatever its stores hold.
-- Assumes nothing.
use mathlib.Core.Path.{◌≡◌, refl, sym, ap, ◌∙◌}
use mathlib.Core.Bool.{Bool, true, false, not}
use mathlib.Core.List.{List, map}
use Prim.Native.Nat.{ℕ, ◌+◌, ◌<◌, ◌≤◌}
use native.Mathlib.Omega.{arith}
use lib.Dec.{leb, ltb}
use lib.ListN.{length, take, drop, get_or, length-take, length-map}
use borrow.Author.Tests.{leb-true, le-leb, lt-leb}
use Rattle.spec.specs.Lists.{◌and◌, any, every, rising}
use Rattle.spec.specs.Limits.{max_held, max_name, max_entries, max_replicas, max_workers}
use Rattle.spec.specs.Node.Shards.{held_below}
use Rattle.spec.specs.Node.WellFormed.{well_formed_held, well_formed_header}
use Rattle.spec_laws.proofs.Lists.{and_true, and_left, and_right}
use Rattle.spec_laws.proofs.Map.Rows.{every_to}
use Rattle.node_shard.specs.Formed.{formed_held}
use Rattle.node_shard.proofs.Loops.{used-next, used_over}
use Rattle.node_shard.proofs.View.{formed-view, view-formed}
use Rattle.node_shard.proofs.Formed.{formed-few}
use Rattle.map_tables.proofs.Tables.{every-at}
use Rattle.node_header.specs.declared.HeldRow.{HeldRow}
use Rattle.node_header.specs.declared.Node.{Node}
use Rattle.node_header.specs.View.{Stores, view_held_row, used}
use Rattle.node_header.specs.Formed.{counts_fit, on_slot, slots_fit, lent_node, held_row_fits, held_row_below, formed_node}
use Rattle.node_header.proofs.Lists.{agree, map-every, map-rising, every_both}

-- ---- the loop over the slots

module _ (xs : List HeldRow) (n i : ℕ) (le : n ≤ length xs) (inv : slots_fit (take n xs) ≡ slots_fit (drop i (take n xs))) where
  opened : (d : HeldRow) → i < n
      → slots_fit (take n xs)
      ≡ (ltb (get_or xs i d).slot max_held and not (any (on_slot (get_or xs i d).slot) (drop (i + 1) (take n xs))) and slots_fit (drop (i + 1) (take n xs)))
  unfolding slots_fit
  opened d h = inv ∙ rw (used-next xs n i d le h)

  pub slots-on : (d : HeldRow) → i < n → ltb (get_or xs i d).slot max_held ≡ true
      → any (on_slot (get_or xs i d).slot) (drop (i + 1) (take n xs)) ≡ false → slots_fit (take n xs) ≡ slots_fit (drop (i + 1) (take n xs))
  unfolding ◌and◌
  slots-on d h a b = opened d h ∙ rw (a, b)

  pub slots_over : (d : HeldRow) → i < n → ltb (get_or xs i d).slot max_held ≡ false → false ≡ slots_fit (take n xs)
  unfolding ◌and◌
  slots_over d h a = sym (opened d h ∙ rw a)

  pub slots_twice : (d : HeldRow) → i < n → ltb (get_or xs i d).slot max_held ≡ true
      → any (on_slot (get_or xs i d).slot) (drop (i + 1) (take n xs)) ≡ true → false ≡ slots_fit (take n xs)
  unfolding ◌and◌
  slots_twice d h a b = sym (opened d h ∙ rw (a, b))

  pub slots_end : n ≤ i → true ≡ slots_fit (take n xs)
  unfolding slots_fit
  slots_end h = sym (inv ∙ rw (used_over xs n i le h))

-- ---- one shard, the ways out of its test

module _ (x : HeldRow) where
  abbrev named : Bool
  named = leb x.key.collection.len max_name

  abbrev rows : Bool
  rows = leb x.stored max_entries

  pub kept_long : max_name < x.key.collection.len → false ≡ held_row_fits x
  unfolding held_row_fits ◌and◌
  kept_long h = rw (lt-leb x.key.collection.len max_name h)

  module _ (a : x.key.collection.len ≤ max_name) where
    pub kept_over : max_entries < x.stored → false ≡ held_row_fits x
    unfolding held_row_fits ◌and◌
    kept_over h = rw (le-leb x.key.collection.len max_name a, lt-leb x.stored max_entries h)

    pub kept-rest : x.stored ≤ max_entries → (b : Bool) → b ≡ formed_held x.held → b ≡ held_row_fits x
    unfolding held_row_fits ◌and◌
    kept-rest h b e = e ∙ sym (rw (le-leb x.key.collection.len max_name a) (rw (le-leb x.stored max_entries h)))

  -- ---- the same as facts

  abbrev holds : Bool
  holds = leb x.held.holders max_replicas

  abbrev peers : Bool
  peers = leb x.held.count max_workers

  pub kept-held : held_row_fits x ≡ true → formed_held x.held ≡ true
  unfolding held_row_fits
  kept-held e = and_right rows (formed_held x.held) (and_right named (rows and formed_held x.held) e)

  holders-few : formed_held x.held ≡ true → holds ≡ true
  unfolding formed_held
  holders-few e = and_left holds _ e

  counts_of : held_row_fits x ≡ true → counts_fit x ≡ true
  unfolding held_row_fits counts_fit
  counts_of e =
      let r = and_right named (rows and formed_held x.held) e in
      let h = and_right rows (formed_held x.held) r in
      and_true named (rows and holds and peers) (and_left named (rows and formed_held x.held) e)
      (and_true rows (holds and peers) (and_left rows (formed_held x.held) r)
      (and_true holds peers (holders-few h) (le-leb x.held.count max_workers (formed-few x.held h))))

  well_of : (s : Stores) → held_row_fits x ≡ true → well_formed_held (view_held_row s x) ≡ true
  unfolding held_row_fits
  well_of s e =
      let a = leb-true x.key.collection.len max_name (and_left named (rows and formed_held x.held) e) in
      let q = length-take x.key.collection.len x.key.collection.bytes in
      formed-view x.held _ _ _ (s.long x.slot x.held.last) (le-leb (length (take x.key.collection.len x.key.collection.bytes)) max_name (omega arith)) (kept-held e)

  fits_of : (s : Stores) → counts_fit x ≡ true → well_formed_held (view_held_row s x) ≡ true → held_row_fits x ≡ true
  unfolding held_row_fits counts_fit
  fits_of s e w =
      let r = and_right named (rows and holds and peers) e in
      let t = and_right rows (holds and peers) r in
      and_true named (rows and formed_held x.held) (and_left named (rows and holds and peers) e)
      (and_true rows (formed_held x.held) (and_left rows (holds and peers) r)
      (view-formed x.held _ _ _ (s.long x.slot x.held.last) (leb-true x.held.holders max_replicas (and_left holds peers t))
      (leb-true x.held.count max_workers (and_right holds peers t)) w))

-- ---- the header

module _ (n : Node) where
  abbrev few : Bool
  few = leb n.count max_held

  abbrev rise : Bool
  rise = rising held_row_below (used n)

  abbrev fit : Bool
  fit = every held_row_fits (used n)

  abbrev apart : Bool
  apart = slots_fit (used n)

  pub header_over : max_held < n.count → false ≡ formed_node n
  unfolding formed_node ◌and◌
  header_over h = rw (lt-leb n.count max_held h)

  pub header-rest : n.count ≤ max_held → (b : Bool) → b ≡ (rise and fit and apart) → b ≡ formed_node n
  unfolding formed_node
  header-rest h b e = e ∙ sym (ap (λ (a : Bool). a and rise and fit and apart) (le-leb n.count max_held h) ∙ (unfold ◌and◌ in refl))

  -- what a passed test tells
  pub header-few : formed_node n ≡ true → n.count ≤ max_held
  unfolding formed_node
  header-few e = leb-true n.count max_held (and_left few (rise and fit and apart) e)

  pub header-fit : formed_node n ≡ true → fit ≡ true
  unfolding formed_node
  header-fit e = and_left fit apart (and_right rise (fit and apart) (and_right few (rise and fit and apart) e))

  pub header-rise : formed_node n ≡ true → rise ≡ true
  unfolding formed_node
  header-rise e = and_left rise (fit and apart) (and_right few (rise and fit and apart) e)

  pub header-apart : formed_node n ≡ true → apart ≡ true
  unfolding formed_node
  header-apart e = and_right fit apart (and_right rise (fit and apart) (and_right few (rise and fit and apart) e))

  -- each of its shards is formed
  pub shard-formed : formed_node n ≡ true → n.count ≤ length n.held → (at : ℕ) → at < n.count → (d : HeldRow) → formed_held (get_or n.held at d).held ≡ true
  shard-formed e le at h d = kept-held (get_or n.held at d) (every-at held_row_fits n.held n.count at d le (header-fit e) h)

  module _ (s : Stores) where
    abbrev counted : Bool
    counted = every counts_fit (used n)

    abbrev short : Bool
    short = leb (length (map (view_held_row s) (used n))) max_held

    abbrev held_rise : Bool
    held_rise = rising held_below (map (view_held_row s) (used n))

    abbrev well : Bool
    well = every well_formed_held (map (view_held_row s) (used n))

    in_short : n.count ≤ max_held → short ≡ true
    in_short h =
        let a = length-map (used n) (view_held_row s) in
        let b = length-take n.count n.held in
        le-leb (length (map (view_held_row s) (used n))) max_held (omega arith)

    to : formed_node n ≡ true → lent_node s n ≡ true
    unfolding lent_node well_formed_header
    to e =
        let f = header-fit e in
        let h = header-few e in
        and_true few (counted and apart and short and held_rise and well) (le-leb n.count max_held h)
        (and_true counted (apart and short and held_rise and well) (every_to held_row_fits counts_fit (λ x. counts_of x) (used n) f)
        (and_true apart (short and held_rise and well) (header-apart e)
        (and_true short (held_rise and well) (in_short h)
        (and_true held_rise well (map-rising (view_held_row s) held_below (used n) ∙ header-rise e)
        (map-every (view_held_row s) well_formed_held (used n) ∙ every_to held_row_fits (λ x. well_formed_held (view_held_row s x)) (λ x. well_of x s) (used n) f)))))

    from : lent_node s n ≡ true → formed_node n ≡ true
    unfolding lent_node well_formed_header formed_node
    from e =
        let r = and_right few (counted and apart and short and held_rise and well) e in
        let t = and_right counted (apart and short and held_rise and well) r in
        let u = and_right apart (short and held_rise and well) t in
        let w = and_right short (held_rise and well) u in
        and_true few (rise and fit and apart) (and_left few (counted and apart and short and held_rise and well) e)
        (and_true rise (fit and apart) (sym (map-rising (view_held_row s) held_below (used n)) ∙ and_left held_rise well w)
        (and_true fit apart
        (every_both counts_fit (λ x. well_formed_held (view_held_row s x)) held_row_fits (λ x. fits_of x s) (used n)
        (and_left counted (apart and short and held_rise and well) r)
        (sym (map-every (view_held_row s) well_formed_held (used n)) ∙ and_right held_rise well w))
        (and_left apart (short and held_rise and well) t)))

    -- the two tests are one
    pub formed-lent : formed_node n ≡ lent_node s n
    formed-lent = agree (formed_node n) (lent_node s n) to from
