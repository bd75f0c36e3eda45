-- The collections of a map after a new one was put in. Assumes nothing.
use Prim.Native.Nat.{ℕ, zero, suc, ◌+◌, ◌-◌, ◌*◌, ◌^◌, ◌≤◌, ◌<◌}
use mathlib.Core.Path.{◌≡◌, refl, sym, ap, subst, ◌∙◌}
use mathlib.Core.Bool.{Bool, true, false, cond}
use mathlib.Core.List.{List, [], ◌∷◌, map}
use lib.ListN.{length, get_or, get_or-map}
use lib.Seq.{sets}
use native.Mathlib.Omega.{arith}
use Rattle.spec.specs.Keys.{Name, name_below, same_name}
use Rattle.spec.specs.Lists.{put, lead, any}
use Rattle.spec.specs.Layout.Format.{number_at, bytes_of}
use Rattle.spec.specs.Map.Create.{collection_below, has_collection, is_named}
use Rattle.spec.specs.Map.Tables as tables
use Rattle.spec_laws.proofs.Lists.{not_both}
use Rattle.spec_laws.proofs.Map.Orders.{names, name-same}
use Rattle.map_tables.specs.Names.{view_name}
use Rattle.map_tables.specs.View.{view_collection, view_collections}
use Rattle.map_tables.specs.declared.CollectionRow.{CollectionRow}
use Rattle.map_tables.proofs.Tables.{lead-most}
use Rattle.image_parts.specs.Shape.{Stored, items}
use Rattle.image_parts.proofs.Images.{length-items}
use Rattle.image_map_row.specs.Rows.{collection_at, collection_bytes}
use Rattle.image_map.specs.Image.{no_collection, collections_at}
use Rattle.image_map.proofs.Back.{CollectionFits}
use Rattle.image_map_check.proofs.RowLaws.{item_at}
use Rattle.image_map_put.specs.Few.{Few}
use Rattle.image_map_put.specs.Rows.{collection_rows, read_as}
use Rattle.image_map_put.proofs.Tidy.{rows-used}
use Rattle.image_map_put.proofs.Whole.{collections_long, collection-same}
use Rattle.image_move.specs.Moved.{Moved}
use Rattle.image_map_edit.specs.Becomes.{CollectionsBecome}
use Rattle.image_map_edit.proofs.Put.{in_place}
use Rattle.image_map_edit.proofs.Types.{collection-back}

module _ {A : Type 0} (p : A → Bool) (d : A) where
  -- the row that ends a scan does not pass
  lead-ends : (l : List A) → lead p l < length l → p (get_or l (lead p l) d) ≡ false
  unfolding lead
  lead-ends [] = λ h. absurd (omega arith)
  lead-ends (y ∷ ys) = go (p y) refl (lead-ends ys)
    where
      go : (b : Bool) → p y ≡ b → (lead p ys < length ys → p (get_or ys (lead p ys) d) ≡ false) → cond b (suc (lead p ys)) zero < suc (length ys)
          → p (get_or (y ∷ ys) (cond b (suc (lead p ys)) zero) d) ≡ false
      go true e more h = more (omega arith)
      go false e more h = e

  -- where no row passes, none at a place does
  none-at : (l : List A) (i : ℕ) → any p l ≡ false → i < length l → p (get_or l i d) ≡ false
  unfolding any
  none-at [] i e h = absurd (omega arith)
  none-at (y ∷ ys) zero e h = go (p y) refl e
    where
      go : (b : Bool) → p y ≡ b → cond b true (any p ys) ≡ false → p y ≡ false
      go true q w = not_both true refl w
      go false q w = q
  none-at (y ∷ ys) (suc i) e h = none-at ys i (go (p y) e) (omega arith)
    where
      go : (b : Bool) → cond b true (any p ys) ≡ false → any p ys ≡ false
      go true w = not_both true refl w
      go false w = w

module _ (s : List ℕ) (few : Few s) (name : Name) (at : ℕ) (found : at ≡ lead (λ (y : tables.Collection). name_below y.name name) (view_collections (collections_at s))) where
  found_in_lem : at ≡ lead (λ (y : tables.Collection). name_below y.name name) (read_as s).collections
  found_in_lem = found ∙ ap (λ (r : List CollectionRow). lead (λ (y : tables.Collection). name_below y.name name) (map view_collection r)) (rows-used (number_at 8 s 16) (collection_at s) 56 3112 no_collection 16 few.collections)

  pub collection-within : (count : ℕ) → count ≡ number_at 8 s 16 → at ≤ count
  collection-within count e =
      let n = collections_long s few in
      let g = found_in_lem in
      let m = lead-most (λ (y : tables.Collection). name_below y.name name) (read_as s).collections in
      omega arith

  -- the collection at the place stands above a name that no collection has
  above : has_collection name (read_as s).collections ≡ false → at < number_at 8 s 16 → name_below name (view_collection (collection_at s (3112 + 56 * at))).name ≡ true
  unfolding has_collection
  above new h = go (name_below name y.name) refl
    where
      y : tables.Collection
      y = view_collection (collection_at s (3112 + 56 * at))

      is : get_or (read_as s).collections at (view_collection no_collection) ≡ y
      is = get_or-map view_collection (collection_rows s) at no_collection ∙ ap view_collection (item_at (number_at 8 s 16) (collection_at s) 56 3112 at no_collection h)

      inside : at < length (read_as s).collections
      inside = let n = collections_long s few in omega arith

      low : name_below y.name name ≡ false
      low =
          ap (λ (c : tables.Collection). name_below c.name name) (sym is ∙ ap (λ (i : ℕ). get_or (read_as s).collections i (view_collection no_collection)) found_in_lem)
          ∙ lead-ends (λ (c : tables.Collection). name_below c.name name) (view_collection no_collection) (read_as s).collections (let g = found_in_lem in let n = inside in omega arith)

      other : same_name y.name name ≡ false
      other = ap (is_named name) (sym is) ∙ none-at (is_named name) (view_collection no_collection) (read_as s).collections at new inside

      go : (b : Bool) → name_below name y.name ≡ b → name_below name y.name ≡ true
      go true e = e
      go false e = not_both (same_name name name) (name-same name) (subst (λ (x : Name). same_name x name ≡ false) (names.level y.name name low e) other)

module _ (s : List ℕ) (few : Few s) (row : CollectionRow) (fits : CollectionFits row) (room : number_at 8 s 16 < 16)
    (new : has_collection (view_name row.name) (read_as s).collections ≡ false) (count at : ℕ) (counts : count ≡ number_at 8 s 16)
    (found : at ≡ lead (λ (y : tables.Collection). name_below y.name (view_name row.name)) (view_collections (collections_at s))) where
  pub collection_in : (m r t : List ℕ) → Moved s m (3112 + 56 * at) (3112 + 56 * (at + 1)) (8 * (7 * (count - at))) → Stored m r (3112 + 56 * at) (collection_bytes row) 56
      → t ≡ sets r 16 (bytes_of 8 (count + 1)) → CollectionsBecome s t (put collection_below (view_collection row) (read_as s).collections)
  collection_in m r t move stored e =
      let l = few.long in
      let n = move.long in
      let w = collection-within s few (view_name row.name) at found count counts in
      let q : 8 * (7 * (count - at)) ≡ 56 * (number_at 8 s 16 - at) = omega arith in
      let done = in_place collection_at 56 3112 16 no_collection (omega arith) collection-same view_collection collection_below s row (λ y. names.apart y.name (view_name row.name)) at
      (found_in_lem s few (view_name row.name) at found) (omega arith) (λ h. above s few (view_name row.name) at found new h)
      m r t (collection_bytes row) (subst (Moved s m (3112 + 56 * at) (3112 + 56 * (at + 1))) q move) stored (collection-back row fits stored (omega arith)) (rw counts at e) (omega arith) (omega arith) in
      record { apart = done.0; view = done.1 }
