-- Rows of a table taken out of its bytes, those that stay moved down: of any table. Assumes nothing.
use Prim.Native.Nat.{ℕ, zero, suc, ◌+◌, ◌-◌, ◌*◌, ◌^◌, ◌≤◌, ◌<◌}
use mathlib.Core.Path.{◌≡◌, refl, sym, ap, ◌∙◌}
use mathlib.Core.Bool.{Bool, true, false, not}
use mathlib.Core.List.{List, [], ◌∷◌, ◌++◌, map, append-nil}
use native.Mathlib.Numerals.{add-one}
use native.Mathlib.Omega.{arith}
use native.Mathlib.Nat.{mul-suc, mul_comm, mul-le-mul_left}
use lib.ListN.{length, get_or, drop, length-map, drop_of_length-le}
use lib.Seq.{sets, length-sets, drop-cons, append_snoc}
use Rattle.spec.specs.Keys.{same_name}
use Rattle.spec.specs.Lists.{every, filter}
use Rattle.spec.specs.Layout.Format.{number_at, bytes_of}
use Rattle.spec.specs.Map.Tables as tables
use Rattle.spec_laws.proofs.Wire.Bytes.{length-bytes}
use Rattle.spec_laws.proofs.Map.Rows.{every-filter}
use Rattle.map_tables.specs.Counted.{row_counted}
use Rattle.map_tables.specs.Names.{view_name}
use Rattle.map_tables.specs.View.{view_collection, view_shard}
use Rattle.map_tables.specs.declared.Name.{Name}
use Rattle.map_tables.proofs.Tables.{map-filter}
use Rattle.image_parts.specs.Parts.{name_at, name_of, name_f}
use Rattle.image_parts.specs.Shape.{items}
use Rattle.image_parts.proofs.Images.{length-items}
use Rattle.image_map_row.specs.Rows.{collection_at, shard_at}
use Rattle.image_map_check.proofs.RowLaws.{item_at}
use Rattle.image_map_put.specs.Few.{Few}
use Rattle.image_map_put.specs.Rows.{read_as}
use Rattle.image_move.proofs.Bytes.{Same, items-same, value_same}
use Rattle.image_map_put.proofs.Whole.{collection-same, shard-same}
use Rattle.image_move.specs.Moved.{Moved}
use Rattle.image_map_edit.specs.Becomes.{Apart, CollectionsBecome, ShardsBecome}
use Rattle.image_move.proofs.Moves.{sets_below, sets_behind}
use Rattle.image_map_edit.proofs.Table.{counted}
use Rattle.image_map_drop.specs.Stay.{row_at, others, Stay}

filter_in : {A : Type 0} (p : A → Bool) (x : A) (l : List A) → p x ≡ true → filter p (x ∷ l) ≡ x ∷ filter p l
unfolding filter
filter_in p x l e = rw e

filter-out : {A : Type 0} (p : A → Bool) (x : A) (l : List A) → p x ≡ false → filter p (x ∷ l) ≡ filter p l
unfolding filter
filter-out p x l e = rw e

-- one row more
items-last : {A : Type 0} (k : ℕ) (get : ℕ → A) (w at : ℕ) → items (k + 1) get w at ≡ items k get w at ++ (get (at + w * k) ∷ [])
items-last zero get w at = let q : at + w * 0 ≡ at = omega arith in rw q
items-last {A} (suc k) get w at =
    let q : at + w + w * k ≡ at + w * suc k = omega (arith, mul-suc w k) in
    let r : suc k + 1 ≡ suc (k + 1) = omega arith in
    rw r (ap (λ (l : List A). get at ∷ l) (items-last k get w (at + w) ∙ ap (λ (p : ℕ). items k get w (at + w) ++ (get p ∷ [])) q))

-- ---- a row's bytes

row_same : (w : ℕ) (s t : List ℕ) (a b : ℕ) → Same s a t b w → row_at w s a ≡ row_at w t b
row_same w s t a b e =
    items-same s t w (λ p. get_or s p 0) (λ p. get_or t p 0) 1 a b
    (λ p q h.
    let l : p + 0 ≡ p = omega arith in
    let r : q + 0 ≡ q = omega arith in
    rw (l, r) at (h 0 (omega arith)))
    (λ i h. e i (omega arith))

name-same : (s t : List ℕ) (a b : ℕ) → Same s a t b 40 → name_at s a ≡ name_at t b
unfolding name_at
name-same s t a b e = ap name_of (value_same s t name_f a b e)

-- what is read of a row is read of its bytes
module _ {A : Type 0} (get : List ℕ → ℕ → A) (w : ℕ) (same : (s t : List ℕ) (a b : ℕ) → Same s a t b w → get s a ≡ get t b) (s : List ℕ) where
  row_read : (at : ℕ) → get (row_at w s at) 0 ≡ get s at
  row_read at =
      same (row_at w s at) s 0 at
      (λ j h.
      let l : 0 + j ≡ j = omega arith in
      let r : at + 1 * j ≡ at + j = omega arith in
      rw l (item_at w (λ p. get_or s p 0) 1 at j 0 h ∙ ap (λ (p : ℕ). get_or s p 0) r))

  rows-read : (n at : ℕ) → map (λ r. get r 0) (items n (row_at w s) w at) ≡ items n (get s) w at
  rows-read zero at = refl
  rows-read (suc n) at = rw (row_read at, rows-read n (at + w))

-- ---- one row after another

module _ (w base : ℕ) (name : Name) (s : List ℕ) (n : ℕ) where
  abbrev get : List ℕ → ℕ → List ℕ
  get = row_at w

  abbrev p : List ℕ → Bool
  p = others name

  abbrev Rows : List (List ℕ)
  Rows = items n (get s) w base

  -- of the first i rows those that pass are the first k, and behind them all is as it was
  pub record Kept (out : List ℕ) (i k : ℕ) : Type 0 where
    pub long : length out ≡ length s
    pub few : k ≤ i
    pub below : (j : ℕ) → j < base → get_or out j 0 ≡ get_or s j 0
    pub rows : items k (get out) w base ++ filter p (drop i Rows) ≡ filter p Rows
    pub behind : (j : ℕ) → base + w * k ≤ j → get_or out j 0 ≡ get_or s j 0

  pub kept-start : Kept s 0 0
  kept-start = record { long = refl; few = omega arith; below = λ j h. refl; rows = refl; behind = λ j h. refl }

  -- a row after another
  module _ (out : List ℕ) (i k : ℕ) (z : Kept out i k) (lt : i < n) where
    room : w * k ≤ w * i
    room = mul-le-mul_left w z.few

    row_is : get_or Rows i [] ≡ get out (base + w * i)
    row_is =
        let r = room in
        item_at n (get s) w base i [] lt ∙ sym (row_same w out s (base + w * i) (base + w * i) (λ j h. z.behind (base + w * i + j) (omega arith)))

    rest-is : drop i Rows ≡ get out (base + w * i) ∷ drop (i + 1) Rows
    rest-is =
        let l = length-items n (get s) w base in
        drop-cons Rows i [] (omega arith) ∙ rw (row_is, add-one)

    kept-skip : p (get out (base + w * i)) ≡ false → Kept out (i + 1) k
    kept-skip e =
        let f = z.few in
        record {
          long = z.long;
          few = omega arith;
          below = z.below;
          rows = ap (λ (l : List (List ℕ)). items k (get out) w base ++ l) (sym (ap (filter p) rest-is ∙ filter-out p _ _ e)) ∙ z.rows;
          behind = z.behind;
        }

    -- the row moved down, behind those that stay
    module _ (m : List ℕ) (move : Moved out m (base + w * i) (base + w * k) w) where
      kept-before : items k (get m) w base ≡ items k (get out) w base
      kept-before =
          items-same m out k (get m) (get out) w base base (λ a b. row_same w m out a b) (λ j h. move.below (base + j) (omega (arith, mul_comm k w)))

      moved_row : get m (base + w * k) ≡ get out (base + w * i)
      moved_row = row_same w m out (base + w * k) (base + w * i) (λ j h. move.moved j h)

      more_rows : items (k + 1) (get m) w base ≡ items k (get out) w base ++ (get out (base + w * i) ∷ [])
      more_rows = items-last k (get m) w base ∙ rw (kept-before, moved_row)

      kept_move : p (get out (base + w * i)) ≡ true → Kept m (i + 1) (k + 1)
      kept_move e =
          let f = z.few in
          let q : w * (k + 1) ≡ w * k + w = omega (arith, mul-suc w k) in
          record {
            long = move.long ∙ z.long;
            few = omega arith;
            below = λ j h. move.below j (omega arith) ∙ z.below j h;
            rows =
                ap (λ (l : List (List ℕ)). l ++ filter p (drop (i + 1) Rows)) more_rows
                ∙ append_snoc (items k (get out) w base) (get out (base + w * i)) (filter p (drop (i + 1) Rows))
                ∙ ap (λ (l : List (List ℕ)). items k (get out) w base ++ l) (sym (ap (filter p) rest-is ∙ filter_in p _ _ e)) ∙ z.rows;
            behind = λ j h. move.behind j (omega arith) ∙ z.behind j (omega arith);
          }

    -- by the name that was read and compared
    module _ (wide : 40 ≤ w) (own : Name) (read : own ≡ name_at out (base + w * i)) (b : Bool) (is : b ≡ same_name (view_name own) (view_name name)) where
      name-is : p (get out (base + w * i)) ≡ not b
      name-is =
          ap not (ap (λ (x : Name). same_name (view_name x) (view_name name)) (row_read name_at w (λ s t a c e. name-same s t a c (λ j h. e j (omega arith))) out (base + w * i) ∙ sym read) ∙ sym is)

      pub row-skip : b ≡ true → Kept out (i + 1) k
      row-skip e = kept-skip (name-is ∙ ap not e)

      pub row_move : b ≡ false → (m : List ℕ) → Moved out m (base + w * i) (base + w * k) w → Kept m (i + 1) (k + 1)
      row_move e m move = kept_move m move (name-is ∙ ap not e)

  -- all rows seen
  pub rows_stay : (out : List ℕ) (i k : ℕ) → Kept out i k → i ≡ n → Stay s out base w n name k
  unfolding filter
  rows_stay out i k z end =
      let f = z.few in
      let l = length-items n (get s) w base in
      let e : drop i Rows ≡ [] = drop_of_length-le Rows {i = i} (omega arith) in
      record {
        long = z.long;
        few = omega arith;
        below = z.below;
        rows = sym (append-nil (items k (get out) w base)) ∙ ap (λ (r : List (List ℕ)). items k (get out) w base ++ filter p r) (sym e) ∙ z.rows;
        behind = z.behind;
      }

-- a row lies within its table, and a row that stays is not behind the one looked at
pub row_room : (w base i k n top : ℕ) → k ≤ i → i < n → base + w * n ≤ top → (base + w * i + w ≤ top) × (w * k ≤ w * i)
row_room w base i k n top few lt room =
    let q : w * (i + 1) ≡ w * i + w = omega (arith, mul-suc w i) in
    let h : w * (i + 1) ≤ w * n = mul-le-mul_left w (omega arith) in
    let g : w * k ≤ w * i = mul-le-mul_left w few in
    (omega arith, g)

-- ---- a table whose rows are read by `get`, and so many counted at x

module _ {A : Type 0} (get : List ℕ → ℕ → A) (w base : ℕ) (same : (s t : List ℕ) (a b : ℕ) → Same s a t b w → get s a ≡ get t b) (p : A → Bool) (name : Name)
    (named : (λ (r : List ℕ). p (get r 0)) ≡ others name) (s out : List ℕ) (n k : ℕ) (z : Stay s out base w n name k) (x : ℕ) (apart : x + 8 ≤ base)
    (t : List ℕ) (count : t ≡ sets out x (bytes_of 8 k)) (here : x + 8 ≤ length s) (small : k < 256 ^ 8) where
  abbrev Given : List A
  Given = items n (get s) w base

  rows_out : items k (get out) w base ≡ filter p Given
  rows_out =
      sym (rows-read get w same out k base)
      ∙ ap (map (λ r. get r 0)) (z.rows ∙ ap (λ (q : List ℕ → Bool). filter q (items n (row_at w s) w base)) (sym named))
      ∙ map-filter (λ r. get r 0) p (items n (row_at w s) w base)
      ∙ ap (filter p) (rows-read get w same s n base)

  pub kept-rows : items (number_at 8 t x) (get t) w base ≡ filter p Given
  kept-rows =
      let l = length-bytes 8 k in
      let g = z.long in
      ap (λ (c : ℕ). items c (get t) w base) (counted out t x k count (omega arith) small)
      ∙ items-same t out k (get t) (get out) w base base (λ a b. same t out a b)
      (λ j h. ap (λ (u : List ℕ). get_or u (base + j) 0) count ∙ sets_behind out x (bytes_of 8 k) (base + j) (omega arith))
      ∙ rows_out

  kept-count : length (filter p Given) ≡ k
  kept-count = sym (ap length rows_out) ∙ length-items k (get out) w base

  pub kept-apart : (h : ℕ) → h ≡ length (filter p Given) → Apart s t x base (base + w * h)
  kept-apart h e =
      let l = length-bytes 8 k in
      let c : w * h ≡ w * k = ap (λ (j : ℕ). w * j) (e ∙ kept-count) in
      record {
        long = ap length count ∙ length-sets out x (bytes_of 8 k) ∙ z.long;
        below = λ j lt. ap (λ (u : List ℕ). get_or u j 0) count ∙ sets_below out x (bytes_of 8 k) j lt ∙ z.below j (omega arith);
        between = λ j ge lt. ap (λ (u : List ℕ). get_or u j 0) count ∙ sets_behind out x (bytes_of 8 k) j (omega arith) ∙ z.below j lt;
        behind = λ j ge. ap (λ (u : List ℕ). get_or u j 0) count ∙ sets_behind out x (bytes_of 8 k) j (omega arith) ∙ z.behind j (omega arith);
      }

-- ---- the collections but the one of a name

module _ (s : List ℕ) (name : Name) (n : ℕ) where
  abbrev other_name : tables.Collection → Bool
  other_name c = not (same_name c.name (view_name name))

  collection-named : (λ (r : List ℕ). other_name (view_collection (collection_at r 0))) ≡ others name
  unfolding collection_at name_at
  collection-named = refl

  pub collections_become : Few s → n ≡ number_at 8 s 16 → (out : List ℕ) (k : ℕ) → Stay s out 3112 56 n name k → (t : List ℕ) → t ≡ sets out 16 (bytes_of 8 k)
      → CollectionsBecome s t (filter other_name (read_as s).collections)
  collections_become few e out k z t put =
      let l = few.long in
      let c = few.collections in
      let f = z.few in
      let q : map view_collection (filter (λ r. other_name (view_collection r)) (items n (collection_at s) 56 3112)) ≡ filter other_name (read_as s).collections = map-filter view_collection other_name _ ∙ rw e in
      record {
        apart = kept-apart collection_at 56 3112 collection-same (λ r. other_name (view_collection r)) name collection-named s out n k z 16 (omega arith) t put (omega arith) (omega arith) _ (sym (ap length q) ∙ length-map (filter (λ r. other_name (view_collection r)) (items n (collection_at s) 56 3112)) view_collection);
        view = ap (map view_collection) (kept-rows collection_at 56 3112 collection-same (λ r. other_name (view_collection r)) name collection-named s out n k z 16 (omega arith) t put (omega arith) (omega arith)) ∙ q;
      }

-- ---- the shards but those of a collection

module _ (s : List ℕ) (name : Name) (n : ℕ) where
  abbrev of_others : tables.ShardInfo → Bool
  of_others x = not (same_name x.key.collection (view_name name))

  shard-named : (λ (r : List ℕ). of_others (view_shard (shard_at r 0))) ≡ others name
  unfolding shard_at name_at
  shard-named = refl

  pub shards_become : Few s → n ≡ number_at 8 s 24 → (out : List ℕ) (k : ℕ) → Stay s out 4008 272 n name k → (t : List ℕ) → t ≡ sets out 24 (bytes_of 8 k)
      → ShardsBecome s t (filter of_others (read_as s).shards)
  shards_become few e out k z t put =
      let l = few.long in
      let c = few.shards in
      let f = z.few in
      let rows = kept-rows shard_at 272 4008 shard-same (λ r. of_others (view_shard r)) name shard-named s out n k z 24 (omega arith) t put (omega arith) (omega arith) in
      let q : map view_shard (filter (λ r. of_others (view_shard r)) (items n (shard_at s) 272 4008)) ≡ filter of_others (read_as s).shards = map-filter view_shard of_others _ ∙ rw e in
      record {
        apart = kept-apart shard_at 272 4008 shard-same (λ r. of_others (view_shard r)) name shard-named s out n k z 24 (omega arith) t put (omega arith) (omega arith) _ (sym (ap length q) ∙ length-map (filter (λ r. of_others (view_shard r)) (items n (shard_at s) 272 4008)) view_shard);
        view = ap (map view_shard) rows ∙ q;
        counted = λ h. ap (every row_counted) rows ∙ every-filter row_counted (λ r. of_others (view_shard r)) _ (rw (← e) at h);
      }
