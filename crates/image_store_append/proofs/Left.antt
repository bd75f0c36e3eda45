-- The columns that a contract over a lent store speaks of after an append (`left` of `WriteServed`), written down and never made: they hold
-- the longer log and its table, and the bytes that the append in place leaves are those that the contract gives for them. Assumes nothing.
use Prim.Native.Nat.{ℕ, suc, ◌+◌, ◌-◌, ◌≤◌, ◌<◌}
use mathlib.Core.Path.{◌≡◌, refl, sym, ap, ◌∙◌, subst}
use mathlib.Core.Bool.{Bool, true, cond}
use mathlib.Core.List.{List, [], ◌∷◌, ◌++◌, map}
use native.Mathlib.Omega.{arith}
use lib.Ieee.{Float}
use lib.ListN.{length, take, drop, length-map, length-append, length-drop, length-replicate}
use lib.Seq.{take_at, drop-append-add, drop-drop}
use Rattle.spec.specs.Lists.{put, filter}
use Rattle.spec.specs.Log.{Op, upsert, delete, Entry, Log}
use Rattle.spec.specs.Node.Wire.{float_of}
use Rattle.spec_laws.proofs.Lists.{by-test, and_left, and_right}
use Rattle.log_store.specs.View.{op_from, log_of, written}
use Rattle.log_store.specs.Table.{Row, row_below, other_row, zipped, rows_of, row_op, play_rows, Tabled}
use Rattle.log_store.specs.Store.{Store, store_log, store_rows, well_formed_store, Sized, Storable, Pushed}
use Rattle.log_store.proofs.Facts.{facts}
use Rattle.log_store.proofs.Push.{pushed}
use Rattle.log_store.proofs.PlayRows.{rows_snoc}
use Rattle.log_store.proofs.Rows.{rows-length}
use Rattle.log_store.proofs.Written.{written-log}
use Rattle.log_store.proofs.Facts.{room_of_lem}
use Rattle.node_header.specs.declared.HeldRow.{HeldRow}
use Rattle.node_lent.specs.Lend.{LentStore, store_in, store_of}
use Rattle.image_store.specs.Image.{keys_in, places_in, log_at, well_formed_image}
use Rattle.image_store.specs.Read.{columns_at, all_readable}
use Rattle.image_store.proofs.Words.{words-length}
use Rattle.image_store.proofs.Reading.{bytes-length}
use Rattle.image_store.proofs.Read.{image_log}
use Rattle.image_store.proofs.Test.{image_test}
use Rattle.image_node.specs.Lent.{no_lent_store, begin_of, lent_store_at, store_put, StoreFits}
use Rattle.image_store.specs.Write.{Fits, RowFits}
use Rattle.spec.specs.Layout.Format.{Bytes, All}
use Rattle.image_store_append.proofs.Fits.{longer-fits, rows_fit_lem}
use Rattle.image_store_append.specs.Put.{Appended, longer}
use Rattle.image_store_append.proofs.Stores.{put-longer}

-- ---- two columns that make given rows

abbrev ids : List Row → List ℕ
ids rs = map (λ (r : Row). r.id) rs

abbrev offsets : List Row → List ℕ
offsets rs = map (λ (r : Row). r.offset) rs

zipped-back : (rs : List Row) → zipped (ids rs) (offsets rs) ≡ rs
unfolding zipped
zipped-back [] = refl
zipped-back (r ∷ rs) = ap (λ (l : List Row). r ∷ l) (zipped-back rs)

-- behind the rows a column stays as it was
past : (front ks : List ℕ) (n top : ℕ) → length front ≡ n → n ≤ top → drop top (front ++ drop n ks) ≡ drop top ks
past front ks n top e h =
    let q : top ≡ length front + (top - n) = omega arith in
    let r : n + (top - n) ≡ top = omega arith in
    ap (λ (k : ℕ). drop k (front ++ drop n ks)) q ∙ drop-append-add front (drop n ks) (top - n) ∙ drop-drop (top - n) n ks ∙ ap (λ (k : ℕ). drop k ks) r

pub tabled-any : (top : ℕ) (ks ps : List ℕ) (rs : List Row) → length rs ≤ top → length rs ≤ length ks → length rs ≤ length ps
    → Tabled top ks ps (ids rs ++ drop (length rs) ks) (offsets rs ++ drop (length rs) ps) (length rs) rs
unfolding rows_of
tabled-any top ks ps rs ht hk hp = record {
  rows =
      ap (λ (l : List ℕ). zipped l (take (length rs) (offsets rs ++ drop (length rs) ps)))
      (take_at (ids rs) (drop (length rs) ks) (length rs) (length-map rs (λ (r : Row). r.id)))
      ∙ ap (zipped (ids rs)) (take_at (offsets rs) (drop (length rs) ps) (length rs) (length-map rs (λ (r : Row). r.offset)))
      ∙ zipped-back rs;
  fits = hk;
  also = hp;
  keys =
      length-append (ids rs) (drop (length rs) ks)
      ∙ omega (arith, length-map rs (λ (r : Row). r.id), length-drop (length rs) ks);
  places =
      length-append (offsets rs) (drop (length rs) ps)
      ∙ omega (arith, length-map rs (λ (r : Row). r.offset), length-drop (length rs) ps);
  keys_past = past (ids rs) ks (length rs) top (length-map rs (λ (r : Row). r.id)) ht;
  places_past = past (offsets rs) ps (length rs) top (length-map rs (λ (r : Row). r.offset)) ht;
}

-- one operation makes one row more at most

put-length : (x : Row) (l : List Row) → length (put row_below x l) ≤ length l + 1
unfolding put
put-length x [] = omega arith
put-length x (y ∷ ys) =
    let h = put-length x ys in
    by-test (λ v. length v ≤ suc (length ys) + 1) (row_below x y) {x = x ∷ y ∷ ys} {y = cond (row_below y x) (y ∷ put row_below x ys) (x ∷ ys)} (λ q. omega arith)
    (λ q. by-test (λ v. length v ≤ suc (length ys) + 1) (row_below y x) {x = y ∷ put row_below x ys} {y = x ∷ ys} (λ r. omega arith) (λ r. omega arith))

filter-length : (p : Row → Bool) (l : List Row) → length (filter p l) ≤ length l
unfolding filter
filter-length p [] = omega arith
filter-length p (y ∷ ys) =
    let h = filter-length p ys in
    by-test (λ v. length v ≤ suc (length ys)) (p y) {x = y ∷ filter p ys} {y = filter p ys} (λ q. omega arith) (λ q. omega arith)

op-length : (rs : List Row) (op : Op) (o : ℕ) → length (row_op rs op o) ≤ length rs + 1
unfolding row_op
op-length rs (upsert id xs) o = put-length (record { id = id; offset = o }) rs
op-length rs (delete id) o = let h = filter-length (other_row id) rs in omega arith

-- ---- the store that the bytes of a held shard are

module _ (s : List ℕ) (x : HeldRow) (room : begin_of x + 174080 ≤ length s) (well : well_formed_image s (begin_of x) x.held.last x.stored ≡ true) where
  abbrev before : Store
  before = store_of (lent_store_at s x) x

  abbrev zeros : List Float
  zeros = no_lent_store.columns.floats

  zeros_long : length zeros ≡ 32768
  unfolding no_lent_store
  zeros_long = length-replicate 32768 (float_of 0)

  both : (all_readable s (begin_of x) x.held.last ≡ true) × (well_formed_store before ≡ true)
  unfolding lent_store_at
  both =
      let t = image_test s (begin_of x) x.held.last x.stored zeros zeros_long ∙ well in
      (and_left (all_readable s (begin_of x) x.held.last) _ t, and_right (all_readable s (begin_of x) x.held.last) _ t)

  pub before-well : well_formed_store before ≡ true
  before-well = both.1

  pub before-sized : Sized before
  unfolding lent_store_at columns_at
  before-sized = record {
    epochs = words-length 8 1024 s (begin_of x);
    offsets = words-length 8 1024 s (begin_of x + 8192);
    ids = words-length 8 1024 s (begin_of x + 16384);
    codes = bytes-length s (begin_of x + 24576) (omega arith);
    lengths = bytes-length s (begin_of x + 25600) (omega arith);
    keys = words-length 8 1024 s (begin_of x + 157696);
    places = words-length 8 1024 s (begin_of x + 165888);
  }

  log_is : store_log before ≡ log_at s (begin_of x) x.held.last
  unfolding lent_store_at
  log_is =
      image_log s (begin_of x) x.held.last x.stored zeros (keys_in s (begin_of x)) (places_in s (begin_of x)) zeros_long both.0 both.1

  module _ (free : x.held.last < 1024) (epoch code id : ℕ) (bits : List ℕ) (st : Storable code bits) where
    abbrev n : ℕ
    n = x.held.last

    abbrev entry : Entry
    entry = record { epoch = epoch; offset = n + 1; op = op_from code id bits }

    abbrev rows : List Row
    rows = play_rows (longer s (begin_of x) n entry)

    rows_are : row_op (store_rows before) (op_from code id bits) (n + 1) ≡ rows
    rows_are =
        ap (λ (rs : List Row). row_op rs (op_from code id bits) (n + 1)) ((facts before before-well).rows ∙ ap play_rows log_is)
        ∙ sym (rows_snoc (log_at s (begin_of x) n) entry)

    rows-most : length rows ≤ before.stored + 1
    rows-most =
        let g = (facts before before-well).stored in
        let z = before-sized in
        let l = rows-length before.keys before.places before.stored (omega (arith, g, z.keys)) (omega (arith, g, z.places)) in
        let o = op-length (store_rows before) (op_from code id bits) (n + 1) in
        let e = ap length rows_are in
        omega arith

    -- the columns after: one entry more, and the table of the longer log
    pub left : LentStore
    left = record {
      columns = written (lent_store_at s x).columns n epoch code id bits;
      keys = ids rows ++ drop (length rows) (lent_store_at s x).keys;
      places = offsets rows ++ drop (length rows) (lent_store_at s x).places;
    }

    module _ (t : List ℕ) (r : ℕ) (a : Appended s t (begin_of x) n entry r) (few : r ≤ 1024) where
      tabled : Tabled (before.stored + 1) before.keys before.places left.keys left.places r (row_op (store_rows before) (op_from code id bits) (n + 1))
      unfolding left
      tabled =
          subst (λ (rs : List Row). Tabled (before.stored + 1) before.keys before.places left.keys left.places r rs) (sym rows_are)
          (subst (λ (k : ℕ). Tabled (before.stored + 1) before.keys before.places left.keys left.places k rows) (sym a.rows)
          (tabled-any (before.stored + 1) before.keys before.places rows rows-most (omega (arith, a.rows, before-sized.keys)) (omega (arith, a.rows, before-sized.places))))

      -- what `push` over columns promises, of columns that no code made
      pub left_pushed : Pushed before (store_in left (n + 1) r) entry
      unfolding left
      left_pushed = pushed before before-sized before-well free epoch code id bits st left.keys left.places r tabled left.columns refl

      -- .. and the bytes are those that the contract gives for them
      pub left-put : (y : HeldRow) → y.held.last ≡ n + 1 → y.stored ≡ r → t ≡ store_put s x y left
      unfolding left
      left-put y e q =
          put-longer s t x entry r a y left e
          (ap (log_of left.columns) e
          ∙ written-log (lent_store_at s x).columns n epoch code id bits (room_of_lem before (facts before before-well) before-sized) free st.short
          ∙ ap (λ (l : Log). l ++ (entry ∷ [])) log_is)
          (ap (rows_of left.keys left.places) q ∙ tabled.rows ∙ rows_are)

      -- .. and can be read again
      pub left-fits : Bytes s → Fits entry → (y : HeldRow) → y.held.last ≡ n + 1 → y.stored ≡ r → StoreFits y left
      unfolding left
      left-fits b f y e q =
          let all = longer-fits s (begin_of x) n x.stored b well entry f in
          record {
            log = subst (λ (l : Log). All Fits l)
                (sym (ap (log_of left.columns) e
                ∙ written-log (lent_store_at s x).columns n epoch code id bits (room_of_lem before (facts before before-well) before-sized) free st.short
                ∙ ap (λ (l : Log). l ++ (entry ∷ [])) log_is))
                all;
            rows = subst (λ (rs : List Row). All RowFits rs) (sym (ap (rows_of left.keys left.places) q ∙ tabled.rows ∙ rows_are))
                (rows_fit_lem (longer s (begin_of x) n entry) all);
          }
