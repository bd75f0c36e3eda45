-- A store one entry longer is read again: it passes the test, and its log and its replica are those with the entry behind. Assumes nothing.
use Prim.Native.Nat.{ℕ, ◌+◌, ◌*◌, ◌≤◌, ◌<◌, min}
use mathlib.Core.Path.{◌≡◌, refl, sym, ap, ◌∙◌, subst}
use mathlib.Core.Bool.{true}
use mathlib.Core.List.{List, [], ◌∷◌, ◌++◌}
use native.Mathlib.Omega.{arith}
use lib.ListN.{length, take}
use lib.Seq.{take_at}
use Rattle.spec.specs.Log.{Op, Entry, Log, ShardReplica, push}
use Rattle.spec.specs.Layout.Format.{Bytes}
use Rattle.spec.specs.declared.Metric.{Metric}
use Rattle.spec.specs.declared.Metric.TheVariants.{Euclidean}
use Rattle.spec_laws.proofs.Lists.{and_left, and_right}
use Rattle.wire_read.specs.declared.OpPart.{OpPart}
use Rattle.log_store.specs.View.{op_from, log_of}
use Rattle.log_store.specs.Table.{Row, play_rows, vectors_of}
use Rattle.log_store.specs.Store.{Store, Pushed, store_log, replica_in, well_formed_store}
use Rattle.log_store.proofs.Facts.{facts}
use Rattle.log_store.proofs.Firsts.{firsts-length}
use Rattle.node_header.specs.declared.HeldRow.{HeldRow}
use Rattle.node_header.specs.View.{no_held_row}
use Rattle.node_lent.specs.Lend.{LentStore, store_in, store_of}
use Rattle.image_store.specs.Image.{keys_in, places_in, entry_at, log_at, well_formed_image}
use Rattle.image_store.specs.Read.{all_readable}
use Rattle.image_store.specs.Write.{Fits}
use Rattle.image_store.proofs.Read.{image_log}
use Rattle.image_store.proofs.Test.{image_test}
use Rattle.image_node.specs.Lent.{no_lent_store, lent_store_at, store_put, Writable, StoreFits}
use Rattle.image_node.proofs.Pick.{floats-whole}
use Rattle.image_node.proofs.Back.{put-log}
use Rattle.image_node.proofs.Again.{read_listed, put-again}
use Rattle.image_header_counts.specs.Counts.{counted}
use Rattle.image_store_append.specs.Put.{Appended, Grown, entry_by}
use Rattle.image_store_append.proofs.Left.{left, left_pushed, left-put, left-fits, before-well}
use Rattle.image_node_grow.proofs.Ops.{Stores}
use Rattle.image_node_batch.specs.Batch.{store_at}

-- a row of a header of which only the store matters
abbrev pub row_of : (slot count stored : ℕ) → HeldRow
row_of slot c k = counted (record { key = no_held_row.key; slot = slot; stored = k; held = no_held_row.held }) c k

-- ---- a store that passes the test

module _ (s : List ℕ) (slot c k : ℕ) (well : well_formed_image s (slot * 174080) c k ≡ true) where
  both_pass : (all_readable s (slot * 174080) c ≡ true) × (well_formed_store (store_at s (slot * 174080) c k) ≡ true)
  both_pass =
      let t = image_test s (slot * 174080) c k no_lent_store.columns.floats floats-whole ∙ well in
      (and_left (all_readable s (slot * 174080) c) _ t, and_right (all_readable s (slot * 174080) c) _ t)

  pub at-log : store_log (store_at s (slot * 174080) c k) ≡ log_at s (slot * 174080) c
  at-log =
      image_log s (slot * 174080) c k no_lent_store.columns.floats (keys_in s (slot * 174080)) (places_in s (slot * 174080)) floats-whole
      both_pass.0 both_pass.1

  pub at-most : (c ≤ 1024) × (k ≤ 1024)
  at-most = let f = facts (store_at s (slot * 174080) c k) both_pass.1 in (f.count, f.stored)

  pub at-well : well_formed_store (store_at s (slot * 174080) c k) ≡ true
  at-well = both_pass.1

-- the replica of a store whose table is its log played
abbrev replica_of : ℕ → Metric → Log → ShardReplica
replica_of own m l = record { epoch = own; metric = m; log = l; vectors = vectors_of l (play_rows l) }

replica_of_lem : (own : ℕ) (m : Metric) (s : Store) (l : Log) → well_formed_store s ≡ true → store_log s ≡ l → replica_in own m s ≡ replica_of own m l
unfolding replica_in
replica_of_lem own m s l w e =
    ap (λ (r : List Row). record { epoch = own; metric = m; log = store_log s; vectors = vectors_of (store_log s) r }) (facts s w).rows
    ∙ ap (replica_of own m) e

pub log_long : (s : List ℕ) (base n : ℕ) → length (log_at s base n) ≡ n
unfolding log_at
log_long s base n = firsts-length (entry_at s base) n

module _ (s t m : List ℕ) (slot c k : ℕ) (small : slot < 8) (there : 1392640 ≤ length s) (bytes : Bytes s)
    (well : well_formed_image s (slot * 174080) c k ≡ true) (free : c < 1024) (epoch : ℕ) (o : OpPart) (st : Stores m o) (r : ℕ)
    (g : Grown s t (slot * 174080) c (entry_by epoch c m o) r) where
  abbrev base : ℕ
  base = slot * 174080

  abbrev x : HeldRow
  x = row_of slot c k

  abbrev y : HeldRow
  y = row_of slot (c + 1) r

  abbrev new : Entry
  new = record { epoch = epoch; offset = c + 1; op = op_from st.code st.id st.bits }

  new_is : entry_by epoch c m o ≡ new
  new_is = ap (λ (z : Op). record { epoch = epoch; offset = c + 1; op = z }) (sym st.is)

  room : base + 174080 ≤ length s
  room = omega arith

  appends : Appended s t base c new r
  appends = subst (λ (e : Entry). Appended s t base c e r) new_is g.appended

  abbrev columns : LentStore
  columns = left s x room well free epoch st.code st.id st.bits st.storable

  pushes : Pushed (store_of (lent_store_at s x) x) (store_in columns (c + 1) r) new
  pushes = left_pushed s x room well free epoch st.code st.id st.bits st.storable t r appends g.few

  image : t ≡ store_put s x y columns
  image = left-put s x room well free epoch st.code st.id st.bits st.storable t r appends g.few y refl refl

  fits : StoreFits y columns
  fits =
      left-fits s x room well free epoch st.code st.id st.bits st.storable t r appends g.few bytes (subst Fits new_is g.fits) y refl refl

  writable : Writable x y columns
  writable = record { slot = small; sized = pushes.sized; well = pushes.well }

  columns-log : log_of columns.columns (c + 1) ≡ log_at s base c ++ (new ∷ [])
  unfolding replica_in push lent_store_at
  columns-log =
      ap (λ (q : ShardReplica). q.log) (pushes.replica 0 Euclidean) ∙ ap (λ (l : Log). l ++ (new ∷ [])) (at-log s slot c k well)

  front_same : log_at s base (min c (c + 1)) ≡ take (min c (c + 1)) (log_of columns.columns (c + 1))
  front_same =
      let q : min c (c + 1) ≡ c = omega arith in
      ap (log_at s base) q
      ∙ sym (ap (λ (n : ℕ). take n (log_of columns.columns (c + 1))) q ∙ ap (take c) columns-log
      ∙ take_at (log_at s base c) (new ∷ []) c (log_long s base c))

  pub grown-well : well_formed_image t base (c + 1) r ≡ true
  grown-well =
      subst (λ (l : List ℕ). well_formed_image l base (c + 1) r ≡ true) (sym image)
      (put-again s x y columns there writable fits front_same (read_listed s x (before-well s x room well)))

  pub grown-log : log_at t base (c + 1) ≡ log_at s base c ++ (entry_by epoch c m o ∷ [])
  grown-log =
      ap (λ (l : List ℕ). log_at l base (c + 1)) image ∙ put-log s x y columns there writable fits front_same ∙ columns-log
      ∙ ap (λ (e : Entry). log_at s base c ++ (e ∷ [])) (sym new_is)

  pub grown-replica : (own : ℕ) (z : Metric)
      → replica_in own z (store_at t base (c + 1) r) ≡ push (replica_in own z (store_at s base c k)) (entry_by epoch c m o)
  unfolding lent_store_at
  grown-replica own z =
      replica_of_lem own z (store_at t base (c + 1) r) (log_at t base (c + 1)) (at-well t slot (c + 1) r grown-well) (at-log t slot (c + 1) r grown-well)
      ∙ sym (replica_of_lem own z (store_in columns (c + 1) r) (log_at t base (c + 1)) pushes.well
      (columns-log ∙ ap (λ (e : Entry). log_at s base c ++ (e ∷ [])) (sym new_is) ∙ sym grown-log))
      ∙ pushes.replica own z ∙ ap (push (replica_in own z (store_at s base c k))) (sym new_is)
