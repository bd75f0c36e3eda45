-- A log that a NewEpoch aligns in the bytes of its store: whole or cut, with columns that are written down and never made. The bytes left are
-- those that the contracts give for these columns. Assumes nothing.
use Prim.Native.Nat.{ℕ, ◌+◌, ◌≤◌, ◌<◌, min}
use mathlib.Core.Path.{◌≡◌, refl, sym, ap, subst, ◌∙◌}
use mathlib.Core.Bool.{true}
use mathlib.Core.List.{List, [], ◌++◌, map}
use native.Mathlib.Omega.{arith}
use borrow.Author.Tests.{eqb-true, eqb-false}
use lib.Dec.{eqb}
use lib.ListN.{length, drop, drop_of_length-le}
use Rattle.spec.specs.Lists.{lead}
use Rattle.spec.specs.Log.{End, Log, agrees}
use Rattle.spec.specs.Layout.Format.{Bytes, All}
use Rattle.log_store.specs.View.{log_of}
use Rattle.log_store.specs.Table.{Row, Tabled, rows_of, rows_played}
use Rattle.log_store.specs.Store.{Store, lent, store_log}
use Rattle.log_store.specs.Align.{Aligned}
use Rattle.log_store.specs.declared.replica.Adoption.TheVariants as D
use Rattle.log_store.proofs.Columns.{log-length}
use Rattle.log_store.proofs.PlayRows.{rows-most}
use Rattle.log_store.proofs.Rebuilt.{played-log}
use Rattle.log_store.proofs.Arrived.{count_most}
use Rattle.log_store.proofs.Adopting.{prefix_log, aligned-same, aligned-whole, aligned-cut}
use Rattle.wire_read.specs.declared.NewEpochPart.{NewEpochPart}
use Rattle.log_domain.specs.Parts.{table_in}
use Rattle.node_header.specs.declared.HeldRow.{HeldRow}
use Rattle.node_header.proofs.Lists.{by_case}
use Rattle.image_parts.proofs.Tidied.{all_take}
use Rattle.image_header_set.specs.Row.{aligned_held}
use Rattle.node_lent.specs.Lend.{LentStore, store_of, held_row_with}
use Rattle.image_store.specs.Read.{codes_in, columns_at}
use Rattle.image_store.specs.Write.{Fits, RowFits, entries_put, log_put, rows_put}
use Rattle.image_node.specs.Lent.{begin_of, lent_store_at, store_put, StorePuts}
use Rattle.image_node.specs.State.{held_row_image}
use Rattle.image_store_check.specs.Test.{offsets_in, ids_in}
use Rattle.image_store_append.specs.Put.{Tables}
use Rattle.image_store_append.proofs.Fits.{rows_fit_lem}
use Rattle.image_store_append.proofs.Left.{tabled-any, before-well, before-sized}
use Rattle.image_node_grow.proofs.Kept.{kept_image, kept-fits}
use Rattle.calls_epoch.specs.Asked.{Keeps}

-- the table that the bytes of a store at `base` play, of so many entries
abbrev pub played_in : List ℕ → (base k : ℕ) → List Row
played_in s base k = rows_played (offsets_in s base) (ids_in s base) (codes_in s base) k

module _ (s : List ℕ) (x : HeldRow) (room : begin_of x + 174080 ≤ length s) (well : held_row_image s x ≡ true) where
  abbrev lent_store : LentStore
  lent_store = lent_store_at s x

  abbrev last : ℕ
  last = x.held.last

  abbrev own : ℕ
  own = x.held.epoch.0

  abbrev store : Store
  store = store_of lent_store x

  pub last-most : last ≤ 1024
  last-most = count_most store (before-well s x room well)

  -- ---- the columns after a cut: the same log, and the table of its first k entries

  abbrev pub rows : ℕ → List Row
  rows k = rows_played lent_store.columns.offsets lent_store.columns.ids lent_store.columns.codes k

  rows_are : (k : ℕ) → played_in s (begin_of x) k ≡ rows k
  unfolding lent_store_at columns_at
  rows_are k = refl

  rows_few : (k : ℕ) → length (rows k) ≤ k
  rows_few k = let h = rows-most (log_of lent_store.columns k) in omega (arith, ap length (played-log lent_store.columns k), log-length lent_store.columns k)

  abbrev pub cut_lent_store : ℕ → LentStore
  cut_lent_store k = record {
    columns = lent_store.columns;
    keys = map (λ (r : Row). r.id) (rows k) ++ drop (length (rows k)) lent_store.keys;
    places = map (λ (r : Row). r.offset) (rows k) ++ drop (length (rows k)) lent_store.places;
  }

  pub tabled : (k : ℕ) → k ≤ last → Tabled k lent_store.keys lent_store.places (cut_lent_store k).keys (cut_lent_store k).places (length (rows k)) (rows k)
  tabled k h =
      let z = before-sized s x room well in
      let m = last-most in
      let f = rows_few k in
      tabled-any k lent_store.keys lent_store.places (rows k) f (omega (arith, z.keys)) (omega (arith, z.places))

  -- the shard after, with k entries and r rows
  abbrev pub after : (epoch k r : ℕ) → HeldRow
  after epoch k r = held_row_with x (aligned_held x.held epoch k) r

  cut_image : (u : List ℕ) (epoch k : ℕ) → k ≤ last → u ≡ rows_put s (begin_of x) (rows k) → u ≡ store_put s x (after epoch k (length (rows k))) (cut_lent_store k)
  unfolding store_put entries_put
  cut_image u epoch k h e =
      let c = lent_store.columns in
      let ks = (cut_lent_store k).keys in
      let ps = (cut_lent_store k).places in
      let w = length (rows k) in
      let q : min last k ≡ k = omega arith in
      let d : drop k (log_of c k) ≡ [] = drop_of_length-le (log_of c k) {i = k} (omega (arith, log-length c k)) in
      e
      ∙ sym
      (ap (λ (i : ℕ). rows_put (log_put s (begin_of x) i (log_of c k)) (begin_of x) (rows_of ks ps w)) q
      ∙ ap (λ (l : Log). rows_put (entries_put s (begin_of x) k l) (begin_of x) (rows_of ks ps w)) d
      ∙ ap (rows_put s (begin_of x)) (tabled k h).rows)

  module _ (bytes : Bytes s) (epoch : ℕ) where
    prefix_fits : (k : ℕ) → k ≤ last → All Fits (log_of lent_store.columns k)
    prefix_fits k h = subst (All Fits) (sym (prefix_log lent_store.columns last k h)) (all_take Fits k (log_of lent_store.columns last) (kept-fits s x bytes well).log)

    pub cut-puts : (u : List ℕ) (k r : ℕ) → k ≤ last → Tables s u (begin_of x) (played_in s (begin_of x) k) r → StorePuts s u x (after epoch k r) (cut_lent_store k)
    cut-puts u k r h t =
        let n : length (rows k) ≡ r = ap length (sym (rows_are k)) ∙ sym t.count in
        let f = prefix_fits k h in
        subst (λ (i : ℕ). StorePuts s u x (after epoch k i) (cut_lent_store k)) n
        (record {
          image = cut_image u epoch k h (t.image ∙ ap (rows_put s (begin_of x)) (rows_are k));
          fits = record {
            log = f;
            rows = subst (All RowFits) (played-log lent_store.columns k ∙ sym (tabled k h).rows) (rows_fit_lem (log_of lent_store.columns k) f);
          };
        })

    -- not cut: every byte of the store stays
    pub whole-puts : StorePuts s s x (after epoch last x.stored) lent_store
    unfolding store_put
    whole-puts = record { image = kept_image s x bytes well; fits = record { log = (kept-fits s x bytes well).log; rows = (kept-fits s x bytes well).rows } }

  pub row_count : (u : List ℕ) (k r : ℕ) → Tables s u (begin_of x) (played_in s (begin_of x) k) r → r ≡ length (rows k)
  row_count u k r t = t.count ∙ ap length (rows_are k)

  -- ---- the replica that is left

  module _ (m : List ℕ) (p : NewEpochPart) where
    abbrev epoch : ℕ
    epoch = p.epoch.0

    abbrev end : ℕ
    end = p.end.0

    abbrev table : List End
    table = table_in m p.table

    -- how many entries are left, of the log that the columns are
    pub record Left (k : ℕ) : Type 0 where
      pub same : epoch ≡ own → k ≡ last
      pub other : (epoch ≡ own → ⊥) → k ≡ lead (agrees end table) (store_log store)

    pub left_of_lem : (k : ℕ) → Keeps s m (begin_of x) last own p k → Left k
    unfolding lent_store_at columns_at
    left_of_lem k g = record { same = g.same; other = λ d. g.other d _ _ _ _ }

    -- there is such a number
    pub left_by : {P : Type 0} → ((k : ℕ) → Left k → P) → P
    left_by f =
        by_case (eqb epoch own)
        (λ e. f last (record { same = λ d. refl; other = λ d. absurd (d (eqb-true epoch own e)) }))
        (λ e. f (lead (agrees end table) (store_log store)) (record { same = λ d. absurd (eqb-false epoch own e d); other = λ d. refl }))

    module _ (newer : own ≤ epoch) (k : ℕ) (g : Left k) where
      above : (epoch ≡ own → ⊥) → own < epoch
      above d = omega (arith, d)

      pub whole : last ≤ k → Aligned own epoch end table store store (D.Kept (record { 0 = last }))
      whole h =
          let z = before-sized s x room well in
          let w = before-well s x room well in
          by_case (eqb epoch own)
          (λ e. aligned-same store z w own epoch end table (record { 0 = last }) refl (eqb-true epoch own e))
          (λ e.
          let d = eqb-false epoch own e in
          aligned-whole store z w own epoch end table (above d) k (g.other d) (record { 0 = last }) refl h)

      pub cut : k < last → Aligned own epoch end table store (lent lent_store.columns (cut_lent_store k).keys (cut_lent_store k).places k (length (rows k))) (D.Kept (record { 0 = k }))
      cut h =
          by_case (eqb epoch own)
          (λ e. let y = g.same (eqb-true epoch own e) in absurd (omega arith))
          (λ e.
          let d = eqb-false epoch own e in
          aligned-cut store (before-sized s x room well) (before-well s x room well) own epoch end table (above d) k (g.other d)
          (cut_lent_store k).keys (cut_lent_store k).places (length (rows k)) (record { 0 = k }) refl h (tabled k (omega arith)))
