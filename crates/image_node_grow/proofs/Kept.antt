-- A store that is put back as it was lent: no byte changes, and what stands there can be read again. Assumes nothing.
use Prim.Native.Nat.{ℕ, ◌+◌, ◌≤◌, ◌<◌, min}
use mathlib.Core.Path.{◌≡◌, refl, sym, ap, subst, ◌∙◌}
use mathlib.Core.Bool.{true}
use mathlib.Core.List.{List, [], ◌∷◌, ◌++◌, map}
use native.Mathlib.Omega.{arith}
use borrow.Author.Tests.{leb-true}
use lib.Dec.{leb}
use lib.ListN.{length, take, drop, drop_of_length-le}
use lib.Seq.{sets}
use Rattle.spec.specs.Lists.{◌and◌, every}
use Rattle.spec.specs.Log.{Log}
use Rattle.spec.specs.Layout.Format.{Bytes, bytes_of, concat_map, All}
use Rattle.spec.specs.Node.WellFormed.{numbered_from, well_formed_entry}
use Rattle.spec_laws.proofs.Lists.{and_left, and_right}
use Rattle.log_store.specs.View.{log_of}
use Rattle.log_store.specs.Table.{Row, rows_of, play_rows}
use Rattle.log_store.specs.Store.{every_below, same_rows, well_formed_store}
use Rattle.log_store.proofs.Columns.{log-length}
use Rattle.log_store.proofs.Facts.{same-rows}
use Rattle.node_header.specs.declared.HeldRow.{HeldRow}
use Rattle.node_lent.specs.Lend.{store_of}
use Rattle.image_store.specs.Image.{words, keys_in, places_in, log_at, rows_at, code_fits_at, well_formed_image}
use Rattle.image_store.specs.Read.{columns_at, all_readable}
use Rattle.image_store.specs.Write.{Fits, RowFits, entries_put, log_put, rows_put}
use Rattle.image_store.proofs.Words.{words-length}
use Rattle.image_store.proofs.Stored.{words_take}
use Rattle.image_store.proofs.Writing.{row-ids, row-offsets}
use Rattle.image_store.proofs.Read.{image_log}
use Rattle.image_store.proofs.Test.{image_test}
use Rattle.image_node.specs.Lent.{no_lent_store, begin_of, lent_store_at, store_put, StoreFits}
use Rattle.image_node.specs.State.{held_row_image}
use Rattle.image_node.proofs.Pick.{floats-whole}
use Rattle.image_store_append.specs.Put.{words_put, delete_at, longer}
use Rattle.image_store_append.proofs.WordLaws.{words_back}
use Rattle.image_store_append.proofs.EntryLaws.{delete_fits}
use Rattle.image_store_append.proofs.Fits.{longer-fits, rows_fit_lem}

all-front : {A : Type 0} (P : A → Type 0) (l : List A) (x : A) → All P (l ++ (x ∷ [])) → All P l
all-front P [] x f = tt
all-front P (y ∷ l) x f = (f.0, all-front P l x f.1)

module _ (s : List ℕ) (x : HeldRow) (bytes : Bytes s) (well : held_row_image s x ≡ true) where
  abbrev base : ℕ
  base = begin_of x

  abbrev last : ℕ
  last = x.held.last

  abbrev log : Log
  log = log_at s base last

  most : x.stored ≤ 1024
  unfolding well_formed_image
  most = leb-true x.stored 1024 (and_left (leb x.stored 1024) _ (and_right (leb last 1024) _ well))

  played : rows_at s base x.stored ≡ play_rows log
  unfolding well_formed_image
  played =
      same-rows (rows_at s base x.stored) (play_rows log)
      (and_right (every well_formed_entry log) _
      (and_right (every_below (code_fits_at s base) last) _
      (and_right (numbered_from 1 log) _ (and_right (leb x.stored 1024) _ (and_right (leb last 1024) _ well)))))

  column_back : (at : ℕ) → words_put s at (take x.stored (words 8 1024 s at)) ≡ s
  column_back at = ap (words_put s at) (words_take 8 x.stored 1024 s at most) ∙ words_back x.stored s at bytes

  pub rows_back : rows_put s base (rows_at s base x.stored) ≡ s
  unfolding rows_put
  rows_back =
      let m = most in
      let k = words-length 8 1024 s (base + 157696) in
      let o = words-length 8 1024 s (base + 165888) in
      let hk : x.stored ≤ length (keys_in s base) = omega arith in
      let hp : x.stored ≤ length (places_in s base) = omega arith in
      let ids = row-ids x.stored (keys_in s base) (places_in s base) hk hp in
      let offs = row-offsets x.stored (keys_in s base) (places_in s base) hk hp in
      ap (λ (l : List ℕ). sets (sets s (base + 157696) (concat_map (bytes_of 8) l)) (base + 165888) (concat_map (bytes_of 8) (map (λ (r : Row). r.offset) (rows_at s base x.stored)))) ids
      ∙ ap (λ (t : List ℕ). sets t (base + 165888) (concat_map (bytes_of 8) (map (λ (r : Row). r.offset) (rows_at s base x.stored)))) (column_back (base + 157696))
      ∙ ap (λ (l : List ℕ). sets s (base + 165888) (concat_map (bytes_of 8) l)) offs
      ∙ column_back (base + 165888)

  pub kept_image : s ≡ store_put s x x (lent_store_at s x)
  unfolding store_put lent_store_at entries_put
  kept_image =
      let c = columns_at s base last no_lent_store.columns.floats in
      let q : min last last ≡ last = omega arith in
      let d : drop last (log_of c last) ≡ [] = drop_of_length-le (log_of c last) {i = last} (omega (arith, log-length c last)) in
      sym
      (ap (λ (i : ℕ). rows_put (log_put s base i (log_of c last)) base (rows_at s base x.stored)) q
      ∙ ap (λ (l : Log). rows_put (entries_put s base last l) base (rows_at s base x.stored)) d
      ∙ rows_back)

  log-fits : All Fits log
  log-fits =
      let z = delete_fits 0 0 0 (omega arith) (omega arith) (omega arith) in
      all-front Fits log (delete_at 0 0 0) (longer-fits s base last x.stored bytes well (delete_at 0 0 0) z)

  pub kept-fits : StoreFits x (lent_store_at s x)
  unfolding lent_store_at
  kept-fits =
      let fs = no_lent_store.columns.floats in
      let t = image_test s base last x.stored fs floats-whole ∙ well in
      let e = image_log s base last x.stored fs (keys_in s base) (places_in s base) floats-whole
      (and_left (all_readable s base last) _ t) (and_right (all_readable s base last) _ t) in
      record {
        log = subst (All Fits) (sym e) log-fits;
        rows = subst (All RowFits) (sym played) (rows_fit_lem log log-fits);
      }
