-- One entry of a store's bytes played on a table of two columns, and the table put into the bytes. Assumes nothing.
use Prim.Native.Nat.{ℕ, ◌+◌, ◌*◌, ◌<◌}
use mathlib.Core.Path.{◌≡◌, refl, sym, ap, subst, ◌∙◌}
use native.Mathlib.Omega.{arith}
use mathlib.Core.List.{List}
use lib.ListN.{length, get_or}
use Rattle.spec.specs.Lists.{put, filter}
use Rattle.spec.specs.Layout.Format.{number_at}
use Rattle.log_store.specs.Table.{Row, Tabled, rows_of, row_below, other_row, row_by}
use Rattle.log_store.proofs.Rows.{rows-length}
use Rattle.log_store.proofs.Rebuilt.{by-set, by-drop}
use Rattle.image_store.specs.Read.{codes_in}
use Rattle.image_store.specs.Write.{rows_put, RowsWritten}
use Rattle.image_store_check.specs.Test.{offsets_in, ids_in}
use Rattle.image_store_check.proofs.EntryLaws.{word_in, code_in}
use Rattle.image_store_append.specs.Put.{Tables}

module _ (s : List ℕ) (base i : ℕ) (h : i < 1024) (k p k' p' : List ℕ) (n : ℕ) where
  -- the rows of an operation, by what the columns hold of the entry
  played-by : (n' code id o : ℕ) → code ≡ get_or s (base + 24576 + i) 0 → id ≡ number_at 8 s (base + 16384 + 8 * i) → o ≡ get_or (offsets_in s base) i 0
      → Tabled (n + 1) k p k' p' n' (row_by (rows_of k p n) code id o)
      → Tabled (n + 1) k p k' p' n' (row_by (rows_of k p n) (get_or (codes_in s base) i 0) (get_or (ids_in s base) i 0) (get_or (offsets_in s base) i 0))
  played-by n' code id o c d e t =
      subst (λ (x : ℕ). Tabled (n + 1) k p k' p' n' (row_by (rows_of k p n) (get_or (codes_in s base) i 0) (get_or (ids_in s base) i 0) x)) e
      (subst (λ (x : ℕ). Tabled (n + 1) k p k' p' n' (row_by (rows_of k p n) (get_or (codes_in s base) i 0) x o)) (d ∙ sym (word_in s base (base + 16384) i h))
      (subst (λ (x : ℕ). Tabled (n + 1) k p k' p' n' (row_by (rows_of k p n) x id o)) (c ∙ sym (code_in s base i h)) t))

  pub row-set : (n' offsets ids codes id o : ℕ) → offsets ≡ base + 8192 → ids ≡ base + 16384 → codes ≡ base + 24576
      → id ≡ number_at 8 s (ids + 8 * i) → o ≡ number_at 8 s (offsets + 8 * i) → get_or s (codes + i) 0 ≡ 1
      → Tabled (n + 1) k p k' p' n' (put row_below (record { id = id; offset = o }) (rows_of k p n))
      → Tabled (n + 1) k p k' p' n' (row_by (rows_of k p n) (get_or (codes_in s base) i 0) (get_or (ids_in s base) i 0) (get_or (offsets_in s base) i 0))
  row-set n' offsets ids codes id o eo ei ec d e one t =
      played-by n' (get_or s (codes + i) 0) id o (ap (λ (j : ℕ). get_or s (j + i) 0) ec) (d ∙ ap (λ (j : ℕ). number_at 8 s (j + 8 * i)) ei)
      (e ∙ ap (λ (j : ℕ). number_at 8 s (j + 8 * i)) eo ∙ sym (word_in s base (base + 8192) i h))
      (subst (λ (rs : List Row). Tabled (n + 1) k p k' p' n' rs) (by-set (rows_of k p n) (get_or s (codes + i) 0) id o one) t)

  pub row-dropped : (n' ids codes id : ℕ) → ids ≡ base + 16384 → codes ≡ base + 24576 → id ≡ number_at 8 s (ids + 8 * i) → (get_or s (codes + i) 0 ≡ 1 → ⊥)
      → Tabled (n + 1) k p k' p' n' (filter (other_row id) (rows_of k p n))
      → Tabled (n + 1) k p k' p' n' (row_by (rows_of k p n) (get_or (codes_in s base) i 0) (get_or (ids_in s base) i 0) (get_or (offsets_in s base) i 0))
  row-dropped n' ids codes id ei ec d other t =
      played-by n' (get_or s (codes + i) 0) id (get_or (offsets_in s base) i 0) (ap (λ (j : ℕ). get_or s (j + i) 0) ec) (d ∙ ap (λ (j : ℕ). number_at 8 s (j + 8 * i)) ei)
      refl
      (subst (λ (rs : List Row). Tabled (n + 1) k p k' p' n' rs) (by-drop (rows_of k p n) (get_or s (codes + i) 0) id (get_or (offsets_in s base) i 0) other) t)

-- ---- the rows put into the bytes

pub made : (s t : List ℕ) (base top : ℕ) (k p k' p' : List ℕ) (n : ℕ) (rs : List Row) → Tabled top k p k' p' n rs
    → RowsWritten s t base (rows_of k' p' n) → Tables s t base rs n
made s t base top k p k' p' n rs d w = record {
  image = w.image ∙ ap (rows_put s base) d.rows;
  count = sym (rows-length k' p' n (omega (arith, d.fits, d.keys)) (omega (arith, d.also, d.places))) ∙ ap length d.rows;
}
