-- Laws of the row of an id, in rows by rising id, and of the vector that the log gives the id. Assumes nothing.
use Prim.Native.Nat.{ℕ, ◌<◌}
use mathlib.Core.Path.{◌≡◌, refl, sym, ap, ◌∙◌, subst}
use mathlib.Core.Bool.{Bool, true, false}
use mathlib.Core.List.{List, [], ◌∷◌}
use mathlib.Core.Option.{Option, none, some}
use native.Mathlib.Omega.{arith}
use borrow.Author.Tests.{ltb-true, eq-eqb, ne_eqb}
use lib.Dec.{eqb, ltb}
use lib.ListN.{length, get_or}
use Rattle.spec.specs.Lists.{find, filter, lead}
use Rattle.spec.specs.Nearest.Search.{Vector}
use Rattle.spec.specs.Log.{Log, Vectors, play}
use Rattle.spec_laws.proofs.Log.Numbered.{Numbered}
use Rattle.log_store.specs.Table.{Row, other_row, play_rows, vector_of, vectors_of}
use Rattle.log_store.proofs.Put.{lead_true, lead_false, filter_true, filter_false}
use Rattle.log_store.proofs.Rows.{no_row}
use Rattle.log_store.proofs.PlayRows.{rows-vectors}
use Rattle.node_log_reads.specs.Vectors.{has_id, components_of, vector_in, row_of_id, standing_of, shown_at}

-- ---- the row of an id

module _ {ℓ} {A : Type ℓ} (p : A → Bool) (y : A) (ys : List A) where
  find_true : p y ≡ true → find p (y ∷ ys) ≡ some y
  unfolding find
  find_true e = rw e

  find_false : p y ≡ false → find p (y ∷ ys) ≡ find p ys
  unfolding find
  find_false e = rw e

module _ (id : ℕ) where
  abbrev pub below : Row → Bool
  below y = ltb y.id id

  abbrev pub Found : List Row → ℕ → Type 0
  Found l k = k < length l → (get_or l k no_row).id ≡ id → find (row_of_id id) l ≡ some (get_or l k no_row)

  -- the row behind those that stand below, where it is the id's
  pub found : (l : List Row) → Found l (lead below l)
  found [] = λ h q. absurd (nothing (lead below []) h)
    where
      nothing : (n : ℕ) → n < 0 → ⊥
      nothing n h = omega arith
  found (y ∷ ys) = go (ltb y.id id) refl (found ys)
    where
      go : (b : Bool) → ltb y.id id ≡ b → Found ys (lead below ys) → Found (y ∷ ys) (lead below (y ∷ ys))
      go true e ih =
          subst (Found (y ∷ ys)) (sym (lead_true below y ys e))
          (λ h q.
          let l = ltb-true y.id id e in
          find_false (row_of_id id) y ys (ne_eqb y.id id (λ e. omega arith)) ∙ ih (omega arith) q)
      go false e ih =
          subst (Found (y ∷ ys)) (sym (lead_false below y ys e)) (λ h q. find_true (row_of_id id) y ys (eq-eqb y.id id q))

  -- none among the rows of other ids
  pub none_other : (l : List Row) → find (row_of_id id) (filter (other_row id) l) ≡ none
  unfolding find filter
  none_other [] = refl
  none_other (y ∷ ys) = go (eqb y.id id) refl (none_other ys)
    where
      go : (b : Bool) → eqb y.id id ≡ b → find (row_of_id id) (filter (other_row id) ys) ≡ none
          → find (row_of_id id) (filter (other_row id) (y ∷ ys)) ≡ none
      go true e ih = ap (find (row_of_id id)) (filter_false (other_row id) y ys (rw e)) ∙ ih
      go false e ih =
          ap (find (row_of_id id)) (filter_true (other_row id) y ys (rw e))
          ∙ find_false (row_of_id id) y (filter (other_row id) ys) e ∙ ih

-- ---- its vector

module _ (l : Log) (id : ℕ) where
  abbrev vector_at : Option Row → Option Vector
  vector_at none = none
  vector_at (some r) = some (vector_of l r)

  find-rows : (rs : List Row) → find (has_id id) (vectors_of l rs) ≡ vector_at (find (row_of_id id) rs)
  unfolding find vectors_of vector_of
  find-rows [] = refl
  find-rows (r ∷ rs) = go (eqb r.id id) refl (find-rows rs)
    where
      go : (b : Bool) → eqb r.id id ≡ b → find (has_id id) (vectors_of l rs) ≡ vector_at (find (row_of_id id) rs)
          → find (has_id id) (vectors_of l (r ∷ rs)) ≡ vector_at (find (row_of_id id) (r ∷ rs))
      go true e ih = rw e
      go false e ih = rw e ih

  shown-row : (r : Option Row) → shown_at l (standing_of r) ≡ components_of (vector_at r)
  unfolding vector_of
  shown-row none = refl
  shown-row (some r) = refl

  -- a lookup at the offset that the log played gives the id is the vector that it gives the id
  pub shown : Numbered l → shown_at l (standing_of (find (row_of_id id) (play_rows l))) ≡ vector_in id (play l)
  unfolding vector_in
  shown h =
      shown-row (find (row_of_id id) (play_rows l))
      ∙ ap components_of (sym (find-rows (play_rows l)))
      ∙ ap (λ (vs : Vectors). components_of (find (has_id id) vs)) (rows-vectors l h)
