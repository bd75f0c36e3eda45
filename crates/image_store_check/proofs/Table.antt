-- The clauses of 24 that speak of the table: where there are as many rows as entries; and each row and entry told by the bytes. Assumes
-- nothing.
use Prim.Native.Nat.{ℕ, ◌+◌, ◌-◌, ◌*◌, ◌≤◌, ◌<◌}
use mathlib.Core.Path.{◌≡◌, refl, sym, ap, ◌∙◌, subst}
use mathlib.Core.Bool.{Bool, true, false, not}
use mathlib.Core.List.{List}
use mathlib.Core.Logic.{inl}
use native.Mathlib.Omega.{arith}
use lib.Dec.{eqb, ltb}
use lib.ListN.{length, get_or}
use Rattle.spec.specs.Layout.Format.{number_at}
use Rattle.spec_laws.proofs.Nearest.Tests.{Test, less, same, more, test}
use Rattle.log_store.specs.Table.{rows_of, rows_played}
use Rattle.log_store.specs.Store.{same_rows}
use Rattle.log_store.proofs.Facts.{same-rows}
use Rattle.log_check.specs.Conditions.{Decides, Rises, Parted, RowsFit, AllSettled}
use Rattle.log_check.proofs.Answers.{grant, false_if}
use Rattle.log_check.proofs.Played.{fit-rises, played-fit}
use Rattle.log_check.proofs.Walking.{row_zero, row-far, row_other, row_delete, row-top, row_next, agrees-found, agrees-none, all-answered}
use Rattle.image_store.specs.Image.{keys_in, places_in}
use Rattle.image_store.specs.Read.{codes_in}
use Rattle.image_store_check.specs.Test.{ids_in, RowFitsIn, AgreesIn}
use Rattle.image_store_check.proofs.EntryLaws.{word_in, code_in}
use Rattle.image_store_check.proofs.Onto.{onto}

module _ (is cs ks ps : List ℕ) (n : ℕ) (f : RowsFit is cs ks ps n n) where
  rises : Rises ks n
  rises = fit-rises is cs ks ps n n f

  one_key : (i j : ℕ) → i < n → j < n → get_or ks i 0 ≡ get_or ks j 0 → i ≡ j
  one_key i j h g e = go (test i j)
    where
      go : Test i j → i ≡ j
      go (less a b c) = let u = rises i j a g in absurd (omega arith)
      go (same a b c) = a
      go (more a b c) = let u = rises j i a h in absurd (omega arith)

  -- the entry that row j names
  abbrev named : ℕ → ℕ
  named j = get_or ps j 0 - 1

  named_into : (j : ℕ) → j < n → named j < n
  named_into j h = let a = (f j h).names.starts in let b = (f j h).names.ends in omega arith

  named-once : (i j : ℕ) → i < n → j < n → named i ≡ named j → i ≡ j
  named-once i j h g e =
      one_key i j h g (sym (f i h).names.same ∙ ap (λ (k : ℕ). get_or is k 0) e ∙ (f j g).names.same)

  -- as many rows as entries: each entry is named
  pub whole-settled : AllSettled is cs ks ps n n
  whole-settled i h =
      let r = onto n named named_into named-once i h in
      let w = (f r.0 r.1).names in
      let a = w.starts in
      let e = r.2 in
      inl (inl (r.0, r.1, sym (subst (λ (k : ℕ). get_or is k 0 ≡ get_or ks r.0 0) e w.same), omega arith))

module _ (os is cs ks ps : List ℕ) (n m : ℕ) (hk : m ≤ length ks) (hp : m ≤ length ps) (num : (i : ℕ) → i < n → get_or os i 0 ≡ i + 1) where
  abbrev answer : Bool
  answer = same_rows (rows_of ks ps m) (rows_played os is cs n)

  pub whole-answered : m ≡ n → (b : Bool) → Decides b (RowsFit is cs ks ps n m) → b ≡ answer
  whole-answered e true d =
      let f = d.yes refl in
      all-answered os is cs ks ps n m hk hp num true f
      (grant (subst (λ (k : ℕ). RowsFit is cs ks ps n k → AllSettled is cs ks ps n k) (sym e) (whole-settled is cs ks ps n) f))
  whole-answered e false d =
      false_if answer
      (λ q. d.nay refl (played-fit os is cs ks ps n m hk hp num (same-rows (rows_of ks ps m) (rows_played os is cs n) q)))

-- ---- one row, told by the bytes: p its place, key its key, x the id and the code of the entry that it names

module _ (s : List ℕ) (base n j : ℕ) (most : n ≤ 1024) (h : j < 1024) (p : ℕ) (p-is : p ≡ number_at 8 s (base + 165888 + 8 * j)) where
  place : get_or (places_in s base) j 0 ≡ p
  place = word_in s base (base + 165888) j h ∙ sym p-is

  pub zero_row : p ≡ 0 → Decides false (RowFitsIn s base n j)
  zero_row e = row_zero _ _ _ _ _ _ (place ∙ e)

  pub far-row : n < p → Decides false (RowFitsIn s base n j)
  far-row l = row-far _ _ _ _ _ _ (subst (λ (k : ℕ). n < k) (sym place) l)

  module _ (pos : p ≡ 0 → ⊥) (l : p ≤ n) (key : ℕ) (key-is : key ≡ number_at 8 s (base + 157696 + 8 * j)) (x : ℕ) (x-is : x ≡ number_at 8 s (base + 16384 + 8 * (p - 1))) where
    named-id : get_or (ids_in s base) (get_or (places_in s base) j 0 - 1) 0 ≡ x
    named-id = ap (λ (k : ℕ). get_or (ids_in s base) (k - 1) 0) place ∙ word_in s base (base + 16384) (p - 1) (omega arith) ∙ sym x-is

    named-code : get_or (codes_in s base) (get_or (places_in s base) j 0 - 1) 0 ≡ get_or s (base + 24576 + (p - 1)) 0
    named-code = ap (λ (k : ℕ). get_or (codes_in s base) (k - 1) 0) place ∙ code_in s base (p - 1) (omega arith)

    own_key : get_or (keys_in s base) j 0 ≡ key
    own_key = word_in s base (base + 157696) j h ∙ sym key-is

    pub other_row_lem : (x ≡ key → ⊥) → Decides false (RowFitsIn s base n j)
    other_row_lem q = row_other _ _ _ _ _ _ (λ e. q (sym named-id ∙ e ∙ own_key))

    pub delete_row : (get_or s (base + 24576 + (p - 1)) 0 ≡ 1 → ⊥) → Decides false (RowFitsIn s base n j)
    delete_row q = row_delete _ _ _ _ _ _ (λ e. q (sym named-code ∙ e))

    module _ (e : x ≡ key) (u : get_or s (base + 24576 + (p - 1)) 0 ≡ 1) where
      pub top-row : j ≡ 0 → Decides true (RowFitsIn s base n j)
      top-row z =
          row-top _ _ _ _ _ _ (λ q. pos (sym place ∙ q)) (subst (λ (k : ℕ). k ≤ n) (sym place) l) (named-id ∙ e ∙ sym own_key) (named-code ∙ u) z

      pub next_row : (j ≡ 0 → ⊥) → (y : ℕ) → y ≡ number_at 8 s (base + 157696 + 8 * (j - 1)) → Decides (ltb y key) (RowFitsIn s base n j)
      next_row z y y-is =
          let k : get_or (keys_in s base) (j - 1) 0 ≡ y = word_in s base (base + 157696) (j - 1) (omega arith) ∙ sym y-is in
          subst (λ (b : Bool). Decides b (RowFitsIn s base n j)) (ap (λ (a : ℕ). ltb a (get_or (keys_in s base) j 0)) k ∙ ap (ltb y) own_key)
          (row_next _ _ _ _ _ _ (λ q. pos (sym place ∙ q)) (subst (λ (k : ℕ). k ≤ n) (sym place) l) (named-id ∙ e ∙ sym own_key) (named-code ∙ u) z)

-- ---- one entry

module _ (s : List ℕ) (base i k : ℕ) (h : i < 1024) (g : k < 1024) (x y : ℕ) (x-is : x ≡ number_at 8 s (base + 16384 + 8 * i)) (y-is : y ≡ number_at 8 s (base + 16384 + 8 * k)) where
  pub ids-same : y ≡ x → get_or (ids_in s base) k 0 ≡ get_or (ids_in s base) i 0
  ids-same e = word_in s base (base + 16384) k g ∙ sym y-is ∙ e ∙ x-is ∙ sym (word_in s base (base + 16384) i h)

  pub ids-other : (y ≡ x → ⊥) → get_or (ids_in s base) k 0 ≡ get_or (ids_in s base) i 0 → ⊥
  ids-other n e = n (y-is ∙ sym (word_in s base (base + 16384) k g) ∙ e ∙ word_in s base (base + 16384) i h ∙ sym x-is)

module _ (s : List ℕ) (base m i : ℕ) (most : m ≤ 1024) (h : i < 1024) (f : Rises (keys_in s base) m) (x : ℕ) (x-is : x ≡ number_at 8 s (base + 16384 + 8 * i))
    (at : ℕ) (w : Parted (keys_in s base) m x at) where
  own-id : get_or (ids_in s base) i 0 ≡ x
  own-id = word_in s base (base + 16384) i h ∙ sym x-is

  parted : Parted (keys_in s base) m (get_or (ids_in s base) i 0) at
  parted = subst (λ (k : ℕ). Parted (keys_in s base) m k at) (sym own-id) w

  none-by : (at < m → get_or (keys_in s base) at 0 ≡ get_or (ids_in s base) i 0 → ⊥) → Decides (not (eqb (get_or s (base + 24576 + i) 0) 1)) (AgreesIn s base m i)
  none-by q =
      subst (λ (k : ℕ). Decides (not (eqb k 1)) (AgreesIn s base m i)) (code_in s base i h)
      (agrees-none (ids_in s base) (codes_in s base) (keys_in s base) (places_in s base) m i f at parted q)

  pub past_agrees : m ≤ at → Decides (not (eqb (get_or s (base + 24576 + i) 0) 1)) (AgreesIn s base m i)
  past_agrees l = none-by (λ q. absurd (omega arith))

  module _ (l : at < m) (key : ℕ) (key-is : key ≡ number_at 8 s (base + 157696 + 8 * at)) where
    there : get_or (keys_in s base) at 0 ≡ key
    there = word_in s base (base + 157696) at (omega arith) ∙ sym key-is

    pub other-agrees : (key ≡ x → ⊥) → Decides (not (eqb (get_or s (base + 24576 + i) 0) 1)) (AgreesIn s base m i)
    other-agrees n = none-by (λ q e. n (sym there ∙ e ∙ own-id))

    pub same-agrees : key ≡ x → (p : ℕ) → p ≡ number_at 8 s (base + 165888 + 8 * at) → Decides (ltb i p) (AgreesIn s base m i)
    same-agrees e p p-is =
        subst (λ (k : ℕ). Decides (ltb i k) (AgreesIn s base m i)) (word_in s base (base + 165888) at (omega arith) ∙ sym p-is)
        (agrees-found (ids_in s base) (codes_in s base) (keys_in s base) (places_in s base) m i f at l (there ∙ e ∙ sym own-id))
