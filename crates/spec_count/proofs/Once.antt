-- No placement is counted twice, if no id is given twice: what 36 is needed for. Assumes nothing.
use Prim.Native.Nat.{ℕ, zero, suc, ◌≤◌}
use mathlib.Core.Path.{◌≡◌, refl, sym, ap, ◌∙◌}
use mathlib.Core.Bool.{Bool, true, false, cond}
use mathlib.Core.Logic.{◌⊎◌, inl, inr, ⊎_elim}
use mathlib.Core.List.Memᴰ
use mathlib.Core.List.{List, [], ◌∷◌, ◌++◌, map}
use native.Mathlib.Omega.{arith}
use lib.Dec.{eqb}
use lib.ListN.{length}
use borrow.Author.Tests.{eq-eqb}
use Rattle.spec.specs.Lists.{◌or◌, any}
use Rattle.spec_laws.proofs.Lists.{not_both}
use Rattle.spec_count.specs.Tuples.{before, tuples, sequences, In, Distinct}
use Rattle.spec_count.specs.Counts.{placements_of, repeats}
use Rattle.spec_count.proofs.Members.{Image, image_of, Headed, headed, tuple_of, sequence_of}

module _ {A : Type 0} where
  distinct_append : (xs ys : List A) → Distinct xs → Distinct ys → ((x : A) → In x xs → In x ys → ⊥) → Distinct (xs ++ ys)
  distinct_append [] ys d e apart = e
  distinct_append (x ∷ xs) ys d e apart = (
    λ m. ⊎_elim d.0 (apart x (Memᴰ.head refl)) (Memᴰ.append_cases xs m),
    distinct_append xs ys d.1 e (λ y k. apart y (Memᴰ.tail k)),
  )

module _ {A : Type 0} where
  tail_same : (x y : A) (s t : List A) → ◌≡◌ {A = List A} (x ∷ s) (y ∷ t) → s ≡ t
  tail_same x y s t e = cc

  head-same : (x y : A) (s t : List A) → ◌≡◌ {A = List A} (x ∷ s) (y ∷ t) → x ≡ y
  head-same x y s t e = cc

  distinct_headed : (x : A) (ts : List (List A)) → Distinct ts → Distinct (map (λ (t : List A). x ∷ t) ts)
  distinct_headed x [] d = tt
  distinct_headed x (t ∷ ts) d = (
    λ m. let r = image_of (λ (u : List A). x ∷ u) ts (x ∷ t) m in d.0 (Memᴰ.cast (tail_same x x t r.of r.same) r.there),
    distinct_headed x ts d.1,
  )

  distinct_before : (xs : List A) (ts : List (List A)) → Distinct xs → Distinct ts → Distinct (before xs ts)
  unfolding before
  distinct_before [] ts d e = tt
  distinct_before (x ∷ xs) ts d e =
      distinct_append (map (λ (t : List A). x ∷ t) ts) (before xs ts) (distinct_headed x ts e) (distinct_before xs ts d.1 e)
      (λ l m k.
      let r = image_of (λ (t : List A). x ∷ t) ts l m in
      let h = headed xs ts l k in
      d.0 (Memᴰ.cast (head-same x h.head r.of h.rest (sym r.same ∙ h.same)) h.first))

  distinct_tuples : (n : ℕ) (xs : List A) → Distinct xs → Distinct (tuples n xs)
  unfolding tuples
  distinct_tuples zero xs d = (λ m. Memᴰ.not-nil m, tt)
  distinct_tuples (suc n) xs d = distinct_before xs (tuples n xs) d (distinct_tuples n xs d)

  distinct_sequences : (n : ℕ) (xs : List A) → Distinct xs → Distinct (sequences n xs)
  unfolding sequences
  distinct_sequences zero xs d = distinct_tuples 0 xs d
  distinct_sequences (suc n) xs d =
      distinct_append (sequences n xs) (tuples (suc n) xs) (distinct_sequences n xs d) (distinct_tuples (suc n) xs d)
      (λ l m k. let s = sequence_of n xs l m in let t = tuple_of (suc n) xs l k in omega arith)

-- an id that stands among others is found there
found : (x : ℕ) (xs : List ℕ) → In x xs → any (eqb x) xs ≡ true
unfolding any
found x [] m = absurd (Memᴰ.not-nil m)
found x (y ∷ ys) m = ⊎_elim (λ e. rw (eq-eqb x y e)) (λ k. go (eqb x y) (found x ys k)) (Memᴰ.cases_cons m)
  where
    go : (b : Bool) → any (eqb x) ys ≡ true → cond b true (any (eqb x) ys) ≡ true
    go true e = refl
    go false e = e

ids_distinct : (ids : List ℕ) → repeats ids ≡ false → Distinct ids
unfolding repeats ◌or◌
ids_distinct [] e = tt
ids_distinct (x ∷ xs) e = go (any (eqb x) xs) refl e (ids_distinct xs)
  where
    go : (b : Bool) → any (eqb x) xs ≡ b → b or repeats xs ≡ false → (repeats xs ≡ false → Distinct xs) → Distinct (x ∷ xs)
    go true f e ih = let z : ◌≡◌ {A = ℕ} 0 1 = cc in absurd (omega arith)
    go false f e ih = (λ m. not_both (any (eqb x) xs) (found x xs m) f, ih e)

pub once : (lists nodes : ℕ) (ids : List ℕ) → repeats ids ≡ false → Distinct (placements_of lists nodes ids)
once lists nodes ids e = distinct_sequences lists (sequences nodes ids) (distinct_sequences nodes ids (ids_distinct ids e))
