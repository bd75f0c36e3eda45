-- Which lists are among the tuples and the sequences, and so which placements are counted: all of them. Assumes nothing.
use Prim.Native.Nat.{ℕ, zero, suc, ◌≤◌, ◌<◌}
use mathlib.Core.Path.{◌≡◌, refl, sym, ap, ◌∙◌, subst}
use mathlib.Core.Logic.{◌↔◌, ◌⊎◌, inl, inr, ⊎_elim}
use mathlib.Core.List.Memᴰ
use mathlib.Core.List.{List, [], ◌∷◌, ◌++◌, map}
use native.Mathlib.Omega.{arith}
use lib.Dec.{leb}
use lib.ListN.{length}
use borrow.Author.Tests.{leb-true, leb-false}
use mathlib.Core.Bool.{Bool, true, false}
use Rattle.spec.specs.Layout.Format.{All}
use Rattle.spec.specs.Map.Create.{Placement}
use Rattle.spec_count.specs.Tuples.{before, tuples, sequences, In}
use Rattle.spec_count.specs.Counts.{placements_of}

module _ {A B : Type 0} where
  -- what a list's image holds
  pub record Image (f : A → B) (xs : List A) (y : B) : Type 0 where
    pub of : A
    pub same : y ≡ f of
    pub there : In of xs

  pub image_of : (f : A → B) (xs : List A) (y : B) → In y (map f xs) → Image f xs y
  image_of f [] y m = absurd (Memᴰ.not-nil m)
  image_of f (x ∷ xs) y m =
      ⊎_elim (λ e. record { of = x; same = e; there = Memᴰ.head refl })
      (λ k. let r = image_of f xs y k in record { of = r.of; same = r.same; there = Memᴰ.tail r.there })
      (Memᴰ.cases_cons m)

  in_image : (f : A → B) (xs : List A) (x : A) → In x xs → In (f x) (map f xs)
  in_image f [] x m = absurd (Memᴰ.not-nil m)
  in_image f (y ∷ ys) x m = ⊎_elim (λ e. Memᴰ.head (ap f e)) (λ k. Memᴰ.tail (in_image f ys x k)) (Memᴰ.cases_cons m)

module _ {A : Type 0} where
  -- what stands among members put before lists
  pub record Headed (xs : List A) (ts : List (List A)) (l : List A) : Type 0 where
    pub head : A
    pub rest : List A
    pub same : l ≡ head ∷ rest
    pub first : In head xs
    pub behind : In rest ts

  pub headed : (xs : List A) (ts : List (List A)) (l : List A) → In l (before xs ts) → Headed xs ts l
  unfolding before
  headed [] ts l m = absurd (Memᴰ.not-nil m)
  headed (x ∷ xs) ts l m =
      ⊎_elim
      (λ k. let r = image_of (λ (t : List A). x ∷ t) ts l k in
      record { head = x; rest = r.of; same = r.same; first = Memᴰ.head refl; behind = r.there })
      (λ k. let r = headed xs ts l k in
      record { head = r.head; rest = r.rest; same = r.same; first = Memᴰ.tail r.first; behind = r.behind })
      (Memᴰ.append_cases (map (λ (t : List A). x ∷ t) ts) m)

  in_before : (xs : List A) (ts : List (List A)) (x : A) (t : List A) → In x xs → In t ts → In (x ∷ t) (before xs ts)
  unfolding before
  in_before [] ts x t m k = absurd (Memᴰ.not-nil m)
  in_before (y ∷ ys) ts x t m k =
      ⊎_elim
      (λ e. Memᴰ.append_left (before ys ts) (Memᴰ.cast (ap (λ (z : A). z ∷ t) e) (in_image (λ (u : List A). y ∷ u) ts t k)))
      (λ j. Memᴰ.append_right (map (λ (u : List A). y ∷ u) ts) (in_before ys ts x t j k))
      (Memᴰ.cases_cons m)

  -- a list of exactly n members of xs
  abbrev pub Tuple : ℕ → List A → List A → Type 0
  Tuple n xs l = (length l ≡ n) × All (λ (x : A). In x xs) l

  pub tuple_of : (n : ℕ) (xs l : List A) → In l (tuples n xs) → Tuple n xs l
  unfolding tuples
  tuple_of zero xs l m = ⊎_elim (λ e. subst (λ (k : List A). Tuple 0 xs k) (sym e) (refl, tt)) (λ k. absurd (Memᴰ.not-nil k)) (Memᴰ.cases_cons m)
  tuple_of (suc n) xs l m =
      let h = headed xs (tuples n xs) l m in
      let r = tuple_of n xs h.rest h.behind in
      subst (λ (k : List A). Tuple (suc n) xs k) (sym h.same) (ap suc r.0, (h.first, r.1))

  in_tuples : (n : ℕ) (xs l : List A) → length l ≡ n → All (λ (x : A). In x xs) l → In l (tuples n xs)
  unfolding tuples
  in_tuples zero xs [] e a = Memᴰ.head refl
  in_tuples zero xs (x ∷ l) e a = absurd (omega arith)
  in_tuples (suc n) xs [] e a = absurd (omega arith)
  in_tuples (suc n) xs (x ∷ l) e a = in_before xs (tuples n xs) x l a.0 (in_tuples n xs l (omega arith) a.1)

  -- a list of at most n members of xs
  abbrev pub Sequence : ℕ → List A → List A → Type 0
  Sequence n xs l = (length l ≤ n) × All (λ (x : A). In x xs) l

  pub sequence_of : (n : ℕ) (xs l : List A) → In l (sequences n xs) → Sequence n xs l
  unfolding sequences
  sequence_of zero xs l m = let r = tuple_of 0 xs l m in (omega arith, r.1)
  sequence_of (suc n) xs l m =
      ⊎_elim (λ k. let r = sequence_of n xs l k in (omega arith, r.1)) (λ k. let r = tuple_of (suc n) xs l k in (omega arith, r.1))
      (Memᴰ.append_cases (sequences n xs) m)

  in_sequences : (n : ℕ) (xs l : List A) → length l ≤ n → All (λ (x : A). In x xs) l → In l (sequences n xs)
  unfolding sequences
  in_sequences zero xs l h a = in_tuples 0 xs l (omega arith) a
  in_sequences (suc n) xs l h a = go (leb (length l) n) refl (λ k. in_sequences n xs l k a)
    where
      go : (b : Bool) → leb (length l) n ≡ b → (length l ≤ n → In l (sequences n xs)) → In l (sequences n xs ++ tuples (suc n) xs)
      go true e ih = Memᴰ.append_left (tuples (suc n) xs) (ih (leb-true (length l) n e))
      go false e ih = Memᴰ.append_right (sequences n xs) (in_tuples (suc n) xs l (let z = leb-false (length l) n e in omega arith) a)

  all_to : (P Q : A → Type 0) → ((x : A) → P x → Q x) → (l : List A) → All P l → All Q l
  all_to P Q f [] a = tt
  all_to P Q f (x ∷ l) a = (f x a.0, all_to P Q f l a.1)

-- THE placements that are counted: at most so many lists, each of at most so many nodes, each node among the ids
pub all_there : (lists nodes : ℕ) (ids : List ℕ) (p : Placement)
    → In p (placements_of lists nodes ids) ↔ ((length p ≤ lists) × All (λ (l : List ℕ). (length l ≤ nodes) × All (λ (n : ℕ). In n ids) l) p)
all_there lists nodes ids p = (there, back)
  where
    there : In p (placements_of lists nodes ids) → (length p ≤ lists) × All (λ (l : List ℕ). Sequence nodes ids l) p
    there m =
        let r = sequence_of lists (sequences nodes ids) p m in
        (r.0, all_to (λ (l : List ℕ). In l (sequences nodes ids)) (λ (l : List ℕ). Sequence nodes ids l) (λ l k. sequence_of nodes ids l k) p r.1)

    back : (length p ≤ lists) × All (λ (l : List ℕ). Sequence nodes ids l) p → In p (placements_of lists nodes ids)
    back a =
        in_sequences lists (sequences nodes ids) p a.0
        (all_to (λ (l : List ℕ). Sequence nodes ids l) (λ (l : List ℕ). In l (sequences nodes ids)) (λ l k. in_sequences nodes ids l k.0 k.1) p a.1)
