-- Laws of one pass over a table: what is left to ask from a place on. Over any row. Assumes nothing.
use mathlib.Core.Path.{◌≡◌, refl, ap, ◌∙◌}
use mathlib.Core.Bool.{Bool, true, false, cond}
use mathlib.Core.List.{List, [], ◌∷◌, map}
use Prim.Native.Nat.{ℕ, zero, suc, ◌+◌, ◌-◌, ◌≤◌, ◌<◌}
use native.Mathlib.Numerals.{add-one}
use native.Mathlib.Omega.{arith}
use lib.ListN.{length, take, drop, get_or, length-map, length-drop, drop_of_length-le}
use lib.Seq.{drop-cons, get_or-take, length-take-le}
use lib.Dec.{eqb, leb}
use borrow.Author.Tests.{le-leb, lt-leb, ne_eqb}
use Rattle.spec.specs.Lists.{◌and◌, ◌or◌, every, rising}
use Rattle.spec.specs.Map.WellFormed.{table_fits}
use Rattle.map_check.specs.Rows.{follows}
use Rattle.map_check.specs.Lent.{table_counted}

-- ---- tests in another order

middle : (o k e r : Bool) → cond k e false and (o and r) ≡ (o and k) and (e and r)
unfolding ◌and◌
middle true true e r = refl
middle true false e r = refl
middle false true true r = refl
middle false true false r = refl
middle false false e r = refl

pub and_pairs : (a b c d : Bool) → (a and b) and (c and d) ≡ (a and c) and (b and d)
unfolding ◌and◌
and_pairs true true c d = refl
and_pairs true false true d = refl
and_pairs true false false d = refl
and_pairs false b c d = refl

pub and_swap : (a b : Bool) → a and b ≡ b and a
unfolding ◌and◌
and_swap true true = refl
and_swap true false = refl
and_swap false true = refl
and_swap false false = refl

last-first : (a b c : Bool) → a and (b and c) ≡ (a and c) and b
unfolding ◌and◌
last-first true b c = and_swap b c
last-first false b c = refl

-- ---- what is left: each row from a place on by itself, and the order from the row before it on

abbrev pub Rest {ℓ} : {A : Type ℓ} → (A → A → Bool) → (A → Bool) → List A → ℕ → ℕ → Bool
Rest lt ok l i last = every ok (drop i l) and rising lt (drop last l)

module _ {ℓ} {A : Type ℓ} (lt : A → A → Bool) (ok : A → Bool) where
  first : (x : A) (l : List A) → every ok (x ∷ l) and rising lt (x ∷ l) ≡ follows lt ok 0 x x and (every ok l and rising lt (x ∷ l))
  unfolding every follows ◌or◌ ◌and◌
  first x l = middle true (ok x) (every ok l) (rising lt (x ∷ l))

  later : (j : ℕ) (x y : A) (l : List A)
      → every ok (y ∷ l) and rising lt (x ∷ y ∷ l) ≡ follows lt ok (suc j) x y and (every ok l and rising lt (y ∷ l))
  unfolding every rising follows ◌or◌
  later j x y l = rw (ne_eqb (suc j) 0 (λ e. omega arith)) (middle (lt x y) (ok y) (every ok l) (rising lt (y ∷ l)))

  step : (l : List A) (j last : ℕ) (d : A) → last ≡ j → suc j < length l
      → Rest lt ok l (suc j) last ≡ follows lt ok (suc j) (get_or l last d) (get_or l (suc j) d) and Rest lt ok l (suc (suc j)) (suc j)
  step l j last d q h =
      rw (q, drop-cons l j d (omega arith), drop-cons l (suc j) d h) (later j (get_or l j d) (get_or l (suc j) d) (drop (suc (suc j)) l))

  open_rest : (l : List A) (i last : ℕ) (d : A) → last ≡ i - 1 → i < length l
      → Rest lt ok l i last ≡ follows lt ok i (get_or l last d) (get_or l i d) and Rest lt ok l (suc i) i
  open_rest [] i last d q h = absurd (omega arith)
  open_rest (x ∷ xs) zero zero d q h = first x xs
  open_rest (x ∷ xs) zero (suc k) d q h = absurd (omega arith)
  open_rest (x ∷ xs) (suc j) last d q h = step (x ∷ xs) j last d (omega arith) h

  few-rise : (l : List A) → length l ≤ 1 → rising lt l ≡ true
  unfolding rising
  few-rise [] h = refl
  few-rise (x ∷ []) h = refl
  few-rise (x ∷ y ∷ ys) h = absurd (omega arith)

  module _ (xs : List A) (n : ℕ) (le : n ≤ length xs) (i last : ℕ) (q : last ≡ i - 1) where
    at_rest : (d : A) → i < n
        → Rest lt ok (take n xs) i last ≡ follows lt ok i (get_or xs last d) (get_or xs i d) and Rest lt ok (take n xs) (i + 1) i
    at_rest d h =
        open_rest (take n xs) i last d q (rw (length-take-le n xs le) h)
        ∙ rw (get_or-take n xs last d (omega arith), get_or-take n xs i d h, add-one)

    module _ {t : Bool} (inv : t ≡ Rest lt ok (take n xs) i last) where
      pub rest-on : (d : A) → i < n → follows lt ok i (get_or xs last d) (get_or xs i d) ≡ true → t ≡ Rest lt ok (take n xs) (i + 1) i
      unfolding ◌and◌
      rest-on d h e = inv ∙ at_rest d h ∙ rw e

      pub rest_stop : (d : A) → i < n → follows lt ok i (get_or xs last d) (get_or xs i d) ≡ false → t ≡ false
      unfolding ◌and◌
      rest_stop d h e = inv ∙ at_rest d h ∙ rw e

      pub rest_end : n ≤ i → t ≡ true
      unfolding every ◌and◌
      rest_end h =
          let short : length (drop last (take n xs)) ≤ 1 = omega (arith, length-drop last (take n xs), length-take-le n xs le) in
          inv ∙ rw (drop_of_length-le (take n xs) {i = i} (rw (length-take-le n xs le) h), few-rise (drop last (take n xs)) short)

-- ---- a whole table, before the pass

module _ {ℓ κ} {A : Type ℓ} {B : Type κ} (v : A → B) where
  rising-map : (lt : B → B → Bool) (l : List A) → rising lt (map v l) ≡ rising (λ a b. lt (v a) (v b)) l
  unfolding rising
  rising-map lt [] = refl
  rising-map lt (x ∷ []) = refl
  rising-map lt (x ∷ y ∷ ys) = ap (λ (t : Bool). lt (v x) (v y) and t) (rising-map lt (y ∷ ys))

  every_both : (c : A → Bool) (f : B → Bool) (l : List A) → every c l and every f (map v l) ≡ every (λ a. c a and f (v a)) l
  unfolding every ◌and◌
  every_both c f [] = refl
  every_both c f (y ∷ ys) = go (c y) (f (v y)) (every_both c f ys)
    where
      go : (a b : Bool) → every c ys and every f (map v ys) ≡ every (λ a. c a and f (v a)) ys
          → cond a (every c ys) false and cond b (every f (map v ys)) false ≡ cond (a and b) (every (λ a. c a and f (v a)) ys) false
      go true true more = more
      go true false more = and_swap (every c ys) false
      go false b more = refl

  module _ (limit : ℕ) (lt : B → B → Bool) (c : A → Bool) (f : B → Bool) (xs : List A) (n : ℕ) where
    pub table-start : n ≤ limit → n ≤ length xs
        → table_counted limit c n xs and table_fits limit lt f (map v (take n xs)) ≡ Rest (λ a b. lt (v a) (v b)) (λ a. c a and f (v a)) (take n xs) 0 0
    unfolding table_counted table_fits ◌and◌
    table-start h le =
        let s : length (map v (take n xs)) ≡ n = length-map (take n xs) v ∙ length-take-le n xs le in
        rw (le-leb n limit h, s, le-leb n limit h)
        (last-first (every c (take n xs)) (rising lt (map v (take n xs))) (every f (map v (take n xs)))
        ∙ rw (every_both c f (take n xs), rising-map lt (take n xs)))

    pub table_over : limit < n → table_counted limit c n xs and table_fits limit lt f (map v (take n xs)) ≡ false
    unfolding table_counted ◌and◌
    table_over h = rw (lt-leb n limit h)
