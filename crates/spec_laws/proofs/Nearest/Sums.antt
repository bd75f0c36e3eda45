-- The sums, step by step, and their bounds. Assumes nothing.
use mathlib.Core.Path.{◌≡◌, refl, sym, subst}
use mathlib.Core.List.{List, [], ◌∷◌}
use Prim.Native.Nat.{ℕ, zero, suc, ◌+◌, ◌-◌, ◌*◌, ◌^◌, ◌≤◌, ◌<◌}
use native.Mathlib.Nat.{le_trans, lt_of_le_of_lt, mul-le-mul_right, suc-mul}
use native.Mathlib.Numerals.{add-one}
use native.Mathlib.Omega.{arith}
use mathlib.Core.Bool.{true, false}
use lib.Dec.{T, leb→le, lit<, lit≤}
use lib.ListN.{length, drop, get_or, drop_of_length-le}
use lib.Seq.{drop-cons}
use lib.Ieee.{Float, nan, inf, fin, binary32, add, sub, mul, up, down}
use Rattle.spec_laws.proofs.Nearest.Tests.{and_left, and_right}
use Rattle.spec.specs.Nearest.Order.{in_domain}
use Rattle.spec.specs.Nearest.Distance.{square, sum_from, squares, dot, all_in_domain, plus_zero}
use Rattle.spec_laws.proofs.Nearest.Bounds.{Within, From0, Whole, sub_within, mul_within, self_from0, add_from0}
use Rattle.spec_laws.proofs.Nearest.Bounds.{add_within, whole_is}

-- ---- the sum as a loop makes it
module _ (term : Float → Float → Float) (a b : List Float) where
  pub sum_step : (acc : Float) (i : ℕ) → i < length a → i < length b
      → sum_from term acc (drop i a) (drop i b) ≡ sum_from term (add binary32 acc (term (get_or a i nan) (get_or b i nan)))
      (drop (i + 1) a) (drop (i + 1) b)
  unfolding sum_from
  sum_step acc i h k = rw (drop-cons a i nan h, drop-cons b i nan k, add-one)

  pub sum_ends_left : (acc : Float) (i : ℕ) → length a ≤ i → sum_from term acc (drop i a) (drop i b) ≡ acc
  unfolding sum_from
  sum_ends_left acc i h = rw (drop_of_length-le a {i = i} h)

end-right : (term : Float → Float → Float) (acc : Float) (a : List Float) → sum_from term acc a [] ≡ acc
unfolding sum_from
end-right term acc [] = refl
end-right term acc (x ∷ a) = refl

pub sum_ends_right : (term : Float → Float → Float) (a b : List Float) (acc : Float) (i : ℕ) → length b ≤ i
    → sum_from term acc (drop i a) (drop i b) ≡ acc
sum_ends_right term a b acc i h = rw (drop_of_length-le b {i = i} h, end-right)

-- ---- bounds: each term is at most 2 ^ 66, and there are at most 32
whole-many : (i : ℕ) → i < 32 → Whole (suc i * 2 ^ 66)
whole-many i h = whole_is (suc i) 66 (omega arith) (lt_of_le_of_lt (mul-le-mul_right (2 ^ 215) h) (lit< tt))

next : (i : ℕ) → i * 2 ^ 66 + 2 ^ 66 ≡ suc i * 2 ^ 66
next i = sym (suc-mul i (2 ^ 66))

one_from0 : (acc s : Float) (i : ℕ) → i < 32 → From0 (i * 2 ^ 66) acc → From0 (2 ^ 66) s
    → From0 (suc i * 2 ^ 66) (add binary32 acc s)
one_from0 acc s i l h k = subst (λ (B : ℕ). From0 B (add binary32 acc s)) (next i)
    (add_from0 acc s (i * 2 ^ 66) (2 ^ 66) h k (subst (λ (B : ℕ). Whole B) (sym (next i)) (whole-many i l)))

one-within : (acc s : Float) (i : ℕ) → i < 32 → Within (i * 2 ^ 66) acc → Within (2 ^ 66) s
    → Within (suc i * 2 ^ 66) (add binary32 acc s)
one-within acc s i l h k = subst (λ (B : ℕ). Within B (add binary32 acc s)) (next i)
    (add_within acc s (i * 2 ^ 66) (2 ^ 66) h k (subst (λ (B : ℕ). Whole B) (sym (next i)) (whole-many i l)))

grow0 : (B C : ℕ) (x : Float) → B ≤ C → From0 B x → From0 C x
grow0 B C nan h k = k
grow0 B C (inf s) h k = k
grow0 B C (fin true m e) h k = k
grow0 B C (fin false m e) h k = le_trans k (mul-le-mul_right (down e) h)

grow : (B C : ℕ) (x : Float) → B ≤ C → Within B x → Within C x
grow B C nan h k = k
grow B C (inf s) h k = k
grow B C (fin s m e) h k = le_trans k (mul-le-mul_right (down e) h)

up_to : (i n : ℕ) → i + n ≤ 32 → i * 2 ^ 66 ≤ 2 ^ 71
up_to i n h = mul-le-mul_right (2 ^ 66) (fit i n h)
  where
    fit : (i n : ℕ) → i + n ≤ 32 → i ≤ 32
    fit i n h = omega arith

room : (i n : ℕ) → i + suc n ≤ 32 → (i < 32) × (suc i + n ≤ 32)
room i n h = (omega arith, omega arith)

-- a P for the components and a bound on the terms that follows from it
module _ (term : Float → Float → Float) (P : Float → Float → Type 0) where
  abbrev Pairs : List Float → List Float → Type 0
  Pairs [] ys = Unit
  Pairs (x ∷ xs) [] = Unit
  Pairs (x ∷ xs) (y ∷ ys) = P x y × Pairs xs ys

  sum_from0 : ((x y : Float) → P x y → From0 (2 ^ 66) (term x y)) → (acc : Float) (xs ys : List Float) (i : ℕ)
      → i + length xs ≤ 32 → From0 (i * 2 ^ 66) acc → Pairs xs ys → From0 (2 ^ 71) (sum_from term acc xs ys)
  unfolding sum_from
  sum_from0 t acc [] ys i l h p = grow0 (i * 2 ^ 66) (2 ^ 71) acc (up_to i 0 l) h
  sum_from0 t acc (x ∷ xs) [] i l h p = grow0 (i * 2 ^ 66) (2 ^ 71) acc (up_to i (suc (length xs)) l) h
  sum_from0 t acc (x ∷ xs) (y ∷ ys) i l h p =
      let r = room i (length xs) l in
      sum_from0 t (add binary32 acc (term x y)) xs ys (suc i) r.1
      (one_from0 acc (term x y) i r.0 h (t x y p.0)) p.1

  sum-within : ((x y : Float) → P x y → Within (2 ^ 66) (term x y)) → (acc : Float) (xs ys : List Float) (i : ℕ)
      → i + length xs ≤ 32 → Within (i * 2 ^ 66) acc → Pairs xs ys → Within (2 ^ 71) (sum_from term acc xs ys)
  unfolding sum_from
  sum-within t acc [] ys i l h p = grow (i * 2 ^ 66) (2 ^ 71) acc (up_to i 0 l) h
  sum-within t acc (x ∷ xs) [] i l h p = grow (i * 2 ^ 66) (2 ^ 71) acc (up_to i (suc (length xs)) l) h
  sum-within t acc (x ∷ xs) (y ∷ ys) i l h p =
      let r = room i (length xs) l in
      sum-within t (add binary32 acc (term x y)) xs ys (suc i) r.1
      (one-within acc (term x y) i r.0 h (t x y p.0)) p.1

-- ---- the three sums
abbrev Both : Float → Float → Type 0
Both x y = Within (2 ^ 32) x × Within (2 ^ 32) y

abbrev Same : Float → Float → Type 0
Same x y = Within (2 ^ 32) x × (x ≡ y)

-- in the domain, component by component
pub in_range_lem : (x : Float) → T (in_domain x) → Within (2 ^ 32) x
unfolding in_domain
in_range_lem nan t = absurd t
in_range_lem (inf s) t = absurd t
in_range_lem (fin s m e) t = leb→le (m * up e) (2 ^ 32 * down e) t

both : (term : Float → Float → Float) (xs ys : List Float) → T (all_in_domain xs) → T (all_in_domain ys)
    → Pairs term Both xs ys
unfolding all_in_domain
both term [] ys p q = tt
both term (x ∷ xs) [] p q = tt
both term (x ∷ xs) (y ∷ ys) p q = (
  (in_range_lem x (and_left (in_domain x) (all_in_domain xs) p), in_range_lem y (and_left (in_domain y) (all_in_domain ys) q)),
  both term xs ys (and_right (in_domain x) (all_in_domain xs) p) (and_right (in_domain y) (all_in_domain ys) q),
)

same : (term : Float → Float → Float) (xs : List Float) → T (all_in_domain xs) → Pairs term Same xs xs
unfolding all_in_domain
same term [] p = tt
same term (x ∷ xs) p = (
  (in_range_lem x (and_left (in_domain x) (all_in_domain xs) p), refl),
  same term xs (and_right (in_domain x) (all_in_domain xs) p),
)

pub squares_from0 : (xs ys : List Float) → length xs ≤ 32 → T (all_in_domain xs) → T (all_in_domain ys)
    → From0 (2 ^ 71) (squares xs ys)
squares_from0 xs ys l p q = sum_from0 square Both term plus_zero xs ys 0
    (subst (λ (n : ℕ). n ≤ 32) (zero+ (length xs)) l) tt≤ (both square xs ys p q)
  where
    zero+ : (n : ℕ) → n ≡ 0 + n
    zero+ n = omega arith

    tt≤ : From0 (0 * 2 ^ 66) plus_zero
    tt≤ = lit≤ tt

    term : (x y : Float) → Both x y → From0 (2 ^ 66) (square x y)
    term x y h = self_from0 (sub binary32 x y) (2 ^ 33)
        (sub_within x y (2 ^ 32) (2 ^ 32) h.0 h.1 (whole_is 1 33 (lit< tt) (lit< tt)))
        (whole_is 1 66 (lit< tt) (lit< tt))

pub own_from0 : (xs : List Float) → length xs ≤ 32 → T (all_in_domain xs) → From0 (2 ^ 71) (dot xs xs)
own_from0 xs l p = sum_from0 (mul binary32) Same term plus_zero xs xs 0
    (subst (λ (n : ℕ). n ≤ 32) (zero+ (length xs)) l) (lit≤ tt) (same (mul binary32) xs p)
  where
    zero+ : (n : ℕ) → n ≡ 0 + n
    zero+ n = omega arith

    term : (x y : Float) → Same x y → From0 (2 ^ 66) (mul binary32 x y)
    term x y h = subst (λ (z : Float). From0 (2 ^ 66) (mul binary32 x z)) h.1
        (grow0 (2 ^ 64) (2 ^ 66) (mul binary32 x x) (lit≤ tt)
        (self_from0 x (2 ^ 32) h.0 (whole_is 1 64 (lit< tt) (lit< tt))))

pub dot-within : (xs ys : List Float) → length xs ≤ 32 → T (all_in_domain xs) → T (all_in_domain ys)
    → Within (2 ^ 71) (dot xs ys)
dot-within xs ys l p q = sum-within (mul binary32) Both term plus_zero xs ys 0
    (subst (λ (n : ℕ). n ≤ 32) (zero+ (length xs)) l) (lit≤ tt) (both (mul binary32) xs ys p q)
  where
    zero+ : (n : ℕ) → n ≡ 0 + n
    zero+ n = omega arith

    term : (x y : Float) → Both x y → Within (2 ^ 66) (mul binary32 x y)
    term x y h = grow (2 ^ 64) (2 ^ 66) (mul binary32 x y) (lit≤ tt)
        (mul_within x y (2 ^ 32) (2 ^ 32) h.0 h.1 (whole_is 1 64 (lit< tt) (lit< tt)))
