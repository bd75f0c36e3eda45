-- One of several sums in step, and a stored vector's components. Assumes nothing.
use mathlib.Core.Path.{◌≡◌, refl, sym, ap, ◌∙◌, subst}
use mathlib.Core.Bool.{Bool, true, false}
use mathlib.Core.List.{List}
use Prim.Native.Nat.{ℕ, ◌+◌, ◌≤◌, ◌<◌, min}
use native.Mathlib.Omega.{arith}
use borrow.Author.Tests.{leb-true, leb-false}
use lib.Dec.{leb}
use lib.ListN.{length, drop, get_or, length-take, length-drop}
use lib.Seq.{get_or-take, get_or-drop}
use lib.Ieee.{Float, nan, binary32, add, mul}
use Rattle.spec.specs.Nearest.Distance.{sum_from, plus_zero, dot}
use Rattle.spec_laws.proofs.Nearest.Sums.{sum_step, sum_ends_left, sum_ends_right}
use Rattle.float_distance.specs.Lanes.{stored, Places, FourSums}

-- ---- a stored vector
module _ (floats : List Float) (p n : ℕ) (fits : p + n ≤ length floats) where
  pub stored-length : length (stored floats p n) ≡ n
  stored-length = simp (length-take, length-drop) (omega arith)

  pub stored_at : (i : ℕ) → i < n → get_or (stored floats p n) i nan ≡ get_or floats (p + i) nan
  stored_at i h = rw (get_or-take, get_or-drop)

-- ---- a sum ends with the shorter
pub sum_ends : (term : Float → Float → Float) (a b : List Float) (acc : Float) (i : ℕ) → min (length a) (length b) ≤ i
    → sum_from term acc (drop i a) (drop i b) ≡ acc
sum_ends term a b acc i h = shorter (leb (length a) (length b)) refl
  where
    shorter : (t : Bool) → leb (length a) (length b) ≡ t → sum_from term acc (drop i a) (drop i b) ≡ acc
    shorter true e = sum_ends_left term a b acc i (let k = leb-true _ _ e in omega arith)
    shorter false e = sum_ends_right term a b acc i (let k = leb-false _ _ e in omega arith)

-- ---- a sum under way
module _ (term : Float → Float → Float) (a b : List Float) where
  abbrev pub Lane : ℕ → Float → Type 0
  Lane i acc = sum_from term acc (drop i a) (drop i b) ≡ sum_from term plus_zero a b

  pub lane_step : (i : ℕ) (acc x y : Float) → i < length a → i < length b → get_or a i nan ≡ x → get_or b i nan ≡ y
      → Lane i acc → Lane (i + 1) (add binary32 acc (term x y))
  lane_step i acc x y h k e f l =
      sym (sum_step term a b acc i h k
      ∙ ap (λ (z : Float). sum_from term (add binary32 acc (term z (get_or b i nan))) (drop (i + 1) a) (drop (i + 1) b))
      e
      ∙ ap (λ (z : Float). sum_from term (add binary32 acc (term x z)) (drop (i + 1) a) (drop (i + 1) b)) f)
      ∙ l

  pub lane_end : (i : ℕ) (acc : Float) → length b ≤ i → Lane i acc → acc ≡ sum_from term plus_zero a b
  lane_end i acc h l = sym (sum_ends_right term a b acc i h) ∙ l

-- ---- a sum under way over a stored vector
module _ (query floats : List Float) (p n : ℕ) (short : n ≤ length query) (fits : p + n ≤ length floats) where
  pub with-query : (term : Float → Float → Float) (i : ℕ) (acc : Float) → i < n → Lane term query (stored floats p n)
      i acc
      → Lane term query (stored floats p n) (i + 1)
      (add binary32 acc (term (get_or query i nan) (get_or floats (p + i) nan)))
  with-query term i acc h l =
      lane_step term query (stored floats p n) i acc (get_or query i nan) (get_or floats (p + i) nan) (omega arith)
      (subst (λ (z : ℕ). i < z) (sym (stored-length floats p n fits)) h) refl (stored_at floats p n fits i h) l

  pub query-end : (term : Float → Float → Float) (i : ℕ) (acc : Float) → n ≤ i → Lane term query (stored floats p n) i
      acc
      → acc ≡ sum_from term plus_zero query (stored floats p n)
  query-end term i acc h l =
      lane_end term query (stored floats p n) i acc (subst (λ (z : ℕ). z ≤ i) (sym (stored-length floats p n fits)) h)
      l

-- ---- a vector's own products under way
module _ (floats : List Float) (p n : ℕ) (fits : p + n ≤ length floats) where
  pub with_self : (i : ℕ) (acc : Float) → i < n → Lane (mul binary32) (stored floats p n) (stored floats p n) i acc
      → Lane (mul binary32) (stored floats p n) (stored floats p n) (i + 1)
      (add binary32 acc (mul binary32 (get_or floats (p + i) nan) (get_or floats (p + i) nan)))
  with_self i acc h l =
      let v = stored floats p n in
      let y = get_or floats (p + i) nan in
      let k : i < length v = subst (λ (z : ℕ). i < z) (sym (stored-length floats p n fits)) h in
      let e : get_or v i nan ≡ y = stored_at floats p n fits i h in
      lane_step (mul binary32) v v i acc y y k k e e l

  pub self_end : (i : ℕ) (acc : Float) → n ≤ i → Lane (mul binary32) (stored floats p n) (stored floats p n) i acc
      → acc ≡ dot (stored floats p n) (stored floats p n)
  self_end i acc h l =
      lane_end (mul binary32) (stored floats p n) (stored floats p n) i acc
      (subst (λ (z : ℕ). z ≤ i) (sym (stored-length floats p n fits)) h) l

-- ---- four sums under way, each over its own stored vector
module _ (term : Float → Float → Float) (query floats : List Float) (p q r s n : ℕ) where
  abbrev pub FourLanes : ℕ → (a b c d : Float) → Type 0
  FourLanes i a b c d =
      Lane term query (stored floats p n) i a
      × Lane term query (stored floats q n) i b
      × Lane term query (stored floats r n) i c
      × Lane term query (stored floats s n) i d

  module _ (h : Places query floats p q r s n) (i : ℕ) (a b c d : Float) where
    -- a sum with the term of the components at i
    abbrev grown : Float → ℕ → Float
    grown acc at = add binary32 acc (term (get_or query i nan) (get_or floats (at + i) nan))

    pub four-more : i < n → FourLanes i a b c d → FourLanes (i + 1) (grown a p) (grown b q) (grown c r) (grown d s)
    four-more t l = (
      with-query query floats p n h.short h.first term i a t l.0,
      with-query query floats q n h.short h.second term i b t l.1,
      with-query query floats r n h.short h.third term i c t l.2,
      with-query query floats s n h.short h.fourth term i d t l.3,
    )

    pub four-end : n ≤ i → FourLanes i a b c d → FourSums term query floats p q r s n (record { a = a; b = b; c = c; d = d })
    four-end t l = record {
      first = query-end query floats p n h.short h.first term i a t l.0;
      second = query-end query floats q n h.short h.second term i b t l.1;
      third = query-end query floats r n h.short h.third term i c t l.2;
      fourth = query-end query floats s n h.short h.fourth term i d t l.3;
    }
