-- One of several sums in step, where a vector is patterns in bytes. Assumes nothing.
use Prim.Native.Nat.{ℕ, zero, suc, ◌+◌, ◌*◌, ◌≤◌, ◌<◌}
use mathlib.Core.Path.{◌≡◌, refl, sym, ap, subst, ◌∙◌}
use mathlib.Core.List.{List, [], ◌∷◌}
use native.Mathlib.Omega.{arith}
use lib.Ieee.{Float, nan, binary32, add, mul}
use lib.ListN.{length, get_or, get_or-map}
use Rattle.spec.specs.declared.Metric.{Metric}
use Rattle.spec.specs.declared.Metric.TheVariants.{Euclidean, Angular}
use Rattle.spec.specs.Layout.Format.{number_at}
use Rattle.spec.specs.Nearest.Root.{sqrt}
use Rattle.spec.specs.Nearest.Distance.{sum_from, plus_zero, dot, square, angle}
use Rattle.spec.specs.Node.Wire.{float_of, floats_of}
use Rattle.log_store.proofs.Bits.{floats-length}
use Rattle.image_store.specs.Image.{words}
use Rattle.image_store.proofs.Words.{words-length, words-at}
use Rattle.float_distance.specs.declared.four.Four.{Four}
use Rattle.float_distance.specs.Halves.{element_of}
use Rattle.float_distance.proofs.Lanes.{lane_step, lane_end}
use Rattle.image_store_search.specs.Four.{vector_at, Pattern, Patterns, Reach, Places, Taken, Lane, Sums, FourElements}

-- ---- a vector

-- within a list the default says nothing
within : {A : Type 0} (l : List A) (i : ℕ) (d e : A) → i < length l → get_or l i d ≡ get_or l i e
within [] i d e h = absurd (omega arith)
within (x ∷ l) zero d e h = refl
within (x ∷ l) (suc i) d e h = within l i d e (omega arith)

module _ (s : List ℕ) (at n : ℕ) where
  pub vector-length : length (vector_at s at n) ≡ n
  vector-length = floats-length (words 4 n s at) ∙ words-length 4 n s at

  vector-at : (i : ℕ) → i < n → get_or (vector_at s at n) i nan ≡ float_of (number_at 4 s (at + 4 * i))
  unfolding floats_of
  vector-at i h =
      within (vector_at s at n) i nan (float_of 0) (subst (λ (z : ℕ). i < z) (sym vector-length) h)
      ∙ get_or-map float_of (words 4 n s at) i 0 ∙ ap float_of (words-at 4 n s at i h)

-- ---- one component more

module _ (s : List ℕ) (p n i : ℕ) (h : i < n) (y : Float) (made : y ≡ float_of (number_at 4 s (p + 4 * i))) (acc : Float) where
  inside : i < length (vector_at s p n)
  inside = subst (λ (z : ℕ). i < z) (sym (vector-length s p n)) h

  is : get_or (vector_at s p n) i nan ≡ y
  is = vector-at s p n i h ∙ sym made

  pub lane_on : (term : Float → Float → Float) (query : List Float) → i < length query → Lane term query (vector_at s p n) i acc
      → Lane term query (vector_at s p n) (i + 1) (add binary32 acc (term (get_or query i nan) y))
  lane_on term query k l = lane_step term query (vector_at s p n) i acc (get_or query i nan) y k inside refl is l

  pub own_on : Lane (mul binary32) (vector_at s p n) (vector_at s p n) i acc
      → Lane (mul binary32) (vector_at s p n) (vector_at s p n) (i + 1) (add binary32 acc (mul binary32 y y))
  own_on l = lane_step (mul binary32) (vector_at s p n) (vector_at s p n) i acc y y inside inside is is l

-- steps one after the other
module _ {S : Type 0} (R : ℕ → S → S → Type 0) (a : S) where
  pub taken_none : Taken R 0 a a
  unfolding Taken
  taken_none = refl

  pub taken_on : (i j : ℕ) (x y : S) → j ≡ i + 1 → Taken R i a x → R i x y → Taken R j a y
  unfolding Taken
  taken_on i j x y e t r =
      let q : suc i ≡ j = omega arith in
      subst (λ (k : ℕ). Taken R k a y) q (x, t, r)

  pub taken_four : (i j : ℕ) (x x₁ x₂ x₃ x₄ : S) → j ≡ i + 4 → Taken R i a x → R i x x₁ → R (i + 1) x₁ x₂ → R (i + 2) x₂ x₃ → R (i + 3) x₃ x₄ → Taken R j a x₄
  taken_four i j x x₁ x₂ x₃ x₄ e t p q r s =
      taken_on (i + 3) j x₃ x₄ (omega arith) (taken_on (i + 2) (i + 3) x₂ x₃ (omega arith) (taken_on (i + 1) (i + 2) x₁ x₂ (omega arith) (taken_on i (i + 1) x x₁ refl t p) q) r) s

  -- what each step keeps
  pub taken_kept : (P : ℕ → S → Type 0) (n : ℕ) → P 0 a → ((i : ℕ) (x y : S) → i < n → P i x → R i x y → P (i + 1) y) → (b : S) → Taken R n a b → P n b
  unfolding Taken
  taken_kept P zero z f b t = subst (P 0) (sym t) z
  taken_kept P (suc n) z f b t =
      let q : n + 1 ≡ suc n = omega arith in
      subst (λ (k : ℕ). P k b) q (f n t.0 b (omega arith) (taken_kept P n z (λ i x y h. f i x y (omega arith)) t.0 t.1) t.2)

-- four components more
pub four-steps : {A : Type 0} (P : ℕ → A → Type 0) (i : ℕ) (f f₁ f₂ f₃ f₄ : A) → (P i f → P (i + 1) f₁) → (P (i + 1) f₁ → P (i + 1 + 1) f₂)
    → (P (i + 2) f₂ → P (i + 2 + 1) f₃) → (P (i + 3) f₃ → P (i + 3 + 1) f₄) → P i f → P (i + 4) f₄
four-steps P i f f₁ f₂ f₃ f₄ a b c d l =
    let e₂ : i + 1 + 1 ≡ i + 2 = omega arith in
    let e₃ : i + 2 + 1 ≡ i + 3 = omega arith in
    let e₄ : i + 3 + 1 ≡ i + 4 = omega arith in
    subst (λ (k : ℕ). P k f₄) e₄ (d (subst (λ (k : ℕ). P k f₃) e₃ (c (subst (λ (k : ℕ). P k f₂) e₂ (b (a l))))))

-- what is asked of a component
pub reaches : (query : List Float) (s : List ℕ) (p q r t n : ℕ) → Places query s p q r t n → (i : ℕ) → i < n → Reach query s p q r t i
reaches query s p q r t n l i h = record {
  asked = omega (arith, l.short);
  first = part p l.first;
  second = part q l.second;
  third = part r l.third;
  fourth = part t l.fourth;
}
  where
    part : (at : ℕ) → Patterns s at n → Pattern s (at + 4 * i)
    part at b = record { there = omega (arith, b.there); inside = b.inside i h }

-- ---- all components

all_of : (term : Float → Float → Float) (a : List Float) (s : List ℕ) (p n : ℕ) (acc : Float) → Lane term a (vector_at s p n) n acc
    → acc ≡ sum_from term plus_zero a (vector_at s p n)
all_of term a s p n acc l = lane_end term a (vector_at s p n) n acc (subst (λ (z : ℕ). z ≤ n) (sym (vector-length s p n)) (omega arith)) l

module _ (m : Metric) (query : List Float) (qnorm : Float) (s : List ℕ) (p n : ℕ) where
  euclid : (a : Float) → m ≡ Euclidean → Lane square query (vector_at s p n) n a → a ≡ element_of m query qnorm (vector_at s p n)
  unfolding element_of
  euclid a k l = all_of square query s p n a l ∙ ap (λ (z : Metric). element_of z query qnorm (vector_at s p n)) (sym k)

  pub angular : (a o x : Float) → m ≡ Angular → Lane (mul binary32) query (vector_at s p n) n a
      → Lane (mul binary32) (vector_at s p n) (vector_at s p n) n o → x ≡ angle a (mul binary32 qnorm (sqrt binary32 o))
      → x ≡ element_of m query qnorm (vector_at s p n)
  unfolding element_of
  angular a o x k l j e =
      e
      ∙ ap (λ (z : Float). angle z (mul binary32 qnorm (sqrt binary32 o))) (all_of (mul binary32) query s p n a l)
      ∙ ap (λ (z : Float). angle (dot query (vector_at s p n)) (mul binary32 qnorm (sqrt binary32 z))) (all_of (mul binary32) (vector_at s p n) s p n o j)
      ∙ ap (λ (z : Metric). element_of z query qnorm (vector_at s p n)) (sym k)

pub squares_elements : (m : Metric) (query : List Float) (qnorm : Float) (s : List ℕ) (p q r t n : ℕ) (f : Four) → m ≡ Euclidean
    → Sums square query s p q r t n n f → FourElements m query qnorm s p q r t n f
squares_elements m query qnorm s p q r t n f k l = record {
  first = euclid m query qnorm s p n f.a k l.first;
  second = euclid m query qnorm s q n f.b k l.second;
  third = euclid m query qnorm s r n f.c k l.third;
  fourth = euclid m query qnorm s t n f.d k l.fourth;
}
