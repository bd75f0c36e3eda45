-- Bytes that are the same are read the same, wherever they stand. Assumes nothing.
use Prim.Native.Nat.{ℕ, zero, suc, ◌+◌, ◌-◌, ◌*◌, ◌≤◌, ◌<◌}
use mathlib.Core.Path.{◌≡◌, refl, sym, ap, ◌∙◌}
use mathlib.Core.List.{List}
use lib.ListN.{length, get_or, drop}
use lib.Seq.{sets, drop-drop, get_or-drop}
use native.Mathlib.Omega.{arith}
use Rattle.spec.specs.Layout.Format.{number_at}
use Rattle.spec_laws.proofs.Wire.Bytes.{cut-append}
use Rattle.image_parts.specs.Shape.{Shape, byte, word, ◌▸◌, rep, size, items, value, Stored}
use Rattle.image_parts.proofs.Back.{drop-sets}

-- n bytes from p on in s, and from q on in t
abbrev pub Same : List ℕ → ℕ → List ℕ → (q n : ℕ) → Type 0
Same s p t q n = (i : ℕ) → i < n → get_or s (p + i) 0 ≡ get_or t (q + i) 0

module _ (s t : List ℕ) where
  pub same-part : (p q n a m : ℕ) → a + m ≤ n → Same s p t q n → Same s (p + a) t (q + a) m
  same-part p q n a m h e i lt =
      let l : p + a + i ≡ p + (a + i) = omega arith in
      let r : q + a + i ≡ q + (a + i) = omega arith in
      rw (l, r) (e (a + i) (omega arith))

  pub number_same : (k p q : ℕ) → Same s p t q k → number_at k s p ≡ number_at k t q
  number_same zero p q e = refl
  number_same (suc k) p q e =
      let l : p + 0 ≡ p = omega arith in
      let r : q + 0 ≡ q = omega arith in
      let h : get_or s p 0 ≡ get_or t q 0 = rw (l, r) at (e 0 (omega arith)) in
      rw (h, number_same k (p + 1) (q + 1) (same-part p q (suc k) 1 k (omega arith) e))

  pub items-same : {A : Type 0} (n : ℕ) (get put : ℕ → A) (w p q : ℕ) → ((a b : ℕ) → Same s a t b w → get a ≡ put b) → Same s p t q (n * w)
      → items n get w p ≡ items n put w q
  items-same zero get put w p q law e = refl
  items-same (suc n) get put w p q law e =
      let h : Same s p t q w = λ i lt. e i (omega (arith, lt)) in
      rw (law p q h, items-same n get put w (p + w) (q + w) law (same-part p q (suc n * w) w (n * w) (omega arith) e))

  pub value_same : (f : Shape) (p q : ℕ) → Same s p t q (size f) → value f s p ≡ value f t q
  value_same byte p q e =
      let l : p + 0 ≡ p = omega arith in
      let r : q + 0 ≡ q = omega arith in
      rw (l, r) at (e 0 (omega arith))
  value_same (word k) p q e = number_same k p q e
  value_same (f ▸ g) p q e =
      rw (value_same f p q (λ i lt. e i (omega arith)), value_same g (p + size f) (q + size f) (same-part p q (size f + size g) (size f) (size g) (omega arith) e))
  value_same (rep n f) p q e = items-same n (value f s) (value f t) (size f) p q (λ a b h. value_same f a b h) e

  -- lists that agree from a position on
  pub past : (at n : ℕ) → drop at s ≡ drop at t → Same s at t at n
  past at n e i lt = sym (get_or-drop at s i 0) ∙ ap (λ (l : List ℕ). get_or l i 0) e ∙ get_or-drop at t i 0

  pub drop-on : (at k : ℕ) → drop at s ≡ drop at t → drop (at + k) s ≡ drop (at + k) t
  drop-on at k e = sym (drop-drop k at s) ∙ ap (drop k) e ∙ drop-drop k at t

  pub drop-far : (at p : ℕ) → at ≤ p → drop at s ≡ drop at t → drop p s ≡ drop p t
  drop-far at p h e = let q : at + (p - at) ≡ p = omega arith in rw q at (drop-on at (p - at) e)

-- what is stored leaves what lies behind it
pub drop-after : {s t : List ℕ} {at : ℕ} {b : List ℕ} {n : ℕ} → Stored s t at b n → at + n ≤ length s → drop (at + n) t ≡ drop (at + n) s
drop-after {s} {t} {at} {b} {n} p h =
    let k : at + length b ≤ length s = rw p.long h in
    let e : drop (at + length b) (sets s at b) ≡ drop (at + length b) s = cut-append (sets s at b) at b (drop (at + length b) s) (drop-sets s at b k) in
    ap (drop (at + n)) p.image ∙ (rw p.long at e)
