-- What a shape test answers, by cases of its tests; formats that are tested alike. Assumes nothing.
use Prim.Native.Nat.{ℕ, zero, suc, ◌*◌, ◌+◌, ◌-◌, ◌≤◌, ◌<◌}
use mathlib.Core.Path.{◌≡◌, refl, sym, ap, ◌∙◌}
use mathlib.Core.Bool.{Bool, true, false}
use mathlib.Core.List.{List}
use lib.ListN.{length, get_or}
use lib.Dec.{leb}
use native.Mathlib.Omega.{arith}
use native.Mathlib.Nat.{add_assoc, zero-mul, suc-mul}
use borrow.Author.Tests.{lt-leb, le-leb, leb-true, leb-false, eq-eqb, ne_eqb}
use Rattle.spec.specs.Lists.{◌and◌}
use Rattle.spec.specs.Layout.Format.{Format, code, word, below, many, text, either, ◌▸◌, fits, next, fits_n, next_n, number_at, all_within}
use Rattle.spec_laws.proofs.Wire.Tests.{and_intro, and_left, and_true, and_false}
use Rattle.wire_shape.specs.Skip.{skip, skip_if, skip_n}
use Rattle.std.specs.Prelude.{Some, None}

-- ---- tests that fail

pub no_1 : (a b : Bool) → a ≡ false → (a and b) ≡ false
unfolding ◌and◌
no_1 a b e = rw e

pub no_2 : (a b : Bool) → b ≡ false → (a and b) ≡ false
unfolding ◌and◌
no_2 true b e = e
no_2 false b e = refl

and_assoc : (a b c : Bool) → ((a and b) and c) ≡ (a and (b and c))
unfolding ◌and◌
and_assoc true b c = refl
and_assoc false b c = refl

-- ---- a test and its answer

skip_if_next : (b : Bool) (n p : ℕ) → skip_if b n ≡ Some p → (b ≡ true) × (n ≡ p)
skip_if_next true n p e = (refl, cc)
skip_if_next false n p e = let z : ◌≡◌ {A = ℕ} 0 1 = cc in absurd (omega arith)

skip_if_bad : (b : Bool) (n : ℕ) → skip_if b n ≡ None → b ≡ false
skip_if_bad true n e = let z : ◌≡◌ {A = ℕ} 0 1 = cc in absurd (omega arith)
skip_if_bad false n e = refl

module _ (f : Format) (s : List ℕ) (at : ℕ) where
  pub skip-ok : fits f s at ≡ true → Some (next f s at) ≡ skip f s at
  unfolding skip
  skip-ok e = rw e

  pub skip_no : fits f s at ≡ false → None ≡ skip f s at
  unfolding skip
  skip_no e = rw e

  pub skip-next : (p : ℕ) → skip f s at ≡ Some p → (fits f s at ≡ true) × (next f s at ≡ p)
  unfolding skip
  skip-next p e = skip_if_next (fits f s at) (next f s at) p e

  pub skip_bad : skip f s at ≡ None → fits f s at ≡ false
  unfolding skip
  skip_bad e = skip_if_bad (fits f s at) (next f s at) e

module _ (f g : Format) (s : List ℕ) (at : ℕ) where
  -- one field after another
  pub pair-next : (p : ℕ) → skip f s at ≡ Some p → skip g s p ≡ skip (f ▸ g) s at
  unfolding skip ◌and◌
  pair-next p e = let h = skip-next f s at p e in let h₀ = h.0 in let h₁ = h.1 in rw (h₀, h₁)

  -- the same, by the place that the first field's end is known to be
  pub pair_then : (p : ℕ) → skip f s at ≡ Some p → skip g s (next f s at) ≡ skip (f ▸ g) s at
  unfolding skip ◌and◌
  pair_then p e = let h = skip-next f s at p e in rw h.0

  pub pair_bad : skip f s at ≡ None → None ≡ skip (f ▸ g) s at
  unfolding skip ◌and◌
  pair_bad e = let h = skip_bad f s at e in rw h

-- a byte below m is there
pub below-there : (m : ℕ) (s : List ℕ) (at p : ℕ) → skip (below m) s at ≡ Some p → at < length s
below-there m s at p e =
    let l : at + 1 ≤ length s = leb-true _ _ (and_left _ _ (skip-next (below m) s at p e).0) in
    omega arith

-- ---- formats that are tested and passed alike

abbrev pub Same : Format → Format → Type 0
Same f g = (s : List ℕ) (at : ℕ) → (fits f s at ≡ fits g s at) × (next f s at ≡ next g s at)

pub same-skip : (f g : Format) → Same f g → (s : List ℕ) (at : ℕ) → skip f s at ≡ skip g s at
unfolding skip
same-skip f g h s at = rw ((h s at).0, (h s at).1)

pub same_trans : (f g h : Format) → Same f g → Same g h → Same f h
same_trans f g h p q s at = ((p s at).0 ∙ (q s at).0, (p s at).1 ∙ (q s at).1)

pub same_sym : (f g : Format) → Same f g → Same g f
same_sym f g p s at = (sym (p s at).0, sym (p s at).1)

pub same_after : (f g h : Format) → Same g h → Same (f ▸ g) (f ▸ h)
same_after f g h p s at = let q = p s (next f s at) in (ap (λ (b : Bool). fits f s at and b) q.0, q.1)

pub same_first : (f g h : Format) → Same f g → Same (f ▸ h) (g ▸ h)
same_first f g h p s at = let q = p s at in (rw (q.0, q.1), ap (next h s) q.1)

pub same_left : (f g h : Format) → Same ((f ▸ g) ▸ h) (f ▸ (g ▸ h))
same_left f g h s at = (and_assoc (fits f s at) (fits g s (next f s at)) (fits h s (next g s (next f s at))), refl)

two-words : (m n k : ℕ) → m ≤ n → (b : Bool) → leb n k ≡ b → (leb m k and leb n k) ≡ b
two-words m n k h true e = and_intro (le-leb m k (let l = leb-true n k e in omega arith)) e
two-words m n k h false e = no_2 _ _ e

-- two words are one
pub same-words : (a b : ℕ) → Same (word a ▸ word b) (word (a + b))
same-words a b s at =
    let e : at + a + b ≡ at + (a + b) = add_assoc at a b in
    (two-words (at + a) (at + a + b) (length s) (omega arith) _ (ap (λ (n : ℕ). leb n (length s)) e), e)

pub same_words_then : (a b : ℕ) (g : Format) → Same (word a ▸ (word b ▸ g)) (word (a + b) ▸ g)
same_words_then a b g =
    same_trans (word a ▸ (word b ▸ g)) ((word a ▸ word b) ▸ g) (word (a + b) ▸ g)
    (same_sym ((word a ▸ word b) ▸ g) (word a ▸ (word b ▸ g)) (same_left (word a) (word b) g))
    (same_first (word a ▸ word b) (word (a + b)) g (same-words a b))

-- a text with a word after it, and more words
pub same_keyed : (c a b : ℕ) → Same ((text c ▸ word a) ▸ word b) (text c ▸ word (a + b))
same_keyed c a b =
    same_trans ((text c ▸ word a) ▸ word b) (text c ▸ (word a ▸ word b)) (text c ▸ word (a + b))
    (same_left (text c) (word a) (word b)) (same_after (text c) (word a ▸ word b) (word (a + b)) (same-words a b))

pub same_keyed_then : (c a b : ℕ) (g : Format) → Same ((text c ▸ word a) ▸ (word b ▸ g)) ((text c ▸ word (a + b)) ▸ g)
same_keyed_then c a b g =
    same_trans ((text c ▸ word a) ▸ (word b ▸ g)) (((text c ▸ word a) ▸ word b) ▸ g) ((text c ▸ word (a + b)) ▸ g)
    (same_sym (((text c ▸ word a) ▸ word b) ▸ g) ((text c ▸ word a) ▸ (word b ▸ g)) (same_left (text c ▸ word a) (word b) g))
    (same_first ((text c ▸ word a) ▸ word b) (text c ▸ word (a + b)) g (same_keyed c a b))

-- ---- items of one size

module _ (s : List ℕ) (w : ℕ) where
  fixed_step : (n p : ℕ) → (p + w ≤ length s → fits_n (fits (word w) s) (next (word w) s) n (p + w) ≡ leb (p + w + n * w) (length s))
      → (b : Bool) → leb (p + w) (length s) ≡ b
      → (leb (p + w) (length s) and fits_n (fits (word w) s) (next (word w) s) n (p + w)) ≡ leb (p + suc n * w) (length s)
  fixed_step n p ih true e =
      let m : p + suc n * w ≡ p + w + n * w = omega (arith, suc-mul n w) in
      rw (e, ih (leb-true _ _ e), m) (and_true _)
  fixed_step n p ih false e =
      let l : length s < p + suc n * w = omega (arith, suc-mul n w, leb-false (p + w) (length s) e) in
      rw (e, lt-leb _ _ l) (and_false _)

  pub fixed_fits : (n p : ℕ) → p ≤ length s → fits_n (fits (word w) s) (next (word w) s) n p ≡ leb (p + n * w) (length s)
  fixed_fits zero p h = sym (le-leb (p + 0 * w) (length s) (rw zero-mul (omega arith)))
  fixed_fits (suc n) p h = fixed_step n p (fixed_fits n (p + w)) (leb (p + w) (length s)) refl

  pub fixed_next : (n p : ℕ) → next_n (next (word w) s) n p ≡ p + n * w
  fixed_next zero p = omega (arith, zero-mul w)
  fixed_next (suc n) p = fixed_next n (p + w) ∙ omega (arith, suc-mul n w)

  -- a count within its limits, and then as many bytes as its items have
  pub many-word : (k lo hi at : ℕ) → at + k ≤ length s → lo ≤ number_at k s at → number_at k s at ≤ hi
      → skip (word (number_at k s at * w)) s (at + k) ≡ skip (many k lo hi (word w)) s at
  unfolding skip ◌and◌
  many-word k lo hi at l h₁ h₂ =
      rw (le-leb _ _ l, le-leb _ _ h₁, le-leb _ _ h₂, fixed_fits (number_at k s at) (at + k) l, fixed_next (number_at k s at) (at + k))

-- ---- a count and its items

module _ (f : Format) (s : List ℕ) where
  pub skip_n-none : (p : ℕ) → Some p ≡ skip_n f s 0 p
  unfolding skip_n
  skip_n-none p = refl

  pub skip_n-next : (n i p q : ℕ) → i < n → skip f s p ≡ Some q → skip_n f s (n - i) p ≡ skip_n f s (n - (i + 1)) q
  unfolding skip_n ◌and◌
  skip_n-next n i p q h e =
      let k : n - i ≡ suc (n - (i + 1)) = omega arith in
      let r = skip-next f s p q e in
      let r₀ = r.0 in
      let r₁ = r.1 in
      rw k (rw r₀ (ap (λ (x : ℕ). skip_if (fits_n (fits f s) (next f s) (n - (i + 1)) x) (next_n (next f s) (n - (i + 1)) x)) r₁))

  pub skip_n_bad : (n i p : ℕ) → i < n → skip f s p ≡ None → skip_n f s (n - i) p ≡ None
  unfolding skip_n ◌and◌
  skip_n_bad n i p h e =
      let k : n - i ≡ suc (n - (i + 1)) = omega arith in
      let r = skip_bad f s p e in
      rw k (rw r)

  module _ (k lo hi at : ℕ) where
    pub many-next : at + k ≤ length s → lo ≤ number_at k s at → number_at k s at ≤ hi
        → skip_n f s (number_at k s at) (at + k) ≡ skip (many k lo hi f) s at
    unfolding skip skip_n ◌and◌
    many-next l h₁ h₂ = rw (le-leb _ _ l, le-leb _ _ h₁, le-leb _ _ h₂)

    pub many-end : length s < at + k → None ≡ skip (many k lo hi f) s at
    many-end h = skip_no (many k lo hi f) s at (no_1 _ _ (lt-leb (at + k) (length s) h))

    pub many-low : number_at k s at < lo → None ≡ skip (many k lo hi f) s at
    many-low h = skip_no (many k lo hi f) s at (no_2 _ _ (no_1 _ _ (lt-leb lo (number_at k s at) h)))

    pub many_high : hi < number_at k s at → None ≡ skip (many k lo hi f) s at
    many_high h = skip_no (many k lo hi f) s at (no_2 _ _ (no_2 _ _ (no_1 _ _ (lt-leb (number_at k s at) hi h))))

-- a count of one byte is that byte
pub count_byte : (s : List ℕ) (at : ℕ) → number_at 1 s at ≡ get_or s at 0
count_byte s at = omega arith

-- items that are tested and passed alike
pub same-many : (k lo hi : ℕ) (f g : Format) → Same f g → Same (many k lo hi f) (many k lo hi g)
same-many k lo hi f g h s at = (
  (λ i. leb (at + k) (length s) and (leb lo (number_at k s at)
      and (leb (number_at k s at) hi and fits_n (λ p. (h s p).0 i) (λ p. (h s p).1 i) (number_at k s at) (at + k)))),
  (λ i. next_n (λ p. (h s p).1 i) (number_at k s at) (at + k)),
)

-- ---- one of two

module _ (t : ℕ) (f g : Format) (s : List ℕ) (at : ℕ) where
  pub either_end : length s ≤ at → None ≡ skip (either t f g) s at
  either_end h = skip_no (either t f g) s at (no_1 _ _ (lt-leb (at + 1) (length s) (omega arith)))

  pub either_first : at < length s → get_or s at 0 ≡ t → skip f s (at + 1) ≡ skip (either t f g) s at
  unfolding skip ◌and◌
  either_first h e = let l : at + 1 ≤ length s = omega arith in rw (le-leb _ _ l, eq-eqb _ _ e)

  pub either_second : at < length s → (get_or s at 0 ≡ t → ⊥) → skip g s at ≡ skip (either t f g) s at
  unfolding skip ◌and◌
  either_second h n = let l : at + 1 ≤ length s = omega arith in rw (le-leb _ _ l, ne_eqb _ _ n)

-- a code that stands there
pub code-first : (c : ℕ) (g : Format) (s : List ℕ) (at : ℕ) → at < length s → get_or s at 0 ≡ c → skip g s (at + 1) ≡ skip (code c ▸ g) s at
unfolding skip ◌and◌
code-first c g s at h e = let l : at + 1 ≤ length s = omega arith in rw (le-leb _ _ l, eq-eqb _ _ e)

pub code_other : (c : ℕ) (g : Format) (s : List ℕ) (at : ℕ) → (get_or s at 0 ≡ c → ⊥) → None ≡ skip (code c ▸ g) s at
code_other c g s at n = skip_no (code c ▸ g) s at (no_1 _ _ (no_2 _ _ (ne_eqb _ _ n)))

-- ---- texts

-- one byte more of a range
pub within_step : (lo hi n i : ℕ) (s : List ℕ) (at : ℕ) → i < n
    → all_within lo hi (n - i) s (at + i)
    ≡ (leb lo (get_or s (at + i) 0) and (leb (get_or s (at + i) 0) hi and all_within lo hi (n - (i + 1)) s (at + (i + 1))))
within_step lo hi n i s at h =
    let e : n - i ≡ suc (n - (i + 1)) = omega arith in
    ap (λ (m : ℕ). all_within lo hi m s (at + i)) e ∙ (rw (add_assoc at i 1))

module _ (c k : ℕ) (s : List ℕ) (at : ℕ) where
  pub text-end : length s < at + 1 + c + k → None ≡ skip (text c ▸ word k) s at
  text-end h = skip_no (text c ▸ word k) s at (no_2 _ _ (lt-leb (at + 1 + c + k) (length s) h))

  pub text_no : fits (text c) s at ≡ false → None ≡ skip (text c ▸ word k) s at
  text_no h = skip_no (text c ▸ word k) s at (no_1 _ _ h)

  pub text-ok : at + 1 + c + k ≤ length s → get_or s at 0 ≤ c → all_within 0x20 0x7E (get_or s at 0) s (at + 1) ≡ true
      → all_within 0 0 (c - get_or s at 0) s (at + 1 + get_or s at 0) ≡ true → Some (at + 1 + c + k) ≡ skip (text c ▸ word k) s at
  text-ok l n p z =
      skip-ok (text c ▸ word k) s at
      (and_intro (and_intro (le-leb (at + 1 + c) (length s) (omega arith)) (and_intro (le-leb _ _ n) (and_intro p z))) (le-leb _ _ l))

text_alone' : (c : ℕ) (s : List ℕ) (at : ℕ) (b : Bool) → fits (text c) s at ≡ b
    → (fits (text c) s at and leb (at + 1 + c + 0) (length s)) ≡ fits (text c) s at
text_alone' c s at true e =
    let l = leb-true (at + 1 + c) (length s) (and_left _ _ e) in
    and_intro e (le-leb (at + 1 + c + 0) (length s) (omega arith)) ∙ sym e
text_alone' c s at false e = no_1 _ _ e ∙ sym e

-- a text alone
pub text_alone : (c : ℕ) → Same (text c ▸ word 0) (text c)
text_alone c s at = (text_alone' c s at (fits (text c) s at) refl, omega arith)
