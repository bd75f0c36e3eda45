-- How many lists of at most a length there are over given members, by a test of their length: sums of powers. Assumes nothing.
use Prim.Native.Nat.{ℕ, zero, suc, min, ◌+◌, ◌-◌, ◌*◌, ◌^◌, ◌≤◌, ◌<◌}
use mathlib.Core.Path.{◌≡◌, refl, sym, ap, ◌∙◌}
use mathlib.Core.Bool.{Bool, true, false, cond}
use mathlib.Core.List.{List, [], ◌∷◌, ◌++◌}
use native.Mathlib.Omega.{arith}
use native.Mathlib.Nat.{pow-zero, pow-suc, pow-succ', mul-add, mul-one, mul_comm, pow-le-pow_left}
use lib.ListN.{length, length-append}
use lib.Dec.{eqb, leb, ltb}
use borrow.Author.Tests.{eqb-true, eqb-false, leb-true, leb-false, eq-eqb, ne_eqb, le-leb, lt-leb, lt-ltb, le-ltb}
use Rattle.spec.specs.Lists.{◌and◌, every}
use Rattle.spec_laws.proofs.Lists.{by-test}
use Rattle.spec_count.specs.Tuples.{tuples, sequences, how_many}
use Rattle.spec_count.specs.Closed.{geometric}
use Rattle.spec_count.proofs.HowMany.{many-append, many-same, many-all, many-sized, every_true}

-- b⁰ + .. + bⁿ, of the powers whose exponent passes
abbrev pub powers : (ℕ → Bool) → ℕ → ℕ → ℕ
powers w b zero = cond (w 0) (b ^ 0) 0
powers w b (suc n) = powers w b n + cond (w (suc n)) (b ^ suc n) 0

pub many-sequences : {A : Type 0} (w : ℕ → Bool) (p : A → Bool) (n : ℕ) (xs : List A)
    → how_many (λ (l : List A). w (length l) and every p l) (sequences n xs) ≡ powers w (how_many p xs) n
unfolding sequences
many-sequences w p zero xs = many-sized p w zero xs
many-sequences {A} w p (suc n) xs =
    many-append (λ (l : List A). w (length l) and every p l) (sequences n xs) (tuples (suc n) xs)
    ∙ omega (arith, many-sequences w p n xs, many-sized p w (suc n) xs)

-- ---- the three tests

-- any length
powers-all : (b n : ℕ) → powers (λ k. true) b n ≡ geometric b n
unfolding geometric
powers-all b zero = pow-zero b
powers-all b (suc n) = ap (λ (k : ℕ). k + b ^ suc n) (powers-all b n)

-- one length
pub powers-at : (s b n : ℕ) → powers (λ k. eqb k s) b n ≡ cond (leb s n) (b ^ s) 0
powers-at zero b zero = refl
powers-at (suc s) b zero = rw (ne_eqb 0 (suc s) (λ e. omega arith), lt-leb (suc s) 0 (omega arith))
powers-at s b (suc n) = go (eqb (suc n) s) (leb s n) refl refl (powers-at s b n)
  where
    go : (a c : Bool) → eqb (suc n) s ≡ a → leb s n ≡ c → powers (λ k. eqb k s) b n ≡ cond (leb s n) (b ^ s) 0
        → powers (λ k. eqb k s) b n + cond (eqb (suc n) s) (b ^ suc n) 0 ≡ cond (leb s (suc n)) (b ^ s) 0
    go true c e f ih =
        let q : suc n ≡ s = eqb-true (suc n) s e in
        rw (ih, lt-leb s n (omega arith), e, le-leb s (suc n) (omega arith)) (omega (arith, ap (λ (k : ℕ). b ^ k) q))
    go false true e f ih =
        let q : s ≤ n = leb-true s n f in rw (ih, f, e, le-leb s (suc n) (omega arith)) (omega arith)
    go false false e f ih =
        let q : n < s = leb-false s n f in
        let ne : suc n ≡ s → ⊥ = eqb-false (suc n) s e in
        rw (ih, f, e, lt-leb s (suc n) (omega arith)) (omega arith)

-- a length from 1 to r
pub powers_to : (r b n : ℕ) → powers (λ k. ltb 0 k and leb k r) b n + 1 ≡ geometric b (min n r)
unfolding geometric ◌and◌
powers_to r b zero = ap (geometric b) (let z : 0 ≡ min 0 r = omega arith in z)
powers_to r b (suc n) = go (leb (suc n) r) refl (powers_to r b n)
  where
    go : (c : Bool) → leb (suc n) r ≡ c → powers (λ k. ltb 0 k and leb k r) b n + 1 ≡ geometric b (min n r)
        → powers (λ k. ltb 0 k and leb k r) b n + cond (ltb 0 (suc n) and leb (suc n) r) (b ^ suc n) 0 + 1 ≡ geometric b (min (suc n) r)
    go true e ih =
        let h : suc n ≤ r = leb-true (suc n) r e in
        let z : min n r ≡ n = omega arith in
        let y : min (suc n) r ≡ suc n = omega arith in
        rw (lt-ltb 0 (suc n) (omega arith), e, y) (omega (arith, ap (geometric b) z))
    go false e ih =
        let h : r < suc n = leb-false (suc n) r e in
        let z : min n r ≡ min (suc n) r = omega arith in
        rw (lt-ltb 0 (suc n) (omega arith), e) (omega (arith, ap (geometric b) z))

pub length-sequences : {A : Type 0} (n : ℕ) (xs : List A) → length (sequences n xs) ≡ geometric (length xs) n
unfolding ◌and◌
length-sequences {A} n xs =
    sym (many-all (sequences n xs))
    ∙ many-same (λ (l : List A). true) (λ (l : List A). true and every (λ (x : A). true) l) (λ l. sym (every_true l)) (sequences n xs)
    ∙ many-sequences (λ k. true) (λ (x : A). true) n xs
    ∙ ap (λ (k : ℕ). powers (λ j. true) k n) (many-all xs)
    ∙ powers-all (length xs) n
