-- The test of a query, way by way. Assumes nothing.
use Prim.Native.Nat.{ℕ, suc, ◌+◌, ◌≤◌, ◌<◌}
use mathlib.Core.Path.{◌≡◌, sym, ap, ◌∙◌}
use mathlib.Core.Bool.{Bool, true, false, cond}
use mathlib.Core.List.{List}
use native.Mathlib.Numerals.{add-one}
use native.Mathlib.Omega.{arith}
use lib.Dec.{T, leb}
use lib.Ieee.{Float, nan, binary32, fits}
use borrow.Author.Tests.{le-leb, lt-leb}
use lib.ListN.{length, drop, get_or, drop_of_length-le}
use lib.Seq.{drop-cons}
use Rattle.spec.specs.Nearest.Order.{in_domain}
use Rattle.spec_laws.proofs.Nearest.Tests.{is_true}
use Rattle.spec.specs.Lists.{◌and◌, every}
use Rattle.spec.specs.Node.WellFormed.{component, well_formed_vector}

pub query-none : (xs : List Float) → length xs ≡ 0 → false ≡ well_formed_vector xs
unfolding well_formed_vector ◌and◌
query-none xs e = sym (ap (λ (b : Bool). b and (leb (length xs) 32 and every component xs)) (lt-leb 1 (length xs) (omega arith)))

module _ (xs : List Float) (pos : length xs ≡ 0 → ⊥) where
  one : 1 ≤ length xs
  one = go (length xs) pos
    where
      go : (n : ℕ) → (n ≡ 0 → ⊥) → 1 ≤ n
      go n p = omega (arith, p)

  pub query_long : 32 < length xs → false ≡ well_formed_vector xs
  unfolding well_formed_vector ◌and◌
  query_long h =
      sym
      (ap (λ (b : Bool). b and (leb (length xs) 32 and every component xs)) (le-leb 1 (length xs) one)
      ∙ ap (λ (b : Bool). b and every component xs) (lt-leb (length xs) 32 h))

  query-by : length xs ≤ 32 → every component xs ≡ well_formed_vector xs
  unfolding well_formed_vector ◌and◌
  query-by h =
      sym
      (ap (λ (v : Bool). v and (leb (length xs) 32 and every component xs)) (le-leb 1 (length xs) one)
      ∙ ap (λ (v : Bool). v and every component xs) (le-leb (length xs) 32 h))

  -- ---- component by component: the test of all is that of those from i on
  module _ (short : length xs ≤ 32) where
    pub query-start : well_formed_vector xs ≡ every component (drop 0 xs)
    query-start = sym (query-by short)

    pub query-end : (i : ℕ) → length xs ≤ i → well_formed_vector xs ≡ every component (drop i xs) → true ≡ well_formed_vector xs
    unfolding every
    query-end i h inv = sym (inv ∙ ap (every component) (drop_of_length-le xs {i = i} h))

    -- a float fits its type, so that its domain alone is tested
    module _ (i : ℕ) (inv : well_formed_vector xs ≡ every component (drop i xs)) (h : i < length xs) (f : T (fits binary32 (get_or xs i nan))) where
      query-head : (b : Bool) → b ≡ in_domain (get_or xs i nan) → every component (drop i xs) ≡ cond b (every component (drop (i + 1) xs)) false
      unfolding every ◌and◌
      query-head b e =
          ap (every component) (drop-cons xs i nan h)
          ∙ ap (λ (v : Bool). cond (v and in_domain (get_or xs i nan)) (every component (drop (suc i) xs)) false) (is_true (fits binary32 (get_or xs i nan)) f)
          ∙ ap (λ (v : Bool). cond v (every component (drop (suc i) xs)) false) (sym e)
          ∙ ap (λ (n : ℕ). cond b (every component (drop n xs)) false) (sym (add-one i))

      pub query-on : (b : Bool) → b ≡ in_domain (get_or xs i nan) → b ≡ true → well_formed_vector xs ≡ every component (drop (i + 1) xs)
      query-on b e q = inv ∙ query-head true (sym q ∙ e)

      pub query_stop : (b : Bool) → b ≡ in_domain (get_or xs i nan) → b ≡ false → false ≡ well_formed_vector xs
      query_stop b e q = sym (inv ∙ query-head false (sym q ∙ e))
