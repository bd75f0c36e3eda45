-- A column filled from its start four at a time, and the vectors that rows name. Assumes nothing.
use Prim.Native.Nat.{ℕ, ◌+◌, ◌-◌, ◌*◌, ◌≤◌, ◌<◌}
use mathlib.Core.Path.{◌≡◌, sym, ap, ◌∙◌, subst}
use mathlib.Core.List.{List, []}
use native.Mathlib.Omega.{arith}
use lib.Ieee.{Float}
use lib.ListN.{length, take, drop, get_or, set, length-set}
use Rattle.spec.specs.declared.Metric.{Metric}
use Rattle.spec.specs.Log.{lookup}
use Rattle.spec.specs.Nearest.Distance.{Bounded}
use Rattle.log_store.specs.View.{columns, log_of, stretch}
use Rattle.log_store.proofs.Columns.{look_at, op_set}
use Rattle.float_distance.specs.Lanes.{stored}
use Rattle.log_arrange.proofs.Filling.{one_more}
use Rattle.log_search.specs.Column.{rough, Whole, Walkable}

-- ---- four elements more
pub four-more {ℓ} : {A : Type ℓ} (f : ℕ → A) (d : A) (xs : List A) (i : ℕ) (x y z w : A) → i + 4 ≤ length xs
    → ((j : ℕ) → j < i → get_or xs j d ≡ f j) → x ≡ f i → y ≡ f (i + 1) → z ≡ f (i + 2) → w ≡ f (i + 3)
    → (j : ℕ) → j < i + 4 → get_or (set (set (set (set xs i x) (i + 1) y) (i + 2) z) (i + 3) w) j d ≡ f j
four-more f d xs i x y z w h up a b c e j l =
    let s₁ = set xs i x in
    let s₂ = set s₁ (i + 1) y in
    let s₃ = set s₂ (i + 2) z in
    let l₁ = length-set xs i x in
    let l₂ = length-set s₁ (i + 1) y in
    let l₃ = length-set s₂ (i + 2) z in
    one_more f d s₃ (i + 3) w (omega arith)
    (λ j₃ h₃. one_more f d s₂ (i + 2) z (omega arith)
    (λ j₂ h₂. one_more f d s₁ (i + 1) y (omega arith)
    (λ j₁ h₁. one_more f d xs i x (omega arith) up a j₁ h₁) b j₂ (omega arith)) c j₃ (omega arith)) e j (omega arith)

-- ---- an Upsert of as many floats as the query
module _ (cs ls : List ℕ) (fs : List Float) (ps : List ℕ) (count rows : ℕ) (q : List Float) (qnorm : Float)
    (walk : Walkable cs ls fs ps count rows q qnorm) (o n : ℕ) (w : Whole cs ls count o n) (short : n ≤ 32) where
  pub whole-named : (es os is : List ℕ) → lookup (log_of (columns es os is cs ls fs) count) o ≡ stored fs ((o - 1) * 32) n
  unfolding stretch
  whole-named es os is =
      let c = columns es os is cs ls fs in
      look_at c count o (o - 1) (omega (arith, w.from)) (omega (arith, w.from, w.upto))
      ∙ op_set c (o - 1) w.code
      ∙ ap (λ (z : ℕ). take z (drop ((o - 1) * 32) fs)) w.long

  pub whole-fits : (0 < o) × (o ≤ 1024)
  whole-fits = (w.from, omega (arith, w.upto, walk.count_most))

  module _ (p : ℕ) (isP : p ≡ (o - 1) * 32) where
    pub lane_within : p + n ≤ length fs
    lane_within = omega (arith, w.from, w.upto, walk.count_most, walk.floats_long)

    pub lane_bounded : Bounded (stored fs p n)
    lane_bounded =
        subst Bounded (whole-named [] [] [] ∙ ap (λ (z : ℕ). stored fs z n) (sym isP)) (walk.vectors [] [] [] o)

    pub lane_rough : (m : Metric) (x : Float) → x ≡ rough m q (stored fs p n) → (es os is : List ℕ)
        → x ≡ rough m q (lookup (log_of (columns es os is cs ls fs) count) o)
    lane_rough m x e es os is =
        e ∙ ap (λ (v : List Float). rough m q v) (ap (λ (z : ℕ). stored fs z n) isP ∙ sym (whole-named es os is))
