-- Answers of tests: a Bool by what it says. Assumes nothing.
use Prim.Native.Nat.{ℕ, ◌<◌}
use mathlib.Core.Path.{◌≡◌, refl, sym}
use mathlib.Core.Bool.{Bool, true, false, not}
use lib.Dec.{eqb, ltb}
use borrow.Author.Tests.{ltb-true, ltb-false, eqb-true, eqb-false}
use native.Mathlib.Omega.{arith}
use Rattle.spec.specs.Lists.{◌and◌}
use Rattle.spec_laws.proofs.Lists.{not_both}
use Rattle.log_check.specs.Conditions.{Decides}

pub false_if : (b : Bool) → (b ≡ true → ⊥) → false ≡ b
false_if true n = absurd (n refl)
false_if false n = refl

pub true_if : (a b : Bool) → (a ≡ true → b ≡ true) → (b ≡ true → a ≡ true) → a ≡ b
true_if true true f g = refl
true_if true false f g = sym (f refl)
true_if false true f g = g refl
true_if false false f g = refl

-- `and` with what is known of its right side
pub and_none : (b : Bool) → b and false ≡ false
unfolding ◌and◌
and_none true = refl
and_none false = refl

pub and_all : (b : Bool) → b and true ≡ b
unfolding ◌and◌
and_all true = refl
and_all false = refl

module _ {P : Type 0} where
  pub grant : P → Decides true P
  grant p = record { yes = λ e. p; nay = λ e q. not_both true refl e }

  pub deny : (P → ⊥) → Decides false P
  deny n = record { yes = λ e. not_both false e refl; nay = λ e q. n q }

  pub by_less : (a b : ℕ) → (a < b → P) → (P → a < b) → Decides (ltb a b) P
  by_less a b f g = record {
    yes = λ e. f (ltb-true a b e);
    nay = λ e q. (let h = ltb-false a b e in let k = g q in omega arith);
  }

  pub by-other : (a b : ℕ) → ((a ≡ b → ⊥) → P) → (P → a ≡ b → ⊥) → Decides (not (eqb a b)) P
  by-other a b f g = go (eqb a b) refl
    where
      go : (t : Bool) → eqb a b ≡ t → Decides (not t) P
      go true e = deny (λ q. g q (eqb-true a b e))
      go false e = grant (f (eqb-false a b e))

  -- another's answer, with what it is said of
  pub hand_on : {Q : Type 0} (r : Bool) → Decides r Q → (Q → P) → (P → Q) → Decides r P
  hand_on r d f g = record { yes = λ e. f (d.yes e); nay = λ e p. d.nay e (g p) }
