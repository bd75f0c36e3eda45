-- A run of `spec_run` that leads from one state to another; such runs follow one another. Assumes nothing.
use mathlib.Core.Path.{◌≡◌, refl, sym, ap, subst, ◌∙◌}
use mathlib.Core.Bool.{true}
use mathlib.Core.List.{List, [], ◌∷◌, ◌++◌}
use Rattle.spec_laws.proofs.Lists.{and_true, and_left, and_right}
use Rattle.spec_run.specs.State.{State}
use Rattle.spec_run.specs.Event.{Event}
use Rattle.spec_run.specs.Step.{step, run}
use Rattle.spec_run.specs.Rules.{allowed, allowed_run}

pub record Simulated (s t : State) : Type 0 where
  pub events : List Event
  pub may : allowed_run s events ≡ true
  pub ends : run s events ≡ t

module _ (s t : State) where
  pub nothing : s ≡ t → Simulated s t
  unfolding allowed_run run
  nothing e = record { events = []; may = refl; ends = e }

  pub one : (v : Event) → allowed s v ≡ true → step s v ≡ t → Simulated s t
  unfolding allowed_run run
  one v a e = record { events = v ∷ []; may = and_true (allowed s v) true a refl; ends = e }

run_on : (s : State) (xs ys : List Event) → run s (xs ++ ys) ≡ run (run s xs) ys
unfolding run
run_on s [] ys = refl
run_on s (x ∷ xs) ys = run_on (step s x) xs ys

may-on : (s : State) (xs ys : List Event) → allowed_run s xs ≡ true → allowed_run (run s xs) ys ≡ true → allowed_run s (xs ++ ys) ≡ true
unfolding run allowed_run
may-on s [] ys a b = b
may-on s (x ∷ xs) ys a b =
    and_true (allowed s x) (allowed_run (step s x) (xs ++ ys)) (and_left (allowed s x) (allowed_run (step s x) xs) a)
    (may-on (step s x) xs ys (and_right (allowed s x) (allowed_run (step s x) xs) a) b)

pub then : (s t u : State) → Simulated s t → Simulated t u → Simulated s u
then s t u x y = record {
  events = x.events ++ y.events;
  may = may-on s x.events y.events x.may (subst (λ (z : State). allowed_run z y.events ≡ true) (sym x.ends) y.may);
  ends = run_on s x.events y.events ∙ ap (λ (z : State). run z y.events) x.ends ∙ y.ends;
}
