use mathlib.Core.Path.{◌≡◌}
use Prim.Native.Nat.{◌-◌}
use Rattle.spec.specs.Lists.{every}
use Rattle.spec_join.specs.Join.{sound_answer}
use Rattle.calls_join.specs.View.{Stand, answers_at}
use Rattle.calls_join.proofs.checks.each_sound.Given as goal

abbrev pub invariant-loop : goal.invariant-loop
invariant-loop l =
    Stand l.s (l.n - l.counter) l.p × (every sound_answer (answers_at l.s (l.n - l.counter) l.p) ≡ every sound_answer (answers_at l.s l.n 0))
