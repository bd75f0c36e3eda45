use borrow.Author.Rules.{rules}
use mathlib.Core.Path.{refl, ◌∙◌}
use Rattle.test_search.proofs.play.Goals as goal

pub loop-init : goal.loop-init
loop-init c = (search rules, refl, refl, refl, refl, refl, refl, refl, refl)

pub loop-preserved : goal.loop-preserved
loop-preserved c =
    let l = c.loop in (
      c.operation.auto.message ∙ l.invariant.0,
      c.append-d.auto.epochs ∙ l.invariant.1,
      c.append-d.auto.offsets ∙ l.invariant.2,
      c.append-d.auto.ids ∙ l.invariant.3,
      c.append-d.auto.codes ∙ l.invariant.4,
      c.append-d.auto.lengths ∙ l.invariant.5,
      c.append-d.auto.floats ∙ l.invariant.6,
      c.append-d.auto.keys ∙ l.invariant.7,
      c.append-d.auto.places ∙ l.invariant.8,
    )
