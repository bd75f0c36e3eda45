use native.Mathlib.Omega.{arith}
use mathlib.Core.Path.{refl, sym, ◌∙◌, ap}
use mathlib.Core.Bool.{not}
use Rattle.map_tables.specs.View.{view_list}
use Rattle.map_place.specs.Read.{best_of, unlisted}
use Rattle.map_place.proofs.Pairs.{turn_on, turn_past, turn_end}
use Rattle.map_place.proofs.choose.lightest_of.Goals as goal
use Rattle.map_place.proofs.choose.lightest_of.Goals.{then-not-is_listed, else-not-is_listed}

pub loop-i-init : goal.loop-i-init
loop-i-init c = (omega arith, refl)

pub loop-i-preserved : goal.loop-i-preserved
loop-i-preserved c =
    let lt = c.loop-i-test.true in let keep = unlisted (view_list c.args.taken) in
    elim c.if-not-is_listed.branch [
      | then-not-is_listed w ↦ (omega arith, rw w.best-is (turn_on c.args.ids.now c.args.counts.now c.args.count c.requires.0 keep c.loop-i.i (best_of c.loop-i.best) _ c.loop-i.invariant.1 lt _ (ap not (sym c.is_listed.ensures ∙ w.if-not-is_listed.true)) w.lighter_of-best.ensures))
      | else-not-is_listed w ↦ (omega arith, rw w.best-is (turn_past c.args.ids.now c.args.counts.now c.args.count c.requires.0 keep c.loop-i.i (best_of c.loop-i.best) _ c.loop-i.invariant.1 lt (ap not (sym c.is_listed.ensures ∙ w.if-not-is_listed.false))))
    ]

pub returns : goal.returns
returns c =
    turn_end c.args.ids.now c.args.counts.now c.args.count c.requires.0 (unlisted (view_list c.args.taken)) c.loop-i.i (best_of c.loop-i.best) _ c.loop-i.invariant.1 c.loop-i-test.false
