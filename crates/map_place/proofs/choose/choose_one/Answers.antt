use native.Mathlib.Omega.{arith}
use mathlib.Core.Path.{sym, ◌∙◌, ap}
use Rattle.map_place.specs.Read.{best_of, round_in}
use Rattle.map_place.proofs.Choosing.{chosen_none, chosen_some}
use Rattle.map_place.proofs.choose.choose_one.Goals as goal

pub lightest_of-best-requires : goal.lightest_of-best-requires
lightest_of-best-requires c = (c.requires.0, omega (arith, c.requires.1))

pub returns-in_default : goal.returns-in_default
returns-in_default c =
    record { round = chosen_none (round_in c.args.ids.now c.args.counts.now c.args.count c.args.list) (sym c.lightest_of-best.ensures ∙ ap best_of c.in_default.is); size = omega arith; long = c.requires.0.counted }

pub raise-requires : goal.raise-requires
raise-requires c = (c.requires.0, c.requires.2)

pub listed-requires : goal.listed-requires
listed-requires c = c.requires.1

pub returns : goal.returns
returns c =
    record { round = chosen_some (round_in c.args.ids.now c.args.counts.now c.args.count c.args.list) _ _ (sym c.lightest_of-best.ensures ∙ ap best_of c.in-Some.is) c.raise.ensures.loads c.listed.ensures.0; size = omega (arith, c.listed.ensures.1); long = c.raise.ensures.long }
