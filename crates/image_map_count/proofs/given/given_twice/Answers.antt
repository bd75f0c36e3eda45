use borrow.Author.Rules.{rules}
use native.Mathlib.Omega.{arith}
use mathlib.Core.Path.{◌≡◌, refl, sym, ◌∙◌}
use lib.ListN.{length}
use Rattle.image_map_count.proofs.Ids.{twice_goes, twice_stops, twice_ends}
use Rattle.image_map_count.proofs.given.given_twice.Goals as goal

pub loop-i-init : goal.loop-i-init
loop-i-init c = (omega arith, refl)

pub stands_from-requires : goal.stands_from-requires
stands_from-requires c = (c.requires, search rules)

pub returns-then-stands_from : goal.returns-then-stands_from
returns-then-stands_from c =
    let h : length c.args.ids.items ≡ 4 = search rules in
    twice_stops c.args.ids.items c.args.ids.count (omega (arith, c.requires)) c.loop-i.i (search rules) _ c.loop-i.invariant.1 (sym c.stands_from.ensures ∙ c.if-stands_from.true)

pub loop-i-preserved : goal.loop-i-preserved
loop-i-preserved c =
    let h : length c.args.ids.items ≡ 4 = search rules in
    (search rules, twice_goes c.args.ids.items c.args.ids.count (omega (arith, c.requires)) c.loop-i.i (search rules) _ c.loop-i.invariant.1 (sym c.stands_from.ensures ∙ c.if-stands_from.false))

pub returns : goal.returns
returns c =
    let h : length c.args.ids.items ≡ 4 = search rules in
    twice_ends c.args.ids.items c.args.ids.count (omega (arith, c.requires)) c.loop-i.i (search rules) _ c.loop-i.invariant.1
