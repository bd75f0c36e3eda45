use borrow.Author.Rules.{rules}
use native.Mathlib.Omega.{arith}
use mathlib.Core.Path.{◌≡◌, refl}
use lib.ListN.{length}
use lib.Dec.{eqb}
use borrow.Author.Tests.{eq-eqb, ne_eqb}
use Rattle.image_map_count.proofs.Ids.{any_goes, any_stops, any-ends}
use Rattle.image_map_count.proofs.given.stands_from.Goals as goal

pub loop-i-init : goal.loop-i-init
loop-i-init c = (omega (arith, c.requires.1), refl)

pub returns-then-id-other : goal.returns-then-id-other
returns-then-id-other c =
    let h : length c.args.ids.items ≡ 4 = search rules in
    any_stops c.args.ids.items c.args.ids.count (omega (arith, c.requires.0)) c.loop-i.i (search rules) (eqb c.args.id) _ c.loop-i.invariant.1 (eq-eqb _ _ c.if-id-other.true)

pub loop-i-preserved : goal.loop-i-preserved
loop-i-preserved c =
    let h : length c.args.ids.items ≡ 4 = search rules in
    (search rules, any_goes c.args.ids.items c.args.ids.count (omega (arith, c.requires.0)) c.loop-i.i (search rules) (eqb c.args.id) _ c.loop-i.invariant.1 (ne_eqb _ _ c.if-id-other.false))

pub returns : goal.returns
returns c =
    let h : length c.args.ids.items ≡ 4 = search rules in
    any-ends c.args.ids.items c.args.ids.count (omega (arith, c.requires.0)) c.loop-i.i (search rules) (eqb c.args.id) _ c.loop-i.invariant.1
