use borrow.Author.Rules.{rules}
use native.Mathlib.Omega.{arith}
use mathlib.Core.Path.{refl, ◌∙◌, ap}
use mathlib.Core.Bool.{true, false}
use Rattle.spec.specs.Map.Place.{place_on}
use Rattle.map_tables.specs.View.{view_spec}
use Rattle.map_place.specs.Read.{view_loads, Columns}
use Rattle.map_place.specs.Answers.{placed_of}
use Rattle.map_place.proofs.Pairs.{there, row_next}
use Rattle.calls_losses.specs.Rows.{loss_as}
use Rattle.calls_losses.proofs.RowLaws.{walked_start, walked_end, walked_skip, walked_row, found-loss, found-matters, light_left}
use Rattle.calls_losses.proofs.rows.put_losses.Goals as goal
use Rattle.calls_losses.proofs.rows.put_losses.Goals.{Start}

-- the loads in use are in the arrays
columns_of : (c : Start) → Columns c.args.loads.ids c.args.loads.counts c.args.loads.count
columns_of c = record { named = search rules; counted = search rules; few = c.requires.0 }

pub place_on-base-requires : goal.place_on-base-requires
place_on-base-requires c = (c.requires.0, c.requires.1, c.requires.2)

pub loop-i-init : goal.loop-i-init
loop-i-init c =
    (omega arith, refl, omega arith, omega arith, walked_start (view_spec c.args.spec) (view_loads c.args.loads) c.args.out.now)

pub loads_without-left-requires : goal.loads_without-left-requires
loads_without-left-requires c = c.requires.0

pub place_on-then-requires : goal.place_on-then-requires
place_on-then-requires c =
    (c.loads_without-left.ensures.count, c.loads_without-left.ensures.size, light_left 512 _ _ _ c.loads_without-left.ensures.loads c.requires.2)

pub loop-i-preserved-then-same_answer : goal.loop-i-preserved-then-same_answer
loop-i-preserved-then-same_answer c =
    let l = c.loop-i in
    let a = c.args in
    let k = columns_of (goal.at.loop-i-preserved-then-same_answer c).Start in
    let x = there a.loads.ids a.loads.counts a.loads.count k l.i in
    let d = row_next a.loads.ids a.loads.counts a.loads.count k l.i c.loop-i-test.true in
    let f = c.place_on-then.ensures ∙ ap (place_on (view_spec a.spec)) c.loads_without-left.ensures.loads in
    (search rules, l.invariant.1, omega (arith, l.invariant.2), omega (arith, l.invariant.3), walked_skip (view_spec a.spec) (view_loads a.loads) a.out.now l.out l.at l.rows l.i l.invariant.4 x d (found-matters (view_spec a.spec) (view_loads a.loads) x (placed_of c.place_on-then.result) (placed_of c.place_on-base.result) f c.place_on-base.ensures true c.same_answer.result c.same_answer.ensures c.if-same_answer.true))

pub put_row-size-requires : goal.put_row-size-requires
put_row-size-requires c = omega (arith, c.requires.0, c.requires.3, c.loop-i.invariant.1, c.loop-i.invariant.2)

pub loop-i-preserved : goal.loop-i-preserved
loop-i-preserved c =
    let l = c.loop-i in
    let a = c.args in
    let k = columns_of (goal.at.loop-i-preserved c).Start in
    let x = there a.loads.ids a.loads.counts a.loads.count k l.i in
    let d = row_next a.loads.ids a.loads.counts a.loads.count k l.i c.loop-i-test.true in
    let f = c.place_on-then.ensures ∙ ap (place_on (view_spec a.spec)) c.loads_without-left.ensures.loads in
    (search rules, c.put_row-size.auto.out ∙ l.invariant.1, omega (arith, l.invariant.2, c.put_row-size.ensures.most), omega (arith, l.invariant.3), walked_row (view_spec a.spec) (view_loads a.loads) a.out.now l.out l.at l.rows l.i l.invariant.4 x d (loss_as x.node c.place_on-then.result) _ c.put_row-size.result (found-matters (view_spec a.spec) (view_loads a.loads) x (placed_of c.place_on-then.result) (placed_of c.place_on-base.result) f c.place_on-base.ensures false c.same_answer.result c.same_answer.ensures c.if-same_answer.false) (found-loss (view_spec a.spec) (view_loads a.loads) x (placed_of c.place_on-then.result) (placed_of c.place_on-base.result) f c.place_on-base.ensures) c.put_row-size.ensures.bytes c.put_row-size.ensures.size)

pub shape_of-out : goal.shape_of-out
shape_of-out c = c.loop-i.invariant.1

pub returns : goal.returns
returns c =
    let l = c.loop-i in
    let a = c.args in
    let w = walked_end (view_spec a.spec) (view_loads a.loads) a.out.now l.out l.at l.rows l.i l.invariant.4 (omega (arith, c.requires.1)) in
    record { bytes = w.0; rows = w.2; size = w.1; most = omega (arith, l.invariant.0, l.invariant.2, c.requires.0) }
