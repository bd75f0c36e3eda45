use native.Mathlib.Omega.{arith}
use mathlib.Core.Path.{refl, ◌∙◌, ap}
use Prim.Native.Nat.{ℕ}
use lib.Ieee.{Float, nan}
use lib.ListN.{length-set}
use Rattle.float_distance.specs.Halves.{element_of}
use Rattle.log_search.specs.Column.{rough, named}
use Rattle.log_arrange.proofs.Filling.{one_more}
use Rattle.log_search.proofs.Filling.{four-more, whole-fits, lane_within, lane_bounded, lane_rough}
use Rattle.log_search.proofs.column.fill.Goals as goal

pub loop-i-init : goal.loop-i-init
loop-i-init c = (omega arith, refl, λ es os is j h. absurd (omega arith))

pub start_of-p-requires : goal.start_of-p-requires
start_of-p-requires c =
    whole-fits _ _ _ _ _ _ _ _ c.requires.0 _ _ (c.four_whole.ensures c.if-four_whole.true).first c.requires.0.asked.0

pub bounds-places-i-then-four_whole : goal.bounds-places-i-then-four_whole
bounds-places-i-then-four_whole c = omega (arith, (c.four_whole.ensures c.if-four_whole.true).rows, c.requires.0.places_long)

pub start_of-q-requires : goal.start_of-q-requires
start_of-q-requires c =
    whole-fits _ _ _ _ _ _ _ _ c.requires.0 _ _ (c.four_whole.ensures c.if-four_whole.true).second c.requires.0.asked.0

pub bounds-places-i-then-four_whole-2 : goal.bounds-places-i-then-four_whole-2
bounds-places-i-then-four_whole-2 c = omega (arith, (c.four_whole.ensures c.if-four_whole.true).rows, c.requires.0.places_long)

pub start_of-r-requires : goal.start_of-r-requires
start_of-r-requires c =
    whole-fits _ _ _ _ _ _ _ _ c.requires.0 _ _ (c.four_whole.ensures c.if-four_whole.true).third c.requires.0.asked.0

pub bounds-places-i-then-four_whole-3 : goal.bounds-places-i-then-four_whole-3
bounds-places-i-then-four_whole-3 c = omega (arith, (c.four_whole.ensures c.if-four_whole.true).rows, c.requires.0.places_long)

pub start_of-s-requires : goal.start_of-s-requires
start_of-s-requires c =
    whole-fits _ _ _ _ _ _ _ _ c.requires.0 _ _ (c.four_whole.ensures c.if-four_whole.true).fourth c.requires.0.asked.0

pub rough_four-f-requires : goal.rough_four-f-requires
rough_four-f-requires c =
    let p = c.requires.0 in
    let w = c.four_whole.ensures c.if-four_whole.true in
    let a = c.start_of-p.ensures in
    let b = c.start_of-q.ensures in
    let d = c.start_of-r.ensures in
    let e = c.start_of-s.ensures in
    let short = p.asked.0 in
    record {
      places = record {
        short = omega arith;
        first = lane_within _ _ _ _ _ _ _ _ p _ _ w.first short _ a;
        second = lane_within _ _ _ _ _ _ _ _ p _ _ w.second short _ b;
        third = lane_within _ _ _ _ _ _ _ _ p _ _ w.third short _ d;
        fourth = lane_within _ _ _ _ _ _ _ _ p _ _ w.fourth short _ e;
      };
      asked = p.asked;
      norm-is = p.norm-is;
      first = lane_bounded _ _ _ _ _ _ _ _ p _ _ w.first short _ a;
      second = lane_bounded _ _ _ _ _ _ _ _ p _ _ w.second short _ b;
      third = lane_bounded _ _ _ _ _ _ _ _ p _ _ w.third short _ d;
      fourth = lane_bounded _ _ _ _ _ _ _ _ p _ _ w.fourth short _ e;
    }

pub bounds-xs-i-then-four_whole : goal.bounds-xs-i-then-four_whole
bounds-xs-i-then-four_whole c =
    simp length-set (omega (arith, (c.four_whole.ensures c.if-four_whole.true).rows, c.loop-i.invariant.1, c.requires.1))

pub bounds-xs-i-then-four_whole-2 : goal.bounds-xs-i-then-four_whole-2
bounds-xs-i-then-four_whole-2 c =
    simp length-set (omega (arith, (c.four_whole.ensures c.if-four_whole.true).rows, c.loop-i.invariant.1, c.requires.1))

pub bounds-xs-i-then-four_whole-3 : goal.bounds-xs-i-then-four_whole-3
bounds-xs-i-then-four_whole-3 c =
    simp length-set (omega (arith, (c.four_whole.ensures c.if-four_whole.true).rows, c.loop-i.invariant.1, c.requires.1))

pub loop-i-preserved-then-four_whole : goal.loop-i-preserved-then-four_whole
loop-i-preserved-then-four_whole c =
    let p = c.requires.0 in
    let g = c.args in
    let w = c.four_whole.ensures c.if-four_whole.true in
    let f = c.rough_four-f.ensures in
    let l = c.loop-i in
    let short = p.asked.0 in (
      w.rows,
      simp length-set l.invariant.1,
      λ es os is. four-more (λ (j : ℕ). rough g.metric g.query.now (named es os is g.codes.now g.lengths.now g.floats.now g.count g.places.now j)) nan l.xs l.i _ _ _ _
          (omega (arith, w.rows, l.invariant.1, c.requires.1)) (l.invariant.2 es os is)
          (lane_rough _ _ _ _ _ _ _ _ p _ _ w.first short _ c.start_of-p.ensures _ _ f.first es os is)
          (lane_rough _ _ _ _ _ _ _ _ p _ _ w.second short _ c.start_of-q.ensures _ _ f.second es os is)
          (lane_rough _ _ _ _ _ _ _ _ p _ _ w.third short _ c.start_of-r.ensures _ _ f.third es os is)
          (lane_rough _ _ _ _ _ _ _ _ p _ _ w.fourth short _ c.start_of-s.ensures _ _ f.fourth es os is),
    )

pub loop-i-preserved : goal.loop-i-preserved
loop-i-preserved c =
    let g = c.args in
    let l = c.loop-i in (
      omega arith,
      length-set l.xs l.i c.element.result ∙ l.invariant.1,
      λ es os is. one_more (λ (j : ℕ). rough g.metric g.query.now (named es os is g.codes.now g.lengths.now g.floats.now g.count g.places.now j)) nan l.xs l.i c.element.result
          (omega (arith, l.invariant.1, c.loop-i-test.true, c.requires.1)) (l.invariant.2 es os is)
          (c.element.ensures ∙ ap (λ (x : Float). element_of g.metric g.query.now x c.components-vector.result.now) c.requires.0.norm-is
          ∙ ap (rough g.metric g.query.now) (c.components-vector.ensures es os is)),
    )

pub returns : goal.returns
returns c =
    let l = c.loop-i in
    (l.invariant.1, λ es os is j h. l.invariant.2 es os is j (omega arith))
