use native.Mathlib.Omega.{arith}
use mathlib.Core.Path.{◌≡◌, sym, ◌∙◌, ap}
use Prim.Native.Nat.{ℕ, ◌+◌}
use lib.ListN.{length-set}
use Rattle.float_distance.specs.Halves.{element_of}
use Rattle.image_store_search.specs.Column.{Filled}
use Rattle.image_store_search.proofs.ColumnLaws.{row-patterns, row-vector, filled_on, filled-four}
use Rattle.image_store_search.proofs.column.fill.Goals as goal

pub loop-i-init : goal.loop-i-init
loop-i-init c = (omega arith, c.requires.2, λ j h. absurd (omega arith))

pub four_long-requires : goal.four_long-requires
four_long-requires c = (c.requires.0, c.loop-i-test.true)

pub start_of-p-requires : goal.start_of-p-requires
start_of-p-requires c = (c.requires.0, c.loop-i-test.true)

pub overflow_add-i : goal.overflow_add-i
overflow_add-i c = let w = (c.four_long.ensures c.if-four_long.true).rows in let p = c.requires.0.few in omega arith

pub start_of-q-requires : goal.start_of-q-requires
start_of-q-requires c = let w = (c.four_long.ensures c.if-four_long.true).rows in (c.requires.0, omega arith)

pub overflow_add-i-then-four_long : goal.overflow_add-i-then-four_long
overflow_add-i-then-four_long c = let w = (c.four_long.ensures c.if-four_long.true).rows in let p = c.requires.0.few in omega arith

pub start_of-r-requires : goal.start_of-r-requires
start_of-r-requires c = let w = (c.four_long.ensures c.if-four_long.true).rows in (c.requires.0, omega arith)

pub overflow_add-i-then-four_long-2 : goal.overflow_add-i-then-four_long-2
overflow_add-i-then-four_long-2 c = let w = (c.four_long.ensures c.if-four_long.true).rows in let p = c.requires.0.few in omega arith

pub start_of-t-requires : goal.start_of-t-requires
start_of-t-requires c = let w = (c.four_long.ensures c.if-four_long.true).rows in (c.requires.0, omega arith)

pub bounds-xs-i : goal.bounds-xs-i
bounds-xs-i c =
    let w = (c.four_long.ensures c.if-four_long.true).rows in let p = c.requires.0.few in let l = c.loop-i.invariant.1 in omega arith

pub overflow_add-xs : goal.overflow_add-xs
overflow_add-xs c = let w = (c.four_long.ensures c.if-four_long.true).rows in let p = c.requires.0.few in omega arith

pub bounds-xs-i-then-four_long : goal.bounds-xs-i-then-four_long
bounds-xs-i-then-four_long c =
    let w = (c.four_long.ensures c.if-four_long.true).rows in let p = c.requires.0.few in let l = c.loop-i.invariant.1 in simp length-set (omega arith)

pub overflow_add-xs-then-four_long : goal.overflow_add-xs-then-four_long
overflow_add-xs-then-four_long c = let w = (c.four_long.ensures c.if-four_long.true).rows in let p = c.requires.0.few in omega arith

pub bounds-xs-i-then-four_long-2 : goal.bounds-xs-i-then-four_long-2
bounds-xs-i-then-four_long-2 c =
    let w = (c.four_long.ensures c.if-four_long.true).rows in let p = c.requires.0.few in let l = c.loop-i.invariant.1 in simp length-set (omega arith)

pub overflow_add-xs-then-four_long-2 : goal.overflow_add-xs-then-four_long-2
overflow_add-xs-then-four_long-2 c = let w = (c.four_long.ensures c.if-four_long.true).rows in let p = c.requires.0.few in omega arith

pub bounds-xs-i-then-four_long-3 : goal.bounds-xs-i-then-four_long-3
bounds-xs-i-then-four_long-3 c =
    let w = (c.four_long.ensures c.if-four_long.true).rows in let p = c.requires.0.few in let l = c.loop-i.invariant.1 in simp length-set (omega arith)

pub element_of-requires : goal.element_of-requires
element_of-requires c = (c.requires.0, c.loop-i-test.true)

pub bounds-xs-i-else-four_long : goal.bounds-xs-i-else-four_long
bounds-xs-i-else-four_long c =
    let p = c.requires.0.few in let l = c.loop-i.invariant.1 in let t = c.loop-i-test.true in omega arith

pub loop-i-preserved : goal.loop-i-preserved
loop-i-preserved c =
    let a = c.args in let l = c.loop-i in let t = c.loop-i-test.true in let few = c.requires.0.few in let lx = l.invariant.1 in
    (omega arith, simp length-set l.invariant.1, filled_on a.s.now a.base a.metric a.query.now a.qnorm l.xs l.i _ (omega arith) l.invariant.2 c.element_of.ensures)

pub shape_of-xs : goal.shape_of-xs
shape_of-xs c = c.loop-i.invariant.1 ∙ sym c.requires.2

pub returns : goal.returns
returns c =
    let a = c.args in let l = c.loop-i in let t = c.loop-i-test.false in let b = l.invariant.0 in let e : l.i ≡ a.stored = omega arith in
    (l.invariant.1, mathlib.Core.Path.subst (λ (j : ℕ). Filled a.s.now a.base a.metric a.query.now a.qnorm l.xs j) e l.invariant.2)

pub elements_four-f-requires : goal.elements_four-f-requires
elements_four-f-requires c =
    let a = c.args in let w = c.four_long.ensures c.if-four_long.true in let z = w.rows in record { short = omega arith; first = row-patterns a.s.now a.base a.stored c.requires.0 c.loop-i.i (omega arith) _ _ c.start_of-p.ensures.0 w.first c.start_of-p.ensures.1; second = row-patterns a.s.now a.base a.stored c.requires.0 (c.loop-i.i + 1) (omega arith) _ _ c.start_of-q.ensures.0 w.second c.start_of-q.ensures.1; third = row-patterns a.s.now a.base a.stored c.requires.0 (c.loop-i.i + 2) (omega arith) _ _ c.start_of-r.ensures.0 w.third c.start_of-r.ensures.1; fourth = row-patterns a.s.now a.base a.stored c.requires.0 (c.loop-i.i + 3) (omega arith) _ _ c.start_of-t.ensures.0 w.fourth c.start_of-t.ensures.1 }

pub loop-i-preserved-then-four_long : goal.loop-i-preserved-then-four_long
loop-i-preserved-then-four_long c =
    let a = c.args in let w = c.four_long.ensures c.if-four_long.true in let z = w.rows in let l = c.loop-i in let few = c.requires.0.few in let f = c.elements_four-f.ensures in let lx = l.invariant.1 in
    let el = element_of a.metric a.query.now a.qnorm in (
      omega arith,
      simp length-set l.invariant.1,
      filled-four a.s.now a.base a.metric a.query.now a.qnorm l.xs l.i _ _ _ _ (omega arith) l.invariant.2
          (f.first ∙ ap el (row-vector a.s.now a.base a.stored c.requires.0 c.loop-i.i (omega arith) _ _ c.start_of-p.ensures.0 w.first c.start_of-p.ensures.1)) (f.second ∙ ap el (row-vector a.s.now a.base a.stored c.requires.0 (c.loop-i.i + 1) (omega arith) _ _ c.start_of-q.ensures.0 w.second c.start_of-q.ensures.1)) (f.third ∙ ap el (row-vector a.s.now a.base a.stored c.requires.0 (c.loop-i.i + 2) (omega arith) _ _ c.start_of-r.ensures.0 w.third c.start_of-r.ensures.1)) (f.fourth ∙ ap el (row-vector a.s.now a.base a.stored c.requires.0 (c.loop-i.i + 3) (omega arith) _ _ c.start_of-t.ensures.0 w.fourth c.start_of-t.ensures.1)),
    )
