use borrow.Author.Rules.{rules}
use native.Mathlib.Omega.{arith}
use Prim.Native.Nat.{◌*◌}
use Rattle.image_map_drop.proofs.Kept.{kept-start, row-skip, row_move, row_room, rows_stay}
use Rattle.image_map_drop.proofs.rows.rows_without.Goals as goal

pub overflow_mul-row : goal.overflow_mul-row
overflow_mul-row c = let f = c.requires.1 in omega arith

pub loop-i-init : goal.loop-i-init
loop-i-init c =
    let a = c.args in
    (kept-start (8 * a.words) a.base a.name a.out.now a.count, omega arith, c.requires)

pub overflow_mul-at : goal.overflow_mul-at
overflow_mul-at c =
    let a = c.args in
    let l = c.loop-i in
    let r = row_room (8 * a.words) a.base l.i l.kept a.count 26536 l.invariant.0.few c.loop-i-test.true l.invariant.2.2 in
    let q = r.0 in omega arith

pub overflow_add-at : goal.overflow_add-at
overflow_add-at c =
    let a = c.args in
    let l = c.loop-i in
    let r = row_room (8 * a.words) a.base l.i l.kept a.count 26536 l.invariant.0.few c.loop-i-test.true l.invariant.2.2 in
    let q = r.0 in omega arith

pub name_at-own-requires : goal.name_at-own-requires
name_at-own-requires c =
    let a = c.args in
    let l = c.loop-i in
    let r = row_room (8 * a.words) a.base l.i l.kept a.count 26536 l.invariant.0.few c.loop-i-test.true l.invariant.2.2 in
    let q = r.0 in
    let wide = l.invariant.2.0 in
    let long = l.invariant.0.long in
    let there = l.invariant.2.3 in omega arith

pub loop-i-preserved-then-same_name : goal.loop-i-preserved-then-same_name
loop-i-preserved-then-same_name c =
    let a = c.args in
    let l = c.loop-i in
    let lt = c.loop-i-test.true in
    let wide = l.invariant.2.0 in
    (row-skip (8 * a.words) a.base a.name a.out.now a.count l.out l.i l.kept l.invariant.0 lt (omega arith) _ c.name_at-own.ensures _ c.same_name.ensures c.if-same_name.true, omega arith, l.invariant.2)

pub overflow_mul-row-in-loop-i : goal.overflow_mul-row-in-loop-i
overflow_mul-row-in-loop-i c =
    let a = c.args in
    let l = c.loop-i in
    let r = row_room (8 * a.words) a.base l.i l.kept a.count 26536 l.invariant.0.few c.loop-i-test.true l.invariant.2.2 in
    let q = r.0 in
    let k = r.1 in omega arith

pub overflow_add-base : goal.overflow_add-base
overflow_add-base c =
    let a = c.args in
    let l = c.loop-i in
    let r = row_room (8 * a.words) a.base l.i l.kept a.count 26536 l.invariant.0.few c.loop-i-test.true l.invariant.2.2 in
    let q = r.0 in
    let k = r.1 in omega arith

pub move_down-requires : goal.move_down-requires
move_down-requires c =
    let a = c.args in
    let l = c.loop-i in
    let r = row_room (8 * a.words) a.base l.i l.kept a.count 26536 l.invariant.0.few c.loop-i-test.true l.invariant.2.2 in
    let q = r.0 in
    let k = r.1 in
    let long = l.invariant.0.long in
    let there = l.invariant.2.3 in (omega arith, omega arith)

pub overflow_add-kept : goal.overflow_add-kept
overflow_add-kept c = let t = c.loop-i-test.true in let k = c.loop-i.invariant.0.few in search rules

pub loop-i-preserved : goal.loop-i-preserved
loop-i-preserved c =
    let a = c.args in
    let l = c.loop-i in
    let lt = c.loop-i-test.true in
    let wide = l.invariant.2.0 in
    (row_move (8 * a.words) a.base a.name a.out.now a.count l.out l.i l.kept l.invariant.0 lt (omega arith) _ c.name_at-own.ensures _ c.same_name.ensures c.if-same_name.false _ c.move_down.ensures, omega arith, l.invariant.2)

pub shape_of-out : goal.shape_of-out
shape_of-out c = c.loop-i.invariant.0.long

pub returns : goal.returns
returns c =
    let a = c.args in
    let l = c.loop-i in
    let t = c.loop-i-test.false in
    let i = l.invariant.1 in
    rows_stay (8 * a.words) a.base a.name a.out.now a.count l.out l.i l.kept l.invariant.0 (omega arith)
