use native.Mathlib.Omega.{arith}
use mathlib.Core.Path.{refl, sym, ◌∙◌, ap, subst}
use Prim.Native.Nat.{ℕ, ◌+◌, ◌*◌, ◌≤◌}
use lib.ListN.{get_or}
use Rattle.spec.specs.Layout.Format.{number_at}
use Rattle.node_header.specs.declared.HeldRow.{HeldRow}
use Rattle.node_header.specs.View.{no_held_row}
use Rattle.image_header_row.specs.Rows.{held_row_at}
use Rattle.image_header_put.proofs.Back.{still, done-step, done_end}
use Rattle.calls_wait.specs.Waited.{waited_held_row}
use Rattle.calls_wait.proofs.BackLaws.{rows_set, set_long, set_here, set_there, count-still}
use Rattle.calls_wait.proofs.back.rows_waited.Goals as goal
use Rattle.calls_wait.proofs.back.rows_waited.Goals.{then-i-at, else-i-at}
use mathlib.Core.List.{List}
use Rattle.image_header_put.proofs.Back.{Done}

pub loop-i-init : goal.loop-i-init
loop-i-init c = (refl, refl, refl)

pub row_waited-requires : goal.row_waited-requires
row_waited-requires c =
    let the-loop = c.loop-i in
    let s = c.args.out.now in
    let l = the-loop.invariant.0 in
    let lt = c.loop-i-test.true in
    let room = c.requires.0 in
    let few = c.requires.1 in
    let q = c.if-i-at.true in
    let cs = count-still s _ the-loop.out the-loop.i the-loop.invariant in
    let k : number_at 8 s (48 + 1280 * the-loop.i + 88) ≤ 32 = subst (λ (j : ℕ). number_at 8 s (48 + 1280 * j + 88) ≤ 32) (sym q) c.requires.3 in (omega arith, omega arith)

pub loop-i-preserved : goal.loop-i-preserved
loop-i-preserved c =
    let a = c.args in
    let l = c.loop-i in
    let s = a.out.now in
    let n = a.count in
    let at = a.at in
    let i = l.i in
    let y = waited_held_row (held_row_at s (48 + 1280 * at)) a.clock a.timeout in
    let lt = c.loop-i-test.true in
    let room = c.requires.0 in
    let few = c.requires.1 in
    let k = set_long s n at y in
    elim c.if-i-at.branch [
      | then-i-at w ↦
          let q = w.if-i-at.true in
          subst (λ (o : List ℕ). Done s (rows_set s n at y) o (i + 1)) (sym w.out-is)
          (done-step s (rows_set s n at y) l.out _ i room (omega arith) (omega arith) l.invariant w.row_waited.auto.out (waited_held_row (held_row_at l.out (48 + 1280 * i)) a.clock a.timeout)
          (ap (λ (x : HeldRow). waited_held_row x a.clock a.timeout) (still s (rows_set s n at y) l.out i l.invariant ∙ ap (λ (j : ℕ). held_row_at s (48 + 1280 * j)) q) ∙ set_here s n at y c.requires.2 ∙ ap (λ (j : ℕ). get_or (rows_set s n at y) j no_held_row) (sym q))
          w.row_waited.ensures)
      | else-i-at w ↦
          subst (λ (o : List ℕ). Done s (rows_set s n at y) o (i + 1)) (sym w.out-is)
          (done-step s (rows_set s n at y) l.out _ i room (omega arith) (omega arith) l.invariant w.row_tidied.auto.out (held_row_at l.out (48 + 1280 * i)) (still s (rows_set s n at y) l.out i l.invariant ∙ set_there s n at y i lt w.if-i-at.false) w.row_tidied.ensures)
    ]

pub shape_of-out : goal.shape_of-out
shape_of-out c = c.loop-i.invariant.0

pub returns : goal.returns
returns c =
    let a = c.args in
    let s = a.out.now in
    let n = a.count in
    let at = a.at in
    let y = waited_held_row (held_row_at s (48 + 1280 * at)) a.clock a.timeout in
    let few = c.requires.1 in
    let z = c.loop-i-test.false in
    let e = c.loop-i.auto.i-end in
    let l = set_long s n at y in
    done_end s (rows_set s n at y) c.loop-i.out c.loop-i.i (omega arith) c.loop-i.invariant
