use native.Mathlib.Omega.{arith}
use Rattle.spec.specs.Layout.Format.{many}
use Rattle.spec.specs.Layout.Parts.{u64}
use Rattle.test_decode.proofs.Held.{row_first, row-start, list-run, list-after}
use Rattle.test_decode.proofs.items.placement.Goals as goal

pub loop-i-init : goal.loop-i-init
loop-i-init c =
    let a = c.args in
    (omega arith, omega arith, row-start (many 1 0 8 u64) a.s.now a.p.len a.p.at c.requires)

pub nodes_at-list-requires : goal.nodes_at-list-requires
nodes_at-list-requires c =
    let l = c.loop-i in
    let a = c.args in
    row_first (many 1 0 8 u64) a.s.now a.p.len l.at l.i (omega arith) l.invariant.2

pub nodes-m-requires : goal.nodes-m-requires
nodes-m-requires c =
    let l = c.loop-i in
    let a = c.args in
    let r = c.nodes_at-list in
    (list-run a.s.now a.p.len l.at l.i (omega arith) l.invariant.2 r.result r.ensures, omega arith)

pub overflow_mul-at : goal.overflow_mul-at
overflow_mul-at c =
    let l = c.loop-i in
    let a = c.args in
    let r = c.nodes_at-list in
    omega (arith, list-run a.s.now a.p.len l.at l.i (omega arith) l.invariant.2 r.result r.ensures)

pub overflow_add-at : goal.overflow_add-at
overflow_add-at c =
    let l = c.loop-i in
    let a = c.args in
    let r = c.nodes_at-list in
    omega (arith, list-run a.s.now a.p.len l.at l.i (omega arith) l.invariant.2 r.result r.ensures)

pub loop-i-preserved : goal.loop-i-preserved
loop-i-preserved c =
    let l = c.loop-i in
    let a = c.args in
    let r = c.nodes_at-list in (
      l.invariant.0,
      omega arith,
      list-after a.s.now a.p.len l.at l.i (omega arith) l.invariant.2 r.result r.ensures,
    )
