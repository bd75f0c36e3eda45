use native.Mathlib.Omega.{arith}
use Rattle.spec.specs.Layout.Parts.{entry_f}
use Rattle.test_decode.proofs.Held.{row_first, row-start, entry-op, entry-after}
use Rattle.test_decode.proofs.items.entries.Goals as goal

pub loop-i-init : goal.loop-i-init
loop-i-init c =
    let a = c.args in
    (omega arith, omega arith, row-start entry_f a.s.now a.p.len a.p.at c.requires)

pub entry_at-e-requires : goal.entry_at-e-requires
entry_at-e-requires c =
    let l = c.loop-i in
    let a = c.args in
    row_first entry_f a.s.now a.p.len l.at l.i (omega arith) l.invariant.2

pub op-t-requires : goal.op-t-requires
op-t-requires c =
    let l = c.loop-i in
    let a = c.args in
    let r = c.entry_at-e in
    (entry-op a.s.now a.p.len l.at l.i (omega arith) l.invariant.2 r.result r.ensures, omega arith)

pub loop-i-preserved : goal.loop-i-preserved
loop-i-preserved c =
    let l = c.loop-i in
    let a = c.args in
    let r = c.entry_at-e in (
      l.invariant.0,
      omega arith,
      entry-after a.s.now a.p.len l.at l.i (omega arith) l.invariant.2 r.result r.ensures,
    )
