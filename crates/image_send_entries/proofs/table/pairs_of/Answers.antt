use native.Mathlib.Omega.{arith}
use mathlib.Core.Path.{ap}
use lib.ListN.{length}
use Rattle.image_send_entries.proofs.Runs.{pairs-none, pairs-same, pairs_next}
use Rattle.image_send_entries.proofs.table.pairs_of.Goals as goal
use Rattle.image_send_entries.proofs.table.pairs_of.Goals.{then-ends_run, else-ends_run}

pub loop-i-init : goal.loop-i-init
loop-i-init c = (omega arith, omega arith, omega arith)

pub ends_run-requires : goal.ends_run-requires
ends_run-requires c = (c.loop-i-test.true, c.requires.0, c.requires.1)

pub loop-i-preserved : goal.loop-i-preserved
loop-i-preserved c =
    let a = c.args in let l = c.loop-i in let t = c.loop-i-test.true in let v = l.invariant.1 in let w = l.invariant.2 in elim c.if-ends_run.branch [
      | then-ends_run u ↦ let z = ap length (pairs_next a.s.now a.base a.n l.i t c.ends_run.result c.ends_run.ensures u.if-ends_run.true) in (omega arith, omega arith, omega arith)
      | else-ends_run u ↦ let z = ap length (pairs-same a.s.now a.base a.n l.i t c.ends_run.result c.ends_run.ensures u.if-ends_run.false) in (omega arith, omega arith, omega arith)
    ]

pub returns : goal.returns
returns c =
    let a = c.args in let l = c.loop-i in let t = c.loop-i-test.false in let v = l.invariant.0 in let u = l.invariant.1 in let w = l.invariant.2 in let z = ap length (pairs-none a.s.now a.base a.n l.i t) in (omega arith, omega arith)
