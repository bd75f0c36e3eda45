use native.Mathlib.Omega.{arith}
use mathlib.Core.Path.{◌≡◌, ap}
use Prim.Native.Nat.{ℕ, ◌-◌, ◌<◌}
use native.Mathlib.Nat.{zero-add}
use Rattle.wire_write.specs.Rows.{rows_size}
use Rattle.wire_write.proofs.Rows.{size_step}
use Rattle.node_send_entries.proofs.entries.entries_size.Goals as goal

pub loop-i-init : goal.loop-i-init
loop-i-init c = (c.requires.0, omega arith, zero-add _)

pub bounds-codes-i : goal.bounds-codes-i
bounds-codes-i c = omega arith

pub bounds-lengths-i : goal.bounds-lengths-i
bounds-lengths-i c = omega arith

pub overflow_add-total : goal.overflow_add-total
overflow_add-total c = omega (arith, c.entry_size-total.ensures.1)

pub loop-i-preserved : goal.loop-i-preserved
loop-i-preserved c =
    let a = c.args in
    let l = c.loop-i in
    let s = c.entry_size-total.ensures in
    let h : l.i < a.end = omega arith in
    (omega arith, omega (arith, s.1), omega (arith, s.0, size_step a.codes.now a.lengths.now a.end l.i h))

pub returns : goal.returns
returns c =
    let a = c.args in
    let l = c.loop-i in
    let z : a.end - l.i ≡ 0 = omega arith in
    let e : rows_size a.codes.now a.lengths.now (a.end - l.i) l.i ≡ 0 = ap (λ (m : ℕ). rows_size a.codes.now a.lengths.now m l.i) z in
    (omega arith, omega arith)
