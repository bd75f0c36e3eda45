use native.Mathlib.Omega.{arith}
use mathlib.Core.Path.{◌≡◌, ap}
use Prim.Native.Nat.{ℕ, ◌-◌}
use native.Mathlib.Nat.{zero-add}
use Rattle.wire_write.specs.Rows.{rows_size}
use Rattle.image_store.specs.Read.{codes_in, lengths_in}
use Rattle.image_send_entries.proofs.Store.{size-next}
use Rattle.image_send_entries.proofs.entries.entries_size.Goals as goal

pub loop-i-init : goal.loop-i-init
loop-i-init c = (c.requires.0, omega arith, zero-add _)

pub bounds-s-codes : goal.bounds-s-codes
bounds-s-codes c = let p = c.requires.1 in let q = c.requires.2 in let t = c.loop-i-test.true in omega arith

pub bounds-s-lengths : goal.bounds-s-lengths
bounds-s-lengths c = let p = c.requires.1 in let q = c.requires.2 in let t = c.loop-i-test.true in omega arith

pub overflow_add-total : goal.overflow_add-total
overflow_add-total c =
    let p = c.requires.1 in let t = c.loop-i-test.true in let v = c.loop-i.invariant.1 in let e = c.entry_size-total.ensures.1 in omega arith

pub loop-i-preserved : goal.loop-i-preserved
loop-i-preserved c =
    let a = c.args in let l = c.loop-i in let t = c.loop-i-test.true in let v = l.invariant.1 in let w = l.invariant.2 in let e = c.entry_size-total.ensures in let e₀ = e.0 in let e₁ = e.1 in let z = size-next a.s.now a.base a.end l.i t c.requires.1 in
    (omega arith, omega arith, omega arith)

pub returns : goal.returns
returns c =
    let a = c.args in let l = c.loop-i in let t = c.loop-i-test.false in let v = l.invariant in let v₀ = v.0 in let v₁ = v.1 in let v₂ = v.2 in let p = c.requires.1 in
    let z : a.end - l.i ≡ 0 = omega arith in
    let e : rows_size (codes_in a.s.now a.base) (lengths_in a.s.now a.base) (a.end - l.i) l.i ≡ 0 = ap (λ (m : ℕ). rows_size (codes_in a.s.now a.base) (lengths_in a.s.now a.base) m l.i) z in
    (omega arith, omega arith)
