use native.Mathlib.Omega.{arith}
use mathlib.Core.Path.{sym, ◌∙◌, ap}
use Prim.Native.Nat.{ℕ, ◌+◌, ◌*◌, ◌<◌}
use native.Mathlib.Nat.{sub-zero}
use Rattle.image_parts.specs.Shape.{codes_below}
use Rattle.image_header.proofs.Flags.{flags_on, flags_stop, flags_end}
use Rattle.image_header.proofs.flags_listed.Goals as goal

pub loop-i-init : goal.loop-i-init
loop-i-init c = (omega arith, rw sub-zero)

pub returns-then-not-codes_below : goal.returns-then-not-codes_below
returns-then-not-codes_below c =
    let l = c.loop-i in
    let a = c.args in
    let at = 48 + 1280 * l.i in
    let h : l.i < a.n = omega arith in
    let k = ap (λ (m : ℕ). codes_below 16 32 a.s.now m (at + 280)) (sym c.count_at-peers.ensures.0) ∙ sym c.codes_below.ensures ∙ c.if-not-codes_below.true in
    sym (flags_stop a.s.now a.n l.i h k) ∙ l.invariant.1

pub loop-i-preserved : goal.loop-i-preserved
loop-i-preserved c =
    let l = c.loop-i in
    let a = c.args in
    let at = 48 + 1280 * l.i in
    let h : l.i < a.n = omega arith in
    let k = ap (λ (m : ℕ). codes_below 16 32 a.s.now m (at + 280)) (sym c.count_at-peers.ensures.0) ∙ sym c.codes_below.ensures ∙ c.if-not-codes_below.false in
    (omega arith, flags_on a.s.now a.n l.i h k ∙ l.invariant.1)

pub returns : goal.returns
returns c =
    let l = c.loop-i in
    let a = c.args in
    sym (flags_end a.s.now a.n l.i (omega arith)) ∙ l.invariant.1
