use mathlib.Core.Path.{refl, ap, ◌∙◌}
use mathlib.Core.Bool.{Bool}
use lib.ListN.{drop}
use Prim.Native.Nat.{◌+◌, ◌<◌}
use native.Mathlib.Omega.{arith}
use Rattle.spec.specs.Lists.{◌and◌, every}
use Rattle.spec.specs.Nearest.Order.{bits_in_domain}
use Rattle.spec.specs.Node.Wire.{patterns_in_domain}
use Rattle.spec_laws.proofs.Wire.Tests.{and_true}
use Rattle.log_domain.specs.Parts.{bits_in}
use Rattle.log_domain.proofs.InMessage.{bits-length, bits-within}
use Rattle.log_domain.proofs.Bits.{bit_in, tested-on, tested-out, tested-end}
use Rattle.log_domain.proofs.domain.vector_in_domain.Goals as goal
use Rattle.log_domain.proofs.domain.vector_in_domain.Goals.{then-not-bits_in_domain, else-not-bits_in_domain}

pub loop-i-init : goal.loop-i-init
loop-i-init c = (refl, and_true _)

pub component-requires : goal.component-requires
component-requires c = omega (arith, c.requires, c.loop-i.invariant.0, c.loop-i-test.true)

pub loop-i-preserved : goal.loop-i-preserved
loop-i-preserved c =
    let a = c.args in
    let l = c.loop-i in
    let h : l.i < a.v.len = omega (arith, l.invariant.0, c.loop-i-test.true) in
    let xs = bits_in a.s.now a.v in
    let b = bit_in a.s.now a.v l.i h _ _ c.component.ensures c.bits_in_domain.ensures in
    elim c.if-not-bits_in_domain.branch [
      | then-not-bits_in_domain w ↦ (l.invariant.0, ap (λ (t : Bool). t and every bits_in_domain (drop (l.i + 1) xs)) w.ok-is ∙ tested-out xs l.i l.ok (bits-within a.s.now a.v l.i h) (b ∙ w.if-not-bits_in_domain.true) l.invariant.1)
      | else-not-bits_in_domain w ↦ (l.invariant.0, ap (λ (t : Bool). t and every bits_in_domain (drop (l.i + 1) xs)) w.ok-is ∙ tested-on xs l.i l.ok (bits-within a.s.now a.v l.i h) (b ∙ w.if-not-bits_in_domain.false) l.invariant.1)
    ]

pub returns : goal.returns
unfolding patterns_in_domain
returns c =
    let a = c.args in
    let l = c.loop-i in
    let n = bits-length a.s.now a.v in
    tested-end (bits_in a.s.now a.v) l.i l.ok (omega (arith, l.invariant.0, c.loop-i-test.false)) l.invariant.1
