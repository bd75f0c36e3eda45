use native.Mathlib.Omega.{arith}
use mathlib.Core.Path.{◌≡◌, refl, sym, ◌∙◌, ap}
use Prim.Native.Nat.{◌+◌, ◌<◌}
use lib.ListN.{length, get_or, drop}
use mathlib.Core.Bool.{Bool}
use Rattle.spec.specs.Lists.{◌and◌, every}
use Rattle.spec.specs.Nearest.Order.{bits_in_domain}
use Rattle.log_check.proofs.Domain.{pass_on, pass_out, pass_end}
use Rattle.image_store.specs.Image.{words}
use Rattle.image_store.proofs.Words.{words-length, words-at}
use Rattle.image_store_check.proofs.entries.all_inside.Goals as goal
use Rattle.image_store_check.proofs.entries.all_inside.Goals.{else-not-bits_in_domain, then-not-bits_in_domain}

pub loop-i-init : goal.loop-i-init
unfolding ◌and◌
loop-i-init c = (omega arith, refl)

pub loop-i-preserved : goal.loop-i-preserved
loop-i-preserved c =
    let a = c.args in let l = c.loop-i in let w = words 4 a.n a.s.now a.at in
    let k = words-length 4 a.n a.s.now a.at in
    let g : get_or w l.i 0 ≡ c.get4.result = words-at 4 a.n a.s.now a.at l.i c.loop-i-test.true ∙ sym c.get4.ensures in
    let is = ap bits_in_domain g ∙ sym c.bits_in_domain.ensures in
    let j : l.i < length w = omega (arith, c.loop-i-test.true) in (
      omega arith,
      elim c.if-not-bits_in_domain.branch [
        | then-not-bits_in_domain u ↦ ap (λ (t : Bool). t and every bits_in_domain (drop (l.i + 1) w)) u.ok-is ∙ pass_out bits_in_domain w l.i 0 l.ok (is ∙ u.if-not-bits_in_domain.true) j ∙ l.invariant.1
        | else-not-bits_in_domain u ↦ ap (λ (t : Bool). t and every bits_in_domain (drop (l.i + 1) w)) u.ok-is ∙ pass_on bits_in_domain w l.i 0 l.ok (is ∙ u.if-not-bits_in_domain.false) j ∙ l.invariant.1
      ],
    )

pub returns : goal.returns
returns c =
    let a = c.args in let l = c.loop-i in let w = words 4 a.n a.s.now a.at in
    let k = words-length 4 a.n a.s.now a.at in
    pass_end bits_in_domain l.ok w l.i (omega arith) ∙ l.invariant.1
