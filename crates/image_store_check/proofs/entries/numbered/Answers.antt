use native.Mathlib.Omega.{arith}
use mathlib.Core.Path.{◌≡◌, refl, sym, ◌∙◌, ap}
use Prim.Native.Nat.{◌+◌}
use lib.ListN.{get_or}
use borrow.Author.Tests.{eq-eqb, ne_eqb}
use Rattle.log_store.specs.Store.{every_below}
use Rattle.log_check.specs.Entries.{number_fits}
use Rattle.log_check.proofs.Domain.{column_on, column_out}
use Rattle.image_store_check.specs.Test.{offsets_in}
use Rattle.image_store_check.proofs.EntryLaws.{word_in}
use Rattle.image_store_check.proofs.entries.numbered.Goals as goal
use Rattle.image_store_check.proofs.entries.numbered.Goals.{else-get8-i, then-get8-i}

pub loop-i-init : goal.loop-i-init
unfolding every_below
loop-i-init c = (omega arith, refl)

pub loop-i-preserved : goal.loop-i-preserved
loop-i-preserved c =
    let a = c.args in let l = c.loop-i in let v = offsets_in a.s.now a.base in
    let p = c.requires.0 in let t = c.loop-i-test.true in
    let e : get_or v l.i 0 ≡ c.get8.result = word_in a.s.now a.base (a.base + 8192) l.i (omega arith) ∙ sym c.get8.ensures in (
      omega arith,
      elim c.if-get8-i.branch [
        | then-get8-i w ↦ w.ok-is ∙ column_out (number_fits v) l.i (ne_eqb (get_or v l.i 0) (l.i + 1) (λ q. w.if-get8-i.true (sym e ∙ q)))
        | else-get8-i w ↦ w.ok-is ∙ column_on (number_fits v) l.i l.ok (eq-eqb (get_or v l.i 0) (l.i + 1) (e ∙ w.if-get8-i.false)) l.invariant.1
      ],
    )

pub returns : goal.returns
returns c =
    let e : c.loop-i.i ≡ c.args.count = omega arith in c.loop-i.invariant.1 ∙ ap (every_below (number_fits (offsets_in c.args.s.now c.args.base))) e
