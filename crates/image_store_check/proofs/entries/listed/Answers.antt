use native.Mathlib.Omega.{arith}
use mathlib.Core.Path.{◌≡◌, refl, sym, ◌∙◌, ap}
use Rattle.log_store.specs.Store.{every_below}
use Rattle.log_check.specs.Entries.{shape_at}
use Rattle.log_check.proofs.Domain.{column_on, column_out}
use Rattle.image_store.specs.Read.{codes_in, lengths_in}
use Rattle.image_store_check.proofs.EntryLaws.{shape_in}
use Rattle.image_store_check.proofs.entries.listed.Goals as goal
use Rattle.image_store_check.proofs.entries.listed.Goals.{else-not-is_listed, then-not-is_listed}

pub loop-i-init : goal.loop-i-init
unfolding every_below
loop-i-init c = (omega arith, refl)

pub loop-i-preserved : goal.loop-i-preserved
loop-i-preserved c =
    let a = c.args in let l = c.loop-i in let f = shape_at (codes_in a.s.now a.base) (lengths_in a.s.now a.base) in
    let p = c.requires.0 in let t = c.loop-i-test.true in
    let e = sym (shape_in a.s.now a.base l.i (omega arith)) ∙ sym c.is_listed.ensures in (
      omega arith,
      elim c.if-not-is_listed.branch [
        | then-not-is_listed w ↦ w.ok-is ∙ column_out f l.i (e ∙ w.if-not-is_listed.true)
        | else-not-is_listed w ↦ w.ok-is ∙ column_on f l.i l.ok (e ∙ w.if-not-is_listed.false) l.invariant.1
      ],
    )

pub returns : goal.returns
returns c =
    let e : c.loop-i.i ≡ c.args.count = omega arith in c.loop-i.invariant.1 ∙ ap (every_below (shape_at (codes_in c.args.s.now c.args.base) (lengths_in c.args.s.now c.args.base))) e
