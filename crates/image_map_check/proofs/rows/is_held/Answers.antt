use native.Mathlib.Omega.{arith}
use mathlib.Core.Path.{refl, sym, ◌∙◌}
use borrow.Author.Tests.{eq-eqb, ne_eqb}
use Rattle.spec.specs.Map.Change.{holds, is_on}
use Rattle.image_parts.specs.Parts.{replicas_at, no_replica}
use Rattle.map_tables.proofs.Tables.{any-on, any_stop, any-end}
use Rattle.image_map_check.proofs.RowLaws.{replicas_long, replica-row}
use Rattle.image_map_check.proofs.rows.is_held.Goals as goal

pub loop-i-init : goal.loop-i-init
loop-i-init c = (omega arith, refl)

pub returns-then-get8-id : goal.returns-then-get8-id
unfolding holds
returns-then-get8-id c =
    let s = c.args.s.now in let at = c.args.at in let k = c.requires.1 in let g = replicas_long s at in let lt = c.loop-i-test.true in let r = replica-row s at c.loop-i.i no_replica (omega arith) in let e = c.get8.ensures in let t = c.if-get8-id.true in
    sym (any_stop (is_on c.args.id) (replicas_at s at) c.args.count (omega arith) c.loop-i.i c.loop-i.invariant.1 no_replica lt (eq-eqb _ _ (r ∙ sym e ∙ t)))

pub loop-i-preserved : goal.loop-i-preserved
loop-i-preserved c =
    let s = c.args.s.now in let at = c.args.at in let k = c.requires.1 in let g = replicas_long s at in let lt = c.loop-i-test.true in let r = replica-row s at c.loop-i.i no_replica (omega arith) in let e = c.get8.ensures in let t = c.if-get8-id.false in
    (omega arith, any-on (is_on c.args.id) (replicas_at s at) c.args.count (omega arith) c.loop-i.i c.loop-i.invariant.1 no_replica lt (ne_eqb _ _ (λ q. t (e ∙ sym r ∙ q))))

pub returns : goal.returns
unfolding holds
returns c =
    let s = c.args.s.now in let at = c.args.at in let k = c.requires.1 in let g = replicas_long s at in
    sym (any-end (is_on c.args.id) (replicas_at s at) c.args.count (omega arith) c.loop-i.i c.loop-i.invariant.1 c.loop-i-test.false)
