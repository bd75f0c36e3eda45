use borrow.Author.Rules.{rules}
use native.Mathlib.Omega.{arith}
use mathlib.Core.Path.{◌≡◌, refl, ap}
use lib.ListN.{length}
use mathlib.Core.Bool.{not}
use borrow.Author.Tests.{eq-eqb, ne_eqb}
use Rattle.spec.specs.Lists.{filter}
use Rattle.spec.specs.Map.Change.{is_on}
use Rattle.map_tables.proofs.Tables.{keep_row, skip-row, of_field}
use Rattle.map_tables.proofs.holders_of.holder_removed.Goals as goal
use Rattle.map_tables.proofs.holders_of.holder_removed.Goals.{Start, then-row-node, else-row-node}

long : (c : Start) → length c.args.h.items ≡ 8
long c = search (rules, of_field)

pub loop-i-init : goal.loop-i-init
unfolding filter
loop-i-init c = (search rules, search rules, long (goal.at.loop-i-init c).Start, refl)

pub loop-i-preserved : goal.loop-i-preserved
loop-i-preserved c =
    elim c.if-row-node.branch [
      | then-row-node w ↦ (search rules, search rules, search rules, rw (w.n-is, w.out-is) (keep_row (λ r. not (is_on c.args.node.0 r)) c.args.h.items c.loop-i.out c.loop-i.n c.loop-i.i _ (omega (arith, long (goal.at.loop-i-preserved c).Start, c.requires)) c.loop-i.invariant.3 (omega (arith, c.requires)) (ap not (ne_eqb _ _ w.if-row-node.true))))
      | else-row-node w ↦ (search rules, search rules, search rules, rw (w.n-is, w.out-is) (skip-row (λ r. not (is_on c.args.node.0 r)) c.args.h.items c.loop-i.out c.loop-i.n c.loop-i.i _ (omega (arith, long (goal.at.loop-i-preserved c).Start, c.requires)) c.loop-i.invariant.3 (ap not (eq-eqb _ _ w.if-row-node.false))))
    ]
