use borrow.Author.Rules.{rules}
use native.Mathlib.Omega.{arith}
use mathlib.Core.Path.{◌≡◌, sym, ◌∙◌}
use Prim.Native.Nat.{◌≤◌}
use lib.ListN.{length, take}
use Rattle.spec.specs.Map.Change.{decide_change}
use borrow.Author.Tests.{le-leb, lt-leb}
use lib.Seq.{length-take-le}
use Rattle.map_tables.proofs.Tables.{of_field}
use Rattle.map_shard.proofs.row_change.add_answer.Goals as goal
use Rattle.map_shard.proofs.row_change.add_answer.Goals.{Start}

fits : (c : Start) → c.args.s.replicas.count ≤ length c.args.s.replicas.items
fits c = let h : length c.args.s.replicas.items ≡ 8 = search (rules, of_field) in omega (arith, c.requires.held)

pub returns-then-has_holder : goal.returns-then-has_holder
unfolding decide_change
returns-then-has_holder c = rw (sym c.has_holder.ensures ∙ c.if-has_holder.true) c.rejected.ensures

pub returns-then-count-ge8 : goal.returns-then-count-ge8
unfolding decide_change
returns-then-count-ge8 c =
    let n : length (take c.args.s.replicas.count c.args.s.replicas.items) ≡ c.args.s.replicas.count = length-take-le _ _ (fits (goal.at.returns-then-count-ge8 c).Start) in
    rw (sym c.has_holder.ensures ∙ c.if-has_holder.false, n, le-leb 8 c.args.s.replicas.count c.if-count-ge8.true) c.refused.ensures

pub returns : goal.returns
unfolding decide_change
returns c =
    let n : length (take c.args.s.replicas.count c.args.s.replicas.items) ≡ c.args.s.replicas.count = length-take-le _ _ (fits (goal.at.returns c).Start) in
    rw (sym c.has_holder.ensures ∙ c.if-has_holder.false, n, lt-leb 8 c.args.s.replicas.count c.if-count-ge8.false) c.applied.ensures
