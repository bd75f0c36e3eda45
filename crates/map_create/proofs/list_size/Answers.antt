use borrow.Author.Rules.{rules}
use native.Mathlib.Omega.{arith}
use mathlib.Core.Path.{◌≡◌, sym, ◌∙◌}
use lib.ListN.{length}
use Rattle.spec.specs.declared.DataNodeId.{DataNodeId}
use Rattle.map_create.proofs.List.{list-short, list_long}
use Rattle.map_tables.proofs.Tables.{of_field}
use Rattle.map_create.proofs.list_size.Goals as goal

pub returns-then-l-lt8 : goal.returns-then-l-lt8
returns-then-l-lt8 c =
    let h : length c.args.l.nodes ≡ 8 = search (rules, of_field) in
    (list-short (λ (n : DataNodeId). n.0) c.args.l.nodes c.args.l.count (omega (arith, c.if-l-lt8.true)), search rules)

pub returns-else-l-lt8 : goal.returns-else-l-lt8
returns-else-l-lt8 c =
    let h : length c.args.l.nodes ≡ 8 = search (rules, of_field) in
    (sym h ∙ list_long (λ (n : DataNodeId). n.0) c.args.l.nodes c.args.l.count (omega (arith, c.if-l-lt8.false)), search rules)
