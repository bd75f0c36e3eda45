use borrow.Author.Rules.{rules}
use native.Mathlib.Omega.{arith}
use mathlib.Core.Path.{◌≡◌, refl}
use lib.ListN.{length}
use Rattle.spec.specs.declared.DataNodeId.{DataNodeId}
use Rattle.map_tables.proofs.Tables.{of_field}
use Rattle.map_place.proofs.Collecting.{map_add}
use Rattle.map_place.proofs.lists.listed.Goals as goal
use Rattle.map_place.proofs.lists.listed.Goals.{Start}

long : (c : Start) → length c.args.l.nodes ≡ 8
long c = search (rules, of_field)

pub returns : goal.returns
returns c =
    (map_add (λ (d : DataNodeId). d.0) c.args.l.nodes c.args.l.count c.args.node (omega (arith, long (goal.at.returns c).Start, c.requires)), refl)
