use borrow.Author.Rules.{rules}
use native.Mathlib.Omega.{arith}
use mathlib.Core.Path.{refl, ◌∙◌, ap}
use mathlib.Core.List.{List, [], ◌∷◌, ◌++◌, map}
use Prim.Native.Nat.{◌<◌}
use lib.ListN.{length, get_or}
use lib.Seq.{take_all}
use Rattle.spec.specs.Map.Create.{replica_of}
use Rattle.spec.specs.declared.DataNodeId.{DataNodeId}
use Rattle.spec.specs.declared.Replica.{Replica}
use Rattle.map_tables.specs.View.{view_list}
use Rattle.map_tables.proofs.Defaults.{no_id}
use Rattle.map_create.proofs.List.{list-row, more-holders}
use Rattle.image_map_put.specs.Rows.{read_as}
use Rattle.image_map_create.proofs.shards.listed_holders.Goals as goal

pub loop-j-init : goal.loop-j-init
loop-j-init c = (search rules, c.list_size-n.ensures.1, c.list_size-n.ensures.0, refl, refl)

pub incarnation_of-incarnation-requires : goal.incarnation_of-incarnation-requires
incarnation_of-incarnation-requires c = c.requires

pub loop-j-preserved : goal.loop-j-preserved
loop-j-preserved c =
    let l = c.loop-j.invariant.2 in let t = c.loop-j-test.true in let h : c.loop-j.j < length (view_list c.args.list) = omega arith in (omega arith, c.loop-j.invariant.1, c.loop-j.invariant.2, omega (arith, c.holder_added-more.ensures.1, c.loop-j.invariant.3), c.holder_added-more.ensures.0 ∙ ap (λ (l : List Replica). l ++ (record { node = get_or c.args.list.nodes c.loop-j.j no_id; incarnation = c.incarnation_of-incarnation.result } ∷ [])) c.loop-j.invariant.4 ∙ more-holders (read_as c.args.map.now).nodes (view_list c.args.list) c.loop-j.j _ _ h (list-row (λ (n : DataNodeId). n.0) c.args.list.nodes c.args.list.count c.loop-j.j no_id h) c.incarnation_of-incarnation.ensures)

pub returns : goal.returns
returns c =
    let l = c.loop-j.invariant.2 in let t = c.loop-j-test.false in (c.loop-j.invariant.4 ∙ ap (map (replica_of (read_as c.args.map.now).nodes)) (take_all c.loop-j.j (view_list c.args.list) (omega arith)), omega (arith, c.loop-j.invariant.0, c.loop-j.invariant.1, c.loop-j.invariant.3))
