use borrow.Author.Rules.{rules}
use native.Mathlib.Omega.{arith}
use mathlib.Core.Path.{refl, sym, ◌∙◌, ap}
use mathlib.Core.List.{List}
use Prim.Native.Nat.{◌+◌, ◌<◌}
use lib.ListN.{length, get_or, drop}
use Rattle.spec.specs.Map.Create.{add_all}
use Rattle.spec.specs.Map.Change.{id_below}
use Rattle.spec.specs.declared.DataNodeId.{DataNodeId}
use Rattle.map_tables.proofs.Defaults.{no_id}
use Rattle.spec_laws.proofs.Map.Rows.{put-most}
use Rattle.map_tables.specs.View.{view_list, view_in_sync}
use Rattle.map_create.proofs.List.{list-row, more_synced, synced_end}
use Rattle.map_create.proofs.listed_synced.Goals as goal

pub loop-j-init : goal.loop-j-init
loop-j-init c =
    (search rules, c.list_size-n.ensures.1, c.list_size-n.ensures.0, search rules, search rules, refl)

pub synced_added-more-requires : goal.synced_added-more-requires
synced_added-more-requires c =
    (c.loop-j.invariant.3, omega (arith, put-most id_below (get_or c.args.list.nodes c.loop-j.j no_id) (view_in_sync c.loop-j.out), c.loop-j.invariant.4, c.loop-j.invariant.1, c.loop-j-test.true))

pub loop-j-preserved : goal.loop-j-preserved
loop-j-preserved c =
    let h : c.loop-j.j < length (view_list c.args.list) = omega (arith, c.loop-j.invariant.2, c.loop-j-test.true) in (
      search rules,
      c.loop-j.invariant.1,
      c.loop-j.invariant.2,
      c.synced_added-more.ensures.1,
      omega (arith, ap length c.synced_added-more.ensures.0, put-most id_below (get_or c.args.list.nodes c.loop-j.j no_id) (view_in_sync c.loop-j.out), c.loop-j.invariant.4),
      c.loop-j.invariant.5 ∙ more_synced (view_in_sync c.loop-j.out) (view_list c.args.list) c.loop-j.j (get_or c.args.list.nodes c.loop-j.j no_id) h (list-row (λ (n : DataNodeId). n.0) c.args.list.nodes c.args.list.count c.loop-j.j no_id h)
          ∙ ap (λ (l : List DataNodeId). add_all l (drop (c.loop-j.j + 1) (view_list c.args.list))) (sym c.synced_added-more.ensures.0),
    )

pub returns : goal.returns
returns c =
    (sym (c.loop-j.invariant.5 ∙ synced_end (view_in_sync c.loop-j.out) (view_list c.args.list) c.loop-j.j (omega (arith, c.loop-j.invariant.2, c.loop-j-test.false))), c.loop-j.invariant.3)
