use borrow.Author.Rules.{rules}
use native.Mathlib.Omega.{arith}
use mathlib.Core.Path.{◌≡◌, sym, ◌∙◌, ap}
use lib.ListN.{length}
use Rattle.spec.specs.Map.Change.{decide_change}
use Rattle.spec_laws.proofs.Map.Shards.{promote-taken}
use Rattle.map_tables.specs.View.{view_shard, change_of}
use Rattle.map_tables.specs.declared.Change.{Change}
use Rattle.map_shard.proofs.Change.{add_room, expand_room}
use Rattle.map_tables.proofs.Tables.{of_field}
use lib.Seq.{length-take-le}
use Rattle.map_shard.proofs.of_shard.changed_row.Goals as goal

pub with_holder-requires : goal.with_holder-requires
with_holder-requires c =
    let h : length c.args.s.replicas.items ≡ 8 = search (rules, of_field) in
    omega (arith, add_room (view_shard c.args.s) _ _ (sym (ap (λ (q : Change). decide_change (view_shard c.args.s) (change_of q)) c.in-Add.is) ∙ c.requires.taken), length-take-le c.args.s.replicas.count c.args.s.replicas.items (omega (arith, h, c.requires.sized.held)))

pub with_primary-requires : goal.with_primary-requires
with_primary-requires c =
    (c.requires.sized, (promote-taken (view_shard c.args.s) _ (sym (ap (λ (q : Change). decide_change (view_shard c.args.s) (change_of q)) c.in-Promote.is) ∙ c.requires.taken)).1)

pub with_synced-requires : goal.with_synced-requires
with_synced-requires c =
    (c.requires.sized, expand_room (view_shard c.args.s) _ c.requires.fits (sym (ap (λ (q : Change). decide_change (view_shard c.args.s) (change_of q)) c.in-Expand.is) ∙ c.requires.taken))
