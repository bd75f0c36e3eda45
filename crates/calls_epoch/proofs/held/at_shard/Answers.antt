use native.Mathlib.Omega.{arith}
use mathlib.Core.Path.{subst}
use Rattle.map_tables.specs.Names.{view_key}
use Rattle.image_node_check.specs.Find.{FindsIn}
use Rattle.calls_epoch.proofs.NewEpoch.{malformed}
use Rattle.calls_epoch.proofs.held.at_shard.Goals as goal

pub begin_at-requires : goal.begin_at-requires
begin_at-requires c =
    (subst (FindsIn c.args.header.now c.args.stores.now (view_key c.args.key)) c.in-Absent.is c.find-found.ensures, c.requires)

pub new_epoch_at-requires : goal.new_epoch_at-requires
new_epoch_at-requires c =
    (subst (FindsIn c.args.header.now c.args.stores.now (view_key c.args.key)) c.in-At.is c.find-found.ensures, c.requires)

pub returns-in-Malformed : goal.returns-in-Malformed
returns-in-Malformed c =
    malformed c.args.header.now c.args.stores.now c.args.reply.now c.args.message.now (view_key c.args.key) (λ i. omega (arith, c.slice_known-2-1.given i)) c.args.p c.requires (subst (FindsIn c.args.header.now c.args.stores.now (view_key c.args.key)) c.in-Malformed.is c.find-found.ensures)

pub returns-in-Absent : goal.returns-in-Absent
returns-in-Absent c = c.begin_at.ensures

pub returns-in-At : goal.returns-in-At
returns-in-At c = c.new_epoch_at.ensures
