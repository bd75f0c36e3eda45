use native.Mathlib.Omega.{arith}
use mathlib.Core.Path.{sym, ◌∙◌}
use Rattle.image_map.specs.Image.{map_at}
use Rattle.map_tables.specs.Names.{view_name}
use Rattle.map_tables.specs.View.{view_map, view_spec}
use Rattle.image_map_count.specs.Read.{view_ids}
use Rattle.image_map_count.proofs.SixLaws.{six_taken, six_zero, six_few, six_room, six_full, given-asks, alive-asks, fit-most, live-most}
use Rattle.image_map_count.proofs.six.six_of.Goals as goal

pub is_taken-requires : goal.is_taken-requires
is_taken-requires c = c.requires.formed

pub returns-then-is_taken : goal.returns-then-is_taken
returns-then-is_taken c =
    c.six.ensures ∙ six_taken (view_map (map_at c.args.map.now)) (view_name c.args.name) (view_spec c.args.spec) (view_ids c.args.ids) c.args.lists c.args.nodes c.args.total c.requires.whole (sym c.is_taken.ensures ∙ c.if-is_taken.true)

pub returns-then-zero_in : goal.returns-then-zero_in
returns-then-zero_in c =
    c.six-then-zero_in.ensures ∙ six_zero (view_map (map_at c.args.map.now)) (view_name c.args.name) (view_spec c.args.spec) (view_ids c.args.ids) c.args.lists c.args.nodes c.args.total c.requires.whole (sym c.is_taken.ensures ∙ c.if-is_taken.false) (sym c.zero_in.ensures ∙ c.if-zero_in.true)

pub returns-then-lists-shards : goal.returns-then-lists-shards
returns-then-lists-shards c =
    c.six-then-lists-shards.ensures ∙ six_few (view_map (map_at c.args.map.now)) (view_name c.args.name) (view_spec c.args.spec) (view_ids c.args.ids) c.args.lists c.args.nodes c.args.total c.requires.whole (sym c.is_taken.ensures ∙ c.if-is_taken.false) (sym c.zero_in.ensures ∙ c.if-zero_in.false) c.if-lists-shards.true

pub alive_among-alive-requires : goal.alive_among-alive-requires
alive_among-alive-requires c = (c.requires.formed, c.requires.few)

pub fitting-fit-requires : goal.fitting-fit-requires
fitting-fit-requires c =
    given-asks (view_map (map_at c.args.map.now)).nodes (view_ids c.args.ids) c.args.spec.shards c.args.spec.replication c.args.lists c.args.nodes c.args.total c.args.ids.count c.alive_among-alive.result c.requires.whole c.requires.fits c.requires.few c.requires.held c.requires.sized c.alive_among-alive.ensures c.if-lists-shards.false

pub fitting-live-requires : goal.fitting-live-requires
fitting-live-requires c =
    alive-asks (view_map (map_at c.args.map.now)).nodes (view_ids c.args.ids) c.args.spec.shards c.args.spec.replication c.args.lists c.args.nodes c.args.total c.args.ids.count c.alive_among-alive.result c.requires.whole c.requires.fits c.requires.few c.requires.held c.requires.sized c.alive_among-alive.ensures c.if-lists-shards.false

pub room_for-requires : goal.room_for-requires
room_for-requires c = (c.requires.formed, omega (arith, c.if-lists-shards.false, c.requires.listed))

pub overflow_sub-total : goal.overflow_sub-total
overflow_sub-total c =
    fit-most (view_map (map_at c.args.map.now)).nodes (view_ids c.args.ids) c.args.spec.shards c.args.spec.replication c.args.lists c.args.nodes c.args.total c.args.ids.count c.alive_among-alive.result c.requires.whole c.requires.fits c.requires.few c.requires.held c.requires.sized c.alive_among-alive.ensures c.if-lists-shards.false c.fitting-fit.result c.fitting-live.result c.fitting-fit.ensures c.fitting-live.ensures

pub overflow_sub-fit : goal.overflow_sub-fit
overflow_sub-fit c =
    live-most (view_map (map_at c.args.map.now)).nodes (view_ids c.args.ids) c.args.spec.shards c.args.spec.replication c.args.lists c.args.nodes c.args.total c.args.ids.count c.alive_among-alive.result c.requires.whole c.requires.fits c.requires.few c.requires.held c.requires.sized c.alive_among-alive.ensures c.if-lists-shards.false c.fitting-fit.result c.fitting-live.result c.fitting-fit.ensures c.fitting-live.ensures

pub returns-then-room_for : goal.returns-then-room_for
returns-then-room_for c =
    c.six-then-room_for.ensures ∙ six_room (view_map (map_at c.args.map.now)) (view_name c.args.name) (view_spec c.args.spec) (view_ids c.args.ids) c.args.lists c.args.nodes c.args.total c.requires.whole (sym c.is_taken.ensures ∙ c.if-is_taken.false) (sym c.zero_in.ensures ∙ c.if-zero_in.false) c.args.ids.count c.alive_among-alive.result c.fitting-fit.result c.fitting-live.result c.requires.sized c.alive_among-alive.ensures c.fitting-fit.ensures c.fitting-live.ensures (sym c.room_for.ensures ∙ c.if-room_for.true)

pub overflow_sub-total-2 : goal.overflow_sub-total-2
overflow_sub-total-2 c =
    fit-most (view_map (map_at c.args.map.now)).nodes (view_ids c.args.ids) c.args.spec.shards c.args.spec.replication c.args.lists c.args.nodes c.args.total c.args.ids.count c.alive_among-alive.result c.requires.whole c.requires.fits c.requires.few c.requires.held c.requires.sized c.alive_among-alive.ensures c.if-lists-shards.false c.fitting-fit.result c.fitting-live.result c.fitting-fit.ensures c.fitting-live.ensures

pub overflow_sub-fit-2 : goal.overflow_sub-fit-2
overflow_sub-fit-2 c =
    live-most (view_map (map_at c.args.map.now)).nodes (view_ids c.args.ids) c.args.spec.shards c.args.spec.replication c.args.lists c.args.nodes c.args.total c.args.ids.count c.alive_among-alive.result c.requires.whole c.requires.fits c.requires.few c.requires.held c.requires.sized c.alive_among-alive.ensures c.if-lists-shards.false c.fitting-fit.result c.fitting-live.result c.fitting-fit.ensures c.fitting-live.ensures

pub returns : goal.returns
returns c =
    c.six-2.ensures ∙ six_full (view_map (map_at c.args.map.now)) (view_name c.args.name) (view_spec c.args.spec) (view_ids c.args.ids) c.args.lists c.args.nodes c.args.total c.requires.whole (sym c.is_taken.ensures ∙ c.if-is_taken.false) (sym c.zero_in.ensures ∙ c.if-zero_in.false) c.args.ids.count c.alive_among-alive.result c.fitting-fit.result c.fitting-live.result c.requires.sized c.alive_among-alive.ensures c.fitting-fit.ensures c.fitting-live.ensures (sym c.room_for.ensures ∙ c.if-room_for.false)
