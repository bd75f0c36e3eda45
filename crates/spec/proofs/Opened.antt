-- Every definition of the specification, opened at once: what a test that the checker computes says `unfolding` of. Assumes nothing.
use Rattle.spec.specs.Lists as lists
use Rattle.spec.specs.Keys as keys
use Rattle.spec.specs.Nearest.Root as nearest-root
use Rattle.spec.specs.Nearest.Order as nearest-order
use Rattle.spec.specs.Nearest.Distance as nearest-distance
use Rattle.spec.specs.Nearest.Search as nearest-search
use Rattle.spec.specs.Log as log
use Rattle.spec.specs.Map.Change as map-change
use Rattle.spec.specs.Map.Create as map-create
use Rattle.spec.specs.Map.Apply as Map-apply
use Rattle.spec.specs.Map.Place as map-place
use Rattle.spec.specs.Map.WellFormed as map-wellformed
use Rattle.spec.specs.Map.Calls as map-calls
use Rattle.spec.specs.Node.Shards as node-shards
use Rattle.spec.specs.Node.Lease as node-lease
use Rattle.spec.specs.Node.Client as node-client
use Rattle.spec.specs.Node.Backup as node-backup
use Rattle.spec.specs.Node.Wire as node-wire
use Rattle.spec.specs.Node.Worker as node-worker
use Rattle.spec.specs.Node.Ack as node-ack
use Rattle.spec.specs.Node.Shown as node-shown
use Rattle.spec.specs.Node.Refused as node-refused
use Rattle.spec.specs.Node.WellFormed as node-wellformed
use Rattle.spec.specs.Node.Calls as node-calls
use Rattle.spec.specs.Layout.Format as layout-format
use Rattle.spec.specs.Layout.Request as layout-request
use Rattle.spec.specs.Layout.Message as layout-message
use Rattle.spec.specs.Layout.ShardOf as layout-shardof
use Rattle.spec.specs.Starred as starred
use Rattle.spec.specs.NearMisses as nearmisses
use mathlib.Core.List.{flatten}
use Prim.Native.Nat.{ℕ}

unfoldable pub opened : ℕ
unfolding flatten lists.◌and◌ lists.◌or◌ lists.nth lists.every lists.any lists.find lists.filter lists.collect lists.change lists.lead lists.rising lists.put keys.name_below keys.same_name keys.key_below keys.same_key nearest-root.root_by nearest-root.root nearest-root.root_units nearest-root.sqrt nearest-order.in_domain nearest-order.bits_in_domain nearest-order.before nearest-order.total nearest-order.class nearest-order.is_in nearest-distance.all_in_domain nearest-distance.vector_in_domain nearest-distance.sum_from nearest-distance.distance nearest-distance.distance_bits nearest-search.neighbor nearest-search.nearer nearest-search.insert nearest-search.ordered nearest-search.hits log.entry_at log.apply_op log.play_from log.play log.lookup log.push log.append log.store log.store_all log.with_end log.epoch_ends log.epoch_at log.agrees log.keep log.cut_to log.adopted log.promote log.entries_from map-change.holds map-change.in_sync map-change.without map-change.decide_change map-change.deposed map-change.changed map-create.node_at map-create.has_collection map-create.zero_in map-create.matches map-create.first_not_alive map-create.add_all map-create.new_shard map-create.with_shards map-create.created_shards map-create.created_collections map-create.create_room map-create.create_on map-create.create_answer Map-apply.update Map-apply.shard_at Map-apply.session_at Map-apply.register_answer Map-apply.dead_answer Map-apply.change_answer Map-apply.decide Map-apply.change_shard Map-apply.commit Map-apply.remembered Map-apply.settle Map-apply.apply_to Map-apply.apply map-place.on_node map-place.replicas_of map-place.loads_of map-place.lighter map-place.lightest_from map-place.lightest map-place.chosen_of map-place.choose_node map-place.choose_nodes map-place.place_shards map-place.place_on map-place.place map-place.replace_in map-place.replacement map-wellformed.shard_fits map-wellformed.table_fits map-wellformed.well_formed_map map-wellformed.command_fits map-calls.apply_call map-calls.apply_decoded map-calls.apply_bytes map-calls.place_call map-calls.replacement_call map-calls.requests_from map-calls.requests_in map-calls.lines_for map-calls.apply_stream node-shards.held_shard node-shards.at_shard node-lease.raised node-lease.grant node-lease.leased node-client.ack_count node-client.write_held node-client.on_write node-client.search_held node-client.on_search node-client.wait_row node-client.wait_held node-client.on_wait node-backup.replicate_held node-backup.on_replicate node-backup.new_epoch_held node-backup.on_new_epoch node-backup.copy_held node-backup.on_copy node-wire.floats_of node-wire.patterns_in_domain node-wire.stored_op node-wire.wire_op node-worker.step_row node-worker.step_held node-worker.on_step node-worker.message_bytes node-worker.alignment node-worker.sending node-worker.request_held node-worker.on_request node-ack.bad_reply node-ack.deed_of node-ack.acked_through node-ack.joins node-ack.ack_row node-ack.unaligned node-ack.do_deed node-ack.ack_held node-ack.on_ack node-ack.settled_row node-ack.outcome_held node-ack.on_outcome node-shown.with_row node-shown.with_rows node-shown.retained node-shown.starts node-shown.promoted_to node-shown.kept_as node-shown.show_held node-shown.show_listed node-shown.show_shard node-shown.showings node-shown.all_starts node-shown.take_map node-shown.on_map node-refused.counted node-refused.count_write node-refused.count_search node-wellformed.well_formed_held node-wellformed.well_formed_header node-wellformed.numbered_from node-wellformed.well_formed_vector node-wellformed.same_floats node-wellformed.same_vectors node-wellformed.well_formed_log node-wellformed.well_formed_lent node-wellformed.well_formed_node node-calls.decode_key node-calls.write_with node-calls.call_write node-calls.search_with node-calls.call_search node-calls.replicate_with node-calls.call_replicate node-calls.new_epoch_with node-calls.call_new_epoch node-calls.copy_with node-calls.call_copy node-calls.grant_with node-calls.call_grant node-calls.wait_with node-calls.call_wait node-calls.step_with node-calls.call_step node-calls.request_of node-calls.request_with node-calls.call_request node-calls.ack_with node-calls.call_ack node-calls.outcome_with node-calls.call_outcome node-calls.shown_with node-calls.call_shown layout-format.whole layout-request.encode_request layout-request.decode_request layout-request.request_at layout-message.encode_replicate layout-message.decode_replicate layout-message.encode_new_epoch layout-message.decode_new_epoch layout-message.encode_copy_shard layout-message.decode_copy_shard layout-message.encode_write layout-message.decode_write layout-message.encode_search layout-message.decode_search layout-message.encode_reply layout-message.decode_reply layout-shardof.mixed layout-shardof.shard_of starred.entries_of starred.backup_at starred.numbered starred.row_holds starred.starred nearmisses.higher_epoch_waits nearmisses.primary_of_one nearmisses.ack_as_said nearmisses.after nearmisses.rejection_stays nearmisses.lower_id_first nearmisses.removed_leaves nearmisses.near_misses
opened = 0
