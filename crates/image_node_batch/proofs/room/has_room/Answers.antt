use Rattle.image_node_batch.proofs.RoomLaws.{room-free, room-grown}
use Rattle.image_node_batch.proofs.room.has_room.Goals as goal

pub returns-then-count-p-le-ENTRIES : goal.returns-then-count-p-le-ENTRIES
returns-then-count-p-le-ENTRIES c = room-free c.args.s.now c.args.p c.args.count c.if-count-p-le-ENTRIES.true

pub returns : goal.returns
returns c = room-grown _ _ c.grows_to.result c.grows_to.ensures
