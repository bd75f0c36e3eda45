-- A held shard with what a map sets of it. Definitions only.
use Rattle.std.specs.Prelude.{Bool}
use Rattle.spec.specs.declared.Epoch.{Epoch}
use Rattle.spec.specs.declared.Role.TheVariants.{Primary}
use Rattle.map_tables.specs.declared.Holders.{Holders}
use Rattle.node_header.specs.declared.HeldRow.{HeldRow}
use Rattle.node_header.specs.View.{kept_as}

-- the replicas that the map lists
abbrev pub holders_set : HeldRow → Holders → HeldRow
holders_set x l = kept_as x (record {
  epoch = x.held.epoch;
  metric = x.held.metric;
  last = x.held.last;
  role = x.held.role;
  own = x.held.own;
  replicas = l.items;
  holders = l.count;
  peers = x.held.peers;
  count = x.held.count;
})

-- a new record: the primary of an epoch, which begins at the end of the log
abbrev pub record_set : HeldRow → Epoch → (own : Bool) → HeldRow
record_set x e own = kept_as x (record {
  epoch = e;
  metric = x.held.metric;
  last = x.held.last;
  role = Primary e (record { 0 = x.held.last });
  own = own;
  replicas = x.held.replicas;
  holders = x.held.holders;
  peers = x.held.peers;
  count = x.held.count;
})
