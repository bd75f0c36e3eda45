use native.Mathlib.Omega.{arith}
use mathlib.Core.Path.{sym, subst}
use mathlib.Core.Option.{some}
use Rattle.spec.specs.Log.{Log}
use Rattle.spec.specs.Node.Worker.{copy_of}
use Rattle.log_store.specs.View.{columns}
use Rattle.node_send.specs.Requested.{key_named, Requested}
use Rattle.node_send_entries.proofs.EntriesLaws.{from_some}
use Rattle.node_send.proofs.entries.entries_from.Goals as goal

pub overflow_sub-count : goal.overflow_sub-count
overflow_sub-count c = omega (arith, c.place_of-from.ensures)

pub overflow_add-from : goal.overflow_add-from
overflow_add-from c =
    let r = c.requires.0.room in
    omega (arith, r.count, c.place_of-from.ensures, c.up_to-n.ensures)

pub write_copy-requires : goal.write_copy-requires
write_copy-requires c =
    (c.requires.0, omega arith, omega (arith, c.place_of-from.ensures, c.up_to-n.ensures), omega (arith, c.up_to-n.ensures), c.requires.2)

pub returns : goal.returns
returns c =
    let a = c.args in
    let t = columns a.epochs.now a.offsets.now a.ids.now a.codes.now a.lengths.now a.floats.now in
    subst (λ (es : Log). Requested (some (copy_of (key_named a.name.now a.shard) a.epoch.0 es)) a.out.now c.write_copy.new.out c.write_copy.result)
    (sym (from_some t a.count a.first.0 a.limit c.place_of-from.result c.up_to-n.result c.place_of-from.ensures c.up_to-n.ensures)) c.write_copy.ensures
