use native.Mathlib.Omega.{arith}
use mathlib.Core.Path.{◌∙◌}
use Prim.Native.Nat.{◌-◌}
use Rattle.spec.specs.Node.Worker.{copy_of}
use Rattle.log_store.specs.View.{columns}
use Rattle.node_send.specs.Requested.{key_named}
use Rattle.node_send.specs.Sent.{entries_at}
use Rattle.node_send.proofs.Answer.{short, wrote}
use Rattle.node_send_entries.proofs.EntriesLaws.{copy_put, copy_length}
use Rattle.node_send.proofs.entries.write_copy.Goals as goal

pub entries_size-size-requires : goal.entries_size-size-requires
entries_size-size-requires c =
    let r = c.requires.0.room in
    (c.requires.1, omega (arith, r.count), omega (arith, r.count, r.codes), omega (arith, r.count, r.lengths))

pub overflow_add-size : goal.overflow_add-size
overflow_add-size c = omega (arith, c.entries_size-size.ensures.1)

pub returns-then-out-size : goal.returns-then-out-size
returns-then-out-size c =
    let a = c.args in
    let t = columns a.epochs.now a.offsets.now a.ids.now a.codes.now a.lengths.now a.floats.now in
    let m = copy_of (key_named a.name.now a.shard) a.epoch.0 (entries_at t (a.end - a.from) a.from) in
    let w = copy_length t a.count c.requires.0 a.name.now a.shard a.epoch.0 (a.end - a.from) a.from c.requires.4 (omega arith) in
    let z = c.entries_size-size.ensures.0 in
    short m a.out.now (omega arith)

pub overflow_sub-n : goal.overflow_sub-n
overflow_sub-n c = omega arith

pub put_head-requires : goal.put_head-requires
put_head-requires c = (omega arith, c.requires.4)

pub overflow_cast-n : goal.overflow_cast-n
overflow_cast-n c = omega arith

pub put2-requires : goal.put2-requires
put2-requires c = omega arith

pub put_entries-requires : goal.put_entries-requires
put_entries-requires c = (c.requires.0, c.requires.1, c.requires.2, omega (arith, c.entries_size-size.ensures.0))

pub returns : goal.returns
returns c =
    let a = c.args in
    let t = columns a.epochs.now a.offsets.now a.ids.now a.codes.now a.lengths.now a.floats.now in
    let m = copy_of (key_named a.name.now a.shard) a.epoch.0 (entries_at t (a.end - a.from) a.from) in
    let w = copy_length t a.count c.requires.0 a.name.now a.shard a.epoch.0 (a.end - a.from) a.from c.requires.4 (omega arith) in
    let z = c.entries_size-size.ensures.0 in
    wrote m a.out.now _ _ (omega arith) (omega arith)
    (c.put_entries.ensures
    ∙ (rw (c.put2.ensures, c.put_head.ensures) (copy_put t a.count c.requires.0 a.name.now a.shard a.epoch.0 (a.end - a.from) a.from c.requires.4 a.out.now)))
