use native.Mathlib.Omega.{arith}
use mathlib.Core.Path.{◌≡◌, ◌∙◌, ap}
use Prim.Native.Nat.{ℕ}
use mathlib.Core.List.{List, map}
use lib.ListN.{get_or}
use lib.Seq.{sets}
use Rattle.spec.specs.Node.Wire.{bits_of}
use Rattle.wire_write.proofs.Entries.{entry-put}
use Rattle.log_store.specs.View.{columns}
use Rattle.node_send_entries.proofs.EntryLaws.{upserts, vector, op-length, op_fits_lem, op_domain, entry-bytes}
use Rattle.node_send_entries.proofs.entry.put_entry_at.Goals as goal

pub overflow_add-offset : goal.overflow_add-offset
overflow_add-offset c =
    let r = c.requires.0.room in
    omega (arith, r.count)

pub offset_bounds-epochs-i : goal.offset_bounds-epochs-i
offset_bounds-epochs-i c =
    let r = c.requires.0.room in
    omega (arith, r.count)

pub bounds-epochs-i : goal.bounds-epochs-i
bounds-epochs-i c =
    let r = c.requires.0.room in
    omega (arith, r.count, r.epochs, r.offsets)

pub put8-requires : goal.put8-requires
put8-requires c = omega arith

pub overflow_add-at : goal.overflow_add-at
overflow_add-at c = omega arith

pub offset_bounds-offsets-i : goal.offset_bounds-offsets-i
offset_bounds-offsets-i c =
    let r = c.requires.0.room in
    omega (arith, r.count)

pub bounds-offsets-i : goal.bounds-offsets-i
bounds-offsets-i c =
    let r = c.requires.0.room in
    omega (arith, r.count, r.offsets)

pub put8-requires-2 : goal.put8-requires-2
put8-requires-2 c = omega arith

pub overflow_add-at-2 : goal.overflow_add-at-2
overflow_add-at-2 c = omega arith

pub bounds-codes-i : goal.bounds-codes-i
bounds-codes-i c =
    let r = c.requires.0.room in
    omega (arith, r.count, r.codes)

pub offset_bounds-ids-i : goal.offset_bounds-ids-i
offset_bounds-ids-i c =
    let r = c.requires.0.room in
    omega (arith, r.count)

pub bounds-ids-i : goal.bounds-ids-i
bounds-ids-i c =
    let r = c.requires.0.room in
    omega (arith, r.count, r.ids)

pub put_stored-requires : goal.put_stored-requires
put_stored-requires c =
    let a = c.args in
    let t = columns a.epochs.now a.offsets.now a.ids.now a.codes.now a.lengths.now a.floats.now in
    let s = c.requires.0 in
    let h = c.requires.1 in
    let v : c.components-v.result.now ≡ vector t a.count s a.i h = c.components-v.ensures a.epochs.now a.offsets.now a.ids.now in
    let z = op-length t a.count s a.i h in
    (rw v (omega arith), (rw v (op_fits_lem t a.count s a.i h)), (rw v (op_domain t a.count s a.i h)))

pub returns : goal.returns
returns c =
    let a = c.args in
    let t = columns a.epochs.now a.offsets.now a.ids.now a.codes.now a.lengths.now a.floats.now in
    let s = c.requires.0 in
    let h = c.requires.1 in
    let v : c.components-v.result.now ≡ vector t a.count s a.i h = c.components-v.ensures a.epochs.now a.offsets.now a.ids.now in
    c.put_stored.ensures
    ∙ (rw (c.put8-2.ensures, c.put8.ensures, v) (entry-put a.out.now a.at (get_or a.epochs.now a.i 0) (get_or a.offsets.now a.i 0) (upserts t a.count s a.i h) (get_or a.ids.now a.i 0) (map bits_of (vector t a.count s a.i h))))
    ∙ ap (λ (l : List ℕ). sets a.out.now a.at l) (entry-bytes t a.count s a.i h)
