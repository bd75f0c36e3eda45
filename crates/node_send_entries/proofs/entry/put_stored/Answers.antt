use native.Mathlib.Omega.{arith}
use mathlib.Core.Path.{◌≡◌, sym, ◌∙◌}
use Prim.Native.Nat.{◌+◌, ◌*◌}
use mathlib.Core.List.{map}
use lib.ListN.{length, length-map}
use Rattle.spec.specs.Node.Wire.{bits_of}
use Rattle.wire_write.specs.Written.{op_size}
use Rattle.wire_write.proofs.Writes.{upsert_put, delete_put, upsert_count}
use Rattle.node_send_entries.proofs.entry.put_stored.Goals as goal

pub put_byte-requires : goal.put_byte-requires
put_byte-requires c =
    let z : op_size c.args.upsert (length c.args.v.now) ≡ 10 + 4 * length c.args.v.now = rw c.if-upsert.true in
    omega arith

pub put8-requires : goal.put8-requires
put8-requires c =
    let z : op_size c.args.upsert (length c.args.v.now) ≡ 10 + 4 * length c.args.v.now = rw c.if-upsert.true in
    omega arith

pub overflow_cast-n : goal.overflow_cast-n
overflow_cast-n c =
    let k = upsert_count c.args.upsert (length c.args.v.now) c.requires.1 c.if-upsert.true in
    omega arith

pub put_byte-requires-then-upsert : goal.put_byte-requires-then-upsert
put_byte-requires-then-upsert c =
    let z : op_size c.args.upsert (length c.args.v.now) ≡ 10 + 4 * length c.args.v.now = rw c.if-upsert.true in
    omega arith

pub put_floats-requires : goal.put_floats-requires
put_floats-requires c =
    let z : op_size c.args.upsert (length c.args.v.now) ≡ 10 + 4 * length c.args.v.now = rw c.if-upsert.true in
    let k = upsert_count c.args.upsert (length c.args.v.now) c.requires.1 c.if-upsert.true in
    (omega arith, omega arith, c.requires.2)

pub put_byte-requires-else-upsert : goal.put_byte-requires-else-upsert
put_byte-requires-else-upsert c =
    let z : op_size c.args.upsert (length c.args.v.now) ≡ 9 = rw c.if-upsert.false in
    omega arith

pub put8-requires-else-upsert : goal.put8-requires-else-upsert
put8-requires-else-upsert c =
    let z : op_size c.args.upsert (length c.args.v.now) ≡ 9 = rw c.if-upsert.false in
    omega arith

pub returns-then-upsert : goal.returns-then-upsert
returns-then-upsert c =
    let a = c.args in
    let w = map bits_of a.v.now in
    let n : length a.v.now ≡ length w = sym (length-map a.v.now bits_of) in
    let k = upsert_count c.args.upsert (length c.args.v.now) c.requires.1 c.if-upsert.true in
    c.put_floats.ensures
    ∙ (rw (c.put_byte-then-upsert.ensures, c.put8.ensures, c.put_byte.ensures, c.if-upsert.true, n) (upsert_put a.out.now a.at a.id w (omega arith)))

pub returns-else-upsert : goal.returns-else-upsert
returns-else-upsert c =
    let a = c.args in
    c.put8-else-upsert.ensures ∙ (rw (c.put_byte-else-upsert.ensures, c.if-upsert.false) (delete_put a.out.now a.at a.id (map bits_of a.v.now)))
