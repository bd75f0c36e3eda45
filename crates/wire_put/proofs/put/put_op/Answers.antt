use mathlib.Core.Path.{◌∙◌}
use native.Mathlib.Omega.{arith}
use lib.ListN.{length}
use Rattle.wire_put.proofs.Writes.{upsert_put, upsert_size, upsert_count}
use Rattle.wire_put.proofs.put.put_op.Goals as goal

pub overflow_cast-n : goal.overflow_cast-n
overflow_cast-n c = omega (arith, upsert_count c.args.upsert (length c.args.bits.now) c.requires.1 c.if-upsert.true)

pub put_words4-requires : goal.put_words4-requires
put_words4-requires c =
    (omega (arith, upsert_size c.args.upsert c.args.id c.args.bits.now c.if-upsert.true), omega (arith, upsert_count c.args.upsert (length c.args.bits.now) c.requires.1 c.if-upsert.true))

pub returns-then-upsert : goal.returns-then-upsert
returns-then-upsert c =
    c.put_words4.ensures
    ∙ (rw (c.put_byte-then-upsert.ensures, c.put8.ensures, c.put_byte.ensures, c.if-upsert.true) (upsert_put c.args.out.now c.args.at c.args.id c.args.bits.now (upsert_count c.args.upsert (length c.args.bits.now) c.requires.1 c.if-upsert.true)))
