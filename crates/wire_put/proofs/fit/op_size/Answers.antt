use native.Mathlib.Omega.{arith}
use Rattle.wire_put.proofs.Writes.{upsert_count}
use Rattle.wire_put.proofs.fit.op_size.Goals as goal

pub overflow_mul-result : goal.overflow_mul-result
overflow_mul-result c = omega (arith, upsert_count c.args.upsert c.args.n c.requires c.if-upsert.true)

pub overflow_add-result : goal.overflow_add-result
overflow_add-result c = omega (arith, upsert_count c.args.upsert c.args.n c.requires c.if-upsert.true)
