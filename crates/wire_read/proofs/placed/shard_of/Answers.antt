use Rattle.std.proofs.Common.{ℕ, ◌%◌, ap, ◌∙◌}
use Rattle.wire_read.proofs.ShardOf.{none-placed, some_placed, mixed-is}
use Rattle.wire_read.proofs.placed.shard_of.Goals as goal

pub returns-then-shards-eq0 : goal.returns-then-shards-eq0
returns-then-shards-eq0 c = none-placed c.args.id c.args.shards c.if-shards-eq0.true

pub returns : goal.returns
returns c =
    ap (λ (x : ℕ). x % c.args.shards)
    (mixed-is c.args.id c.wrapping_add_u64-a.result c.wrapping_mul-b.result c.wrapping_mul-c.result c.wrapping_add_u64-a.ensures.value c.wrapping_mul-b.ensures c.wrapping_mul-c.ensures)
    ∙ some_placed c.args.id c.args.shards c.if-shards-eq0.false
