use Rattle.std.proofs.Common.{arith}
use Rattle.wire_read.proofs.Places.{key-room, key-is}
use Rattle.wire_read.proofs.parts.key_at.Goals as goal

pub text_at-name-requires : goal.text_at-name-requires
text_at-name-requires c = omega (arith, key-room c.args.s.now c.args.at c.requires)

pub overflow_add-at-2 : goal.overflow_add-at-2
overflow_add-at-2 c = omega (arith, key-room c.args.s.now c.args.at c.requires)

pub get4-shard-requires : goal.get4-shard-requires
get4-shard-requires c = omega (arith, key-room c.args.s.now c.args.at c.requires)

pub returns : goal.returns
returns c = (rw (c.text_at-name.ensures, c.get4-shard.ensures) (key-is c.args.s.now c.args.at c.requires))
