use native.Mathlib.Omega.{arith}
use borrow.Author.Tests.{le-leb, lt-leb}
use Rattle.image_parts.proofs.bytes.in_use.Goals as goal

pub returns-then-count-limit : goal.returns-then-count-limit
returns-then-count-limit c = (rw (le-leb c.args.count c.args.limit c.if-count-limit.true), omega arith, omega arith)

pub returns-else-count-limit : goal.returns-else-count-limit
returns-else-count-limit c = (rw (lt-leb c.args.count c.args.limit c.if-count-limit.false), omega arith, omega arith)
