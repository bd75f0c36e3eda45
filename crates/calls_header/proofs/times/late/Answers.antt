use borrow.Author.Tests.{lt-ltb, le-ltb}
use Rattle.calls_header.proofs.Asked.{late-first, late-second}
use Rattle.calls_header.proofs.times.late.Goals as goal

pub returns-then-a-gt-LAST_TIME : goal.returns-then-a-gt-LAST_TIME
returns-then-a-gt-LAST_TIME c = late-first c.args.a c.args.b (lt-ltb _ _ c.if-a-gt-LAST_TIME.true)

pub returns : goal.returns
returns c = late-second c.args.a c.args.b (le-ltb _ _ c.if-a-gt-LAST_TIME.false)
