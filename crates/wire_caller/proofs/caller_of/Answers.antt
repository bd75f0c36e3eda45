use Rattle.std.proofs.Common.{ap, not}
use Rattle.wire_caller.proofs.CallerLaws.{empty, first, short, nobody, somebody}
use Rattle.wire_caller.proofs.caller_of.Goals as goal

pub returns-then-s-eq0 : goal.returns-then-s-eq0
returns-then-s-eq0 c = empty _ c.if-s-eq0.true

pub returns-then-not-second : goal.returns-then-not-second
returns-then-not-second c = first _ _ c.is_second-second.ensures (ap not c.if-not-second.true)

pub returns-then-s-lt9 : goal.returns-then-s-lt9
returns-then-s-lt9 c = short _ _ c.is_second-second.ensures (ap not c.if-not-second.false) c.if-s-lt9.true

pub returns-then-who-eq0 : goal.returns-then-who-eq0
returns-then-who-eq0 c =
    nobody _ _ c.is_second-second.ensures (ap not c.if-not-second.false) c.if-s-lt9.false _ c.get8-who.ensures c.if-who-eq0.true

pub returns : goal.returns
returns c =
    somebody _ _ c.is_second-second.ensures (ap not c.if-not-second.false) c.if-s-lt9.false _ c.get8-who.ensures c.if-who-eq0.false
