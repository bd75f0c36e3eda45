use Rattle.wire_read.proofs.Messages.{reply-length, reply_30, reply_31, reply_32, reply_33, reply-none}
use Rattle.wire_read.proofs.kinds.read_reply.Goals as goal

pub returns-then-s-ne9 : goal.returns-then-s-ne9
returns-then-s-ne9 c = reply-length c.args.s.now c.if-s-ne9.true

pub returns-in-48 : goal.returns-in-48
returns-in-48 c = (rw c.get8-n.ensures (reply_30 c.args.s.now c.if-s-ne9.false c.in-48.is))

pub returns-in-49 : goal.returns-in-49
returns-in-49 c = (rw c.get8-n.ensures (reply_31 c.args.s.now c.if-s-ne9.false c.in-49.is))

pub returns-in-50 : goal.returns-in-50
returns-in-50 c = (rw c.get8-n.ensures (reply_32 c.args.s.now c.if-s-ne9.false c.in-50.is))

pub returns-in-51 : goal.returns-in-51
returns-in-51 c = (rw c.get8-n.ensures (reply_33 c.args.s.now c.if-s-ne9.false c.in-51.is))

pub returns-in_default : goal.returns-in_default
returns-in_default c =
    reply-none c.args.s.now c.in_default.in_default-own.rest.0.0.0.1 c.in_default.in_default-own.rest.0.0.1 c.in_default.in_default-own.rest.0.1 c.in_default.in_default-own.rest.1
