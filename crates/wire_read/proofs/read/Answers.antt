use Rattle.std.proofs.Common.{◌∙◌}
use Rattle.wire_read.proofs.Messages.{or_undecodable, message-empty, message_01, message_20, message_21, message_22, message_23, message_24, message-reply}
use Rattle.wire_read.proofs.read.Goals as goal

pub returns-then-s-eq0 : goal.returns-then-s-eq0
returns-then-s-eq0 c = message-empty c.args.s.now c.if-s-eq0.true

pub returns-in-1 : goal.returns-in-1
returns-in-1 c = or_undecodable _ _ _ c.read_whole_request.ensures ∙ message_01 c.args.s.now c.in-1.is

pub returns-in-32 : goal.returns-in-32
returns-in-32 c = or_undecodable _ _ _ c.read_replicate.ensures ∙ message_20 c.args.s.now c.in-32.is

pub returns-in-33 : goal.returns-in-33
returns-in-33 c = or_undecodable _ _ _ c.read_new_epoch.ensures ∙ message_21 c.args.s.now c.in-33.is

pub returns-in-34 : goal.returns-in-34
returns-in-34 c = or_undecodable _ _ _ c.read_copy_shard.ensures ∙ message_22 c.args.s.now c.in-34.is

pub returns-in-35 : goal.returns-in-35
returns-in-35 c = or_undecodable _ _ _ c.read_write.ensures ∙ message_23 c.args.s.now c.in-35.is

pub returns-in-36 : goal.returns-in-36
returns-in-36 c = or_undecodable _ _ _ c.read_search.ensures ∙ message_24 c.args.s.now c.in-36.is

pub returns-in_default : goal.returns-in_default
returns-in_default c =
    or_undecodable _ _ _ c.read_reply.ensures ∙ message-reply c.args.s.now c.in_default.in_default-own.rest.0.0.0.0.0.1 c.in_default.in_default-own.rest.0.0.0.0.1 c.in_default.in_default-own.rest.0.0.0.1 c.in_default.in_default-own.rest.0.0.1 c.in_default.in_default-own.rest.0.1 c.in_default.in_default-own.rest.1
