use borrow.Author.Tests.{lt-ltb, le-ltb}
use Rattle.spec.specs.Node.Ack.{bad_reply, deed_of}
use Rattle.node_shard.specs.Acks.{does_deed, reply_of}
use mathlib.Core.Bool.{false}
use mathlib.Core.Path.{subst, ◌≡◌}
use Rattle.node_shard.specs.declared.Reply.{Reply}
use Rattle.node_acks.proofs.Ack.{gap_some}
use Rattle.calls_ack.proofs.deeds.asks.Goals as goal

pub returns-then-epoch-e : goal.returns-then-epoch-e
unfolding does_deed deed_of
returns-then-epoch-e c = rw (c.in-Stale.is, lt-ltb _ _ c.if-epoch-e.true)

pub overflow_sub-result : goal.overflow_sub-result
overflow_sub-result c = gap_some _ (subst (λ (r : Reply). bad_reply (reply_of r) ≡ false) c.in-Gap.is c.requires)

pub returns-in-Align : goal.returns-in-Align
unfolding does_deed deed_of
returns-in-Align c = rw (c.in-Stale.is, c.in-Align.is, le-ltb _ _ c.if-epoch-e.false)

pub returns-in-Replicate : goal.returns-in-Replicate
unfolding does_deed deed_of
returns-in-Replicate c = rw (c.in-Stale.is, c.in-Replicate.is, le-ltb _ _ c.if-epoch-e.false)

pub returns-in-Copy : goal.returns-in-Copy
unfolding does_deed deed_of
returns-in-Copy c = rw (c.in-Stale.is, c.in-Copy.is, le-ltb _ _ c.if-epoch-e.false)

pub returns-in-Align-s : goal.returns-in-Align-s
unfolding does_deed deed_of
returns-in-Align-s c = rw (c.in-Adopted.is, c.in-Align-s.is)

pub returns-in-Replicate-s : goal.returns-in-Replicate-s
unfolding does_deed deed_of
returns-in-Replicate-s c = rw (c.in-Adopted.is, c.in-Replicate-s.is)

pub returns-in-Copy-s : goal.returns-in-Copy-s
unfolding does_deed deed_of
returns-in-Copy-s c = rw (c.in-Adopted.is, c.in-Copy-s.is)

pub returns-in-Align-s-2 : goal.returns-in-Align-s-2
unfolding does_deed deed_of
returns-in-Align-s-2 c = rw (c.in-Stored.is, c.in-Align-s-2.is)

pub returns-in-Replicate-s-2 : goal.returns-in-Replicate-s-2
unfolding does_deed deed_of
returns-in-Replicate-s-2 c = rw (c.in-Stored.is, c.in-Replicate-s-2.is)

pub returns-in-Copy-s-2 : goal.returns-in-Copy-s-2
unfolding does_deed deed_of
returns-in-Copy-s-2 c = rw (c.in-Stored.is, c.in-Copy-s-2.is)

pub returns-in-Align-s-3 : goal.returns-in-Align-s-3
unfolding does_deed deed_of
returns-in-Align-s-3 c = rw (c.in-Gap.is, c.in-Align-s-3.is)

pub returns-in-Replicate-s-3 : goal.returns-in-Replicate-s-3
unfolding does_deed deed_of
returns-in-Replicate-s-3 c = rw (c.in-Gap.is, c.in-Replicate-s-3.is)

pub returns-in-Copy-s-3 : goal.returns-in-Copy-s-3
unfolding does_deed deed_of
returns-in-Copy-s-3 c = rw (c.in-Gap.is, c.in-Copy-s-3.is)
