use mathlib.Core.Path.{sym, ◌∙◌}
use Rattle.log_arrive.proofs.Messages.{replicate_there}
use Rattle.node_replicate.proofs.Named.{replicate_key_there, replicate_missed}
use Rattle.calls_peer.proofs.Serves.{unread}
use Rattle.calls_peer.proofs.Messages.{replicate_outside, replicate_inside}
use Rattle.calls_replicate.proofs.replicate.Goals as goal

pub returns-in_default : goal.returns-in_default
returns-in_default c =
    unread _ _ _ _ _ _ _ (replicate_missed c.args.message.now (λ q e. c.in_default.not-Replicate _ (c.decode.ensures ∙ e)))

pub op_in_domain-requires : goal.op_in_domain-requires
op_in_domain-requires c = replicate_there c.args.message.now _ (sym c.decode.ensures ∙ c.in-Replicate.is)

pub returns-then-not-op_in_domain : goal.returns-then-not-op_in_domain
returns-then-not-op_in_domain c =
    replicate_outside c.args.message.now _ (sym c.decode.ensures ∙ c.in-Replicate.is) _ _ c.op_in_domain.ensures (c.if-not-op_in_domain.true)

pub key_of-key-requires : goal.key_of-key-requires
key_of-key-requires c = replicate_key_there c.args.message.now _ (sym c.decode.ensures ∙ c.in-Replicate.is)

pub at_shard-requires : goal.at_shard-requires
at_shard-requires c =
    record { read = sym c.decode.ensures ∙ c.in-Replicate.is; inside = sym c.op_in_domain.ensures ∙ c.if-not-op_in_domain.false; named = c.key_of-key.ensures }

pub returns : goal.returns
returns c =
    replicate_inside c.args.message.now _ (sym c.decode.ensures ∙ c.in-Replicate.is) _ _ c.op_in_domain.ensures (c.if-not-op_in_domain.false) _ c.key_of-key.ensures _ _ c.at_shard.ensures
