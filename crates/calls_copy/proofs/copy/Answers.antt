use mathlib.Core.Path.{sym, ◌∙◌}
use Rattle.log_arrive.proofs.Messages.{copy_there}
use Rattle.node_replicate.proofs.Named.{copy_key_there, copy_missed}
use Rattle.calls_peer.proofs.Serves.{unread}
use Rattle.calls_peer.proofs.Messages.{copy_outside, copy_inside}
use Rattle.calls_copy.proofs.copy.Goals as goal

pub returns-in_default : goal.returns-in_default
returns-in_default c =
    unread _ _ _ _ _ _ _ (copy_missed c.args.message.now (λ q e. c.in_default.not-CopyShard _ (c.decode.ensures ∙ e)))

pub entries_in_domain-requires : goal.entries_in_domain-requires
entries_in_domain-requires c = copy_there c.args.message.now _ (sym c.decode.ensures ∙ c.in-CopyShard.is)

pub returns-then-not-entries_in_domain : goal.returns-then-not-entries_in_domain
returns-then-not-entries_in_domain c =
    copy_outside c.args.message.now _ (sym c.decode.ensures ∙ c.in-CopyShard.is) _ _ c.entries_in_domain.ensures (c.if-not-entries_in_domain.true)

pub key_of-key-requires : goal.key_of-key-requires
key_of-key-requires c = copy_key_there c.args.message.now _ (sym c.decode.ensures ∙ c.in-CopyShard.is)

pub at_shard-requires : goal.at_shard-requires
at_shard-requires c =
    record { read = sym c.decode.ensures ∙ c.in-CopyShard.is; inside = sym c.entries_in_domain.ensures ∙ c.if-not-entries_in_domain.false; named = c.key_of-key.ensures }

pub returns : goal.returns
returns c =
    copy_inside c.args.message.now _ (sym c.decode.ensures ∙ c.in-CopyShard.is) _ _ c.entries_in_domain.ensures (c.if-not-entries_in_domain.false) _ c.key_of-key.ensures _ _ c.at_shard.ensures
