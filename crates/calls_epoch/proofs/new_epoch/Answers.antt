use mathlib.Core.Path.{sym, ◌∙◌}
use Rattle.node_epoch.proofs.Named.{new_epoch_key_there, new_epoch_missed}
use Rattle.calls_peer.proofs.Serves.{unread}
use Rattle.calls_peer.proofs.Messages.{new_epoch_inside}
use Rattle.calls_epoch.proofs.new_epoch.Goals as goal

pub returns-in_default : goal.returns-in_default
returns-in_default c =
    unread _ _ _ _ _ _ _ (new_epoch_missed c.args.message.now (λ q e. c.in_default.not-NewEpoch _ (c.decode.ensures ∙ e)))

pub key_of-key-requires : goal.key_of-key-requires
key_of-key-requires c = new_epoch_key_there c.args.message.now _ (sym c.decode.ensures ∙ c.in-NewEpoch.is)

pub at_shard-requires : goal.at_shard-requires
at_shard-requires c = record { read = sym c.decode.ensures ∙ c.in-NewEpoch.is; named = c.key_of-key.ensures }

pub returns : goal.returns
returns c =
    new_epoch_inside c.args.message.now _ (sym c.decode.ensures ∙ c.in-NewEpoch.is) _ _ c.key_of-key.ensures _ _ c.at_shard.ensures
