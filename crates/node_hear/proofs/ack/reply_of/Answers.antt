use Rattle.std.proofs.Common.{sym, ◌∙◌}
use Rattle.wire_read.proofs.Decoded.{stored_decoded, gap_decoded, stale_decoded, adopted_decoded}
use Rattle.node_hear.proofs.Hears.{reply-heard, reply_unheard}
use Rattle.node_hear.proofs.ack.reply_of.Goals as goal

pub returns-in-Stored : goal.returns-in-Stored
returns-in-Stored c = sym (reply-heard _ _ (stored_decoded _ _ (sym c.in-Stored.ensures)))

pub returns-in-Gap : goal.returns-in-Gap
returns-in-Gap c = sym (reply-heard _ _ (gap_decoded _ _ (sym c.in-Gap.ensures)))

pub returns-in-StaleEpoch : goal.returns-in-StaleEpoch
returns-in-StaleEpoch c = sym (reply-heard _ _ (stale_decoded _ _ (sym c.in-StaleEpoch.ensures)))

pub returns-in-Adopted : goal.returns-in-Adopted
returns-in-Adopted c = sym (reply-heard _ _ (adopted_decoded _ _ (sym c.in-Adopted.ensures)))

pub returns-in_default : goal.returns-in_default
returns-in_default c =
    let e = c.decode-m.ensures in
    sym (reply_unheard _ (λ n h. c.in_default.not-Stored n (e ∙ h)) (λ n h. c.in_default.not-Gap n (e ∙ h))
    (λ n h. c.in_default.not-StaleEpoch n (e ∙ h)) (λ n h. c.in_default.not-Adopted n (e ∙ h)))
