-- Every definition of a run, and of the specification below it, opened at once: what a run that the checker computes says `unfolding` of.
-- Assumes nothing.
use Rattle.spec_run.specs.State as state
use Rattle.spec_run.specs.Source as source
use Rattle.spec_run.specs.Step as step
use Rattle.spec_run.specs.Rules as rules
use Rattle.spec_run.specs.Claim as claim
use Rattle.spec.proofs.Opened as model
use Prim.Native.Nat.{ℕ}

unfoldable pub opened : ℕ
unfolding model.opened state.at state.set_map state.set_node state.set_requests state.set_replies state.set_offers state.set_outcomes state.set_writes source.sending source.source_request source.align_held source.source_new_epoch step.removed step.replaced step.on_command step.on_shown step.on_grant step.record_write step.on_write step.on_search step.waited step.wait_for step.on_wait step.sent_of step.posted step.on_work step.heard step.answered step.arrives step.on_arrival step.on_request_lost step.doubled step.on_request_repeats step.acked step.replies step.on_reply step.on_reply_lost step.reply_doubled step.on_reply_repeats step.offer_bytes step.told step.offered step.on_offer step.on_offer_lost step.given_up step.on_offer_timeout step.learnt step.on_outcome step.on_outcome_lost step.late step.on_outcome_timeout step.step step.run rules.is_bytes rules.is_u64 rules.fresh_seq rules.allowed rules.allowed_run claim.in_sync_at claim.log_of claim.vectors_of
opened = 0
