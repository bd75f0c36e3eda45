-- Request 2.13, of the protocol, with a log of 257 entries: three rounds are enough and two are not; but where an Adopted from before the rounds
-- counts at the end of the second, which takes the ack back, three are not enough and four are. Each batch is the worker's: it follows on the ack.
-- Assumes nothing.
use Prim.Native.Nat.{ℕ, zero, suc}
use mathlib.Core.Path.{◌≡◌, refl}
use mathlib.Core.List.{List, [], ◌∷◌}
use lib.ListN.{length}
use Rattle.spec.specs.Log.{delete}
use Rattle.spec.specs.declared.Metric.TheVariants.{Euclidean}
use Rattle.spec.proofs.Opened as model
use Rattle.thm_run.proofs.Protocol.Base.{upd, upd2}
use Rattle.thm_run.proofs.Protocol.State as proto
use Rattle.thm_run.proofs.Protocol.State.{State, Role, backup, lead, Move, writing, alignment, batch, arrival, counting, run, fresh}

-- so many Writes at node 1
unfoldable pub many : ℕ → List Move
many zero = []
many (suc n) = writing 1 (delete n) ∷ many n

unfoldable pub full : State
full = run (fresh Euclidean 1 (2 ∷ [])) (many 257)

-- what a record says of node 2
abbrev pub ack_of : Role → ℕ
ack_of backup = 0
ack_of (lead l) = l.acked 2

-- how much node 2 holds
abbrev pub held : State → ℕ
held s = length (s.nodes 2).replica.log

-- an exchange that sends what follows on the ack: the request's place, and its answer's
unfoldable pub sends : State → (place : ℕ) → State
sends s i = run s (batch 1 2 (suc (ack_of (s.nodes 1).role)) 256 ∷ arrival 1 2 i ∷ counting i ∷ [])

-- ---- nothing older is under way

-- the first round aligns
unfoldable pub clean : State
clean = run full (alignment 1 2 ∷ arrival 1 2 0 ∷ counting 0 ∷ [])

pub two_rounds : held (sends clean 1) ≡ 256
unfolding model.opened upd upd2 proto.set_node proto.set_requests proto.add_reply proto.add_accepted proto.with_role proto.with_peer proto.lead_at proto.write_as proto.on_write proto.post proto.align_as proto.on_align proto.send_batch proto.send_as proto.on_send proto.leads_from proto.replied proto.adopting proto.storing proto.hear_one proto.hear_as proto.on_hear proto.counted_as proto.count_role proto.count_as proto.on_count proto.step proto.run proto.fresh many full sends clean
two_rounds = refl

pub three_rounds : held (sends (sends clean 1) 2) ≡ 257
unfolding model.opened upd upd2 proto.set_node proto.set_requests proto.add_reply proto.add_accepted proto.with_role proto.with_peer proto.lead_at proto.write_as proto.on_write proto.post proto.align_as proto.on_align proto.send_batch proto.send_as proto.on_send proto.leads_from proto.replied proto.adopting proto.storing proto.hear_one proto.hear_as proto.on_hear proto.counted_as proto.count_role proto.count_as proto.on_count proto.step proto.run proto.fresh many full sends clean
three_rounds = refl

-- ---- an alignment from before was adopted too, and its answer, the first, is still under way

-- the second round; then the old answer counts
unfoldable pub second : State
second = sends (run full (alignment 1 2 ∷ arrival 1 2 0 ∷ alignment 1 2 ∷ arrival 1 2 1 ∷ counting 1 ∷ [])) 2

unfoldable pub late : State
late = run second (counting 0 ∷ [])

pub counted : ack_of (second.nodes 1).role ≡ 256
unfolding model.opened upd upd2 proto.set_node proto.set_requests proto.add_reply proto.add_accepted proto.with_role proto.with_peer proto.lead_at proto.write_as proto.on_write proto.post proto.align_as proto.on_align proto.send_batch proto.send_as proto.on_send proto.leads_from proto.replied proto.adopting proto.storing proto.hear_one proto.hear_as proto.on_hear proto.counted_as proto.count_role proto.count_as proto.on_count proto.step proto.run proto.fresh many full sends second late
counted = refl

pub taken_back : ack_of (late.nodes 1).role ≡ 0
unfolding model.opened upd upd2 proto.set_node proto.set_requests proto.add_reply proto.add_accepted proto.with_role proto.with_peer proto.lead_at proto.write_as proto.on_write proto.post proto.align_as proto.on_align proto.send_batch proto.send_as proto.on_send proto.leads_from proto.replied proto.adopting proto.storing proto.hear_one proto.hear_as proto.on_hear proto.counted_as proto.count_role proto.count_as proto.on_count proto.step proto.run proto.fresh many full sends second late
taken_back = refl

pub three_not_enough : held (sends late 3) ≡ 256
unfolding model.opened upd upd2 proto.set_node proto.set_requests proto.add_reply proto.add_accepted proto.with_role proto.with_peer proto.lead_at proto.write_as proto.on_write proto.post proto.align_as proto.on_align proto.send_batch proto.send_as proto.on_send proto.leads_from proto.replied proto.adopting proto.storing proto.hear_one proto.hear_as proto.on_hear proto.counted_as proto.count_role proto.count_as proto.on_count proto.step proto.run proto.fresh many full sends second late
three_not_enough = refl

pub four_rounds : held (sends (sends late 3) 4) ≡ 257
unfolding model.opened upd upd2 proto.set_node proto.set_requests proto.add_reply proto.add_accepted proto.with_role proto.with_peer proto.lead_at proto.write_as proto.on_write proto.post proto.align_as proto.on_align proto.send_batch proto.send_as proto.on_send proto.leads_from proto.replied proto.adopting proto.storing proto.hear_one proto.hear_as proto.on_hear proto.counted_as proto.count_role proto.count_as proto.on_count proto.step proto.run proto.fresh many full sends second late
four_rounds = refl
