-- Two runs of the protocol that acknowledge a write, computed: the claim is not about nothing. Assumes nothing.
use mathlib.Core.Path.{◌≡◌, refl}
use mathlib.Core.Bool.{true, false}
use mathlib.Core.List.{List, [], ◌∷◌}
use Rattle.spec.specs.declared.Metric.TheVariants.{Euclidean}
use Rattle.spec.specs.Lists.{◌and◌, ◌or◌, nth, every, put, filter}
use Rattle.spec.specs.Log.{Op, delete, Entry, Log, push, append, store, store_all, with_end, epoch_ends, epoch_at, agrees, keep, cut_to, promote, entries_from, apply_op, play_from, play}
use Rattle.thm_run.proofs.Protocol.Base.{upd, upd2, remove_at}
use Rattle.thm_run.proofs.Protocol.Sets.{member, without}
use Rattle.thm_run.proofs.Protocol.State.{State, Move, promotion, decision, rejection, outcome, silence, showing, writing, alignment, batch, arrival, counting, joining, suspicion, waiting, run, step, fresh, set_map, set_node, set_requests, add_reply, set_proposals, set_outcomes, add_accepted, add_acknowledged, promoted, on_promote, may_take, resized, expanded, shrunk, take_as, on_take, on_forget, lead_at, with_role, with_ack, told_as, tell_as, on_tell, on_untell, leader, show_as, on_show, write_as, on_write, post, align_as, on_align, send_batch, send_as, on_send, leads_from, replied, adopting, storing, hear_one, hear_as, on_hear, with_peer, counted_as, count_role, count_as, on_count, is_positive, may_join, join_lead, join_as, on_join, suspect_as, on_suspect, all_acked, ack_lead, ack_as, on_acknowledge}

-- node 1 writes, node 2 is aligned and stores, the write is acknowledged, node 2 takes over
abbrev pub copied : List Move
copied =
    writing 1 (delete 7) ∷ alignment 1 2 ∷ arrival 1 2 0 ∷ counting 0
    ∷ batch 1 2 1 256 ∷ arrival 1 2 1 ∷ counting 1 ∷ waiting 0 ∷ promotion 2 ∷ showing 2 ∷ []

-- node 2 is taken out of sync, node 1 acknowledges alone; node 2 catches up, is taken in again and takes over
abbrev pub shrunk_and_expanded : List Move
shrunk_and_expanded =
    suspicion 1 2 ∷ decision 0 true ∷ outcome 0 ∷ writing 1 (delete 7) ∷ waiting 0
    ∷ alignment 1 2 ∷ arrival 1 2 0 ∷ counting 0 ∷ batch 1 2 1 256 ∷ arrival 1 2 1 ∷ counting 1
    ∷ joining 1 ∷ decision 0 false ∷ promotion 2 ∷ showing 2 ∷ []

pub acknowledged_copied : (run (fresh Euclidean 1 (2 ∷ [])) copied).acknowledged ≡ record { epoch = 1; offset = 1; op = delete 7 } ∷ []
unfolding run step fresh set_map set_node set_requests add_reply set_proposals set_outcomes add_accepted add_acknowledged promoted on_promote may_take resized expanded shrunk take_as on_take lead_at with_role with_ack told_as tell_as on_tell leader show_as on_show write_as on_write post align_as on_align send_batch send_as on_send leads_from replied adopting storing hear_one hear_as on_hear with_peer counted_as count_role count_as on_count is_positive may_join join_lead join_as on_join suspect_as on_suspect all_acked ack_lead ack_as on_acknowledge upd upd2 remove_at member without ◌and◌ ◌or◌ nth every filter push append store store_all with_end epoch_ends epoch_at agrees keep cut_to promote entries_from apply_op play_from play
acknowledged_copied = refl

pub log-copied : ((run (fresh Euclidean 1 (2 ∷ [])) copied).nodes 2).replica.log ≡ record { epoch = 1; offset = 1; op = delete 7 } ∷ []
unfolding run step fresh set_map set_node set_requests add_reply set_proposals set_outcomes add_accepted add_acknowledged promoted on_promote may_take resized expanded shrunk take_as on_take lead_at with_role with_ack told_as tell_as on_tell leader show_as on_show write_as on_write post align_as on_align send_batch send_as on_send leads_from replied adopting storing hear_one hear_as on_hear with_peer counted_as count_role count_as on_count is_positive may_join join_lead join_as on_join suspect_as on_suspect all_acked ack_lead ack_as on_acknowledge upd upd2 remove_at member without ◌and◌ ◌or◌ nth every filter push append store store_all with_end epoch_ends epoch_at agrees keep cut_to promote entries_from apply_op play_from play
log-copied = refl

pub acknowledged_expanded : (run (fresh Euclidean 1 (2 ∷ [])) shrunk_and_expanded).acknowledged ≡ record { epoch = 1; offset = 1; op = delete 7 } ∷ []
unfolding run step fresh set_map set_node set_requests add_reply set_proposals set_outcomes add_accepted add_acknowledged promoted on_promote may_take resized expanded shrunk take_as on_take lead_at with_role with_ack told_as tell_as on_tell leader show_as on_show write_as on_write post align_as on_align send_batch send_as on_send leads_from replied adopting storing hear_one hear_as on_hear with_peer counted_as count_role count_as on_count is_positive may_join join_lead join_as on_join suspect_as on_suspect all_acked ack_lead ack_as on_acknowledge upd upd2 remove_at member without ◌and◌ ◌or◌ nth every filter push append store store_all with_end epoch_ends epoch_at agrees keep cut_to promote entries_from apply_op play_from play
acknowledged_expanded = refl

pub sync_expanded : (run (fresh Euclidean 1 (2 ∷ [])) shrunk_and_expanded).map.insync ≡ 2 ∷ []
unfolding run step fresh set_map set_node set_requests add_reply set_proposals set_outcomes add_accepted add_acknowledged promoted on_promote may_take resized expanded shrunk take_as on_take lead_at with_role with_ack told_as tell_as on_tell leader show_as on_show write_as on_write post align_as on_align send_batch send_as on_send leads_from replied adopting storing hear_one hear_as on_hear with_peer counted_as count_role count_as on_count is_positive may_join join_lead join_as on_join suspect_as on_suspect all_acked ack_lead ack_as on_acknowledge upd upd2 remove_at member without ◌and◌ ◌or◌ nth every filter push append store store_all with_end epoch_ends epoch_at agrees keep cut_to promote entries_from apply_op play_from play
sync_expanded = refl
