-- Request 2.13: no call of a round is refused. What the primary's worker asks a peer, what the peer answers it, and what the primary
-- counts of the answer, in the values that the calls give. Assumes nothing.
use Prim.Native.Nat.{ℕ, ◌+◌, ◌-◌, ◌≤◌, min, max}
use mathlib.Core.Path.{◌≡◌, refl, sym, ap, ◌∙◌, subst}
use mathlib.Core.Bool.{Bool, true, false, cond, not}
use mathlib.Core.Logic.{◌⊎◌, inl, inr}
use mathlib.Core.List.{List, [], ◌∷◌, ◌++◌, map}
use mathlib.Core.Option.{Option, none, some}
use native.Mathlib.Omega.{arith}
use lib.Dec.{eqb, leb, ltb}
use lib.ListN.{length}
use borrow.Author.Tests.{eqb-true, eqb-false, eq-eqb, ne_eqb, leb-true, ltb-true, ltb-false, le-ltb}
use Rattle.spec.specs.Keys.{Key}
use Rattle.spec.specs.Limits.{max_entries, max_time}
use Rattle.spec.specs.Lists.{◌and◌, ◌or◌, nth, any, every, find}
use Rattle.spec.specs.Log.{Entry, Log, End, ShardReplica, Stored, through, gap, store, store_all, cut_to, adopted, last_offset}
use Rattle.spec.specs.Refusals.{Refusal, no_room, malformed}
use Rattle.spec.specs.Map.Apply.{update}
use Rattle.spec.specs.Map.Change.{holds}
use Rattle.spec.specs.Layout.Message as message
use Rattle.spec.specs.Layout.Message.{Reply, reply_stored, reply_gap, reply_adopted, decode_reply, encode_reply}
use Rattle.spec.specs.Layout.Writable.{GoodReply}
use Rattle.spec.specs.Node.Held as held
use Rattle.spec.specs.Node.Held.{Held}
use Rattle.spec.specs.Node.Shards.{Result, gives, held_shard, at_shard, with_held, with_replica, leads_at, of_node, on_node}
use Rattle.spec.specs.Node.Wire.{entry_in_domain, stored_entry, op_in_domain, stored_op}
use Rattle.spec.specs.Node.Client.{overfull}
use Rattle.spec.specs.Node.Backup.{BackupAnswer, replied, backup_refused, unheld, leads_from, new_epoch_held, new_epoch_at, on_new_epoch, is_empty, copy_held, on_copy, reply_of, replicate_held, on_replicate}
use Rattle.spec.specs.Node.Ack.{Sent, sent_align, sent_replicate, sent_copy, AckAnswer, noted, Deed, record_ack, deed_of, deed_at, do_deed, bad_reply, acked_through, ack_row, on_row, ack_held, on_ack}
use Rattle.spec.specs.Node.Worker.{Step, Message, message_bytes, step_row, step_held, step_at, on_step, request_held, request_at, on_request}
use Rattle.spec.specs.Node.Calls.{new_epoch_of, new_epoch_with, call_new_epoch, copy_of, copy_with, call_copy, replicate_of, replicate_with, call_replicate, RequestAnswer, unsent, written, request_refused, written_in, request_of, request_with, call_request, ack_of, ack_with, call_ack}
use Rattle.spec.specs.Node.WellFormed.{well_formed_header, well_formed_lent, log_if_held, log_of}
use Rattle.spec.specs.declared.Metric.{Metric}
use Rattle.spec.specs.declared.Peer.{Peer}
use Rattle.spec.specs.declared.Replica.{Replica}
use Rattle.spec.specs.declared.Role as role
use Rattle.spec_laws.proofs.Lists.{by-test, not_both, and_true}
use Rattle.spec_laws.proofs.Log.Keep.{keep-length}
use Rattle.spec_laws.proofs.Log.Store.{store-answer}
use Rattle.spec_laws.proofs.Map.Rows.{every_tail, find_true, find-update}
use Rattle.spec_run.specs.State as real
use Rattle.spec_run.specs.Step as step
use Rattle.thm_run.proofs.Protocol.State as proto
use Rattle.thm_run.proofs.Protocol.State.{Lead, Role, lead, Node, State}
use Rattle.thm_run.proofs.Simulation.Lists.{any-find}
use Rattle.thm_run.proofs.Simulation.Rows.{or_no, or_yes}
use Rattle.thm_run.proofs.Simulation.Relation.{World, RoleSim, LeadSim, HeldSim, NodeSim, AlignSim, CopySim, LoneSim, SendSim, Sim}
use Rattle.thm_run.proofs.Simulation.AtNode.{at_own, shard-found, held_facts, header}
use Rattle.thm_rounds.specs.Rounds.{room_for}

-- the test of the lent state, of the run's own shard
lent : (w : World) (top n : ℕ) (x : held.Node) (b : Node) → NodeSim w top n x b → holds n w.holders ≡ true → well_formed_lent x w.key ≡ true
unfolding well_formed_lent
lent w top n x b k y =
    let r = k.here y in
    and_true (well_formed_header x) (log_if_held (held_shard x w.key)) (header w top n x b k)
    (subst (λ (o : Option Held). log_if_held o ≡ true) (sym (shard-found w top n x b k r.0 r.1 r.2))
    (every_tail log_of r.0 [] (subst (λ (l : List Held). every log_of l ≡ true) r.1 k.formed.logs)).0)

-- ---- the worker's step

module _ (w : World) (top n : ℕ) (x : held.Node) (b : Node) (k : NodeSim w top n x b) (mine : holds n w.holders ≡ true)
    (l : Lead) (leading : b.role ≡ lead l) where
  abbrev pub h : Held
  h = (k.here mine).0

  abbrev pub hs : HeldSim w top n h b
  hs = (k.here mine).2

  pub ls : LeadSim w top n h.role h.replica h.peers l
  ls = subst (RoleSim w top n h.role h.replica h.peers) leading hs.role

  pub leads-at : (e : ℕ) → l.epoch ≡ e → leads_at h.role e ≡ true
  leads-at e q = ap (λ (r : role.Role). leads_at r e) ls.role ∙ eq-eqb l.epoch e q

  module _ (e p : ℕ) (at : l.epoch ≡ e) (holder : holds p w.holders ≡ true) (metric : Metric) where
    asked : request_of x w.key e p metric ≡ request_held e metric h (step_row h.replica.log (find (of_node p) h.peers))
    unfolding request_of on_request on_step step_held holds
    asked =
        let there : any (on_node p) h.holders ≡ true = subst (λ (rs : List Replica). any (on_node p) rs ≡ true) (sym hs.holders) holder in
        ap (λ (o : Option Held). request_at e metric (step_at e p o) o) (shard-found w top n x b k h (k.here mine).1 hs)
        ∙ rw (leads-at e at, there)

    pub called : (room : ℕ) → call_request x room w.key e p metric ≡ written_in room (request_held e metric h (step_row h.replica.log (find (of_node p) h.peers)))
    unfolding call_request request_with
    called room = rw (lent w top n x b k mine) (ap (written_in room) asked)

    abbrev is_refused : RequestAnswer → Bool
    is_refused unsent = false
    is_refused (written bytes) = false
    is_refused (request_refused r) = true

    -- 23 does not come where there is room
    pub fits : (room : ℕ) → room_for room (request_of x w.key e p metric) ≡ true → call_request x room w.key e p metric ≡ request_refused no_room → ⊥
    unfolding call_request request_with
    fits room y q = go (request_of x w.key e p metric) y (sym (rw (lent w top n x b k mine)) ∙ q)
      where
        go : (o : Option Message) → room_for room o ≡ true → written_in room o ≡ request_refused no_room → ⊥
        go none y = λ q. not_both false (ap is_refused q) refl
        go (some m) y =
            by-test (λ (r : RequestAnswer). r ≡ request_refused no_room → ⊥) (ltb room (length (message_bytes m)))
            (λ t q. omega (arith, ltb-true room (length (message_bytes m)) t, leb-true (length (message_bytes m)) room y))
            (λ t q. not_both false (ap is_refused q) refl)

-- ---- a request at the peer

module _ (w : World) (top n : ℕ) (x : held.Node) (b : Node) (k : NodeSim w top n x b) (q : real.Request) where
  abbrev Answer : Type 0
  Answer = Result BackupAnswer held.Node

  -- an alignment of an epoch that the peer does not exceed, and does not lead at, is adopted
  module _ (e end : ℕ) (t : List End) (c : AlignSim w n q e end t) (low : b.replica.epoch ≤ e) (follows : proto.leads_from b.role e ≡ false) where
    abbrev Adopts : Answer → Type 0
    Adopts v = (u : ℕ) × (v.answer ≡ replied (reply_adopted u)) × (u ≤ max_entries)

    role_of_lem : (r : role.Role) (z : ShardReplica) (ps : List Peer) (d : Role) → RoleSim w top n r z ps d → proto.leads_from d e ≡ false → leads_from r e ≡ false
    unfolding proto.leads_from
    role_of_lem r z ps proto.backup s f = ap (λ (v : role.Role). leads_from v e) s
    role_of_lem r z ps (lead l) s f = ap (λ (v : role.Role). leads_from v e) s.role ∙ f

    at_held : (h : Held) → x.held ≡ h ∷ [] → HeldSim w top n h b
        → (u : ℕ) × ((new_epoch_held e end t h).answer ≡ replied (reply_adopted u)) × (u ≤ max_entries)
    unfolding new_epoch_held
    at_held h is hs =
        let own : h.replica.epoch ≡ b.replica.epoch = ap (λ (z : ShardReplica). z.epoch) hs.replica in
        let f = role_of_lem h.role h.replica h.peers b.role hs.role follows in
        let m = (held_facts w top n x b k h is).log in
        by-test (λ (v : Result BackupAnswer Held). (u : ℕ) × (v.answer ≡ replied (reply_adopted u)) × (u ≤ max_entries)) (leads_from h.role e)
        (λ y. not_both (leads_from h.role e) y f)
        (λ y. by-test (λ (v : Result BackupAnswer Held). (u : ℕ) × (v.answer ≡ replied (reply_adopted u)) × (u ≤ max_entries)) (ltb e h.replica.epoch)
        (λ z. absurd (omega (arith, ltb-true e h.replica.epoch z, own, low)))
        (λ z. (last_offset (adopted h.replica e end t), refl, kept h m)))
      where
        kept : (h : Held) → last_offset h.replica ≤ max_entries → last_offset (adopted h.replica e end t) ≤ max_entries
        kept h m =
            unfold adopted in
            by-test (λ (r : ShardReplica). last_offset r ≤ max_entries) (eqb e h.replica.epoch) (λ y. m)
            (λ y. unfold cut_to in (let z = keep-length end t h.replica.log in omega arith))

    pub adopts : Adopts (step.heard x q.sent q.bytes)
    unfolding step.heard call_new_epoch new_epoch_with on_new_epoch
    adopts =
        let r = k.here c.holder in
        subst (λ (z : Sent). Adopts (step.heard x z q.bytes)) (sym c.sent)
        (subst (λ (o : Option message.NewEpoch). Adopts (new_epoch_of (well_formed_lent x) x o)) (sym c.decoded)
        (by-test Adopts (not (well_formed_lent x w.key))
        (λ y. not_both (not (well_formed_lent x w.key)) y (ap not (lent w top n x b k c.holder)))
        (λ y. subst (λ (o : Option Held). Adopts (new_epoch_at x w.key e end t c.metric o))
        (sym (shard-found w top n x b k r.0 r.1 r.2))
        (at_own w top n x b k Adopts unheld (new_epoch_held e end t) c.holder (λ h is hs. at_held h is hs)))))

  -- a batch of the peer's own epoch that leaves its log in its limit is stored
  module _ (e : ℕ) (es : Log) (c : SendSim w n q e es) (own : e ≡ b.replica.epoch) (small : length (store_all b.replica e es).log ≤ max_entries) where
    -- what it answers: no number that the primary would refuse, and how far it holds
    pub record Tells (v : Reply) : Type 0 where
      pub good : GoodReply v
      pub plain : bad_reply v ≡ false
      pub deed : deed_of q.sent v e ≡ record_ack (length (store_all b.replica e es).log) false

    abbrev Stores : {A : Type 0} → Result BackupAnswer A → Type 0
    Stores v = (r : Reply) × (v.answer ≡ replied r) × Tells r

    stored : (u : ℕ) → u ≡ length (store_all b.replica e es).log → deed_of q.sent (reply_stored u) e ≡ record_ack u false → Tells (reply_stored u)
    unfolding bad_reply
    stored u same f = record {
      good = let z = small in omega arith;
      plain = let z = small in le-ltb max_time u (omega arith);
      deed = f ∙ ap (λ (d : ℕ). record_ack d false) same;
    }

    gapped : (u : ℕ) → u ≡ length (store_all b.replica e es).log → deed_of q.sent (reply_gap (u + 1)) e ≡ record_ack (u + 1 - 1) false → Tells (reply_gap (u + 1))
    unfolding bad_reply ◌or◌
    gapped u same f =
        let one : eqb (u + 1) 0 ≡ false = ne_eqb (u + 1) 0 (λ z. omega arith) in
        record {
          good = let z = small in omega arith;
          plain = let z = small in rw one (le-ltb max_time (u + 1) (omega arith));
          deed = f ∙ ap (λ (d : ℕ). record_ack d false) (let z : u + 1 - 1 ≡ u = omega arith in z ∙ same);
        }

    module _ (h : Held) (is : x.held ≡ h ∷ []) (hs : HeldSim w top n h b) where
      abbrev more : ShardReplica
      more = store_all h.replica e es

      as_b : length more.log ≡ length (store_all b.replica e es).log
      as_b = ap (λ (z : ShardReplica). length (store_all z e es).log) hs.replica

      level : eqb e h.replica.epoch ≡ true
      level = eq-eqb e h.replica.epoch (own ∙ ap (λ (z : ShardReplica). z.epoch) (sym hs.replica))

      room : (r : ShardReplica) → length r.log ≡ length (store_all b.replica e es).log → overfull r ≡ false
      room r same = let z = small in le-ltb max_entries (length r.log) (omega arith)

      copy_held_lem : q.sent ≡ sent_copy → Stores (copy_held e es h)
      unfolding copy_held deed_of
      copy_held_lem kind =
          let f : deed_of q.sent (reply_stored (last_offset more)) e ≡ record_ack (last_offset more) false =
          ap (λ (u : Sent). deed_of u (reply_stored (last_offset more)) e) kind in
          rw (c.filled, level, room more as_b) (reply_stored (last_offset more), refl, stored (last_offset more) as_b f)

      module _ (d : LoneSim w q e es) where
        abbrev entry : Entry
        entry = record { epoch = e; offset = d.message.offset; op = stored_op d.message.op }

        abbrev one : ShardReplica
        one = (store h.replica e entry).replica

        only : length one.log ≡ length (store_all b.replica e es).log
        unfolding store_all
        only = ap (λ (v : Log). length (store_all h.replica e v).log) (sym d.entries) ∙ as_b

        lone-held : Stores (replicate_held e d.message.offset (stored_op d.message.op) h)
        unfolding replicate_held
        lone-held = rw (room one only) (go (store-answer h.replica e entry (eqb-true e h.replica.epoch level)))
          where
            kind : (v : Reply) → deed_of q.sent v e ≡ deed_of sent_replicate v e
            kind v = ap (λ (u : Sent). deed_of u v e) d.sent

            go : ((store h.replica e entry).answer ≡ through (last_offset one)) ⊎ ((store h.replica e entry).answer ≡ gap (last_offset one + 1))
                → (r : Reply) × (replied (reply_of (store h.replica e entry).answer) ≡ replied r) × Tells r
            go (inl v) = (
              reply_stored (last_offset one),
              ap (λ (z : Stored). replied (reply_of z)) v,
              stored (last_offset one) only (kind (reply_stored (last_offset one)) ∙ (unfold deed_of in refl)),
            )
            go (inr v) = (
              reply_gap (last_offset one + 1),
              ap (λ (z : Stored). replied (reply_of z)) v,
              gapped (last_offset one) only (kind (reply_gap (last_offset one + 1)) ∙ (unfold deed_of in refl)),
            )

    copied : CopySim w q e es → Stores (step.heard x q.sent q.bytes)
    unfolding step.heard call_copy copy_with on_copy
    copied d =
        let P : Result BackupAnswer held.Node → Type 0 = λ v. Stores v in
        subst (λ (z : Sent). P (step.heard x z q.bytes)) (sym d.sent)
        (subst (λ (o : Option message.Copied). P (copy_of (well_formed_lent x) x o)) (sym d.decoded)
        (by-test P (not (every entry_in_domain d.message.entries)) (λ y. not_both (not (every entry_in_domain d.message.entries)) y (ap not d.inside))
        (λ y. subst (λ (j : Key). P (cond (not (well_formed_lent x j)) (gives (backup_refused malformed) x) (on_copy x j d.message.epoch (map stored_entry d.message.entries)))) (sym d.key)
        (by-test P (not (well_formed_lent x w.key)) (λ u. not_both (not (well_formed_lent x w.key)) u (ap not (lent w top n x b k c.holder)))
        (λ u. subst (λ (m : ℕ). P (on_copy x w.key m (map stored_entry d.message.entries))) (sym d.epoch)
        (subst (λ (v : Log). P (on_copy x w.key e v)) (sym d.entries)
        (at_own w top n x b k P unheld (copy_held e es) c.holder (λ h is hs. copy_held_lem h is hs d.sent))))))))

    alone : LoneSim w q e es → Stores (step.heard x q.sent q.bytes)
    unfolding step.heard call_replicate replicate_with on_replicate
    alone d =
        let P : Result BackupAnswer held.Node → Type 0 = λ v. Stores v in
        let op = stored_op d.message.op in
        subst (λ (z : Sent). P (step.heard x z q.bytes)) (sym d.sent)
        (subst (λ (o : Option message.Replicated). P (replicate_of (well_formed_lent x) x o)) (sym d.decoded)
        (by-test P (not (op_in_domain d.message.op)) (λ y. not_both (not (op_in_domain d.message.op)) y (ap not d.inside))
        (λ y. subst (λ (j : Key). P (cond (not (well_formed_lent x j)) (gives (backup_refused malformed) x) (on_replicate x j d.message.epoch d.message.offset op))) (sym d.key)
        (by-test P (not (well_formed_lent x w.key)) (λ u. not_both (not (well_formed_lent x w.key)) u (ap not (lent w top n x b k c.holder)))
        (λ u. subst (λ (m : ℕ). P (on_replicate x w.key m d.message.offset op)) (sym d.epoch)
        (at_own w top n x b k P unheld (replicate_held e d.message.offset op) c.holder (λ h is hs. lone-held h is hs d)))))))

    pub stores : Stores (step.heard x q.sent q.bytes)
    stores = go c.way
      where
        go : CopySim w q e es ⊎ LoneSim w q e es → Stores (step.heard x q.sent q.bytes)
        go (inl d) = copied d
        go (inr d) = alone d

-- ---- a reply at the primary

-- the row that a recorded ack leaves
module _ (w : World) (top n : ℕ) (x : held.Node) (b : Node) (k : NodeSim w top n x b) (mine : holds n w.holders ≡ true)
    (l : Lead) (leading : b.role ≡ lead l) (e p : ℕ) (at : l.epoch ≡ e) (holder : holds p w.holders ≡ true) (ne : p ≡ n → ⊥)
    (sent : Sent) (v : Reply) (plain : bad_reply v ≡ false) (t : ℕ) (by : Bool) (deed : deed_of sent v e ≡ record_ack t by) where
  -- the row after: aligned, and no lower than what it told
  pub record Counted (y : held.Node) : Type 0 where
    pub held : Held
    pub only : y.held ≡ held ∷ []
    pub row : Peer
    pub found : find (of_node p) (held).peers ≡ some row
    pub acked : by ≡ false → t ≤ row.acked.0
    pub aligned : row.aligned ≡ true

  module _ (tied : by ≡ false → l.aligned p ≡ true) where
    last_row : (last : ℕ) (q : Peer) → q.aligned ≡ l.aligned p → (by ≡ false → t ≤ (ack_row last t by q).acked.0) × ((ack_row last t by q).aligned ≡ true)
    unfolding ack_row
    last_row last q same = ((λ z. subst (λ (y : Bool). t ≤ acked_through last t y q) (sym z) (unfold acked_through in omega arith)), go by refl)
      where
        go : (y : Bool) → by ≡ y → (q.aligned or y) ≡ true
        go true z = or_yes q.aligned
        go false z = or_no q.aligned ∙ same ∙ tied z

    at_row : (g : Held) → HeldSim w top n g b → Counted (with_held x ((ack_held e p sent v g).after ∷ []))
    unfolding ack_held do_deed ack_row
    at_row g hs =
        let c : LeadSim w top n g.role g.replica g.peers l = subst (RoleSim w top n g.role g.replica g.peers) leading hs.role in
        let led : leads_at g.role e ≡ true = ap (λ (r : role.Role). leads_at r e) c.role ∙ eq-eqb l.epoch e at in
        let r = any-find (of_node p) g.peers (c.rows.has p holder ne) in
        let f = ack_row (last_offset g.replica) t by in
        let z = last_row (last_offset g.replica) r.0 (c.rows.row p r.0 r.1).aligned in
        let is : (ack_held e p sent v g).after ≡ on_row g p f =
        rw led (ap (λ (d : Deed). (deed_at g p d (find (of_node p) g.peers)).after) deed
        ∙ ap (λ (o : Option Peer). (deed_at g p (record_ack t by) o).after) r.1) in
        record {
          held = on_row g p f;
          only = ap (λ (y : Held). y ∷ []) is;
          row = f r.0;
          found = find-update (of_node p) f g.peers r.0 (find_true (of_node p) g.peers r.0 r.1) r.1;
          acked = z.0;
          aligned = z.1;
        }

    pub counts : (bytes : List ℕ) → decode_reply bytes ≡ some v → Counted (call_ack x w.key e p sent bytes).after
    unfolding call_ack ack_with on_ack
    counts bytes decoded =
        subst (λ (o : Option Reply). Counted (ack_of (well_formed_header x) x w.key e p sent o).after) (sym decoded)
        (rw (plain, header w top n x b k)
        (at_own w top n x b k (λ y. Counted y.after) noted (ack_held e p sent v) mine (λ g is hs. at_row g hs)))
