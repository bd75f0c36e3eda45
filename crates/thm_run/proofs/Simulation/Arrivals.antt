-- Paper 01, 'Rules of a run', 'Messages': a request arrives. It is heard in the protocol, unless the call refuses it, and leaves its link.
-- Assumes nothing.
use Prim.Native.Nat.{ℕ, ◌+◌, ◌-◌, ◌≤◌}
use mathlib.Core.Path.{◌≡◌, refl, sym, ap, ◌∙◌, subst}
use mathlib.Core.Bool.{Bool, true, false, cond, not}
use mathlib.Core.Logic.{◌⊎◌, inl, inr}
use mathlib.Core.List.{List, [], ◌∷◌, ◌++◌, map}
use mathlib.Core.Option.{Option, none, some}
use native.Mathlib.Omega.{arith}
use lib.Dec.{eqb, ltb}
use lib.ListN.{length}
use borrow.Author.Tests.{eqb-true, eqb-false, ltb-false, le-leb}
use Rattle.spec.specs.Keys.{Key}
use Rattle.spec.specs.Limits.{max_entries, max_name}
use Rattle.spec.specs.Lists.{nth, every}
use Rattle.spec.specs.Log.{Entry, Log, End, ShardReplica, Stored, through, gap, StoreResult, store, store_all, cut_to, last_offset}
use Rattle.spec.specs.Log as log
use Rattle.spec.specs.Refusals.{Refusal}
use Rattle.spec.specs.Map.WellFormed.{name_fits}
use Rattle.spec.specs.Layout.Message as message
use Rattle.spec.specs.Layout.Message.{Reply, reply_stored, reply_gap, reply_stale, reply_adopted, encode_reply}
use Rattle.spec.specs.Layout.Writable.{GoodReply}
use Rattle.spec.specs.Node.Held as held
use Rattle.spec.specs.Node.Held.{Held}
use Rattle.spec.specs.Node.Shards.{Result, gives, with_held, with_replica, demoted}
use Rattle.spec.specs.Node.Wire.{entry_in_domain, stored_entry, op_in_domain, stored_op}
use Rattle.spec.specs.Node.Client.{overfull}
use Rattle.spec.specs.Node.Backup.{BackupAnswer, replied, backup_refused, unheld, leads_from, new_epoch_held, new_epoch_at, on_new_epoch, is_empty, copy_held, on_copy, reply_of, replicate_held, on_replicate}
use Rattle.spec.specs.Node.Ack.{Sent, sent_align, sent_replicate, sent_copy, deed_of}
use Rattle.spec.specs.Node.Calls.{new_epoch_of, new_epoch_with, call_new_epoch, copy_of, copy_with, call_copy, replicate_of, replicate_with, call_replicate}
use Rattle.spec.specs.Node.WellFormed.{well_formed_lent, well_formed_entry, well_formed_op}
use Rattle.spec.specs.declared.Peer.{Peer}
use Rattle.spec.specs.declared.Role as role
use Rattle.spec_laws.proofs.Lists.{by-test, not_both}
use Rattle.spec_laws.proofs.Wire.Messages.{reply-back}
use Rattle.spec_laws.proofs.Log.Keep.{keep-length}
use Rattle.spec_laws.proofs.Log.Store.{store_other, store-answer}
use Rattle.spec_laws.proofs.Lists.{nth_last}
use Rattle.spec_laws.proofs.Map.Rows.{every_tail}
use Rattle.spec_laws.proofs.Node.Shards.{by_both}
use Rattle.spec_laws.proofs.Node.Formed.{FormedNode}
use Rattle.spec_laws.proofs.Node.Kept.{new_epoch_kept, copy_kept, replicate_kept}
use Rattle.spec_run.specs.State as real
use Rattle.spec_run.specs.Step as step
use Rattle.thm_run.proofs.Protocol.Base.{all_snoc, all-nth}
use Rattle.thm_run.proofs.Protocol.State as proto
use Rattle.thm_run.proofs.Protocol.State.{Role, lead, Node, Request, align, send, Answer, adopts, stores, stale_align, stale_send, State, arrival}
use Rattle.thm_run.proofs.Simulation.Lists.{all-removed}
use Rattle.thm_run.proofs.Simulation.Relation.{World, RoleSim, HeldSim, NodeSim, AlignSim, CopySim, LoneSim, SendSim, RequestSim, RequestAt, LogFits, ReplySim, deed_for, Sim}
use Rattle.thm_run.proofs.Simulation.Frame.{Gently, rests, gently, on-node, on-nodes, on_requests, on-answer, on-replies}
use Rattle.thm_run.proofs.Simulation.Logs.{role_store, fits-store, fits-adopted}
use Rattle.thm_run.proofs.Simulation.AtNode.{at_own, node-with, shard-found, held_facts}
use Rattle.thm_run.proofs.Simulation.Commands.{u64_of}

-- the primary's test, on either side
leads-from : (w : World) (top n : ℕ) (r : role.Role) (s : ShardReplica) (ps : List Peer) (b : Role) → RoleSim w top n r s ps b → (e : ℕ)
    → leads_from r e ≡ proto.leads_from b e
unfolding proto.leads_from
leads-from w top n r s ps proto.backup k e = ap (λ (v : role.Role). leads_from v e) k
leads-from w top n r s ps (lead l) k e = ap (λ (v : role.Role). leads_from v e) k.role

module _ (w : World) (s : real.State) (a : State) (k : Sim w s a) (from to : ℕ) (i place : ℕ) (q : real.Request)
    (mine : q.key ≡ w.key) where
  abbrev x : held.Node
  x = s.nodes to

  abbrev b : Node
  b = a.nodes to

  abbrev top : ℕ
  top = a.map.epoch

  abbrev rest : List real.Request
  rest = step.removed (s.requests from to) i

  abbrev next : held.Node → real.State
  next y = real.set_requests (real.set_node s to y) from to rest

  -- what the call answered, and the node it left
  abbrev Goal : Result BackupAnswer held.Node → Type 0
  Goal v = Gently w (step.answered (next v.after) from to q v.answer) a

  -- the others stay under way
  leaves : (y : held.Node) (a₁ : State) → Sim w (real.set_node s to y) a₁ → Sim w (next y) a₁
  unfolding real.set_node
  leaves y a₁ k₁ =
      on_requests w (real.set_node s to y) a₁ k₁ from to rest
      (all-removed (RequestAt w to (a₁.requests from to)) (s.requests from to) i (k₁.requests from to))

  -- a refusal is a loss
  refused : (why : Refusal) (y : held.Node) → NodeSim w top to y b → Goal (gives (backup_refused why) y)
  unfolding step.answered
  refused why y h = rests w _ a (leaves y a (on-node w s a k to y h))

  -- an answer goes back, from the protocol's state a₁
  answers : (y : held.Node) (a₁ : State) → Sim w (real.set_node s to y) a₁ → (v : Reply) (c : Answer) → GoodReply v
      → ((e : ℕ) → deed_of q.sent v e ≡ deed_for w c e) → proto.step a (arrival from to place) ≡ proto.replied a₁ from to q.epoch c
      → Goal (gives (replied v) y)
  unfolding step.answered proto.replied proto.add_reply real.set_replies real.set_requests real.set_node
  answers y a₁ k₁ v c good deed moved =
      let s₁ : real.State = next y in
      let r : proto.Reply = record { node = from; peer = to; epoch = q.epoch; answer = c } in
      let a₂ : State = proto.add_reply a₁ r in
      let k₂ = on-answer w s₁ a₁ (leaves y a₁ k₁) r in
      let q₂ : real.Reply = record { node = from; peer = to; sent = q.sent; key = q.key; epoch = q.epoch; bytes = encode_reply v } in
      let new : ReplySim w (a₁.replies ++ (r ∷ [])) q₂ = record {
        place = length a₁.replies;
        answer = c;
        found = nth_last a₁.replies r;
        key = mine;
        message = v;
        decoded = reply-back v good;
        deed = deed;
      } in
      let k₃ = on-replies w s₁ a₂ k₂ (s.replies ++ (q₂ ∷ [])) (all_snoc (ReplySim w (a₁.replies ++ (r ∷ []))) s.replies q₂ k₂.replies new) in
      gently w _ a (arrival from to place) tt (subst (Sim w _) (sym moved) k₃)

  -- the protocol hears its request
  hears : (r : Request) → nth (a.requests from to) place ≡ some r → proto.step a (arrival from to place) ≡ proto.hear_one a from to b r
  unfolding proto.step proto.on_hear proto.hear_as
  hears r e = ap (proto.hear_as a from to) e

  -- ---- NewEpoch

  module _ (e end : ℕ) (t : List End) (head : nth (a.requests from to) place ≡ some (align e end t)) (c : AlignSim w to q e end t) where
    module _ (h : Held) (is : x.held ≡ h ∷ []) (hs : HeldSim w top to h b) where
      abbrev AfterHeld : Result BackupAnswer Held → Type 0
      AfterHeld v = FormedNode (with_held x (v.after ∷ [])) → Goal (gives v.answer (with_held x (v.after ∷ [])))

      -- what the protocol makes of it, by the same tests
      abbrev adopts_as : ShardReplica → (d : ℕ) → State
      adopts_as r d = proto.replied (proto.set_node a to (record { replica = r; role = proto.backup })) from to d (adopts (last_offset r))

      heard : proto.step a (arrival from to place)
          ≡ cond (leads_from h.role e) (proto.replied a from to q.epoch (stale_align h.replica.epoch))
          (cond (ltb e h.replica.epoch) (proto.replied a from to q.epoch (stale_align h.replica.epoch))
          (cond (eqb e h.replica.epoch) (adopts_as h.replica q.epoch) (adopts_as (cut_to h.replica e end t) q.epoch)))
      unfolding proto.hear_one proto.adopting proto.with_role
      heard =
          let F : ShardReplica → Bool → ℕ → State = λ r f d.
          cond f (proto.replied a from to d (stale_align r.epoch))
          (cond (ltb e r.epoch) (proto.replied a from to d (stale_align r.epoch))
          (cond (eqb e r.epoch) (adopts_as r d) (adopts_as (cut_to r e end t) d))) in
          hears (align e end t) head
          ∙ ap (λ (f : Bool). F b.replica f e) (sym (leads-from w top to h.role h.replica h.peers b.role hs.role e))
          ∙ ap (λ (r : ShardReplica). F r (leads_from h.role e) e) (sym hs.replica)
          ∙ ap (λ (d : ℕ). F h.replica (leads_from h.role e) d) (sym c.epoch)

      told : (v : Reply) (d : Answer) → ((z : ℕ) → deed_of sent_align v z ≡ deed_for w d z) → (z : ℕ) → deed_of q.sent v z ≡ deed_for w d z
      told v d f z = ap (λ (u : Sent). deed_of u v z) c.sent ∙ f z

      old : proto.step a (arrival from to place) ≡ proto.replied a from to q.epoch (stale_align h.replica.epoch)
          → AfterHeld (gives (replied (reply_stale h.replica.epoch)) h)
      unfolding deed_of
      old moved f =
          answers (with_held x (h ∷ [])) a (on-node w s a k to (with_held x (h ∷ [])) (node-with w top to x b (k.nodes to) b h c.holder f hs))
          (reply_stale h.replica.epoch) (stale_align h.replica.epoch) (u64_of h.replica.epoch hs.fits.epoch)
          (told (reply_stale h.replica.epoch) (stale_align h.replica.epoch) (λ z. refl)) moved

      new : (r : ShardReplica) → LogFits w r → last_offset r ≤ last_offset h.replica
          → proto.step a (arrival from to place) ≡ adopts_as r q.epoch
          → AfterHeld (gives (replied (reply_adopted (last_offset r))) (demoted (with_replica h r)))
      unfolding deed_of
      new r fits less moved f =
          let b₁ : Node = record { replica = r; role = proto.backup } in
          let hs₁ : HeldSim w top to (demoted (with_replica h r)) b₁ = record {
            key = hs.key;
            holders = hs.holders;
            replica = refl;
            fits = fits;
            role = refl;
          } in
          answers _ (proto.set_node a to b₁)
          (on-nodes w s a k to _ b₁ (node-with w top to x b (k.nodes to) b₁ (demoted (with_replica h r)) c.holder f hs₁))
          (reply_adopted (last_offset r)) (adopts (last_offset r)) (let m = (held_facts w top to x b (k.nodes to) h is).log in omega arith)
          (told (reply_adopted (last_offset r)) (adopts (last_offset r)) (λ z. refl)) moved

      less : last_offset (cut_to h.replica e end t) ≤ last_offset h.replica
      unfolding cut_to
      less = keep-length end t h.replica.log

      at_held : AfterHeld (new_epoch_held e end t h)
      unfolding new_epoch_held log.adopted
      at_held =
          by_both (λ (v : Result BackupAnswer Held) (z : State). proto.step a (arrival from to place) ≡ z → AfterHeld v) (leads_from h.role e)
          (λ p moved. old moved)
          (λ p. by_both (λ (v : Result BackupAnswer Held) (z : State). proto.step a (arrival from to place) ≡ z → AfterHeld v) (ltb e h.replica.epoch)
          (λ u moved. old moved)
          (λ u. by_both (λ (r : ShardReplica) (z : State). proto.step a (arrival from to place) ≡ z → AfterHeld (gives (replied (reply_adopted (last_offset r))) (demoted (with_replica h r))))
          (eqb e h.replica.epoch) (λ v moved. new h.replica hs.fits (omega arith) moved)
          (λ v moved. new (cut_to h.replica e end t) (fits-adopted w h.replica e end t (ltb-false e h.replica.epoch u) c.upto hs.fits) less moved)))
          heard

    pub aligned : Goal (step.heard x q.sent q.bytes)
    unfolding step.heard call_new_epoch new_epoch_with on_new_epoch
    aligned =
        let h = (k.nodes to).here c.holder in
        let fits : name_fits w.key.collection ≡ true = le-leb (length w.key.collection) max_name w.good_key.0.0 in
        subst (λ (z : Sent). Goal (step.heard x z q.bytes)) (sym c.sent)
        (subst (λ (o : Option message.NewEpoch). Goal (new_epoch_of (well_formed_lent x) x o)) (sym c.decoded)
        (by-test Goal (not (well_formed_lent x w.key)) (λ p. refused _ x (k.nodes to))
        (λ p. subst (λ (o : Option Held). FormedNode (new_epoch_at x w.key e end t c.metric o).after
        → Goal (new_epoch_at x w.key e end t c.metric o))
        (sym (shard-found w top to x b (k.nodes to) h.0 h.1 h.2))
        (at_own w top to x b (k.nodes to) (λ v. FormedNode v.after → Goal v) unheld (new_epoch_held e end t) c.holder (λ h is hs. at_held h is hs))
        (new_epoch_kept x w.key e end t c.metric fits (k.nodes to).formed))))

  -- ---- Replicate and CopyShard

  module _ (e : ℕ) (es : Log) (head : nth (a.requests from to) place ≡ some (send e es)) (c : SendSim w to q e es) where
    module _ (h : Held) (is : x.held ≡ h ∷ []) (hs : HeldSim w top to h b) where
      abbrev own : ℕ
      own = h.replica.epoch

      abbrev more : ShardReplica
      more = store_all h.replica e es

      abbrev AfterSend : Result BackupAnswer Held → Type 0
      AfterSend v = FormedNode (with_held x (v.after ∷ [])) → Goal (gives v.answer (with_held x (v.after ∷ [])))

      -- what the protocol makes of it
      sent : proto.step a (arrival from to place)
          ≡ cond (eqb e own) (proto.replied (proto.set_node a to (record { replica = more; role = b.role })) from to q.epoch
          (stores (last_offset more)))
          (proto.replied a from to q.epoch (stale_send own))
      unfolding proto.hear_one proto.storing
      sent =
          let F : ShardReplica → ℕ → State = λ r d.
          cond (eqb e r.epoch)
          (proto.replied (proto.set_node a to (record { replica = store_all r e es; role = b.role })) from to d (stores (last_offset (store_all r e es))))
          (proto.replied a from to d (stale_send r.epoch)) in
          hears (send e es) head ∙ ap (λ (r : ShardReplica). F r e) (sym hs.replica) ∙ ap (λ (d : ℕ). F h.replica d) (sym c.epoch)

      turned : (why : Refusal) → AfterSend (gives (backup_refused why) h)
      turned why f = refused why (with_held x (h ∷ [])) (node-with w top to x b (k.nodes to) b h c.holder f hs)

      other : eqb e own ≡ false → ((z : ℕ) → deed_of q.sent (reply_stale own) z ≡ deed_for w (stale_send own) z)
          → AfterSend (gives (replied (reply_stale own)) h)
      other u deed f =
          answers (with_held x (h ∷ [])) a (on-node w s a k to (with_held x (h ∷ [])) (node-with w top to x b (k.nodes to) b h c.holder f hs))
          (reply_stale own) (stale_send own) (u64_of own hs.fits.epoch) deed (sent ∙ rw u)

      held_more : HeldSim w top to (with_replica h more) (record { replica = more; role = b.role })
      held_more = record {
        key = hs.key;
        holders = hs.holders;
        replica = refl;
        fits = fits-store w h.replica e es c.fits hs.fits;
        role = role_store w top to h.role h.peers h.replica e es b.role hs.role;
      }

      stored : eqb e own ≡ true → (v : Reply) → GoodReply v → ((z : ℕ) → deed_of q.sent v z ≡ deed_for w (stores (last_offset more)) z)
          → AfterSend (gives (replied v) (with_replica h more))
      stored u v good deed f =
          let b₁ : Node = record { replica = more; role = b.role } in
          answers _ (proto.set_node a to b₁)
          (on-nodes w s a k to _ b₁ (node-with w top to x b (k.nodes to) b₁ (with_replica h more) c.holder f held_more))
          v (stores (last_offset more)) good deed (sent ∙ rw u)

      fitting : (r : ShardReplica) → overfull r ≡ false → last_offset r ≤ max_entries
      fitting r u = ltb-false max_entries (last_offset r) u

      -- CopyShard
      module _ (kind : q.sent ≡ sent_copy) where
        told_copy : (v : Reply) (d : Answer) → ((z : ℕ) → deed_of sent_copy v z ≡ deed_for w d z) → (z : ℕ) → deed_of q.sent v z ≡ deed_for w d z
        told_copy v d f z = ap (λ (u : Sent). deed_of u v z) kind ∙ f z

        copy_held_lem : AfterSend (copy_held e es h)
        unfolding copy_held deed_of
        copy_held_lem =
            by-test AfterSend (is_empty es) (λ p. not_both (is_empty es) p c.filled)
            (λ p. by-test AfterSend (eqb e own)
            (λ u. by-test AfterSend (overfull more) (λ v. turned _)
            (λ v. stored u (reply_stored (last_offset more)) (let z = fitting more v in omega arith)
            (told_copy (reply_stored (last_offset more)) (stores (last_offset more)) (λ z. refl))))
            (λ u. other u (told_copy (reply_stale own) (stale_send own) (λ z. refl))))

      -- Replicate
      module _ (d : LoneSim w q e es) where
        abbrev entry : Entry
        entry = record { epoch = e; offset = d.message.offset; op = stored_op d.message.op }

        abbrev one : ShardReplica
        one = (store h.replica e entry).replica

        only : more ≡ one
        unfolding store_all
        only = ap (store_all h.replica e) d.entries

        told_lone : (v : Reply) (n : Answer) → ((z : ℕ) → deed_of sent_replicate v z ≡ deed_for w n z) → (z : ℕ) → deed_of q.sent v z ≡ deed_for w n z
        told_lone v n f z = ap (λ (u : Sent). deed_of u v z) d.sent ∙ f z

        -- stored, with the answer as its length says
        said : eqb e own ≡ true → overfull one ≡ false
            → ((store h.replica e entry).answer ≡ through (last_offset one)) ⊎ ((store h.replica e entry).answer ≡ gap (last_offset one + 1))
            → AfterSend (gives (replied (reply_of (store h.replica e entry).answer)) (with_replica h one))
        unfolding deed_of
        said u small (inl v) =
            subst (λ (z : Stored). AfterSend (gives (replied (reply_of z)) (with_replica h one))) (sym v)
            (subst (λ (r : ShardReplica). AfterSend (gives (replied (reply_stored (last_offset one))) (with_replica h r))) only
            (stored u (reply_stored (last_offset one)) (let z = fitting one small in omega arith)
            (told_lone (reply_stored (last_offset one)) (stores (last_offset more))
            (λ z. ap (λ (r : ShardReplica). deed_for w (stores (last_offset r)) z) (sym only)))))
        said u small (inr v) =
            subst (λ (z : Stored). AfterSend (gives (replied (reply_of z)) (with_replica h one))) (sym v)
            (subst (λ (r : ShardReplica). AfterSend (gives (replied (reply_gap (last_offset one + 1))) (with_replica h r))) only
            (stored u (reply_gap (last_offset one + 1)) (let z = fitting one small in omega arith)
            (told_lone (reply_gap (last_offset one + 1)) (stores (last_offset more))
            (λ z. let less : last_offset one + 1 - 1 ≡ last_offset one = omega arith in
            ap (λ (n : ℕ). deed_for w (stores n) z) (less ∙ ap last_offset (sym only))))))

        lone-held : AfterSend (replicate_held e d.message.offset (stored_op d.message.op) h)
        unfolding replicate_held deed_of
        lone-held =
            by-test AfterSend (overfull one) (λ v. turned _)
            (λ v. go (eqb e own) refl v)
          where
            go : (t : Bool) → eqb e own ≡ t → overfull one ≡ false
                → AfterSend (gives (replied (reply_of (store h.replica e entry).answer)) (with_replica h one))
            go true t v = said t v (store-answer h.replica e entry (eqb-true e own t))
            go false t v =
                subst (λ (z : StoreResult). AfterSend (gives (replied (reply_of z.answer)) (with_replica h z.replica)))
                (sym (store_other h.replica e entry (eqb-false e own t)))
                (other t (told_lone (reply_stale own) (stale_send own) (λ z. refl)))

    copied : CopySim w q e es → Goal (step.heard x q.sent q.bytes)
    unfolding step.heard call_copy copy_with on_copy
    copied d =
        let P : Result BackupAnswer held.Node → Type 0 = λ v. FormedNode v.after → Goal v in
        subst (λ (z : Sent). Goal (step.heard x z q.bytes)) (sym d.sent)
        (subst (λ (o : Option message.Copied). Goal (copy_of (well_formed_lent x) x o)) (sym d.decoded)
        (by-test Goal (not (every entry_in_domain d.message.entries)) (λ p. refused _ x (k.nodes to))
        (λ p. by-test Goal (not (well_formed_lent x d.message.key)) (λ u. refused _ x (k.nodes to))
        (λ u. subst (λ (j : Key). Goal (on_copy x j d.message.epoch (map stored_entry d.message.entries))) (sym d.key)
        (subst (λ (n : ℕ). Goal (on_copy x w.key n (map stored_entry d.message.entries))) (sym d.epoch)
        (subst (λ (v : Log). Goal (on_copy x w.key e v)) (sym d.entries)
        (at_own w top to x b (k.nodes to) P unheld (copy_held e es) c.holder (λ h is hs. copy_held_lem h is hs d.sent)
        (copy_kept x w.key e es c.formed (k.nodes to).formed))))))))

    alone : LoneSim w q e es → Goal (step.heard x q.sent q.bytes)
    unfolding step.heard call_replicate replicate_with on_replicate
    alone d =
        let P : Result BackupAnswer held.Node → Type 0 = λ v. FormedNode v.after → Goal v in
        let op = stored_op d.message.op in
        let formed : well_formed_op op ≡ true =
        (every_tail well_formed_entry (record { epoch = e; offset = d.message.offset; op = op }) []
        (subst (λ (v : Log). every well_formed_entry v ≡ true) d.entries c.formed)).0 in
        subst (λ (z : Sent). Goal (step.heard x z q.bytes)) (sym d.sent)
        (subst (λ (o : Option message.Replicated). Goal (replicate_of (well_formed_lent x) x o)) (sym d.decoded)
        (by-test Goal (not (op_in_domain d.message.op)) (λ p. refused _ x (k.nodes to))
        (λ p. by-test Goal (not (well_formed_lent x d.message.key)) (λ u. refused _ x (k.nodes to))
        (λ u. subst (λ (j : Key). Goal (on_replicate x j d.message.epoch d.message.offset op)) (sym d.key)
        (subst (λ (n : ℕ). Goal (on_replicate x w.key n d.message.offset op)) (sym d.epoch)
        (at_own w top to x b (k.nodes to) P unheld (replicate_held e d.message.offset op) c.holder (λ h is hs. lone-held h is hs d)
        (replicate_kept x w.key e d.message.offset op formed (k.nodes to).formed)))))))

    pub sends : Goal (step.heard x q.sent q.bytes)
    sends = go c.way
      where
        go : CopySim w q e es ⊎ LoneSim w q e es → Goal (step.heard x q.sent q.bytes)
        go (inl d) = copied d
        go (inr d) = alone d

pub on-arrival : (w : World) (s : real.State) (a : State) → Sim w s a → (from to i : ℕ) → Gently w (step.on_arrival s from to i) a
unfolding step.on_arrival step.arrives
on-arrival w s a k from to i = go (nth (s.requests from to) i) refl
  where
    hear : (q : real.Request) (place : ℕ) (r : Request) → nth (a.requests from to) place ≡ some r → RequestSim w to q r
        → Gently w (step.arrives s from to i (some q)) a
    hear q place (align d end t) found c = aligned w s a k from to i place q c.key d end t found c
    hear q place (send d es) found c = sends w s a k from to i place q c.key d es found c

    go : (o : Option real.Request) → nth (s.requests from to) i ≡ o → Gently w (step.arrives s from to i o) a
    go none e = rests w _ a k
    go (some q) e =
        let h = all-nth (RequestAt w to (a.requests from to)) (s.requests from to) i q (k.requests from to) e in
        hear q h.place h.request h.found h.like
