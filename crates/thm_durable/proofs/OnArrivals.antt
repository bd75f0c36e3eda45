-- The calls of a request that arrives (Replicate, NewEpoch, CopyShard), which are lent a store too, are runs of `spec_run`. Assumes nothing.
use Prim.Native.Nat.{ℕ}
use mathlib.Core.Path.{◌≡◌, refl, sym, ap, ◌∙◌}
use mathlib.Core.Bool.{Bool, true}
use mathlib.Core.List.{List}
use mathlib.Core.Option.{Option, none, some}
use Rattle.spec.specs.Keys.{Key}
use Rattle.spec.specs.Lists.{nth}
use Rattle.spec.specs.Layout.Message.{reply_stored, reply_gap, reply_stale, reply_adopted}
use Rattle.spec.specs.Node.Held as held
use Rattle.spec.specs.Node.Shards.{Result}
use Rattle.spec.specs.Node.Backup.{BackupAnswer, replied, backup_refused}
use Rattle.spec.specs.Node.Ack.{Sent, sent_align, sent_replicate, sent_copy}
use Rattle.spec.specs.Node.Calls.{replicate_with, new_epoch_with, copy_with}
use Rattle.spec_run.specs.State.{State, Request, at, set_node, set_requests, set_replies}
use Rattle.spec_run.specs.Event.{request_arrives, request_lost}
use Rattle.spec_run.specs.Rules.{allowed}
use Rattle.spec_run.specs.Step.{removed, heard, answered, arrives, on_arrival, on_request_lost, step}
use Rattle.node_header.specs.declared.Node.{Node}
use Rattle.node_header.specs.View.{view_node}
use Rattle.node_header.specs.Answers.{Answered, answered_as}
use Rattle.node_lent.specs.Lend.{LentStore, lent_for}
use Rattle.node_replicate.specs.declared.PeerAnswer.{PeerAnswer}
use Rattle.node_replicate.specs.declared.PeerReply.{PeerReply}
use Rattle.node_replicate.specs.declared.PeerReply.TheVariants as R
use Rattle.node_replicate.specs.Peers.{word, view_peer}
use Rattle.thm_durable.specs.Engine.{Engine, stores_of, seen}
use Rattle.thm_durable.specs.Calls.{peer_said, Hears, Arrives, Called}
use Rattle.thm_durable.proofs.Simulated.{Simulated, nothing, one}
use Rattle.thm_durable.proofs.Seen.{stores_lend, stores-change, Beside, given-store}
use Rattle.thm_durable.proofs.Ways.{As, called}
use Rattle.thm_durable.proofs.Lent.{lent-well}
use Rattle.thm_durable.proofs.Tested.{replicate_as, new_epoch_as, copy_as}

-- ---- requests that arrive

peer-beside : (s : State) (from to : ℕ) (q : Request) (a : PeerReply) → Beside s (peer_said s from to q a)
unfolding answered set_replies
peer-beside s from to q (R.Stored o) = record { map = refl; nodes = refl; clients = refl }
peer-beside s from to q (R.Gap o) = record { map = refl; nodes = refl; clients = refl }
peer-beside s from to q (R.StaleEpoch e) = record { map = refl; nodes = refl; clients = refl }
peer-beside s from to q (R.Adopted o) = record { map = refl; nodes = refl; clients = refl }
peer-beside s from to q (R.Refused r) = record { map = refl; nodes = refl; clients = refl }

peer-said : (s : State) (from to : ℕ) (q : Request) (a : BackupAnswer) → peer_said s from to q (word a) ≡ answered s from to q a
unfolding answered
peer-said s from to q (replied (reply_stored o)) = refl
peer-said s from to q (replied (reply_gap o)) = refl
peer-said s from to q (replied (reply_stale e)) = refl
peer-said s from to q (replied (reply_adopted o)) = refl
peer-said s from to q (backup_refused r) = refl

-- the contract of the call of a request's kind: the definition's call, or refused
module _ (l : ℕ → LentStore) (n : Node) (slot : ℕ) (b : LentStore) (m : List ℕ) (r : PeerAnswer) where
  abbrev v : held.Node
  v = view_node (stores_of l) n

  abbrev lent : Key → Bool
  lent = lent_for (stores_of l) n (l slot)

  pub record Heard (sent : Sent) : Type 0 where
    pub result : Result BackupAnswer held.Node
    pub told : view_peer (stores_of (at l slot b)) r ≡ answered_as word result
    pub way : As backup_refused v result (heard v sent m)

  hears_as : (sent : Sent) → Hears sent n slot (l slot) b m r → Heard sent
  unfolding heard
  hears_as sent_align c = record {
    result = new_epoch_with lent v m;
    told = c.1.same (stores_of l) (stores_of (at l slot b)) slot c.0 (stores-change l slot b);
    way = new_epoch_as v lent m (λ z d. lent-well (stores_of l) slot (l slot) n z.key (stores_lend l slot) (c.0 z d));
  }
  hears_as sent_replicate c = record {
    result = replicate_with lent v m;
    told = c.1.same (stores_of l) (stores_of (at l slot b)) slot c.0 (stores-change l slot b);
    way = replicate_as v lent m (λ z d. lent-well (stores_of l) slot (l slot) n z.key (stores_lend l slot) (c.0 z d));
  }
  hears_as sent_copy c = record {
    result = copy_with lent v m;
    told = c.1.same (stores_of l) (stores_of (at l slot b)) slot c.0 (stores-change l slot b);
    way = copy_as v lent m (λ z d. lent-well (stores_of l) slot (l slot) n z.key (stores_lend l slot) (c.0 z d));
  }

module _ (e f : Engine) (from to i : ℕ) (may : allowed (seen e) (request_arrives from to i) ≡ true) where
  abbrev gone : State → State
  gone x = set_requests x from to (removed (x.requests from to) i)

  arrived : (q : Request) → nth ((seen e).requests from to) i ≡ some q → Arrives e from to i (some q) f → Simulated (seen e) (seen f)
  unfolding step on_arrival on_request_lost arrives answered seen set_requests set_node allowed
  arrived q found c =
      let slot = c.0 in
      let b = c.1 in
      let r = c.2 in
      let h = hears_as (e.lent_stores to) (e.nodes to) slot b q.bytes r q.sent c.3 in
      let z = h.result in
      let x = view_node (stores_of (e.lent_stores to)) (e.nodes to) in
      called backup_refused e f to z (heard x q.sent q.bytes) (λ a s. answered (gone s) from to q a)
      (given-store e f to r.node slot b (λ s. peer_said (gone s) from to q r.answer)
      (λ s. let d = peer-beside (gone s) from to q r.answer in record { map = d.map; nodes = d.nodes; clients = d.clients }) c.4
      ∙ ap (λ (u : Answered PeerReply). peer_said (gone (set_node (seen e) to u.node)) from to q u.answer) h.told
      ∙ peer-said (gone (set_node (seen e) to z.after)) from to q z.answer)
      h.way (request_arrives from to i) may (rw found)
      (λ r. one (seen e) (gone (seen e)) (request_lost from to i) refl refl)

  pub on-arrival : Called e (request_arrives from to i) f → Simulated (seen e) (seen f)
  unfolding Called seen
  on-arrival c = go (nth (e.requests from to) i) refl c
    where
      go : (o : Option Request) → nth (e.requests from to) i ≡ o → Arrives e from to i o f → Simulated (seen e) (seen f)
      go none q c = nothing (seen e) (seen f) (sym (ap seen c))
      go (some w) q c = arrived w q c
