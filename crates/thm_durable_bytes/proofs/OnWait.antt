-- Waiting for acks on a header's image is a run of `spec_run`: the wait, or nothing where it was refused or its peers had no room. Assumes nothing.
use Prim.Native.Nat.{ℕ, ◌*◌}
use mathlib.Core.Path.{◌≡◌, refl, sym, ap, subst, ◌∙◌}
use mathlib.Core.Bool.{Bool, true, false}
use mathlib.Core.List.{List, []}
use mathlib.Core.Option.{Option, none, some}
use lib.Dec.{eqb, leb}
use lib.ListN.{length, take}
use lib.Seq.{sets}
use borrow.Author.Tests.{leb-true}
use Rattle.spec.specs.Lists.{◌and◌, nth}
use Rattle.spec.specs.Refusals.{Refusal, unknown_shard, not_primary, no_lease, too_few_in_sync, undecodable, outside_domain, no_room, malformed, last_epoch, no_worker}
use Rattle.spec.specs.Layout.Format.{concat_map}
use Rattle.spec.specs.Node.Held as held
use Rattle.spec.specs.Node.Client as client
use Rattle.spec.specs.Node.Calls.{wait_with, call_wait}
use Rattle.spec.specs.declared.DataNodeId.{DataNodeId}
use Rattle.spec_laws.proofs.Lists.{and_left, and_right, not_both}
use Rattle.spec_run.specs.State.{State, Write, set_node, set_offers, set_writes}
use Rattle.spec_run.specs.Event.{node_waits}
use Rattle.spec_run.specs.Rules.{allowed}
use Rattle.spec_run.specs.Step.{waited, wait_for, on_wait, step}
use Rattle.node_shard.specs.declared.WaitAnswer.{WaitAnswer}
use Rattle.node_shard.specs.Answers.{wait_refusal, wait_word, shrink_of}
use Rattle.node_header.specs.declared.Node.{Node}
use Rattle.node_header.specs.Formed.{lent_node}
use Rattle.node_header.specs.Answers.{WaitAnswered}
use Rattle.node_header.proofs.Lists.{by_case}
use Rattle.image_header.specs.Image.{header_lent, node_at, header_written}
use Rattle.image_node.specs.State.{stores_in, state_at}
use Rattle.calls_header.specs.Waits as calls
use Rattle.calls_header.specs.Waits.{unread_wait, Left, left, id_bytes, rows_room, is_waited, wait_writes, WaitsImage}
use Rattle.thm_durable.proofs.Simulated.{Simulated, nothing}
use Rattle.thm_durable.proofs.Seen.{Beside}
use Rattle.thm_durable.proofs.Tested.{wait_as}
use Rattle.calls_parts.specs.Answer.{number_put}
use Rattle.thm_durable_bytes.specs.Cluster.{Cluster, seen, InMemory}
use Rattle.thm_durable_bytes.specs.Calls.{named, wait_said, Waits, Called}
use Rattle.thm_durable_bytes.proofs.Asked.{asked}
use Rattle.thm_durable_bytes.proofs.Named.{Answer, Ids, wait_ids, named_back}
use Rattle.thm_durable_bytes.proofs.Numbers.{Large, refusal_number}
use Rattle.thm_durable_bytes.proofs.Seen.{left-header}
use Rattle.thm_durable_bytes.proofs.Ways.{called, turned_away}

-- ---- what a refused wait leaves

module _ (s p a : List ℕ) (l : List DataNodeId) (n : Node) where
  record Quiet (w : WaitAnswer) : Type 0 where
    unwaited : is_waited w ≡ false
    number : Large (calls.wait_said w s p a l n).number
    header : (calls.wait_said w s p a l n).header ≡ s

  quiet : (r : Refusal) → Quiet (wait_refusal r)
  quiet unknown_shard = record { unwaited = refl; number = refusal_number unknown_shard; header = refl }
  quiet (not_primary e) = record { unwaited = refl; number = refusal_number (not_primary e); header = refl }
  quiet no_lease = record { unwaited = refl; number = refusal_number no_lease; header = refl }
  quiet too_few_in_sync = record { unwaited = refl; number = refusal_number too_few_in_sync; header = refl }
  quiet undecodable = record { unwaited = refl; number = refusal_number undecodable; header = refl }
  quiet outside_domain = record { unwaited = refl; number = refusal_number outside_domain; header = refl }
  quiet no_room = record { unwaited = refl; number = refusal_number no_room; header = refl }
  quiet malformed = record { unwaited = refl; number = refusal_number malformed; header = refl }
  quiet last_epoch = record { unwaited = refl; number = refusal_number last_epoch; header = refl }
  quiet no_worker = record { unwaited = refl; number = refusal_number no_worker; header = refl }

-- refused, or without room for its peers: a number that is neither 0 nor 1, and the header stays
module _ (s p a : List ℕ) (n : Node) where
  abbrev writes : client.WaitAnswer → Bool
  writes z = is_waited (wait_word z) and rows_room id_bytes 8 p a (shrink_of z)

  abbrev leaves : client.WaitAnswer → Left
  leaves z = calls.wait_said (wait_word z) s p a (shrink_of z) n

  unwritten : (z : client.WaitAnswer) → writes z ≡ false → Large (leaves z).number × ((leaves z).header ≡ s)
  unfolding ◌and◌
  unwritten (client.done l) e = rw e (refusal_number no_room, refl)
  unwritten (client.waiting l) e = rw e (refusal_number no_room, refl)
  unwritten (client.wait_refused r) e = let q = quiet s p a [] n r in (q.number, q.header)

-- ---- what the host does with the number and the peers

wait_beside : (s : State) (w : Write) (r : ℕ) (peers answer : List ℕ) → Beside s (wait_said s w r peers answer)
unfolding waited set_writes set_offers
wait_beside s w r peers answer =
    by_case (eqb r 0) (λ e. rw e (record { map = refl; nodes = refl; clients = refl }))
    (λ e.
    rw e
    (by_case (eqb r 1) (λ f. rw f (record { map = refl; nodes = refl; clients = refl })) (λ f. rw f (record { map = refl; nodes = refl; clients = refl }))))

module _ (s : State) (w : Write) where
  not_waited : (r : ℕ) (peers answer : List ℕ) → Large r → wait_said s w r peers answer ≡ s
  not_waited r peers answer h = rw h.zero (rw h.one refl)

  -- the peers are read from the outputs, where there was room for them
  back : (l : List DataNodeId) → Ids l → (p a : List ℕ) → rows_room id_bytes 8 p a l ≡ true
      → named (sets p 0 (concat_map id_bytes l)) (number_put a (length l)) ≡ l
  back l ids p a e =
      named_back l ids p a (leb-true 8 (length a) (and_left (leb 8 (length a)) _ e)) (leb-true (8 * length l) (length p) (and_right (leb 8 (length a)) _ e))

  -- so is the definition's answer
  waited_as : (z : client.WaitAnswer) → Answer z → (h p a : List ℕ) (n : Node) → writes h p a n z ≡ true → (r : ℕ) (h' q b : List ℕ)
      → left r h' q b ≡ leaves h p a n z → wait_said s w r q b ≡ waited s w z
  unfolding ◌and◌
  waited_as (client.done l) ids h p a n e r h' q b f =
      let g : left r h' q b ≡ left 0 (header_written h n) (sets p 0 (concat_map id_bytes l)) (number_put a (length l)) = rw e at f in
      ap (λ (u : Left). wait_said s w u.number u.peers u.answer) g ∙ ap (λ (ps : List DataNodeId). waited s w (client.done ps)) (back l ids p a e)
  waited_as (client.waiting l) ids h p a n e r h' q b f =
      let g : left r h' q b ≡ left 1 (header_written h n) (sets p 0 (concat_map id_bytes l)) (number_put a (length l)) = rw e at f in
      ap (λ (u : Left). wait_said s w u.number u.peers u.answer) g ∙ ap (λ (ps : List DataNodeId). waited s w (client.waiting ps)) (back l ids p a e)
  waited_as (client.wait_refused r) ids h p a n e number h' q b f =
      not_both (is_waited (wait_refusal r)) (and_left (is_waited (wait_refusal r)) _ e) (quiet h p a [] n r).unwaited

-- ---- the wait

module _ (d f : Cluster) (mem : InMemory d) (i now timeout : ℕ) (may : allowed (seen d) (node_waits i now timeout) ≡ true) where
  waits : (w : Write) → nth (seen d).accepted i ≡ some w → Waits d now timeout (some w) f → Simulated (seen d) (seen f)
  unfolding step on_wait wait_for waited seen
  waits w found c =
      let n = w.node in
      let h = d.headers n in
      let s = d.stores n in
      let st = stores_in s in
      let v = state_at h s in
      let r = c.5 in
      let x = wait_with (lent_node st (node_at h)) v now timeout w.key w.epoch w.offset in
      let y = call_wait v now timeout w.key w.epoch w.offset in
      let left_at : held.Node → State = λ (z : held.Node). set_node (seen d) n z in
      let to : seen f ≡ wait_said (left_at (state_at c.0 s)) w r c.2 c.4 =
      left-header d f n (λ z. wait_said z w r c.2 c.4) (λ z. wait_beside z w r c.2 c.4) c.0 c.7 in
      let stays : Large r → c.0 ≡ h → Simulated (seen d) (seen f) =
      λ (large : Large r) (e : c.0 ≡ h).
      turned_away client.wait_refused (seen d) n y (λ a z. waited z w a) (node_waits i now timeout) may (rw found) (λ q. nothing (seen d) (seen d) refl)
      (seen f) malformed
      (to ∙ not_waited (left_at (state_at c.0 s)) w r c.2 c.4 large ∙ ap (λ (l : List ℕ). left_at (state_at l s)) e) in
      asked (unread_wait w.key.collection now timeout) (header_lent h) r c.6
      (λ why number e. stays (subst Large (sym number) (refusal_number why)) e.0)
      (λ (g : WaitsImage h c.0 c.1 c.2 c.3 c.4 w.key.collection w.key.shard w.epoch w.offset now timeout r).
      let t = g.after in
      let ps = take t.shrink.count t.shrink.items in
      let word : t.answer ≡ wait_word x.answer = ap (λ (u : WaitAnswered). u.answer) (g.call st) in
      let peers : ps ≡ shrink_of x.answer = ap (λ (u : WaitAnswered). u.shrink) (g.call st) in
      let test : wait_writes c.1 c.3 t ≡ writes h c.1 c.3 t.node x.answer =
      ap (λ (u : WaitAnswer). is_waited u and rows_room id_bytes 8 c.1 c.3 ps) word
      ∙ ap (λ (l : List DataNodeId). is_waited (wait_word x.answer) and rows_room id_bytes 8 c.1 c.3 l) peers in
      let buffers : left r c.0 c.2 c.4 ≡ leaves h c.1 c.3 t.node x.answer =
      g.buffers
      ∙ ap (λ (u : WaitAnswer). calls.wait_said u h c.1 c.3 ps t.node) word
      ∙ ap (λ (l : List DataNodeId). calls.wait_said (wait_word x.answer) h c.1 c.3 l t.node) peers in
      by_case (wait_writes c.1 c.3 t)
      (λ e.
      called client.wait_refused (seen d) n y (λ a z. waited z w a) (node_waits i now timeout) may (rw found) (λ q. nothing (seen d) (seen d) refl)
      (seen f) x (wait_as st (node_at h) now timeout w.key w.epoch w.offset)
      (to
      ∙ ap (λ (z : held.Node). wait_said (left_at z) w r c.2 c.4) ((g.leaves e).read st)
      ∙ waited_as (left_at x.after) w x.answer
      (wait_ids h (mem.headers n) st (lent_node st (node_at h)) now timeout w.key w.epoch w.offset)
      h c.1 c.3 t.node (sym test ∙ e) r c.0 c.2 c.4 buffers))
      (λ e.
      let q = unwritten h c.1 c.3 t.node x.answer (sym test ∙ e) in
      stays (subst Large (sym (ap (λ (u : Left). u.number) buffers)) q.0) (ap (λ (u : Left). u.header) buffers ∙ q.1)))

  pub on_wait_lem : Called d (node_waits i now timeout) f → Simulated (seen d) (seen f)
  unfolding Called seen
  on_wait_lem c = go (nth d.accepted i) refl c
    where
      go : (o : Option Write) → nth d.accepted i ≡ o → Waits d now timeout o f → Simulated (seen d) (seen f)
      go none q c = nothing (seen d) (seen f) (sym (ap seen c))
      go (some w) q c = waits w q c
