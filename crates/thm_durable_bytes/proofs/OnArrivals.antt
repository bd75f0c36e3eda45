-- A request that arrives (NewEpoch, Replicate, CopyShard) is a run of `spec_run`: its call, or its loss where the call was refused or its reply had
-- no room. Assumes nothing.
use Prim.Native.Nat.{ℕ}
use mathlib.Core.Path.{◌≡◌, refl, sym, ap, ◌∙◌}
use mathlib.Core.Bool.{true, false}
use mathlib.Core.List.{List}
use mathlib.Core.Option.{Option, none, some}
use lib.Dec.{eqb}
use lib.ListN.{take}
use Rattle.spec.specs.Lists.{every, nth}
use Rattle.spec.specs.Refusals.{malformed}
use Rattle.spec.specs.Layout.Format.{Bytes}
use Rattle.spec.specs.Layout.Message.{
  Replicated,
  decode_replicate,
  NewEpoch,
  decode_new_epoch,
  Copied,
  decode_copy_shard,
  Reply,
  encode_reply,
}
use Rattle.spec.specs.Node.Held as held
use Rattle.spec.specs.Node.Shards.{Result}
use Rattle.spec.specs.Node.Backup.{BackupAnswer, replied, backup_refused}
use Rattle.spec.specs.Node.Ack.{Sent, sent_align, sent_replicate, sent_copy}
use Rattle.spec.specs.Node.Wire.{op_in_domain, entry_in_domain}
use Rattle.spec.specs.Node.Calls.{call_replicate, call_new_epoch, call_copy}
use Rattle.spec_laws.proofs.Lists.{some_same}
use Rattle.spec_retained.proofs.Lent.{replicate_unlent, new_epoch_unlent, copy_unlent}
use Rattle.spec_run.specs.State.{State, Request, set_node, set_requests, set_replies}
use Rattle.spec_run.specs.Event.{request_arrives, request_lost}
use Rattle.spec_run.specs.Rules.{allowed}
use Rattle.spec_run.specs.Step as run
use Rattle.spec_run.specs.Step.{removed, heard, arrives, on_arrival, on_request_lost, step}
use Rattle.node_header.proofs.Lists.{by_case}
use Rattle.node_lent.specs.Lend.{slot_of}
use Rattle.image_node.specs.State.{state_at}
use Rattle.node_replicate.specs.Peers.{SlotsGiven, ReplicateNames, ReplicateSlot, ReplicatesAt, CopyNames, CopySlot, CopiesAt}
use Rattle.node_epoch.specs.NewEpochs.{NewEpochNames, NewEpochSlot, NewEpochSlots, NewEpochsAt}
use Rattle.calls_peer.specs.PeerCalls.{replicates, announces, copies}
use Rattle.thm_durable.proofs.Simulated.{Simulated, nothing, one}
use Rattle.thm_durable.proofs.Seen.{Beside}
use Rattle.thm_durable.proofs.Tested.{replicate_as, new_epoch_as, copy_as}
use Rattle.thm_durable_bytes.specs.Cluster.{Cluster, seen, InMemory}
use Rattle.thm_durable_bytes.specs.Calls.{replying, answered, Hears, Arrives, Called}
use Rattle.thm_durable_bytes.proofs.Arrived.{Way, refused, sent, way}
use Rattle.thm_durable_bytes.proofs.Seen.{left-node}
use Rattle.thm_durable_bytes.proofs.Ways.{called, turned_away}

-- ---- the call of a request's kind

module _ (h s h' s' p q m : List ℕ) (r : ℕ) (bytes : Bytes s) where
  hears_way : (kind : Sent) → Hears kind h s h' s' p q m r → Way h s h' s' q r (heard (state_at h s) kind m)
  unfolding heard
  hears_way sent_align c =
      way (decode_new_epoch m) (λ v. true) (λ v. v.key) NewEpochsAt announces m (λ n. NewEpochSlot n m) (NewEpochNames m) (λ n. NewEpochSlots n m)
      (λ n a b z d. d) (λ n v e z g. ap (λ (w : NewEpoch). slot_of n w.key) (some_same (sym e ∙ g))) (λ v t f. new_epoch_unlent v t m f)
      (λ v. call_new_epoch v m) (λ v t f. new_epoch_as v t m f) h s h' s' p q r bytes c
  hears_way sent_replicate c =
      way (decode_replicate m) (λ v. op_in_domain v.op) (λ v. v.key) ReplicatesAt replicates m (λ n. ReplicateSlot n m) (ReplicateNames m) SlotsGiven
      (λ n a b z d. d) (λ n v e z g. ap (λ (w : Replicated). slot_of n w.key) (some_same (sym e ∙ g))) (λ v t f. replicate_unlent v t m f)
      (λ v. call_replicate v m) (λ v t f. replicate_as v t m f) h s h' s' p q r bytes c
  hears_way sent_copy c =
      way (decode_copy_shard m) (λ v. every entry_in_domain v.entries) (λ v. v.key) CopiesAt copies m (λ n. CopySlot n m) (CopyNames m) SlotsGiven
      (λ n a b z d. d) (λ n v e z g. ap (λ (w : Copied). slot_of n w.key) (some_same (sym e ∙ g))) (λ v t f. copy_unlent v t m f)
      (λ v. call_copy v m) (λ v t f. copy_as v t m f) h s h' s' p q r bytes c

-- ---- what the host does with the number and the reply

answer-beside : (s : State) (from to : ℕ) (m : Request) (r : ℕ) (reply : List ℕ) → Beside s (answered s from to m r reply)
unfolding set_replies
answer-beside s from to m r reply =
    by_case (eqb r 0) (λ e. rw e (record { map = refl; nodes = refl; clients = refl })) (λ e. rw e (record { map = refl; nodes = refl; clients = refl }))

module _ (s : State) (from to : ℕ) (m : Request) where
  not_sent : (r : ℕ) (reply : List ℕ) → eqb r 0 ≡ false → answered s from to m r reply ≡ s
  not_sent r reply e = rw e

  is-sent : (r : ℕ) (reply : List ℕ) (w : Reply) → r ≡ 0 → take 9 reply ≡ encode_reply w → answered s from to m r reply ≡ run.answered s from to m (replied w)
  unfolding run.answered
  is-sent r reply w e b =
      ap (λ (i : ℕ). answered s from to m i reply) e
      ∙ ap (replying s from to m) b

module _ (d f : Cluster) (mem : InMemory d) (from to i : ℕ) (may : allowed (seen d) (request_arrives from to i) ≡ true) where
  abbrev gone : State → State
  gone x = set_requests x from to (removed (x.requests from to) i)

  module _ (m : Request) (found : nth ((seen d).requests from to) i ≡ some m) (c : Arrives d from to i (some m) f) where
    abbrev v : held.Node
    v = state_at (d.headers to) (d.stores to)

    abbrev y : Result BackupAnswer held.Node
    y = heard v m.sent m.bytes

    abbrev left : held.Node → State
    left x = gone (set_node (seen d) to x)

    to_end : seen f ≡ answered (left (state_at c.0 c.1)) from to m c.4 c.3
    unfolding set_requests
    to_end =
        left-node d f to (λ s. answered (gone s) from to m c.4 c.3)
        (λ s. let b = answer-beside (gone s) from to m c.4 c.3 in record { map = b.map; nodes = b.nodes; clients = b.clients })
        c.0 c.1 c.6

    arrived : Way (d.headers to) (d.stores to) c.0 c.1 c.3 c.4 y → Simulated (seen d) (seen f)
    unfolding step on_arrival on_request_lost arrives run.answered seen set_requests set_node allowed
    arrived (refused z header stores) =
        turned_away backup_refused (seen d) to y (λ a s. run.answered (gone s) from to m a) (request_arrives from to i) may (rw found)
        (λ r. one (seen d) (gone (seen d)) (request_lost from to i) refl refl)
        (seen f) malformed
        (to_end
        ∙ not_sent (left (state_at c.0 c.1)) from to m c.4 c.3 z
        ∙ ap (λ (l : List ℕ). left (state_at l c.1)) header ∙ ap (λ (l : List ℕ). left (state_at (d.headers to) l)) stores)
    arrived (sent x way w is after reply z) =
        called backup_refused (seen d) to y (λ a s. run.answered (gone s) from to m a) (request_arrives from to i) may (rw found)
        (λ r. one (seen d) (gone (seen d)) (request_lost from to i) refl refl)
        (seen f) x way
        (to_end
        ∙ is-sent (left (state_at c.0 c.1)) from to m c.4 c.3 w z reply
        ∙ ap (λ (n : held.Node). run.answered (left n) from to m (replied w)) after
        ∙ ap (run.answered (left x.after) from to m) (sym is))

  pub on-arrival : Called d (request_arrives from to i) f → Simulated (seen d) (seen f)
  unfolding Called seen
  on-arrival c = go (nth (d.requests from to) i) refl c
    where
      go : (o : Option Request) → nth (d.requests from to) i ≡ o → Arrives d from to i o f → Simulated (seen d) (seen f)
      go none q c = nothing (seen d) (seen f) (sym (ap seen c))
      go (some m) q c =
          arrived m q c (hears_way (d.headers to) (d.stores to) c.0 c.1 c.2 c.3 m.bytes c.4 (mem.stores to) m.sent c.5)
