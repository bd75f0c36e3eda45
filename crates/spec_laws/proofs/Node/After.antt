-- What each call leaves of a held shard: one law a call, for any fact P of a shard. It is enough to know P of the shard as it was and of
-- each changed shard that the definition names; everything else stays as it was. Assumes nothing.
use Prim.Native.Nat.{ℕ}
use mathlib.Core.Path.{◌≡◌, refl}
use mathlib.Core.Bool.{Bool, true, false, cond, not}
use mathlib.Core.List.{List, map}
use mathlib.Core.Option.{Option, none, some}
use lib.Dec.{eqb, ltb}
use Rattle.spec.specs.Lists.{◌and◌, find}
use Rattle.spec.specs.Log.{Op, Entry, End, append, store, store_all, adopted, last_offset}
use Rattle.spec.specs.Layout.Message.{Reply}
use Rattle.spec.specs.Map.Apply.{update}
use Rattle.spec.specs.Node.Held.{Held}
use Rattle.spec.specs.Node.Shards.{Result, leads_at, of_node, with_replica, with_peers, demoted}
use Rattle.spec.specs.Node.Client.{WriteAnswer, ack_count, overfull, write_held, wait_row, WaitAnswer, wait_held}
use Rattle.spec.specs.Node.Backup.{BackupAnswer, leads_from, is_empty, replicate_held, new_epoch_held, copy_held}
use Rattle.spec.specs.Node.Ack.{AckAnswer, Sent, Deed, nothing, step_down, unalign, record_ack, deed_of, ack_row, unaligned, on_row, do_deed, deed_at, ack_held, settled_row, outcome_held}
use Rattle.spec.specs.declared.Peer.{Peer}
use Rattle.spec_laws.proofs.Lists.{by-test}
use borrow.Author.Tests.{not-false}

module _ {κ} (P : Held → Type κ) (h : Held) (same : P h) where
  -- Write: an entry more, where the log has room
  pub write-after : (lease : Bool) (least epoch : ℕ) (op : Op)
      → (overfull (append h.replica op) ≡ false → P (with_replica h (append h.replica op)))
      → P (write_held lease least epoch op h).after
  unfolding write_held
  write-after lease least epoch op new =
      let Q : Result WriteAnswer Held → Type κ = λ v. P v.after in
      by-test Q (not (leads_at h.role epoch)) (λ p. same)
      (λ p. by-test Q (not lease) (λ q. same)
      (λ q. by-test Q (ltb (ack_count h) least) (λ s. same)
      (λ s. by-test Q (overfull (append h.replica op)) (λ t. same) new)))

  -- waiting for acks: the rows alone
  pub wait_after : (now timeout epoch offset : ℕ)
      → (leads_at h.role epoch ≡ true → P (with_peers h (map (wait_row (last_offset h.replica) now timeout) h.peers)))
      → P (wait_held now timeout epoch offset h).after
  unfolding wait_held
  wait_after now timeout epoch offset new =
      by-test (λ (v : Result WaitAnswer Held). P v.after) (not (leads_at h.role epoch)) (λ p. same)
      (λ p. new (not-false (leads_at h.role epoch) p))

  -- Replicate: what store makes of the replica, where it has room
  pub replicate_after : (epoch offset : ℕ) (op : Op)
      → (let s = (store h.replica epoch (record { epoch = epoch; offset = offset; op = op })).replica in
      overfull s ≡ false → P (with_replica h s))
      → P (replicate_held epoch offset op h).after
  unfolding replicate_held
  replicate_after epoch offset op new =
      by-test (λ (v : Result BackupAnswer Held). P v.after)
      (overfull (store h.replica epoch (record { epoch = epoch; offset = offset; op = op })).replica) (λ p. same) new

  -- NewEpoch: the log aligned, the role left
  pub new_epoch_after : (epoch end : ℕ) (t : List End)
      → (leads_from h.role epoch ≡ false → ltb epoch h.replica.epoch ≡ false
      → P (demoted (with_replica h (adopted h.replica epoch end t))))
      → P (new_epoch_held epoch end t h).after
  unfolding new_epoch_held
  new_epoch_after epoch end t new =
      let Q : Result BackupAnswer Held → Type κ = λ v. P v.after in
      by-test Q (leads_from h.role epoch) (λ p. same)
      (λ p. by-test Q (ltb epoch h.replica.epoch) (λ q. same) (λ q. new p q))

  -- CopyShard: entries stored one after the other, where they have room
  pub copy_after : (epoch : ℕ) (es : List Entry)
      → (overfull (store_all h.replica epoch es) ≡ false → P (with_replica h (store_all h.replica epoch es)))
      → P (copy_held epoch es h).after
  unfolding copy_held
  copy_after epoch es new =
      let Q : Result BackupAnswer Held → Type κ = λ v. P v.after in
      by-test Q (is_empty es) (λ p. same)
      (λ p. by-test Q (eqb epoch h.replica.epoch)
      (λ q. by-test Q (overfull (store_all h.replica epoch es)) (λ s. same) new) (λ q. same))

  do_deed_after : (k : ℕ) (p : Peer) (d : Deed) → P (demoted h) → P (on_row h k unaligned)
      → ((t : ℕ) (a : Bool) → d ≡ record_ack t a → P (on_row h k (ack_row (last_offset h.replica) t a)))
      → P (do_deed h k p d).after
  unfolding do_deed
  do_deed_after k p nothing down loose new = same
  do_deed_after k p step_down down loose new = down
  do_deed_after k p unalign down loose new = loose
  do_deed_after k p (record_ack t a) down loose new = new t a refl

  deed_at_after : (k : ℕ) (o : Option Peer) (d : Deed) → P (demoted h) → P (on_row h k unaligned)
      → ((t : ℕ) (a : Bool) → d ≡ record_ack t a → P (on_row h k (ack_row (last_offset h.replica) t a)))
      → P (deed_at h k d o).after
  deed_at_after k none d down loose new = same
  deed_at_after k (some p) d down loose new = do_deed_after k p d down loose new

  -- ack: the role left, or one row
  pub ack_after : (epoch peer : ℕ) (s : Sent) (r : Reply) → P (demoted h) → P (on_row h peer unaligned)
      → ((t : ℕ) (a : Bool) → deed_of s r epoch ≡ record_ack t a → P (on_row h peer (ack_row (last_offset h.replica) t a)))
      → P (ack_held epoch peer s r h).after
  unfolding ack_held
  ack_after epoch peer s r down loose new =
      by-test (λ (v : Result AckAnswer Held). P v.after) (leads_at h.role epoch)
      (λ p. deed_at_after peer (find (of_node peer) h.peers) (deed_of s r epoch) down loose new) (λ p. same)

-- ---- what stays: the key, and what a call has no business with

pub write-key : (lease : Bool) (least epoch : ℕ) (op : Op) (h : Held) → (write_held lease least epoch op h).after.key ≡ h.key
write-key lease least epoch op h = write-after (λ x. x.key ≡ h.key) h refl lease least epoch op (λ q. refl)

pub write_role : (lease : Bool) (least epoch : ℕ) (op : Op) (h : Held) → (write_held lease least epoch op h).after.role ≡ h.role
write_role lease least epoch op h = write-after (λ x. x.role ≡ h.role) h refl lease least epoch op (λ q. refl)

pub write-peers : (lease : Bool) (least epoch : ℕ) (op : Op) (h : Held) → (write_held lease least epoch op h).after.peers ≡ h.peers
write-peers lease least epoch op h = write-after (λ x. x.peers ≡ h.peers) h refl lease least epoch op (λ q. refl)

pub wait_key : (now timeout epoch offset : ℕ) (h : Held) → (wait_held now timeout epoch offset h).after.key ≡ h.key
wait_key now timeout epoch offset h = wait_after (λ x. x.key ≡ h.key) h refl now timeout epoch offset (λ q. refl)

pub wait_replica : (now timeout epoch offset : ℕ) (h : Held) → (wait_held now timeout epoch offset h).after.replica ≡ h.replica
wait_replica now timeout epoch offset h = wait_after (λ x. x.replica ≡ h.replica) h refl now timeout epoch offset (λ q. refl)

pub wait_role : (now timeout epoch offset : ℕ) (h : Held) → (wait_held now timeout epoch offset h).after.role ≡ h.role
wait_role now timeout epoch offset h = wait_after (λ x. x.role ≡ h.role) h refl now timeout epoch offset (λ q. refl)

pub replicate_key : (epoch offset : ℕ) (op : Op) (h : Held) → (replicate_held epoch offset op h).after.key ≡ h.key
replicate_key epoch offset op h = replicate_after (λ x. x.key ≡ h.key) h refl epoch offset op (λ q. refl)

pub replicate_role : (epoch offset : ℕ) (op : Op) (h : Held) → (replicate_held epoch offset op h).after.role ≡ h.role
replicate_role epoch offset op h = replicate_after (λ x. x.role ≡ h.role) h refl epoch offset op (λ q. refl)

pub new_epoch_key : (epoch end : ℕ) (t : List End) (h : Held) → (new_epoch_held epoch end t h).after.key ≡ h.key
new_epoch_key epoch end t h = new_epoch_after (λ x. x.key ≡ h.key) h refl epoch end t (λ p q. refl)

pub copy_key : (epoch : ℕ) (es : List Entry) (h : Held) → (copy_held epoch es h).after.key ≡ h.key
copy_key epoch es h = copy_after (λ x. x.key ≡ h.key) h refl epoch es (λ q. refl)

pub copy_role : (epoch : ℕ) (es : List Entry) (h : Held) → (copy_held epoch es h).after.role ≡ h.role
copy_role epoch es h = copy_after (λ x. x.role ≡ h.role) h refl epoch es (λ q. refl)

pub ack_key : (epoch peer : ℕ) (s : Sent) (r : Reply) (h : Held) → (ack_held epoch peer s r h).after.key ≡ h.key
ack_key epoch peer s r h = ack_after (λ x. x.key ≡ h.key) h refl epoch peer s r refl refl (λ t a d. refl)

pub ack_replica : (epoch peer : ℕ) (s : Sent) (r : Reply) (h : Held) → (ack_held epoch peer s r h).after.replica ≡ h.replica
ack_replica epoch peer s r h = ack_after (λ x. x.replica ≡ h.replica) h refl epoch peer s r refl refl (λ t a d. refl)

pub outcome-after {κ} : (P : Held → Type κ) (h : Held) → P h → (me epoch peer : ℕ) (left : Bool)
    → P (record {
      key = h.key;
      replica = h.replica;
      holders = h.holders;
      role = h.role;
      own = h.own and not (left and eqb peer me);
      peers = update (of_node peer) (settled_row left) h.peers;
    })
    → P (outcome_held me epoch peer left h)
unfolding outcome_held
outcome-after P h same me epoch peer left new = by-test P (leads_at h.role epoch) (λ p. new) (λ p. same)

pub outcome-key : (me epoch peer : ℕ) (left : Bool) (h : Held) → (outcome_held me epoch peer left h).key ≡ h.key
outcome-key me epoch peer left h = outcome-after (λ x. x.key ≡ h.key) h refl me epoch peer left refl

pub outcome-replica : (me epoch peer : ℕ) (left : Bool) (h : Held) → (outcome_held me epoch peer left h).replica ≡ h.replica
outcome-replica me epoch peer left h = outcome-after (λ x. x.replica ≡ h.replica) h refl me epoch peer left refl

pub outcome_role : (me epoch peer : ℕ) (left : Bool) (h : Held) → (outcome_held me epoch peer left h).role ≡ h.role
outcome_role me epoch peer left h = outcome-after (λ x. x.role ≡ h.role) h refl me epoch peer left refl
