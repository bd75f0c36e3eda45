-- What each call changes of a node: the one shard that it names, in its place. The calls on the header alone leave every log and its vectors.
-- Assumes nothing.
use Prim.Native.Nat.{ℕ, ◌*◌}
use mathlib.Core.Path.{◌≡◌, refl, sym, ap, subst, ◌∙◌}
use mathlib.Core.Bool.{Bool, true, not}
use mathlib.Core.List.{List, [], ◌∷◌, map}
use mathlib.Core.Option.{Option, none, some}
use lib.Dec.{eqb}
use lib.ListN.{length}
use Rattle.spec.specs.Lists.{◌or◌, every}
use Rattle.spec.specs.Keys.{Key}
use Rattle.spec.specs.Log.{ShardReplica}
use Rattle.spec.specs.Layout.Message.{Write, decode_write, Replicated, decode_replicate, NewEpoch, decode_new_epoch, Copied, decode_copy_shard, Reply, decode_reply}
use Rattle.spec.specs.Map.Apply.{update}
use Rattle.spec.specs.Node.Held.{Held, Node}
use Rattle.spec.specs.Node.Shards.{Result, of_key, held_shard, at_shard}
use Rattle.spec.specs.Node.Wire.{op_in_domain, entry_in_domain, stored_op, stored_entry}
use Rattle.spec.specs.Node.Lease.{GrantAnswer, grant}
use Rattle.spec.specs.Node.Client.{WriteAnswer, on_write, WaitAnswer, on_wait}
use Rattle.spec.specs.Node.Backup.{BackupAnswer, on_replicate, on_copy, new_epoch_at, on_new_epoch}
use Rattle.spec.specs.Node.Ack.{AckAnswer, Sent, bad_reply, on_ack, OutcomeAnswer, Proposal, leaves, on_outcome}
use Rattle.spec.specs.Node.Calls.{late_time, write_of, write_with, replicate_of, replicate_with, new_epoch_of, new_epoch_with, copy_of, copy_with, grant_with, wait_with, ack_of, ack_with, outcome_with}
use Rattle.spec_laws.proofs.Lists.{by-test, none_some}
use Rattle.spec_laws.proofs.Node.Shards.{at_cases}
use Rattle.spec_laws.proofs.Node.After.{write-key, replicate_key, new_epoch_key, copy_key, wait_replica, ack_replica, outcome-replica}
use Rattle.image_store.specs.Image.{store_size, well_formed_image}
use Rattle.thm_never_malformed.proofs.Pairs.{StoreFits, Pairs, pairs-update}

-- ---- the calls that are lent a store

-- w is v with the shard of the key changed, if it holds it
pub record ChangesAt (v : Node) (k : Key) (w : Node) : Type 0 where
  pub change : Held → Held
  pub key : (h : Held) → (change h).key ≡ h.key
  pub held : w.held ≡ update (of_key k) change v.held

update_same : (p : Held → Bool) (l : List Held) → update p (λ h. h) l ≡ l
unfolding update
update_same p [] = refl
update_same p (x ∷ xs) =
    by-test (λ (m : List Held). m ≡ x ∷ xs) (p x) {x = x ∷ xs} {y = x ∷ update p (λ h. h) xs}
    (λ e. refl) (λ e. ap (λ (m : List Held). x ∷ m) (update_same p xs))

pub unchanged : (v : Node) (k : Key) → ChangesAt v k v
unchanged v k = record { change = λ h. h; key = λ h. refl; held = sym (update_same (of_key k) v.held) }

at_changes : {A : Type 0} (v : Node) (k : Key) (absent : A) (f : Held → Result A Held) → ((h : Held) → (f h).after.key ≡ h.key)
    → ChangesAt v k (at_shard v k absent f).after
at_changes v k absent f key =
    at_cases v k absent f (λ r. ChangesAt v k r.after) (λ e. unchanged v k)
    (λ h e. record { change = λ x. (f x).after; key = key; held = refl })

module _ (v : Node) (lent : Key → Bool) (k : Key) where
  -- of a message for the key
  abbrev named : (j : Key) {w : Node} → k ≡ j → ChangesAt v j w → ChangesAt v k w
  named j {w} e c = subst (λ (i : Key). ChangesAt v i w) (sym e) c

  write_of_lem : (now least : ℕ) (o : Option Write) → ((w : Write) → o ≡ some w → k ≡ w.key) → ChangesAt v k (write_of lent v now least o).after
  unfolding on_write
  write_of_lem now least none names = unchanged v k
  write_of_lem now least (some w) names =
      let P : Result WriteAnswer Node → Type 0 = λ r. ChangesAt v k r.after in
      by-test P (not (op_in_domain w.op)) (λ p. unchanged v k)
      (λ p. by-test P (not (lent w.key)) (λ q. unchanged v k)
      (λ q. named w.key (names w refl) (at_changes v w.key _ _ (write-key _ least w.epoch (stored_op w.op)))))

  pub write_changes : (now least : ℕ) (m : List ℕ) → ((w : Write) → decode_write m ≡ some w → k ≡ w.key)
      → ChangesAt v k (write_with lent v now least m).after
  unfolding write_with
  write_changes now least m names =
      by-test (λ (r : Result WriteAnswer Node). ChangesAt v k r.after) (late_time now) (λ p. unchanged v k) (λ p. write_of_lem now least (decode_write m) names)

  replicate_of_lem : (o : Option Replicated) → ((w : Replicated) → o ≡ some w → k ≡ w.key) → ChangesAt v k (replicate_of lent v o).after
  unfolding on_replicate
  replicate_of_lem none names = unchanged v k
  replicate_of_lem (some w) names =
      let P : Result BackupAnswer Node → Type 0 = λ r. ChangesAt v k r.after in
      by-test P (not (op_in_domain w.op)) (λ p. unchanged v k)
      (λ p. by-test P (not (lent w.key)) (λ q. unchanged v k)
      (λ q. named w.key (names w refl) (at_changes v w.key _ _ (replicate_key w.epoch w.offset (stored_op w.op)))))

  pub replicate_changes : (m : List ℕ) → ((w : Replicated) → decode_replicate m ≡ some w → k ≡ w.key) → ChangesAt v k (replicate_with lent v m).after
  unfolding replicate_with
  replicate_changes m names = replicate_of_lem (decode_replicate m) names

  copy_of_lem : (o : Option Copied) → ((w : Copied) → o ≡ some w → k ≡ w.key) → ChangesAt v k (copy_of lent v o).after
  unfolding on_copy
  copy_of_lem none names = unchanged v k
  copy_of_lem (some w) names =
      let P : Result BackupAnswer Node → Type 0 = λ r. ChangesAt v k r.after in
      by-test P (not (every entry_in_domain w.entries)) (λ p. unchanged v k)
      (λ p. by-test P (not (lent w.key)) (λ q. unchanged v k)
      (λ q. named w.key (names w refl) (at_changes v w.key _ _ (copy_key w.epoch (map stored_entry w.entries)))))

  pub copy_changes : (m : List ℕ) → ((w : Copied) → decode_copy_shard m ≡ some w → k ≡ w.key) → ChangesAt v k (copy_with lent v m).after
  unfolding copy_with
  copy_changes m names = copy_of_lem (decode_copy_shard m) names

  -- NewEpoch, at a shard that is held
  new_epoch_at_lem : (w : NewEpoch) (o : Option Held) (h : Held) → o ≡ some h
      → ChangesAt v w.key (new_epoch_at v w.key w.epoch w.end w.table w.metric o).after
  new_epoch_at_lem w none h e = none_some e
  new_epoch_at_lem w (some x) h e = at_changes v w.key _ _ (new_epoch_key w.epoch w.end w.table)

  new_epoch_of_lem : (h : Held) → held_shard v k ≡ some h → (o : Option NewEpoch) → ((w : NewEpoch) → o ≡ some w → k ≡ w.key)
      → ChangesAt v k (new_epoch_of lent v o).after
  unfolding on_new_epoch
  new_epoch_of_lem h e none names = unchanged v k
  new_epoch_of_lem h e (some w) names =
      by-test (λ (r : Result BackupAnswer Node). ChangesAt v k r.after) (not (lent w.key)) (λ q. unchanged v k)
      (λ q. named w.key (names w refl) (new_epoch_at_lem w (held_shard v w.key) h (ap (held_shard v) (sym (names w refl)) ∙ e)))

  pub new_epoch_changes : (h : Held) → held_shard v k ≡ some h → (m : List ℕ) → ((w : NewEpoch) → decode_new_epoch m ≡ some w → k ≡ w.key)
      → ChangesAt v k (new_epoch_with lent v m).after
  unfolding new_epoch_with
  new_epoch_changes h e m names = new_epoch_of_lem h e (decode_new_epoch m) names

-- ---- the calls that are lent the header alone

-- every store fits the shard in its slot as before
abbrev pub Quiet : (v w : Node) → Type 0
Quiet v w = (s is : List ℕ) → Pairs (StoreFits s) is v.held → Pairs (StoreFits s) is w.held

quiet : (v : Node) → Quiet v v
quiet v s is p = p

at_quiet : {A : Type 0} (v : Node) (k : Key) (absent : A) (f : Held → Result A Held) → ((h : Held) → (f h).after.replica ≡ h.replica)
    → Quiet v (at_shard v k absent f).after
at_quiet v k absent f keeps =
    at_cases v k absent f (λ r. Quiet v r.after) (λ e. quiet v)
    (λ h e s is p.
    pairs-update (StoreFits s) (of_key k) (λ x. (f x).after)
    (λ i x q.
    subst (λ (r : ShardReplica). well_formed_image s (i * store_size) (length r.log) (length r.vectors) ≡ true) (sym (keeps x)) q) is v.held p)

module _ (v : Node) (lent : Bool) where
  pub grant_quiet : (i sent lease : ℕ) → Quiet v (grant_with lent v i sent lease).after
  unfolding grant_with grant
  grant_quiet i sent lease =
      let P : Result GrantAnswer Node → Type 0 = λ r. Quiet v r.after in
      by-test P (late_time sent or late_time lease) (λ p. quiet v)
      (λ p. by-test P (not lent) (λ q. quiet v)
      (λ q. by-test (Quiet v) (eqb i v.incarnation) {y = v} (λ e. quiet v) (λ e. quiet v)))

  module _ (k : Key) (epoch : ℕ) where
    pub wait_quiet : (now timeout offset : ℕ) → Quiet v (wait_with lent v now timeout k epoch offset).after
    unfolding wait_with on_wait
    wait_quiet now timeout offset =
        let P : Result WaitAnswer Node → Type 0 = λ r. Quiet v r.after in
        by-test P (late_time now or late_time timeout) (λ p. quiet v)
        (λ p. by-test P (not lent) (λ q. quiet v) (λ q. at_quiet v k _ _ (wait_replica now timeout epoch offset)))

    ack_of_lem : (peer : ℕ) (sent : Sent) (o : Option Reply) → Quiet v (ack_of lent v k epoch peer sent o).after
    unfolding on_ack
    ack_of_lem peer sent none = quiet v
    ack_of_lem peer sent (some r) =
        let P : Result AckAnswer Node → Type 0 = λ z. Quiet v z.after in
        by-test P (bad_reply r) (λ p. quiet v)
        (λ p. by-test P (not lent) (λ q. quiet v)
        (λ q. by-test P (bad_reply r) (λ d. quiet v) (λ d. at_quiet v k _ _ (ack_replica epoch peer sent r))))

    pub ack_quiet : (peer : ℕ) (sent : Sent) (m : List ℕ) → Quiet v (ack_with lent v k epoch peer sent m).after
    unfolding ack_with
    ack_quiet peer sent m = ack_of_lem peer sent (decode_reply m)

    pub outcome_quiet : (peer : ℕ) (what : Proposal) (applied : Bool) → Quiet v (outcome_with lent v k epoch peer what applied).after
    unfolding outcome_with on_outcome
    outcome_quiet peer what applied =
        by-test (λ (r : Result OutcomeAnswer Node). Quiet v r.after) (not lent) (λ q. quiet v)
        (λ q. at_quiet v k _ _ (outcome-replica v.id epoch peer (leaves what applied)))
