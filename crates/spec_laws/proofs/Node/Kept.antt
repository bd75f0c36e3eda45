-- A well-formed node stays well formed under every call but map shown (KeptMap.antt): Write, Search, waits, grants, Replicate, NewEpoch,
-- CopyShard, acks and outcomes, on decoded values in their ranges. The calls on bytes are in KeptCalls.antt. Assumes nothing.
use Prim.Native.Nat.{ℕ, zero, suc, ◌+◌, ◌-◌, ◌≤◌, ◌<◌, min, max}
use mathlib.Core.Path.{◌≡◌, refl, sym, ap, ◌∙◌, subst}
use mathlib.Core.Bool.{Bool, true, false, cond, not}
use mathlib.Core.List.{List, [], ◌∷◌, map}
use mathlib.Core.Option.{Option, none, some}
use native.Mathlib.Omega.{arith}
use lib.Dec.{eqb, leb, ltb}
use lib.ListN.{length}
use borrow.Author.Tests.{leb-true, leb-false, le-leb, ltb-false, eqb-true}
use Rattle.spec.specs.Lists.{◌and◌, ◌or◌, every, rising}
use Rattle.spec.specs.Limits.{max_entries, max_held, max_time}
use Rattle.spec.specs.Keys.{Key, key_below}
use Rattle.spec.specs.Log.{Op, Entry, End, ShardReplica, empty_replica, last_offset, append, store, store_all, cut_to, adopted, keep}
use Rattle.spec.specs.Layout.Message.{Reply, reply_stored, reply_gap, reply_stale, reply_adopted}
use Rattle.spec.specs.Map.Apply.{update}
use Rattle.spec.specs.Map.WellFormed.{name_fits}
use Rattle.spec.specs.Node.Held.{Held, Node}
use Rattle.spec.specs.Node.Shards.{Result, row_below, of_node, with_replica, with_peers, demoted, begun, held_shard}
use Rattle.spec.specs.Node.Lease.{grant, leased}
use Rattle.spec.specs.Node.Client.{overfull, lacks, wait_row, write_held, on_write, wait_held, on_wait, write_refused}
use Rattle.spec.specs.Node.Backup.{BackupAnswer, unheld, replicate_held, on_replicate, new_epoch_held, new_epoch_at, on_new_epoch, copy_held, on_copy}
use Rattle.spec.specs.Node.Ack.{AckAnswer, noted, settled, Sent, sent_align, sent_replicate, sent_copy, Deed, step_down, record_ack, bad_reply, deed_of, not_above, acked_through, ack_row, unaligned, ack_held, on_ack, settled_row, outcome_held, outcome_at, leaves, Proposal, on_outcome}
use Rattle.spec.specs.Node.WellFormed.{ack_fits, well_formed_op, well_formed_entry, well_formed_held, well_formed_log, log_of}
use Rattle.spec.specs.declared.Metric.{Metric}
use Rattle.spec.specs.declared.Peer.{Peer}
use Rattle.spec_laws.proofs.Lists.{by-test, not_both, and_true}
use Rattle.spec_laws.proofs.Log.Keep.{keep-length}
use Rattle.spec_laws.proofs.Map.Rows.{length-update, every-update, update-rising, every_tail, every_cons}
use Rattle.spec_laws.proofs.Node.Logs.{FormedLog, log-formed, formed-log, formed-empty, formed-append, formed-store, formed_store_all, formed-adopted}
use Rattle.spec_laws.proofs.Node.Formed.{FormedRows, FormedHeld, FormedNode, Keeps, rows_by_node, no_rows, at-formed, put-formed}
use Rattle.spec_laws.proofs.Node.After.{write-after, write-key, wait_after, wait_key, wait_replica, replicate_after, replicate_key, new_epoch_after, new_epoch_key, copy_after, copy_key, ack_after, ack_key, ack_replica, outcome-after, outcome-key, outcome-replica}

-- ---- rows

-- one row changed: its node stays, its ack fits
pub rows-update : (k : ℕ) (f : Peer → Peer) → ((p : Peer) → (f p).node ≡ p.node) → ((p : Peer) → ack_fits p ≡ true → ack_fits (f p) ≡ true)
    → (l : List Peer) → FormedRows l → FormedRows (update (of_node k) f l)
rows-update k f node fit l x = record {
  most = (let e = length-update (of_node k) f l in let m = x.most in omega arith);
  rise =
      update-rising row_below rows_by_node (of_node k) f
      (λ a b. ap (λ n. ltb n.0 b.node.0) (node a)) (λ a b. ap (λ n. ltb a.node.0 n.0) (node b)) l x.rise;
  acks = every-update (of_node k) f ack_fits (λ p q e. fit p e) l x.acks;
}

-- every row changed
pub rows-map : (f : Peer → Peer) → ((p : Peer) → (f p).node ≡ p.node) → ((p : Peer) → ack_fits p ≡ true → ack_fits (f p) ≡ true)
    → (l : List Peer) → FormedRows l → FormedRows (map f l)
rows-map f node fit l x = record {
  most = (let e = mapped l in let m = x.most in omega arith);
  rise = rise l ∙ x.rise;
  acks = acks l x.acks;
}
  where
    mapped : (l : List Peer) → length (map f l) ≡ length l
    mapped [] = refl
    mapped (p ∷ ps) = ap suc (mapped ps)

    rise : (l : List Peer) → rising row_below (map f l) ≡ rising row_below l
    rise [] = unfold rising in refl
    rise (p ∷ []) = unfold rising in refl
    rise (p ∷ q ∷ ps) = two p q ps (rise (q ∷ ps))
      where
        two : (p q : Peer) (ps : List Peer) → rising row_below (map f (q ∷ ps)) ≡ rising row_below (q ∷ ps)
            → rising row_below (map f (p ∷ q ∷ ps)) ≡ rising row_below (p ∷ q ∷ ps)
        two p q ps h =
            unfold rising in
            (ap (λ b. b and rising row_below (map f (q ∷ ps))) (ap (λ n. ltb n.0 (f q).node.0) (node p) ∙ ap (λ n. ltb p.node.0 n.0) (node q))
            ∙ ap (λ b. row_below p q and b) h)

    acks : (l : List Peer) → every ack_fits l ≡ true → every ack_fits (map f l) ≡ true
    acks [] e = e
    acks (p ∷ ps) e = let t = every_tail ack_fits p ps e in every_cons ack_fits (f p) (map f ps) (fit p t.0) (acks ps t.1)

-- ---- Write

-- a log that is not overfull
has_room : (r : ShardReplica) → overfull r ≡ false → last_offset r ≤ max_entries
has_room r e = ltb-false max_entries (last_offset r) e

-- a shard with another replica, whose log has room
with-replica : (h : Held) (r : ShardReplica) → last_offset r ≤ max_entries → FormedHeld h → FormedHeld (with_replica h r)
with-replica h r room x = record { name = x.name; holders = x.holders; log = room; rows = x.rows }

with-peers : (h : Held) (l : List Peer) → FormedRows l → FormedHeld h → FormedHeld (with_peers h l)
with-peers h l rows x = record { name = x.name; holders = x.holders; log = x.log; rows = rows }

-- the log of a shard is its replica's
log_of_lem : (h g : Held) → g.replica ≡ h.replica → log_of h ≡ true → log_of g ≡ true
log_of_lem h g e = subst (λ (r : ShardReplica). well_formed_log r ≡ true) (sym e)

pub write_keeps : (lease : Bool) (least epoch : ℕ) (op : Op) → well_formed_op op ≡ true → Keeps (λ h. (write_held lease least epoch op h).after)
write_keeps lease least epoch op p = record {
  key = λ h. write-key lease least epoch op h;
  shard =
      λ h x. write-after FormedHeld h x lease least epoch op
      (λ q. with-replica h (append h.replica op) (has_room (append h.replica op) q) x);
  log =
      λ h e. write-after (λ g. log_of g ≡ true) h e lease least epoch op
      (λ q. formed-log (append h.replica op) (formed-append h.replica op (log-formed h.replica e) p));
}

pub write_kept : (n : Node) (now least : ℕ) (k : Key) (epoch : ℕ) (op : Op) → well_formed_op op ≡ true → FormedNode n
    → FormedNode (on_write n now least k epoch op).after
unfolding on_write
write_kept n now least k epoch op p x =
    at-formed n k _ (write_held (leased n now) least epoch op) (write_keeps (leased n now) least epoch op p) x

-- ---- waiting for acks

wait_node : (last now timeout : ℕ) (p : Peer) → (wait_row last now timeout p).node ≡ p.node
unfolding wait_row
wait_node last now timeout p = by-test (λ (v : Peer). v.node ≡ p.node) (lacks last p) (λ q. refl) (λ q. refl)

wait_acked : (last now timeout : ℕ) (p : Peer) → (wait_row last now timeout p).acked ≡ p.acked
unfolding wait_row
wait_acked last now timeout p = by-test (λ (v : Peer). v.acked ≡ p.acked) (lacks last p) (λ q. refl) (λ q. refl)

pub wait_keeps : (now timeout epoch offset : ℕ) → Keeps (λ h. (wait_held now timeout epoch offset h).after)
wait_keeps now timeout epoch offset = record {
  key = λ h. wait_key now timeout epoch offset h;
  shard =
      λ h x. wait_after FormedHeld h x now timeout epoch offset
      (λ q. with-peers h (map (wait_row (last_offset h.replica) now timeout) h.peers)
      (rows-map (wait_row (last_offset h.replica) now timeout) (wait_node (last_offset h.replica) now timeout)
      (λ p e. ap (λ a. leb a.0 max_time) (wait_acked (last_offset h.replica) now timeout p) ∙ e) h.peers x.rows) x);
  log = λ h e. log_of_lem h (wait_held now timeout epoch offset h).after (wait_replica now timeout epoch offset h) e;
}

pub wait_kept : (n : Node) (now timeout : ℕ) (k : Key) (epoch offset : ℕ) → FormedNode n → FormedNode (on_wait n now timeout k epoch offset).after
unfolding on_wait
wait_kept n now timeout k epoch offset x =
    at-formed n k _ (wait_held now timeout epoch offset) (wait_keeps now timeout epoch offset) x

-- ---- lease grant

pub grant-kept : (n : Node) (i sent lease : ℕ) → FormedNode n → FormedNode (grant n i sent lease)
unfolding grant
grant-kept n i sent lease x =
    by-test FormedNode (eqb i n.incarnation)
    (λ q. record { most = x.most; rise = x.rise; shards = x.shards; logs = x.logs }) (λ q. x)

-- ---- Replicate, NewEpoch, CopyShard

pub replicate_keeps : (epoch offset : ℕ) (op : Op) → well_formed_op op ≡ true → Keeps (λ h. (replicate_held epoch offset op h).after)
replicate_keeps epoch offset op p = record {
  key = λ h. replicate_key epoch offset op h;
  shard =
      λ h x. replicate_after FormedHeld h x epoch offset op
      (λ q. with-replica h (store h.replica epoch (record { epoch = epoch; offset = offset; op = op })).replica
      (has_room (store h.replica epoch (record { epoch = epoch; offset = offset; op = op })).replica q) x);
  log =
      λ h e. replicate_after (λ g. log_of g ≡ true) h e epoch offset op
      (λ q. formed-log (store h.replica epoch (record { epoch = epoch; offset = offset; op = op })).replica
      (formed-store h.replica epoch (record { epoch = epoch; offset = offset; op = op }) p (log-formed h.replica e)));
}

pub replicate_kept : (n : Node) (k : Key) (epoch offset : ℕ) (op : Op) → well_formed_op op ≡ true → FormedNode n
    → FormedNode (on_replicate n k epoch offset op).after
unfolding on_replicate
replicate_kept n k epoch offset op p x = at-formed n k unheld (replicate_held epoch offset op) (replicate_keeps epoch offset op p) x

adopted-length : (r : ShardReplica) (epoch end : ℕ) (t : List End) → last_offset (adopted r epoch end t) ≤ last_offset r
unfolding adopted cut_to
adopted-length r epoch end t =
    by-test (λ (v : ShardReplica). last_offset v ≤ last_offset r) (eqb epoch r.epoch) (λ p. omega arith) (λ p. keep-length end t r.log)

pub new_epoch_keeps : (epoch end : ℕ) (t : List End) → Keeps (λ h. (new_epoch_held epoch end t h).after)
new_epoch_keeps epoch end t = record {
  key = λ h. new_epoch_key epoch end t h;
  shard =
      λ h x. new_epoch_after FormedHeld h x epoch end t
      (λ p q. record {
        name = x.name;
        holders = x.holders;
        log = (let a = adopted-length h.replica epoch end t in let b = x.log in omega arith);
        rows = no_rows;
      });
  log =
      λ h e. new_epoch_after (λ g. log_of g ≡ true) h e epoch end t
      (λ p q. formed-log (adopted h.replica epoch end t) (formed-adopted h.replica epoch end t (log-formed h.replica e)));
}

begun-held : (k : Key) (m : Metric) → name_fits k.collection ≡ true → FormedHeld (begun k m)
begun-held k m p = record { name = p; holders = omega arith; log = omega arith; rows = no_rows }

begun-log : (k : Key) (m : Metric) → log_of (begun k m) ≡ true
begun-log k m = formed-log (empty_replica 0 m) (formed-empty 0 m)

new_epoch_at_lem : (n : Node) (k : Key) (epoch end : ℕ) (t : List End) (m : Metric) (o : Option Held) → name_fits k.collection ≡ true
    → FormedNode n → FormedNode (new_epoch_at n k epoch end t m o).after
new_epoch_at_lem n k epoch end t m none p x =
    by-test (λ (v : Result BackupAnswer Node). FormedNode v.after) (leb max_held (length n.held)) (λ q. x)
    (λ q. put-formed n (new_epoch_held epoch end t (begun k m)).after (leb-false max_held (length n.held) q)
    ((new_epoch_keeps epoch end t).shard (begun k m) (begun-held k m p)) ((new_epoch_keeps epoch end t).log (begun k m) (begun-log k m)) x)
new_epoch_at_lem n k epoch end t m (some h) p x = at-formed n k unheld (new_epoch_held epoch end t) (new_epoch_keeps epoch end t) x

pub new_epoch_kept : (n : Node) (k : Key) (epoch end : ℕ) (t : List End) (m : Metric) → name_fits k.collection ≡ true → FormedNode n
    → FormedNode (on_new_epoch n k epoch end t m).after
unfolding on_new_epoch
new_epoch_kept n k epoch end t m p x = new_epoch_at_lem n k epoch end t m (held_shard n k) p x

pub copy_keeps : (epoch : ℕ) (es : List Entry) → every well_formed_entry es ≡ true → Keeps (λ h. (copy_held epoch es h).after)
copy_keeps epoch es p = record {
  key = λ h. copy_key epoch es h;
  shard =
      λ h x. copy_after FormedHeld h x epoch es
      (λ q. with-replica h (store_all h.replica epoch es) (has_room (store_all h.replica epoch es) q) x);
  log =
      λ h e. copy_after (λ g. log_of g ≡ true) h e epoch es
      (λ q. formed-log (store_all h.replica epoch es) (formed_store_all h.replica epoch es p (log-formed h.replica e)));
}

pub copy_kept : (n : Node) (k : Key) (epoch : ℕ) (es : List Entry) → every well_formed_entry es ≡ true → FormedNode n
    → FormedNode (on_copy n k epoch es).after
unfolding on_copy
copy_kept n k epoch es p x = at-formed n k unheld (copy_held epoch es) (copy_keeps epoch es p) x

-- ---- ack

-- a StaleEpoch records nothing
stale_deed : {P : Type 0} (s : Sent) (b : Bool) (t : ℕ) (a : Bool) → cond b step_down (not_above s) ≡ record_ack t a → P
stale_deed s true t a d = let z : ◌≡◌ {A = ℕ} 0 1 = cc in absurd (omega arith)
stale_deed sent_align false t a d = let z : ◌≡◌ {A = ℕ} 0 1 = cc in absurd (omega arith)
stale_deed sent_replicate false t a d = let z : ◌≡◌ {A = ℕ} 0 1 = cc in absurd (omega arith)
stale_deed sent_copy false t a d = let z : ◌≡◌ {A = ℕ} 0 1 = cc in absurd (omega arith)

-- a reply that is not refused acks no more than 2^62
deed_fits : (s : Sent) (r : Reply) (epoch t : ℕ) (a : Bool) → bad_reply r ≡ false → deed_of s r epoch ≡ record_ack t a → t ≤ max_time
unfolding bad_reply deed_of ◌or◌
deed_fits sent_align (reply_stored u) epoch t a b d = let z : ◌≡◌ {A = ℕ} 0 1 = cc in absurd (omega arith)
deed_fits sent_replicate (reply_stored u) epoch t a b d = let e : u ≡ t = cc in let f = ltb-false max_time u b in omega arith
deed_fits sent_copy (reply_stored u) epoch t a b d = let e : u ≡ t = cc in let f = ltb-false max_time u b in omega arith
deed_fits sent_align (reply_gap u) epoch t a b d = let z : ◌≡◌ {A = ℕ} 0 1 = cc in absurd (omega arith)
deed_fits sent_replicate (reply_gap u) epoch t a b d = gap_fits (eqb u 0) b
  where
    gap_fits : (c : Bool) → c or ltb max_time u ≡ false → t ≤ max_time
    gap_fits true q = not_both true refl q
    gap_fits false q = let e : u - 1 ≡ t = cc in let f = ltb-false max_time u q in omega arith
deed_fits sent_copy (reply_gap u) epoch t a b d = let z : ◌≡◌ {A = ℕ} 0 1 = cc in absurd (omega arith)
deed_fits sent_align (reply_adopted u) epoch t a b d = let e : u ≡ t = cc in let f = ltb-false max_time u b in omega arith
deed_fits sent_replicate (reply_adopted u) epoch t a b d = let z : ◌≡◌ {A = ℕ} 0 1 = cc in absurd (omega arith)
deed_fits sent_copy (reply_adopted u) epoch t a b d = let z : ◌≡◌ {A = ℕ} 0 1 = cc in absurd (omega arith)
deed_fits sent_align (reply_stale u) epoch t a b d = stale_deed sent_align (ltb epoch u) t a d
deed_fits sent_replicate (reply_stale u) epoch t a b d = stale_deed sent_replicate (ltb epoch u) t a d
deed_fits sent_copy (reply_stale u) epoch t a b d = stale_deed sent_copy (ltb epoch u) t a d

acked-fits : (last through : ℕ) (aligned : Bool) (p : Peer) → through ≤ max_time → ack_fits p ≡ true
    → leb (acked_through last through aligned p) max_time ≡ true
unfolding acked_through
acked-fits last through true p h e = le-leb (min through last) max_time (omega arith)
acked-fits last through false p h e =
    let f = leb-true p.acked.0 max_time e in le-leb (max p.acked.0 through) max_time (omega arith)

pub ack_keeps : (epoch peer : ℕ) (s : Sent) (r : Reply) → bad_reply r ≡ false → Keeps (λ h. (ack_held epoch peer s r h).after)
unfolding ack_row unaligned
ack_keeps epoch peer s r b = record {
  key = λ h. ack_key epoch peer s r h;
  shard =
      λ h x. ack_after FormedHeld h x epoch peer s r
      (record { name = x.name; holders = x.holders; log = x.log; rows = no_rows })
      (with-peers h (update (of_node peer) unaligned h.peers) (rows-update peer unaligned (λ p. refl) (λ p e. e) h.peers x.rows) x)
      (λ t a d. with-peers h (update (of_node peer) (ack_row (last_offset h.replica) t a) h.peers)
      (rows-update peer (ack_row (last_offset h.replica) t a) (λ p. refl)
      (λ p e. acked-fits (last_offset h.replica) t a p (deed_fits s r epoch t a b d) e) h.peers x.rows) x);
  log = λ h e. log_of_lem h (ack_held epoch peer s r h).after (ack_replica epoch peer s r h) e;
}

pub ack_kept : (n : Node) (k : Key) (epoch peer : ℕ) (s : Sent) (r : Reply) → FormedNode n → FormedNode (on_ack n k epoch peer s r).after
unfolding on_ack
ack_kept n k epoch peer s r x =
    by-test (λ (v : Result AckAnswer Node). FormedNode v.after) (bad_reply r) (λ p. x)
    (λ p. at-formed n k noted (ack_held epoch peer s r) (ack_keeps epoch peer s r p) x)

-- ---- outcome of a proposal

pub outcome-keeps : (me epoch peer : ℕ) (left : Bool) → Keeps (outcome_held me epoch peer left)
unfolding settled_row
outcome-keeps me epoch peer left = record {
  key = λ h. outcome-key me epoch peer left h;
  shard =
      λ h x. outcome-after FormedHeld h x me epoch peer left
      (record {
        name = x.name;
        holders = x.holders;
        log = x.log;
        rows = rows-update peer (settled_row left) (λ p. refl) (λ p e. e) h.peers x.rows;
      });
  log = λ h e. log_of_lem h (outcome_held me epoch peer left h) (outcome-replica me epoch peer left h) e;
}

pub outcome-kept : (n : Node) (k : Key) (epoch peer : ℕ) (what : Proposal) (applied : Bool) → FormedNode n
    → FormedNode (on_outcome n k epoch peer what applied).after
unfolding on_outcome
outcome-kept n k epoch peer what applied x =
    at-formed n k settled (outcome_at n.id epoch peer (leaves what applied)) (outcome-keeps n.id epoch peer (leaves what applied)) x
