-- Paper 01, 'Who is turned down', 24: a well-formed node, as facts, and when a changed shard leaves it well formed. The calls are in
-- Kept.antt. Assumes nothing.
use Prim.Native.Nat.{ℕ, zero, suc, ◌+◌, ◌≤◌, ◌<◌}
use mathlib.Core.Path.{◌≡◌, refl, sym, ap, ◌∙◌, subst}
use mathlib.Core.Bool.{Bool, true, false, cond}
use mathlib.Core.List.{List, [], ◌∷◌}
use mathlib.Core.Option.{Option, none, some}
use native.Mathlib.Omega.{arith}
use lib.Dec.{leb, ltb}
use lib.ListN.{length}
use borrow.Author.Tests.{leb-true, le-leb}
use Rattle.spec.specs.Lists.{◌and◌, every, find, rising, put}
use Rattle.spec.specs.Limits.{max_entries, max_held, max_replicas, max_workers}
use Rattle.spec.specs.Keys.{Key, key_below}
use Rattle.spec.specs.Log.{last_offset}
use Rattle.spec.specs.Map.WellFormed.{name_fits}
use Rattle.spec.specs.Map.Apply.{update}
use Rattle.spec.specs.Node.Held.{Held, Node}
use Rattle.spec.specs.Node.Shards.{Result, held_below, row_below, of_key, with_held, at_shard}
use Rattle.spec.specs.Node.WellFormed.{ack_fits, well_formed_held, well_formed_header, log_of, well_formed_node}
use Rattle.spec.specs.declared.Peer.{Peer}
use Rattle.spec_laws.proofs.Lists.{and_true, and_left, and_right}
use Rattle.spec_laws.proofs.Rising.{ByKey, put-rising}
use Rattle.spec_laws.proofs.Map.Orders.{by_key_lem, numbers, keys}
use Rattle.spec_laws.proofs.Map.Rows.{length-update, every-update, update-rising, every-put, put-most}
use Rattle.spec_laws.proofs.Node.Shards.{at_cases}

-- ---- the two orders

pub held_by_key : ByKey held_below
held_by_key = by_key_lem key_below keys (λ (h : Held). h.key)

pub rows_by_node : ByKey row_below
rows_by_node = by_key_lem ltb numbers (λ (p : Peer). p.node.0)

-- ---- one held shard

-- the peers' rows of a shard
pub record FormedRows (l : List Peer) : Type 0 where
  pub most : length l ≤ max_workers
  pub rise : rising row_below l ≡ true
  pub acks : every ack_fits l ≡ true

pub record FormedHeld (h : Held) : Type 0 where
  pub name : name_fits h.key.collection ≡ true
  pub holders : length h.holders ≤ max_replicas
  pub log : last_offset h.replica ≤ max_entries
  pub rows : FormedRows h.peers

pub held-formed : (h : Held) → well_formed_held h ≡ true → FormedHeld h
unfolding well_formed_held
held-formed h e =
    let a = name_fits h.key.collection in
    let b = leb (length h.holders) max_replicas in
    let c = leb (last_offset h.replica) max_entries in
    let d = leb (length h.peers) max_workers in
    let f = rising row_below h.peers in
    let g = every ack_fits h.peers in
    let r = and_right a (b and c and d and f and g) e in
    let s = and_right b (c and d and f and g) r in
    let t = and_right c (d and f and g) s in
    let u = and_right d (f and g) t in
    record {
      name = and_left a (b and c and d and f and g) e;
      holders = leb-true (length h.holders) max_replicas (and_left b (c and d and f and g) r);
      log = leb-true (last_offset h.replica) max_entries (and_left c (d and f and g) s);
      rows = record {
        most = leb-true (length h.peers) max_workers (and_left d (f and g) t);
        rise = and_left f g u;
        acks = and_right f g u;
      };
    }

pub formed-held : (h : Held) → FormedHeld h → well_formed_held h ≡ true
unfolding well_formed_held
formed-held h x =
    let a = name_fits h.key.collection in
    let b = leb (length h.holders) max_replicas in
    let c = leb (last_offset h.replica) max_entries in
    let d = leb (length h.peers) max_workers in
    let f = rising row_below h.peers in
    let g = every ack_fits h.peers in
    and_true a (b and c and d and f and g) x.name
    (and_true b (c and d and f and g) (le-leb (length h.holders) max_replicas x.holders)
    (and_true c (d and f and g) (le-leb (last_offset h.replica) max_entries x.log)
    (and_true d (f and g) (le-leb (length h.peers) max_workers x.rows.most) (and_true f g x.rows.rise x.rows.acks))))

pub no_rows : FormedRows []
unfolding rising every
no_rows = record { most = omega arith; rise = refl; acks = refl }

-- ---- the node

pub record FormedNode (n : Node) : Type 0 where
  pub most : length n.held ≤ max_held
  pub rise : rising held_below n.held ≡ true
  pub shards : every well_formed_held n.held ≡ true
  pub logs : every log_of n.held ≡ true

pub node-formed : (n : Node) → well_formed_node n ≡ true → FormedNode n
unfolding well_formed_node well_formed_header
node-formed n e =
    let a = leb (length n.held) max_held in
    let b = rising held_below n.held in
    let c = every well_formed_held n.held in
    let d = every log_of n.held in
    let h = and_left (a and b and c) d e in
    let r = and_right a (b and c) h in
    record {
      most = leb-true (length n.held) max_held (and_left a (b and c) h);
      rise = and_left b c r;
      shards = and_right b c r;
      logs = and_right (a and b and c) d e;
    }

pub formed-header : (n : Node) → FormedNode n → well_formed_header n ≡ true
unfolding well_formed_header
formed-header n x =
    let a = leb (length n.held) max_held in
    let b = rising held_below n.held in
    let c = every well_formed_held n.held in
    and_true a (b and c) (le-leb (length n.held) max_held x.most) (and_true b c x.rise x.shards)

pub formed-node : (n : Node) → FormedNode n → well_formed_node n ≡ true
unfolding well_formed_node
formed-node n x = and_true (well_formed_header n) (every log_of n.held) (formed-header n x) x.logs

-- what a change of one shard keeps: its key, and the clauses about it
pub record Keeps (f : Held → Held) : Type 0 where
  pub key : (h : Held) → (f h).key ≡ h.key
  pub shard : (h : Held) → FormedHeld h → FormedHeld (f h)
  pub log : (h : Held) → log_of h ≡ true → log_of (f h) ≡ true

-- one shard changed in its place
pub update-formed : (n : Node) (p : Held → Bool) (f : Held → Held) → Keeps f → FormedNode n → FormedNode (with_held n (update p f n.held))
update-formed n p f keeps x = record {
  most = (let e = length-update p f n.held in let m = x.most in omega arith);
  rise =
      update-rising held_below held_by_key p f
      (λ a b. ap (λ (k : Key). key_below k b.key) (keeps.key a)) (λ a b. ap (key_below a.key) (keeps.key b)) n.held x.rise;
  shards =
      every-update p f well_formed_held (λ h q e. formed-held (f h) (keeps.shard h (held-formed h e))) n.held x.shards;
  logs = every-update p f log_of (λ h q e. keeps.log h e) n.held x.logs;
}

-- a call on the one shard that it names
pub at-formed : {A : Type 0} (n : Node) (k : Key) (absent : A) (f : Held → Result A Held) → Keeps (λ h. (f h).after) → FormedNode n
    → FormedNode (at_shard n k absent f).after
at-formed n k absent f keeps x =
    at_cases n k absent f (λ r. FormedNode r.after) (λ e. x) (λ h e. update-formed n (of_key k) (λ h. (f h).after) keeps x)

-- one shard more
pub put-formed : (n : Node) (h : Held) → length n.held < max_held → FormedHeld h → log_of h ≡ true → FormedNode n
    → FormedNode (with_held n (put held_below h n.held))
put-formed n h room fh lh x = record {
  most = (let m = put-most held_below h n.held in omega arith);
  rise = put-rising held_below held_by_key h n.held x.rise;
  shards = every-put well_formed_held held_below h n.held (formed-held h fh) x.shards;
  logs = every-put log_of held_below h n.held lh x.logs;
}
