-- Each call of a node as its contract relates it: the definition's call where the lent arrays pass (24), or refused with nothing changed.
-- Assumes nothing.
use Prim.Native.Nat.{ℕ}
use mathlib.Core.Path.{◌≡◌, refl}
use mathlib.Core.Bool.{Bool, true, false, cond, not}
use mathlib.Core.List.{List, map}
use mathlib.Core.Option.{Option, none, some}
use Rattle.spec.specs.Lists.{◌and◌, ◌or◌, every}
use Rattle.spec.specs.Keys.{Key}
use Rattle.spec.specs.Refusals.{Refusal, undecodable, outside_domain, malformed}
use Rattle.spec.specs.Map.WellFormed.{well_formed_map}
use Rattle.spec.specs.Layout.Message as message
use Rattle.spec.specs.Node.Held as held
use Rattle.spec.specs.Node.Shards.{Result, gives}
use Rattle.spec.specs.Node.Wire.{op_in_domain, patterns_in_domain, entry_in_domain, stored_op, stored_entry, floats_of}
use Rattle.spec.specs.Node.Lease.{granted, grant_refused, grant}
use Rattle.spec.specs.Node.Client.{write_refused, on_write, search_refused, on_search, wait_refused, on_wait}
use Rattle.spec.specs.Node.Backup.{backup_refused, on_replicate, on_new_epoch, on_copy}
use Rattle.spec.specs.Node.Ack.{ack_refused, Sent, bad_reply, on_ack, outcome_refused, Proposal, on_outcome}
use Rattle.spec.specs.Node.Shown.{shown_refused, on_map}
use Rattle.spec.specs.Node.WellFormed.{well_formed_header, well_formed_lent}
use Rattle.spec.specs.Node.Calls.{
  late_time,
  write_of,
  write_with,
  call_write,
  search_of,
  search_with,
  call_search,
  replicate_of,
  replicate_with,
  call_replicate,
  new_epoch_of,
  new_epoch_with,
  call_new_epoch,
  copy_of,
  copy_with,
  call_copy,
  grant_with,
  call_grant,
  wait_with,
  call_wait,
  ack_of,
  ack_with,
  call_ack,
  outcome_with,
  call_outcome,
  shown_with,
  call_shown,
}
use Rattle.spec_laws.proofs.Lists.{and_true, and_left, and_right}
use Rattle.map_tables.specs.View.{view_map}
use Rattle.map_tables.specs.declared.ShardMap.{ShardMap}
use Rattle.map_check.specs.Lent as maps
use Rattle.node_header.specs.declared.Node.{Node}
use Rattle.node_header.specs.View.{Stores, view_node}
use Rattle.node_header.specs.Formed.{lent_node}
use Rattle.node_header.proofs.Lists.{by_case}
use Rattle.thm_durable.proofs.Ways.{As, same, unlent}
use Rattle.thm_durable.proofs.Lent.{map-well, header-well}

-- every call: a first refusal, then 24 by a test t that implies the definition's u, then what it does
checked : {A : Type 0} (refused : Refusal → A) (v : held.Node) (c : Bool) (first : Refusal) (t u : Bool) (does : Result A held.Node)
    → (t ≡ true → u ≡ true)
    → As refused v
    (cond c (gives (refused first) v) (cond (not t) (gives (refused malformed) v) does))
    (cond c (gives (refused first) v) (cond (not u) (gives (refused malformed) v) does))
checked refused v true first t u does h = same refl
checked refused v false first t u does h = by_case t (λ q. same (rw (q, h q))) (λ q. unlent malformed (rw q))

-- ---- the calls that are lent a header

module _ (s : Stores) (n : Node) where
  abbrev v : held.Node
  v = view_node s n

  pub grant_as : (i sent lease : ℕ) → As grant_refused v (grant_with (lent_node s n) v i sent lease) (call_grant v i sent lease)
  unfolding grant_with call_grant
  grant_as i sent lease =
      checked grant_refused v (late_time sent or late_time lease) undecodable (lent_node s n) (well_formed_header v) (gives granted (grant v i sent lease))
      (header-well s n)

  pub wait_as : (now timeout : ℕ) (k : Key) (epoch offset : ℕ)
      → As wait_refused v (wait_with (lent_node s n) v now timeout k epoch offset) (call_wait v now timeout k epoch offset)
  unfolding wait_with call_wait
  wait_as now timeout k epoch offset =
      checked wait_refused v (late_time now or late_time timeout) undecodable (lent_node s n) (well_formed_header v) (on_wait v now timeout k epoch offset)
      (header-well s n)

  pub outcome_as_lem : (k : Key) (epoch peer : ℕ) (what : Proposal) (applied : Bool)
      → As outcome_refused v (outcome_with (lent_node s n) v k epoch peer what applied) (call_outcome v k epoch peer what applied)
  unfolding outcome_with call_outcome
  outcome_as_lem k epoch peer what applied =
      checked outcome_refused v false malformed (lent_node s n) (well_formed_header v) (on_outcome v k epoch peer what applied) (header-well s n)

  pub ack_as_lem : (k : Key) (epoch peer : ℕ) (sent : Sent) (bytes : List ℕ)
      → As ack_refused v (ack_with (lent_node s n) v k epoch peer sent bytes) (call_ack v k epoch peer sent bytes)
  unfolding ack_with call_ack
  ack_as_lem k epoch peer sent bytes = go (message.decode_reply bytes)
    where
      go : (o : Option message.Reply) → As ack_refused v (ack_of (lent_node s n) v k epoch peer sent o) (ack_of (well_formed_header v) v k epoch peer sent o)
      go none = same refl
      go (some r) =
          checked ack_refused v (bad_reply r) undecodable (lent_node s n) (well_formed_header v) (on_ack v k epoch peer sent r) (header-well s n)

  pub shown_as_lem : (fresh : ℕ) (m : ShardMap)
      → As shown_refused v (shown_with (lent_node s n and maps.well_formed_lent m) v fresh (view_map m)) (call_shown v fresh (view_map m))
  unfolding shown_with call_shown
  shown_as_lem fresh m =
      let a = lent_node s n in
      let b = maps.well_formed_lent m in
      checked shown_refused v false malformed (a and b) (well_formed_header v and well_formed_map (view_map m)) (on_map v fresh (view_map m))
      (λ e. and_true (well_formed_header v) (well_formed_map (view_map m)) (header-well s n (and_left a b e)) (map-well m (and_right a b e)))

-- ---- the calls that are lent a store too: t is the contract's test of the shard that the message names

module _ (v : held.Node) (t : Key → Bool) (m : List ℕ) where
  pub replicate_as : ((z : message.Replicated) → message.decode_replicate m ≡ some z → t z.key ≡ true → well_formed_lent v z.key ≡ true)
      → As backup_refused v (replicate_with t v m) (call_replicate v m)
  unfolding replicate_with call_replicate
  replicate_as h = go (message.decode_replicate m) refl
    where
      go : (o : Option message.Replicated) → message.decode_replicate m ≡ o
          → As backup_refused v (replicate_of t v o) (replicate_of (well_formed_lent v) v o)
      go none e = same refl
      go (some z) e =
          checked backup_refused v (not (op_in_domain z.op)) outside_domain (t z.key) (well_formed_lent v z.key)
          (on_replicate v z.key z.epoch z.offset (stored_op z.op)) (h z e)

  pub copy_as : ((z : message.Copied) → message.decode_copy_shard m ≡ some z → t z.key ≡ true → well_formed_lent v z.key ≡ true)
      → As backup_refused v (copy_with t v m) (call_copy v m)
  unfolding copy_with call_copy
  copy_as h = go (message.decode_copy_shard m) refl
    where
      go : (o : Option message.Copied) → message.decode_copy_shard m ≡ o → As backup_refused v (copy_of t v o) (copy_of (well_formed_lent v) v o)
      go none e = same refl
      go (some z) e =
          checked backup_refused v (not (every entry_in_domain z.entries)) outside_domain (t z.key) (well_formed_lent v z.key)
          (on_copy v z.key z.epoch (map stored_entry z.entries)) (h z e)

  pub new_epoch_as : ((z : message.NewEpoch) → message.decode_new_epoch m ≡ some z → t z.key ≡ true → well_formed_lent v z.key ≡ true)
      → As backup_refused v (new_epoch_with t v m) (call_new_epoch v m)
  unfolding new_epoch_with call_new_epoch
  new_epoch_as h = go (message.decode_new_epoch m) refl
    where
      go : (o : Option message.NewEpoch) → message.decode_new_epoch m ≡ o → As backup_refused v (new_epoch_of t v o) (new_epoch_of (well_formed_lent v) v o)
      go none e = same refl
      go (some z) e =
          checked backup_refused v false malformed (t z.key) (well_formed_lent v z.key)
          (on_new_epoch v z.key z.epoch z.end z.table z.metric) (h z e)

  pub write_as_lem : (now least : ℕ) → ((z : message.Write) → message.decode_write m ≡ some z → t z.key ≡ true → well_formed_lent v z.key ≡ true)
      → As write_refused v (write_with t v now least m) (call_write v now least m)
  unfolding write_with call_write
  write_as_lem now least h = late (late_time now)
    where
      go : (o : Option message.Write) → message.decode_write m ≡ o → As write_refused v (write_of t v now least o) (write_of (well_formed_lent v) v now least o)
      go none e = same refl
      go (some z) e =
          checked write_refused v (not (op_in_domain z.op)) outside_domain (t z.key) (well_formed_lent v z.key)
          (on_write v now least z.key z.epoch (stored_op z.op)) (h z e)

      late : (b : Bool)
          → As write_refused v
          (cond b (gives (write_refused undecodable) v) (write_of t v now least (message.decode_write m)))
          (cond b (gives (write_refused undecodable) v) (write_of (well_formed_lent v) v now least (message.decode_write m)))
      late true = same refl
      late false = go (message.decode_write m) refl

  pub search_as_lem : (now room : ℕ) → ((z : message.Query) → message.decode_search m ≡ some z → t z.key ≡ true → well_formed_lent v z.key ≡ true)
      → As search_refused v (search_with t v now room m) (call_search v now room m)
  unfolding search_with call_search
  search_as_lem now room h = late (late_time now)
    where
      go : (o : Option message.Query) → message.decode_search m ≡ o → As search_refused v (search_of t v now room o) (search_of (well_formed_lent v) v now room o)
      go none e = same refl
      go (some z) e =
          checked search_refused v (not (patterns_in_domain z.bits)) outside_domain (t z.key) (well_formed_lent v z.key)
          (on_search v now room z.key z.epoch z.k (floats_of z.bits)) (h z e)

      late : (b : Bool)
          → As search_refused v
          (cond b (gives (search_refused undecodable) v) (search_of t v now room (message.decode_search m)))
          (cond b (gives (search_refused undecodable) v) (search_of (well_formed_lent v) v now room (message.decode_search m)))
      late true = same refl
      late false = go (message.decode_search m) refl
