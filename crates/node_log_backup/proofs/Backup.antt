-- Laws of a primary's messages at one shard with its store. Assumes nothing.
use Prim.Native.Nat.{ℕ}
use mathlib.Core.Path.{◌≡◌, refl, ap, sym, ◌∙◌, subst}
use mathlib.Core.Bool.{Bool, true, false, cond}
use mathlib.Core.List.{List, [], map}
use mathlib.Core.Option.{none, some}
use native.Mathlib.Omega.{arith}
use lib.Dec.{ltb}
use Rattle.spec.specs.Keys.{Key}
use Rattle.spec.specs.Refusals.{no_room}
use Rattle.spec.specs.Log.{Op, Entry, End, ShardReplica, Stored, StoreResult, last_offset, store, adopted}
use Rattle.spec.specs.Layout.Message.{reply_stale, reply_adopted}
use Rattle.spec.specs.Layout.Parts.{WireOp, WireEntry}
use Rattle.spec.specs.Node.Wire.{stored_op, stored_entry}
use Rattle.spec.specs.Node.Held as held
use Rattle.spec.specs.Node.Shards.{Result, gives, with_replica, demoted}
use Rattle.spec.specs.Node.Client.{overfull}
use Rattle.spec.specs.Node.Backup.{BackupAnswer, replied, backup_refused, reply_of, leads_from, replicate_held, copy_held, new_epoch_held}
use Rattle.spec.specs.declared.Metric.{Metric}
use Rattle.spec.specs.declared.Offset.{Offset}
use Rattle.spec_laws.proofs.Lists.{by-test, not_both, some_same}
use Rattle.node_shard.specs.declared.Held.{Held}
use Rattle.node_shard.specs.View.{view_held}
use Rattle.node_admit.specs.declared.Epochs.TheVariants as E
use Rattle.node_admit.specs.Admits.{TakesEpoch}
use Rattle.node_admit.specs.Headers.{Realigns}
use Rattle.wire_read.specs.declared.ReplicatePart.{ReplicatePart}
use Rattle.wire_read.specs.declared.CopyPart.{CopyPart}
use Rattle.wire_read.specs.declared.NewEpochPart.{NewEpochPart}
use Rattle.log_store.specs.View.{Columns}
use Rattle.log_store.specs.Store.{Store, lent, Sized, Arrived, answer_of, store_log, store_rows, replica_in, well_formed_store}
use Rattle.log_store.specs.Table.{vectors_of}
use Rattle.log_store.specs.Align.{Aligned}
use Rattle.log_store.specs.declared.replica.Outcome.{Outcome}
use Rattle.log_store.specs.declared.replica.Outcome.TheVariants.{Through, Gap, Stale, Full}
use Rattle.log_store.specs.declared.replica.Adoption.{Adoption}
use Rattle.node_log_write.specs.Writes.{view_stored}
use Rattle.log_arrive.specs.Arrivals.{answer_as, Arrives, Copies}
use Rattle.log_arrive.specs.Arrivals as arrivals
use Rattle.log_arrive.specs.Parts.{op_in, entries_in, table_in}
use Rattle.log_arrive.proofs.Stores.{last-is}
use Rattle.log_arrive.proofs.Messages.{replicate_part_lem, replicate_op, copy_part_lem, copy_entries, new_epoch_part_lem, new_epoch_table}
use Rattle.node_log_backup.specs.declared.Answer.{Answer}
use Rattle.node_log_backup.specs.declared.Answer.TheVariants as A
use Rattle.node_log_backup.specs.declared.Backed.{Backed}
use Rattle.node_log_backup.specs.Backs.{answered, turned_down, Backs, IsReplicate, IsCopy, IsNewEpoch, Replicates, CopiesShard, TakesNewEpoch}

-- the shard whose log has another length
abbrev pub with_last : Held → ℕ → Held
with_last h n = record {
  epoch = h.epoch;
  metric = h.metric;
  last = n;
  role = h.role;
  own = h.own;
  replicas = h.replicas;
  holders = h.holders;
  peers = h.peers;
  count = h.count;
}

-- a shard's replica is its store's
view-replica : (k : Key) (h : Held) (s : Store) → (view_stored k h s).replica ≡ replica_in h.epoch.0 h.metric s
unfolding replica_in
view-replica k h s = refl

view-with : (k : Key) (h : Held) (s t : Store) (n : ℕ)
    → view_stored k (with_last h n) t ≡ with_replica (view_stored k h s) (replica_in h.epoch.0 h.metric t)
unfolding replica_in
view-with k h s t n = refl

-- ---- Replicate and CopyShard

-- an outcome's answer is turned down where the outcome is
turned_as : (a : Answer) (o : Outcome) → answered a ≡ answer_as o → turned_down a ≡ true → arrivals.turned_down o ≡ true
turned_as (A.Stored x) o e d = not_both false d refl
turned_as (A.Gap x) o e d = not_both false d refl
turned_as (A.Adopted x) o e d = not_both false d refl
turned_as (A.StaleEpoch x) (Through y) e d = let z : ◌≡◌ {A = ℕ} 0 1 = cc in absurd (omega arith)
turned_as (A.StaleEpoch x) (Gap y) e d = let z : ◌≡◌ {A = ℕ} 0 1 = cc in absurd (omega arith)
turned_as (A.StaleEpoch x) (Stale y) e d = refl
turned_as (A.StaleEpoch x) Full e d = refl
turned_as A.NoRoom (Through y) e d = let z : ◌≡◌ {A = ℕ} 0 1 = cc in absurd (omega arith)
turned_as A.NoRoom (Gap y) e d = let z : ◌≡◌ {A = ℕ} 0 1 = cc in absurd (omega arith)
turned_as A.NoRoom (Stale y) e d = refl
turned_as A.NoRoom Full e d = refl

-- what a call on a replica left, on the shard around it
backs : (call : held.Held → Result BackupAnswer held.Held) (h : Held) (s t : Store) (n : ℕ) (a : Answer) (o : Outcome) (stored : ℕ)
    → s.count ≡ h.last → t.count ≡ n → answered a ≡ answer_as o → (arrivals.turned_down o ≡ true → t ≡ s)
    → well_formed_store t ≡ true → Sized t
    → ((x : held.Held) → x.replica ≡ replica_in h.epoch.0 h.metric s
    → gives (answer_as o) (with_replica x (replica_in h.epoch.0 h.metric t)) ≡ call x)
    → Backs call h s t (record { answer = a; stored = stored; held = with_last h n })
backs call h s t n a o stored c l e kept w z f = record {
  same = λ k.
      ap (λ (b : BackupAnswer). gives {S = held.Held} b (view_stored k (with_last h n) t)) e
      ∙ ap (λ (x : held.Held). gives {S = held.Held} (answer_as o) x) (view-with k h s t n)
      ∙ f (view_stored k h s) (view-replica k h s);
  kept = λ d.
      let q : t ≡ s = kept (turned_as a o e d) in
      (q, ap (with_last h) (sym l ∙ ap (λ (x : Store). x.count) q ∙ c));
  well = w;
  sized = z;
}

-- node.rs, on_replicate: the reply that tells what became of the entry
reply_some : (o : Outcome) (x : Stored) → answer_of o ≡ some x → answer_as o ≡ replied (reply_of x)
reply_some (Through y) x e = ap (λ (z : Stored). replied (reply_of z)) (some_same e)
reply_some (Gap y) x e = ap (λ (z : Stored). replied (reply_of z)) (some_same e)
reply_some (Stale y) x e = ap (λ (z : Stored). replied (reply_of z)) (some_same e)
reply_some Full x e = let z : ◌≡◌ {A = ℕ} 0 1 = cc in absurd (omega arith)

reply-none : (o : Outcome) → answer_of o ≡ none → answer_as o ≡ backup_refused no_room
reply-none (Through y) e = let z : ◌≡◌ {A = ℕ} 0 1 = cc in absurd (omega arith)
reply-none (Gap y) e = let z : ◌≡◌ {A = ℕ} 0 1 = cc in absurd (omega arith)
reply-none (Stale y) e = let z : ◌≡◌ {A = ℕ} 0 1 = cc in absurd (omega arith)
reply-none Full e = refl

-- the answer and the replica of a store, as of the call
stored-by : (o : Outcome) (x : held.Held) (r : ShardReplica) (v : StoreResult) (b : Bool) → answer_of o ≡ cond b none (some v.answer)
    → r ≡ cond b x.replica v.replica
    → gives {S = held.Held} (answer_as o) (with_replica x r)
    ≡ cond b (gives (backup_refused no_room) x) (gives (replied (reply_of v.answer)) (with_replica x v.replica))
stored-by o x r v true e q =
    ap (λ (a : BackupAnswer). gives {S = held.Held} a (with_replica x r)) (reply-none o e)
    ∙ ap (λ (y : ShardReplica). gives {S = held.Held} (backup_refused no_room) (with_replica x y)) q
stored-by o x r v false e q =
    ap (λ (a : BackupAnswer). gives {S = held.Held} a (with_replica x r)) (reply_some o v.answer e)
    ∙ ap (λ (y : ShardReplica). gives {S = held.Held} (replied (reply_of v.answer)) (with_replica x y)) q

replicated-by : (own epoch offset : ℕ) (op : Op) (m : Metric) (s t : Store) (o : Outcome)
    → Arrived own epoch (record { epoch = epoch; offset = offset; op = op }) s t o
    → (x : held.Held) → x.replica ≡ replica_in own m s
    → gives (answer_as o) (with_replica x (replica_in own m t)) ≡ replicate_held epoch offset op x
unfolding replicate_held
replicated-by own epoch offset op m s t o d x e =
    let entry : Entry = record { epoch = epoch; offset = offset; op = op } in
    let v = store x.replica epoch entry in
    let q : v ≡ store (replica_in own m s) epoch entry = ap (λ (r : ShardReplica). store r epoch entry) e in
    stored-by o x (replica_in own m t) v (overfull v.replica)
    (d.answer m ∙ ap (λ (y : StoreResult). cond (overfull y.replica) none (some y.answer)) (sym q))
    (d.replica m ∙ ap (λ (y : StoreResult). cond (overfull y.replica) (replica_in own m s) y.replica) (sym q)
    ∙ ap (λ (r : ShardReplica). cond (overfull v.replica) r v.replica) (sym e))

module _ (h : Held) (s t : Store) (n : ℕ) (a : Answer) (o : Outcome) (stored : ℕ)
    (c : s.count ≡ h.last) (l : t.count ≡ n) (e : answered a ≡ answer_as o) where
  pub backs_replicate : (epoch offset : ℕ) (op : Op) → Arrives h.epoch.0 epoch (record { epoch = epoch; offset = offset; op = op }) s t o
      → Backs (replicate_held epoch offset op) h s t (record { answer = a; stored = stored; held = with_last h n })
  backs_replicate epoch offset op d =
      backs (replicate_held epoch offset op) h s t n a o stored c l e d.kept d.arrived.well d.arrived.sized
      (replicated-by h.epoch.0 epoch offset op h.metric s t o d.arrived)

  pub backs_copy : (epoch : ℕ) (es : List Entry) → Copies h.epoch.0 epoch es s t o
      → Backs (copy_held epoch es) h s t (record { answer = a; stored = stored; held = with_last h n })
  backs_copy epoch es d =
      backs (copy_held epoch es) h s t n a o stored c l e d.kept d.well d.sized (d.same h.metric)

-- ---- NewEpoch

-- turned down: the store and the shard as they were
pub backs_older : (h : Held) (s : Store) (epoch end own : ℕ) (t : List End) (stored : ℕ) → TakesEpoch h epoch (E.Stale own)
    → well_formed_store s ≡ true → Sized s
    → Backs (new_epoch_held epoch end t) h s s (record { answer = A.StaleEpoch (record { 0 = own }); stored = stored; held = h })
backs_older h s epoch end own t stored d w z = record {
  same = λ k. sym (d k (store_log s) (vectors_of (store_log s) (store_rows s)) end t);
  kept = λ q. (refl, refl);
  well = w;
  sized = z;
}

-- an epoch that is taken is no older than the own
newer : (epoch end : ℕ) (t : List End) (x : held.Held) (o : ℕ) → (new_epoch_held epoch end t x).answer ≡ replied (reply_adopted o)
    → ltb epoch x.replica.epoch ≡ false
unfolding new_epoch_held
newer epoch end t x o =
    let P : Result BackupAnswer held.Held → Type 0 = λ v. v.answer ≡ replied (reply_adopted o) → ltb epoch x.replica.epoch ≡ false in
    by-test P (leads_from x.role epoch) (λ p e. no_answer e)
    (λ p. by-test P (ltb epoch x.replica.epoch) (λ q e. no_answer e) (λ q e. q))
  where
    no_answer : {Q : Type 0} {n : ℕ} → replied (reply_stale n) ≡ replied (reply_adopted o) → Q
    no_answer e = let z : ◌≡◌ {A = ℕ} 0 1 = cc in absurd (omega arith)

module _ (h : Held) (s : Store) (epoch end : ℕ) (t : List End) (d : TakesEpoch h epoch E.Taken) where
  not_older : ltb epoch h.epoch.0 ≡ false
  not_older =
      let k : Key = record { collection = []; shard = 0 } in
      newer epoch end t (view_held k [] [] h) _ (ap (λ (r : Result BackupAnswer held.Held). r.answer) (d k [] [] end t))

  -- taken: the log that is kept, and the role left
  pub backs_taken : (s' : Store) (a : Adoption) (r : Held) (kept : Offset) (stored : ℕ) → Aligned h.epoch.0 epoch end t s s' a
      → s'.count ≡ kept.0 → Realigns h epoch kept.0 r
      → Backs (new_epoch_held epoch end t) h s s' (record { answer = A.Adopted kept; stored = stored; held = r })
  unfolding replica_in
  backs_taken s' a r kept stored al c re = record {
    same = λ k.
        let own = h.epoch.0 in
        let m = h.metric in
        let q : replica_in epoch m s' ≡ adopted (replica_in own m s) epoch end t =
        ap (λ (b : Bool). replica_in (cond b own epoch) m s') (sym not_older) ∙ al.replica m
        ∙ ap (λ (b : Bool). cond b (replica_in own m s) (adopted (replica_in own m s) epoch end t)) not_older in
        let n : kept.0 ≡ last_offset (adopted (replica_in own m s) epoch end t) = sym c ∙ sym (last-is epoch m s') ∙ ap last_offset q in
        ap (λ (x : ℕ). gives {S = held.Held} (replied (reply_adopted x)) (view_stored k r s')) n
        ∙ ap (λ (x : held.Held). gives {S = held.Held} (replied (reply_adopted (last_offset (adopted (replica_in own m s) epoch end t)))) x)
        (re.same k (store_log s) (store_log s') (vectors_of (store_log s) (store_rows s)) (vectors_of (store_log s') (store_rows s'))
        ∙ ap (λ (v : ShardReplica). demoted (with_replica (view_stored k h s) v)) q)
        ∙ sym (d k (store_log s) (vectors_of (store_log s) (store_rows s)) end t);
    kept = λ q. not_both false q refl;
    well = al.well;
    sized = al.sized;
  }

-- ---- by the message

module _ (b : List ℕ) (h : Held) (s : Store) where
  module _ (t : Store) (n : ℕ) (a : Answer) (o : Outcome) (stored : ℕ)
      (c : s.count ≡ h.last) (l : t.count ≡ n) (e : answered a ≡ answer_as o) where
    pub replicates : (p : ReplicatePart) → IsReplicate b p
        → Arrives h.epoch.0 p.epoch.0 (record { epoch = p.epoch.0; offset = p.offset.0; op = stored_op (op_in b p.op) }) s t o
        → Replicates b h s t (record { answer = a; stored = stored; held = with_last h n })
    replicates p i d m q =
        let r : Backed = record { answer = a; stored = stored; held = with_last h n } in
        subst (λ (x : WireOp). Backs (replicate_held m.epoch m.offset (stored_op x)) h s t r) (replicate_op b p i m q)
        (subst (λ (z : ReplicatePart). Backs (replicate_held z.epoch.0 z.offset.0 (stored_op (op_in b p.op))) h s t r) (replicate_part_lem b p i m q)
        (backs_replicate h s t n a o stored c l e p.epoch.0 p.offset.0 (stored_op (op_in b p.op)) d))

    pub copies : (p : CopyPart) → IsCopy b p → Copies h.epoch.0 p.epoch.0 (map stored_entry (entries_in b p.entries)) s t o
        → CopiesShard b h s t (record { answer = a; stored = stored; held = with_last h n })
    copies p i d m q =
        let r : Backed = record { answer = a; stored = stored; held = with_last h n } in
        subst (λ (x : List WireEntry). Backs (copy_held m.epoch (map stored_entry x)) h s t r) (copy_entries b p i m q)
        (subst (λ (z : CopyPart). Backs (copy_held z.epoch.0 (map stored_entry (entries_in b p.entries))) h s t r) (copy_part_lem b p i m q)
        (backs_copy h s t n a o stored c l e p.epoch.0 (map stored_entry (entries_in b p.entries)) d))

  module _ (p : NewEpochPart) (i : IsNewEpoch b p) where
    pub announces_older : (own stored : ℕ) → TakesEpoch h p.epoch.0 (E.Stale own) → well_formed_store s ≡ true → Sized s
        → TakesNewEpoch b h s s (record { answer = A.StaleEpoch (record { 0 = own }); stored = stored; held = h })
    announces_older own stored d w z m q =
        subst (λ (x : NewEpochPart). Backs (new_epoch_held x.epoch.0 m.end m.table) h s s (record { answer = A.StaleEpoch (record { 0 = own }); stored = stored; held = h })) (new_epoch_part_lem b p i m q)
        (backs_older h s p.epoch.0 m.end own m.table stored d w z)

    pub announces-taken : TakesEpoch h p.epoch.0 E.Taken → (cs : Columns) (ks ps : List ℕ) (n stored : ℕ) (a : Adoption) (r : Held)
        → Aligned h.epoch.0 p.epoch.0 p.end.0 (table_in b p.table) s (lent cs ks ps n stored) a → Realigns h p.epoch.0 n r
        → TakesNewEpoch b h s (lent cs ks ps r.last stored) (record { answer = A.Adopted (record { 0 = n }); stored = stored; held = r })
    announces-taken d cs ks ps n stored a r al re m q =
        let v : Backed = record { answer = A.Adopted (record { 0 = n }); stored = stored; held = r } in
        subst (λ (x : List End). Backs (new_epoch_held m.epoch m.end x) h s (lent cs ks ps r.last stored) v) (new_epoch_table b p i m q)
        (subst (λ (z : NewEpochPart). Backs (new_epoch_held z.epoch.0 z.end.0 (table_in b p.table)) h s (lent cs ks ps r.last stored) v) (new_epoch_part_lem b p i m q)
        (subst (λ (k : ℕ). Backs (new_epoch_held p.epoch.0 p.end.0 (table_in b p.table)) h s (lent cs ks ps k stored) v) (sym re.last)
        (backs_taken h s p.epoch.0 p.end.0 (table_in b p.table) d (lent cs ks ps n stored) a r (record { 0 = n }) stored al refl re)))
