-- Laws of a Write on one shard with its store, one for each way out. Assumes nothing.
use mathlib.Core.Path.{◌≡◌, refl, ap, sym, ◌∙◌, subst}
use mathlib.Core.Bool.{Bool, true, false, cond, not}
use Prim.Native.Nat.{ℕ, ◌+◌, ◌<◌, ◌≤◌}
use native.Mathlib.Omega.{arith}
use borrow.Author.Tests.{ltb-false, leb-true}
use lib.Dec.{ltb, leb}
use lib.ListN.{length}
use Rattle.spec.specs.Limits.{max_entries}
use Rattle.spec.specs.Keys.{Key}
use Rattle.spec.specs.Refusals.{Refusal}
use Rattle.spec.specs.Log.{Op, Entry, ShardReplica, append, push, last_offset}
use Rattle.spec.specs.Node.Held as held
use Rattle.spec.specs.Node.Shards.{Result, gives, leads_at, with_replica}
use Rattle.spec.specs.Node.Client.{WriteAnswer, accepted, write_refused, ack_count, overfull, write_held}
use Rattle.spec_laws.proofs.Lists.{by-test, not_both}
use Rattle.spec_laws.proofs.Log.Store.{push-length}
use Rattle.node_shard.specs.declared.Held.{Held}
use Rattle.node_shard.specs.View.{view_held}
use Rattle.node_admit.specs.declared.Admit.{Admit}
use Rattle.node_admit.specs.declared.Admit.TheVariants as A
use Rattle.node_admit.specs.Admits.{write_as, AdmitsWrite}
use Rattle.log_store.specs.View.{log_of, entry_of, Columns}
use Rattle.log_store.specs.Store.{Store, Sized, Pushed, store_log, store_rows, replica_in, well_formed_store}
use Rattle.log_store.specs.Table.{vectors_of}
use Rattle.log_store.proofs.Firsts.{firsts-length}
use Rattle.node_log_write.specs.declared.Written.{Written}
use Rattle.node_log_write.specs.Writes.{view_stored, written_as, Writes}

-- a store's log is as long as its count
log-length : (s : Store) → length (store_log s) ≡ s.count
unfolding log_of
log-length s = firsts-length (entry_of s.columns) s.count

-- an accepted write had room
room : (lease : Bool) (least epoch : ℕ) (op : Op) (x : held.Held) (o : ℕ) → (write_held lease least epoch op x).answer ≡ accepted o
    → overfull (append x.replica op) ≡ false
unfolding write_held
room lease least epoch op x o =
    let P : Result WriteAnswer held.Held → Type 0 = λ v. v.answer ≡ accepted o → overfull (append x.replica op) ≡ false in
    by-test P (not (leads_at x.role epoch)) (λ p e. no_answer e)
    (λ p. by-test P (not lease) (λ q e. no_answer e)
    (λ q. by-test P (ltb (ack_count x) least) (λ s e. no_answer e)
    (λ s. by-test P (overfull (append x.replica op)) (λ t e. no_answer e) (λ t e. t))))
  where
    no_answer : {Q : Type 0} {r : Refusal} → write_refused r ≡ accepted o → Q
    no_answer e = let z : ◌≡◌ {A = ℕ} 0 1 = cc in absurd (omega arith)

longer : (r : ShardReplica) (op : Op) → last_offset (append r op) ≡ last_offset r + 1
unfolding append
longer r op = push-length r (record { epoch = r.epoch; offset = last_offset r + 1; op = op })

module _ (h : Held) (s : Store) (count : s.count ≡ h.last) (epoch : ℕ) (lease : Bool) (least : ℕ) (op : Op) where
  -- an admitted write finds room
  pub admitted_room : AdmitsWrite h epoch lease least A.Yes → Key → h.last < max_entries
  admitted_room a k =
      let e = a k (store_log s) (vectors_of (store_log s) (store_rows s)) op (log-length s ∙ count) in
      let o = room lease least epoch op (view_stored k h s) _ (ap (λ (r : Result WriteAnswer held.Held). r.answer) e) in
      let n = ltb-false max_entries (last_offset (append (view_stored k h s).replica op)) o in
      let m = longer (view_stored k h s).replica op in
      let l = log-length s in
      omega arith

  -- refused: the store and the shard as they were
  pub writes-refused : (a : Admit) → AdmitsWrite h epoch lease least a → well_formed_store s ≡ true → Sized s
      → ((x : held.Held) → written_as a x ≡ write_as a op x) → (stored : ℕ) → Writes h s s epoch lease least op (record { admit = a; stored = stored; held = h })
  writes-refused a d w z same stored = record {
    same = λ k. same (view_stored k h s) ∙ sym (d k (store_log s) (vectors_of (store_log s) (store_rows s)) op (log-length s ∙ count));
    kept = λ q. (refl, refl);
    well = w;
    sized = z;
  }

  -- admitted: one entry more, at the next offset under the shard's own epoch
  module _ (t : Store) (p : Pushed s t (record { epoch = h.epoch.0; offset = h.last + 1; op = op })) where
    abbrev out : Held
    out = record {
      epoch = h.epoch;
      metric = h.metric;
      last = h.last + 1;
      role = h.role;
      own = h.own;
      replicas = h.replicas;
      holders = h.holders;
      peers = h.peers;
      count = h.count;
    }

    pushed_is : (k : Key) → (view_stored k out t).replica ≡ append (view_stored k h s).replica op
    unfolding replica_in append
    pushed_is k =
        p.replica h.epoch.0 h.metric
        ∙ ap (λ (o : ℕ). push (replica_in h.epoch.0 h.metric s) (record { epoch = h.epoch.0; offset = o + 1; op = op })) (sym (log-length s ∙ count))

    pub writes_pushed : AdmitsWrite h epoch lease least A.Yes → (stored : ℕ)
        → Writes h s t epoch lease least op (record { admit = A.Yes; stored = stored; held = out })
    writes_pushed d stored = record {
      same =
          λ k.
          (ap (λ (r : ShardReplica). gives {S = held.Held} (accepted (last_offset r)) (with_replica (view_stored k h s) r)) (pushed_is k)
          ∙ sym (d k (store_log s) (vectors_of (store_log s) (store_rows s)) op (log-length s ∙ count)));
      kept = λ q. not_both false q refl;
      well = p.well;
      sized = p.sized;
    }
