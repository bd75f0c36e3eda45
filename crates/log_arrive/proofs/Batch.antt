-- A batch stored entry by entry. Assumes nothing.
use Prim.Native.Nat.{ℕ, zero, suc, ◌+◌, ◌-◌, ◌≤◌, ◌<◌}
use mathlib.Core.Path.{◌≡◌, refl, sym, ap, ◌∙◌, subst}
use mathlib.Core.Bool.{Bool, true, false, cond}
use mathlib.Core.List.{List, [], ◌∷◌, map}
use lib.Dec.{eqb}
use native.Mathlib.Omega.{arith}
use borrow.Author.Tests.{eq-eqb, ne_eqb, le-ltb, lt-ltb}
use Rattle.spec.specs.Refusals.{no_room}
use Rattle.spec.specs.Log.{Entry, ShardReplica, last_offset, store, store_all}
use Rattle.spec.specs.Layout.Message.{reply_stored, reply_stale}
use Rattle.spec.specs.Layout.Parts.{WireEntry}
use Rattle.spec.specs.Node.Wire.{stored_entry}
use Rattle.spec.specs.Node.Client.{overfull}
use Rattle.spec.specs.Node.Held.{Held}
use Rattle.spec.specs.Node.Shards.{gives, with_replica}
use Rattle.spec.specs.Node.Backup.{replied, backup_refused, is_empty, copy_held}
use Rattle.spec.specs.declared.Metric.{Metric}
use Rattle.spec.specs.declared.Metric.TheVariants.{Euclidean}
use Rattle.spec.specs.declared.Epoch.{Epoch}
use Rattle.spec.specs.declared.Offset.{Offset}
use Rattle.spec_laws.proofs.Log.Store.{store_all_longer}
use Rattle.log_store.specs.Store.{Store, Sized, Spares, replica_in, well_formed_store}
use Rattle.log_store.specs.declared.replica.Outcome.{Outcome}
use Rattle.log_store.proofs.Spared.{spares_none, spares_on}
use Rattle.log_store.specs.declared.replica.Outcome.TheVariants.{Through, Stale, Full}
use Rattle.spec.specs.Layout.Format.{next, value, value_n}
use Rattle.spec.specs.Layout.Parts.{entry_f, entry_of}
use Rattle.wire_read.specs.Shown.{part, entry_shown}
use Rattle.wire_read.specs.declared.Part.{Part}
use Rattle.wire_read.specs.declared.EntryPart.{EntryPart}
use Rattle.log_arrive.specs.Parts.{entries_in, EntriesThere}
use Rattle.log_domain.specs.Growth.{GrowsTo}
use Rattle.log_domain.proofs.InMessage.{entry_in, entries_all, entries_none, entries_split}
use Rattle.log_arrive.specs.Arrivals.{Arrives, HasRoom, StoresAll, Copies}
use Rattle.log_arrive.proofs.Stores.{last-is, own-epoch}

-- ---- entry by entry

-- a store on the way, with what is left of a batch
pub record OnWay (own : ℕ) (es : List Entry) (s₀ s : Store) (rest : List Entry) : Type 0 where
  pub same : (m : Metric) → store_all (replica_in own m s) own rest ≡ store_all (replica_in own m s₀) own es
  pub well : well_formed_store s ≡ true
  pub sized : Sized s
  pub longer : s₀.count ≤ s.count
  pub spares : Spares s₀ s

-- a batch's growth, of the replica in a store
pub grows_last : (own : ℕ) (es : List WireEntry) (s : Store) (n : ℕ) → GrowsTo es s.count n → (m : Metric)
    → n ≡ last_offset (store_all (replica_in own m s) own (map stored_entry es))
grows_last own es s n g m =
    g (replica_in own m s) (last-is own m s)
    ∙ ap (λ (e : ℕ). last_offset (store_all (replica_in own m s) e (map stored_entry es))) (own-epoch own m s)

pub fitting : (own : ℕ) (es : List WireEntry) (s : Store) (n : ℕ) → GrowsTo es s.count n → n ≤ 1024 → HasRoom own (map stored_entry es) s
fitting own es s n g h m = let q = grows_last own es s n g m in omega arith

pub overflowing : (own : ℕ) (es : List WireEntry) (s : Store) (n : ℕ) → GrowsTo es s.count n → 1024 < n → (m : Metric)
    → 1024 < last_offset (store_all (replica_in own m s) own (map stored_entry es))
overflowing own es s n g h m = let q = grows_last own es s n g m in omega arith

pub on-start : (own : ℕ) (es : List Entry) (s : Store) → Sized s → well_formed_store s ≡ true → OnWay own es s s es
on-start own es s z w = record { same = λ m. refl; well = w; sized = z; longer = omega arith; spares = spares_none s }

module _ (own : ℕ) (es : List Entry) (s₀ : Store) (fit : HasRoom own es s₀) where
  pub on-next : (s t : Store) (e : Entry) (rest : List Entry) (a : Outcome) → OnWay own es s₀ s (e ∷ rest) → Arrives own own e s t a
      → OnWay own es s₀ t rest
  unfolding store_all
  on-next s t e rest a w d = record {
    same = λ m. ap (λ (r : ShardReplica). store_all r own rest) (taken m) ∙ w.same m;
    well = d.arrived.well;
    sized = d.arrived.sized;
    longer = (let h = w.longer in let k = grows in omega arith);
    spares = spares_on s₀ s t w.longer grows w.spares d.arrived.spares;
  }
    where
      taken : (m : Metric) → replica_in own m t ≡ (store (replica_in own m s) own e).replica
      taken m =
          let q = (store (replica_in own m s) own e).replica in
          let l = store_all_longer own q rest in
          let f = fit m in
          let n : last_offset (store_all q own rest) ≡ last_offset (store_all (replica_in own m s₀) own es) = ap last_offset (w.same m) in
          let b : overfull q ≡ false = le-ltb 1024 (last_offset q) (omega arith) in
          d.arrived.replica m ∙ ap (λ (c : Bool). cond c (replica_in own m s) q) b

      grows : s.count ≤ t.count
      grows =
          let m : Metric = Euclidean in
          let l : last_offset (replica_in own m s) ≤ last_offset (store (replica_in own m s) own e).replica = store_all_longer own (replica_in own m s) (e ∷ []) in
          let q = ap last_offset (taken m) in
          omega (arith, last-is own m s, last-is own m t)

pub on-end : (own : ℕ) (es : List Entry) (s₀ s : Store) → OnWay own es s₀ s [] → StoresAll own es s₀ s
unfolding store_all
on-end own es s₀ s w = record { replica = w.same; well = w.well; sized = w.sized; spares = w.spares }

-- .. over the entries of a message
module _ (own : ℕ) (b : List ℕ) where
  pub on_begin : (p : Part) (s : Store) → Sized s → well_formed_store s ≡ true
      → OnWay own (map stored_entry (entries_in b p)) s s (map stored_entry (entries_in b (part p.at (p.len - 0))))
  on_begin p s z w =
      subst (λ (l : List WireEntry). OnWay own (map stored_entry (entries_in b p)) s s (map stored_entry l)) (sym (entries_all b p))
      (on-start own (map stored_entry (entries_in b p)) s z w)

  module _ (es : List Entry) (s₀ : Store) (n at i : ℕ) where
    pub on-done : (s : Store) → n ≤ i → OnWay own es s₀ s (map stored_entry (entries_in b (part at (n - i)))) → StoresAll own es s₀ s
    on-done s h w =
        on-end own es s₀ s (subst (λ (l : List WireEntry). OnWay own es s₀ s (map stored_entry l)) (entries_none b n at i h) w)

    pub on_turn : HasRoom own es s₀ → (l : i < n) (h : EntriesThere b (part at (n - i))) (e : EntryPart)
        → e ≡ entry_shown at (entry_of (value entry_f b at)) (next entry_f b at) → (s t : Store) (a : Outcome)
        → OnWay own es s₀ s (map stored_entry (entries_in b (part at (n - i)))) → Arrives own own (stored_entry (entry_in b e)) s t a
        → OnWay own es s₀ t (map stored_entry (entries_in b (part e.next (n - (i + 1)))))
    on_turn fit l h e q s t a w d =
        on-next own es s₀ fit s t (stored_entry (entry_in b e)) (map stored_entry (entries_in b (part e.next (n - (i + 1))))) a
        (subst (λ (r : List WireEntry). OnWay own es s₀ s (map stored_entry r)) (entries_split b n at i l h e q) w) d

-- ---- a CopyShard

-- no entries, or some
pub batch-none : (b : List ℕ) (p : Part) → p.len ≡ 0 → map stored_entry (entries_in b p) ≡ []
unfolding entries_in
batch-none b p e = ap (λ (n : ℕ). map stored_entry (map entry_of (value_n (value entry_f b) (next entry_f b) n p.at))) e

pub batch_some : (b : List ℕ) (p : Part) → (p.len ≡ 0 → ⊥) → is_empty (map stored_entry (entries_in b p)) ≡ false
unfolding entries_in
batch_some b p h = by p.len refl
  where
    by : (n : ℕ) → p.len ≡ n → is_empty (map stored_entry (map entry_of (value_n (value entry_f b) (next entry_f b) n p.at))) ≡ false
    by zero e = absurd (h e)
    by (suc n) e = refl

module _ (own epoch : ℕ) (es : List Entry) (s : Store) (z : Sized s) (w : well_formed_store s ≡ true) where
  pub copies-none : es ≡ [] → (o : Offset) → o.0 ≡ s.count → Copies own epoch es s s (Through o)
  unfolding copy_held
  copies-none e o q = record {
    same = λ m h r. rw e (ap (λ (n : ℕ). gives {S = Held} (replied (reply_stored n)) (with_replica h (replica_in own m s)))
        (q ∙ sym (last-is own m s) ∙ ap last_offset (sym r)) ∙ ap (λ (v : ShardReplica). gives {S = Held} (replied (reply_stored (last_offset h.replica))) (with_replica h v)) (sym r));
    kept = λ t. refl;
    well = w;
    sized = z;
    spares = spares_none s;
  }

  module _ (some-entry : is_empty es ≡ false) where
    pub copies_stale : (epoch ≡ own → ⊥) → (o : Epoch) → o.0 ≡ own → Copies own epoch es s s (Stale o)
    unfolding copy_held
    copies_stale n o q = record {
      same = λ m h r.
          let e : h.replica.epoch ≡ own = ap (λ (v : ShardReplica). v.epoch) r ∙ own-epoch own m s in
          let b : eqb epoch h.replica.epoch ≡ false = ne_eqb epoch h.replica.epoch (λ p. n (p ∙ e)) in
          rw (some-entry, b) (ap (λ (n : ℕ). gives {S = Held} (replied (reply_stale n)) (with_replica h (replica_in own m s))) (q ∙ sym e)
          ∙ ap (λ (v : ShardReplica). gives {S = Held} (replied (reply_stale h.replica.epoch)) (with_replica h v)) (sym r));
      kept = λ t. refl;
      well = w;
      sized = z;
      spares = spares_none s;
    }

    module _ (p : epoch ≡ own) where
      pub copies-full : ((m : Metric) → 1024 < last_offset (store_all (replica_in own m s) own es)) → Copies own epoch es s s Full
      unfolding copy_held
      copies-full f = record {
        same = λ m h r.
            let e : h.replica.epoch ≡ own = ap (λ (v : ShardReplica). v.epoch) r ∙ own-epoch own m s in
            let b : eqb epoch h.replica.epoch ≡ true = eq-eqb epoch h.replica.epoch (p ∙ sym e) in
            let k : store_all h.replica epoch es ≡ store_all (replica_in own m s) own es = ap (λ (v : ShardReplica). store_all v epoch es) r ∙ ap (λ (x : ℕ). store_all (replica_in own m s) x es) p in
            let o : overfull (store_all h.replica epoch es) ≡ true = lt-ltb 1024 (last_offset (store_all h.replica epoch es)) (rw k (f m)) in
            rw (some-entry, b, o) (ap (λ (v : ShardReplica). gives {S = Held} (backup_refused no_room) (with_replica h v)) (sym r));
        kept = λ t. refl;
        well = w;
        sized = z;
        spares = spares_none s;
      }

      pub copies-all : (t : Store) → StoresAll own es s t → (n : ℕ) → ((m : Metric) → n ≡ last_offset (store_all (replica_in own m s) own es)) → n ≤ 1024
          → (o : Offset) → o.0 ≡ n → Copies own epoch es s t (Through o)
      unfolding copy_held
      copies-all t d n l most o q = record {
        same = λ m h r.
            let e : h.replica.epoch ≡ own = ap (λ (v : ShardReplica). v.epoch) r ∙ own-epoch own m s in
            let b : eqb epoch h.replica.epoch ≡ true = eq-eqb epoch h.replica.epoch (p ∙ sym e) in
            let k : store_all h.replica epoch es ≡ replica_in own m t = ap (λ (v : ShardReplica). store_all v epoch es) r ∙ ap (λ (x : ℕ). store_all (replica_in own m s) x es) p ∙ sym (d.replica m) in
            let j : n ≡ last_offset (replica_in own m t) = l m ∙ ap last_offset (sym (d.replica m)) in
            let v : overfull (replica_in own m t) ≡ false = le-ltb 1024 (last_offset (replica_in own m t)) (omega arith) in
            rw (some-entry, b, k, v) (ap (λ (x : ℕ). gives {S = Held} (replied (reply_stored x)) (with_replica h (replica_in own m t))) (q ∙ j));
        kept = λ c. absurd_kept c;
        well = d.well;
        sized = d.sized;
        spares = d.spares;
      }
        where
          absurd_kept : false ≡ true → t ≡ s
          absurd_kept c = let x : ◌≡◌ {A = ℕ} 0 1 = cc in absurd (omega arith)
