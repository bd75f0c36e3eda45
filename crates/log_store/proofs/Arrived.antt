-- What each way out of `store` leaves, by `spec`'s store. Assumes nothing.
use Prim.Native.Nat.{ℕ, ◌+◌, ◌≤◌, ◌<◌}
use mathlib.Core.Path.{◌≡◌, refl, sym, ap, ◌∙◌, subst}
use mathlib.Core.Bool.{Bool, true, cond}
use mathlib.Core.Option.{none, some}
use native.Mathlib.Omega.{arith}
use borrow.Author.Tests.{lt-ltb, le-ltb}
use Rattle.spec.specs.Node.Client.{overfull}
use Rattle.spec.specs.Log.{Entry, Op, Stored, through, gap, stale, StoreResult, ShardReplica, last_offset, push, store}
use Rattle.spec.specs.declared.Metric.{Metric}
use Rattle.spec.specs.declared.Epoch.{Epoch}
use Rattle.spec.specs.declared.Offset.{Offset}
use Rattle.spec_laws.proofs.Log.Store.{push-length, store_other, store-next, store-old, store-far}
use Rattle.log_store.specs.Store.{Store, replica_in, well_formed_store, Sized, Spares, Pushed, answer_of, Arrived}
use Rattle.log_store.specs.declared.replica.Outcome.{Outcome}
use Rattle.log_store.specs.declared.replica.Outcome.TheVariants.{Through, Gap, Stale, Full}
use Rattle.log_store.proofs.Columns.{log-length}
use Rattle.log_store.proofs.Facts.{facts}
use Rattle.log_store.proofs.Spared.{spares_none}

last-is : (e : ℕ) (m : Metric) (s : Store) → last_offset (replica_in e m s) ≡ s.count
unfolding replica_in
last-is e m s = log-length s.columns s.count

own-epoch : (e : ℕ) (m : Metric) (s : Store) → (replica_in e m s).epoch ≡ e
unfolding replica_in
own-epoch e m s = refl

module _ (own epoch : ℕ) (e : Entry) (s : Store) (z : Sized s) (w : well_formed_store s ≡ true) where
  -- what came of it, by `spec`, of a replica that is not overfull
  fits_case : (t : Store) (a : Outcome) (answer : Metric → Stored) (r : Metric → ShardReplica)
      → ((m : Metric) → store (replica_in own m s) epoch e ≡ record { answer = answer m; replica = r m })
      → ((m : Metric) → last_offset (r m) ≤ 1024)
      → ((m : Metric) → answer_of a ≡ some (answer m)) → ((m : Metric) → replica_in own m t ≡ r m)
      → well_formed_store t ≡ true → Sized t → Spares s t → Arrived own epoch e s t a
  fits_case t a answer r q l ea er wt zt sp = record {
    answer = λ m. ea m ∙ sym (ap (λ (v : StoreResult). cond (overfull v.replica) none (some v.answer)) (q m)
        ∙ ap (λ (b : Bool). cond b none (some (answer m))) (le-ltb 1024 (last_offset (r m)) (l m)));
    replica = λ m. er m ∙ sym (ap (λ (v : StoreResult). cond (overfull v.replica) (replica_in own m s) v.replica) (q m)
        ∙ ap (λ (b : Bool). cond b (replica_in own m s) (r m)) (le-ltb 1024 (last_offset (r m)) (l m)));
    well = wt;
    sized = zt;
    spares = sp;
  }

  still : (m : Metric) → last_offset (replica_in own m s) ≤ 1024
  still m = let f = facts s w in let l = last-is own m s in omega (arith, f.count)

  pub arrived_stale : (o : Epoch) → o.0 ≡ own → (epoch ≡ own → ⊥) → Arrived own epoch e s s (Stale o)
  arrived_stale o q n =
      fits_case s (Stale o) (λ m. stale own) (λ m. replica_in own m s)
      (λ m. store_other (replica_in own m s) epoch e (λ p. n (p ∙ own-epoch own m s))
      ∙ ap (λ (k : ℕ). record { answer = stale k; replica = replica_in own m s }) (own-epoch own m s))
      still (λ m. ap (λ (k : ℕ). some (stale k)) q) (λ m. refl) w z (spares_none s)

  module _ (p : epoch ≡ own) where
    at_own : (m : Metric) → epoch ≡ (replica_in own m s).epoch
    at_own m = p ∙ sym (own-epoch own m s)

    pub arrived_old : (o : Offset) → o.0 ≡ s.count → e.offset ≤ s.count → Arrived own epoch e s s (Through o)
    arrived_old o q h =
        fits_case s (Through o) (λ m. through (last_offset (replica_in own m s))) (λ m. replica_in own m s)
        (λ m. store-old (replica_in own m s) epoch e (at_own m) (let l = last-is own m s in omega arith))
        still (λ m. ap (λ (k : ℕ). some (through k)) (q ∙ sym (last-is own m s))) (λ m. refl) w z (spares_none s)

    pub arrived_far : (o : Offset) → o.0 ≡ s.count + 1 → s.count + 1 < e.offset → Arrived own epoch e s s (Gap o)
    arrived_far o q h =
        fits_case s (Gap o) (λ m. gap (last_offset (replica_in own m s) + 1)) (λ m. replica_in own m s)
        (λ m. store-far (replica_in own m s) epoch e (at_own m) (let l = last-is own m s in omega arith))
        still (λ m. ap (λ (k : ℕ). some (gap k)) (q ∙ ap (◌+ 1) (sym (last-is own m s)))) (λ m. refl) w z (spares_none s)

    pub arrived_new : (o : Offset) (t : Store) → o.0 ≡ s.count + 1 → e.offset ≡ s.count + 1 → s.count < 1024 → Pushed s t e
        → Arrived own epoch e s t (Through o)
    arrived_new o t q h free u =
        fits_case t (Through o) (λ m. through (last_offset (replica_in own m s) + 1)) (λ m. push (replica_in own m s) e)
        (λ m. store-next (replica_in own m s) epoch e (at_own m) (let l = last-is own m s in omega arith))
        (λ m. let l = last-is own m s in let k = push-length (replica_in own m s) e in omega arith)
        (λ m. ap (λ (k : ℕ). some (through k)) (q ∙ ap (◌+ 1) (sym (last-is own m s)))) (λ m. u.replica own m) u.well u.sized u.spares

    pub arrived_full : e.offset ≡ s.count + 1 → s.count ≡ 1024 → Arrived own epoch e s s Full
    arrived_full h full =
        let over : (m : Metric) → overfull (store (replica_in own m s) epoch e).replica ≡ true =
        λ m.
        let l = last-is own m s in
        let q = store-next (replica_in own m s) epoch e (at_own m) (omega arith) in
        ap (λ (v : StoreResult). overfull v.replica) q
        ∙ (let k = push-length (replica_in own m s) e in lt-ltb 1024 (last_offset (push (replica_in own m s) e)) (omega arith)) in
        record {
          answer = λ m. sym (ap (λ (b : Bool). cond b none (some (store (replica_in own m s) epoch e).answer)) (over m));
          replica = λ m. sym (ap (λ (b : Bool). cond b (replica_in own m s) (store (replica_in own m s) epoch e).replica) (over m));
          well = w;
          sized = z;
          spares = spares_none s;
        }

-- the next entry, pushed at the place that its offset names
pub arrived_pushed : (own epoch under n : ℕ) (op : Op) (s t : Store) → Sized s → well_formed_store s ≡ true → epoch ≡ own
    → (o : Offset) → o.0 ≡ s.count + 1 → n ≡ s.count + 1 → s.count < 1024
    → Pushed s t (record { epoch = under; offset = s.count + 1; op = op })
    → Arrived own epoch (record { epoch = under; offset = n; op = op }) s t (Through o)
arrived_pushed own epoch under n op s t z w p o q h free u =
    arrived_new own epoch (record { epoch = under; offset = n; op = op }) s z w p o t q h free
    (subst (λ (k : ℕ). Pushed s t (record { epoch = under; offset = k; op = op })) (sym h) u)

pub below-full : (n : ℕ) → n ≤ 1024 → (n ≡ 1024 → ⊥) → n < 1024
below-full n h k = omega (arith, k)

pub count_most : (s : Store) → well_formed_store s ≡ true → s.count ≤ 1024
count_most s w = (facts s w).count
