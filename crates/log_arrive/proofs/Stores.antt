-- An entry that arrived at the own epoch and is not number 1,025 is not turned down. Assumes nothing.
use Prim.Native.Nat.{ℕ, ◌+◌, ◌≤◌, ◌<◌}
use mathlib.Core.Path.{◌≡◌, refl, sym, ap, ◌∙◌, subst}
use mathlib.Core.Bool.{Bool, true, false, cond}
use mathlib.Core.Option.{none, some}
use lib.Dec.{eqb}
use native.Mathlib.Omega.{arith}
use borrow.Author.Tests.{eqb-true, eqb-false, eq-eqb, ne_eqb, le-ltb}
use Rattle.spec.specs.Lists.{◌and◌}
use Rattle.spec.specs.Log.{Op, Entry, ShardReplica, through, gap, stale, last_offset, push, store}
use Rattle.spec.specs.Node.Client.{overfull}
use Rattle.spec.specs.declared.Metric.{Metric}
use Rattle.spec.specs.declared.Metric.TheVariants.{Euclidean}
use Rattle.spec_laws.proofs.Lists.{not_both, and_left, and_right}
use Rattle.spec_laws.proofs.Wire.Tests.{and_true, and_false}
use Rattle.spec_laws.proofs.Log.Store.{push-length, store_cases}
use Rattle.log_store.specs.Store.{Store, Sized, Arrived, replica_in, well_formed_store}
use Rattle.log_store.specs.declared.replica.Outcome.{Outcome}
use Rattle.log_store.specs.declared.replica.Outcome.TheVariants.{Through, Gap, Stale, Full}
use Rattle.log_store.proofs.Columns.{log-length}
use Rattle.log_store.proofs.Arrived.{arrived_stale, arrived_full, count_most}
use Rattle.spec.specs.declared.Epoch.{Epoch}
use Rattle.log_arrive.specs.Arrivals.{turned_down, Arrives}

-- a replica's log is as long as its store says
pub last-is : (e : ℕ) (m : Metric) (s : Store) → last_offset (replica_in e m s) ≡ s.count
unfolding replica_in
last-is e m s = log-length s.columns s.count

pub own-epoch : (e : ℕ) (m : Metric) (s : Store) → (replica_in e m s).epoch ≡ e
unfolding replica_in
own-epoch e m s = refl

-- both of two tests, taken one after the other
pub over_and : (n : ℕ) (x : Bool) → n ≡ 1024 → x ≡ (eqb n 1024 and x)
over_and n x h = sym (ap (λ (b : Bool). b and x) (eq-eqb n 1024 h) ∙ and_true x)

pub over_not : (n : ℕ) (x : Bool) → (n ≡ 1024 → ⊥) → eqb n 1024 ≡ (eqb n 1024 and x)
over_not n x h = let e = ne_eqb n 1024 h in e ∙ sym (ap (λ (b : Bool). b and x) e ∙ and_false x)

-- the answer of a store at the own epoch is not StaleEpoch
through_is : (b : Bool) (o n : ℕ) → some (stale o) ≡ cond b none (some (through n)) → ⊥
through_is true o n e = let w : ◌≡◌ {A = ℕ} 0 1 = cc in omega arith
through_is false o n e = let w : ◌≡◌ {A = ℕ} 0 1 = cc in omega arith

gap_is : (b : Bool) (o n : ℕ) → some (stale o) ≡ cond b none (some (gap n)) → ⊥
gap_is true o n e = let w : ◌≡◌ {A = ℕ} 0 1 = cc in omega arith
gap_is false o n e = let w : ◌≡◌ {A = ℕ} 0 1 = cc in omega arith

not_stale : (r : ShardReplica) (epoch : ℕ) (e : Entry) (o : ℕ) → epoch ≡ r.epoch
    → some (stale o) ≡ cond (overfull (store r epoch e).replica) none (some (store r epoch e).answer) → ⊥
not_stale r epoch e o own =
    store_cases (λ v. some (stale o) ≡ cond (overfull v.replica) none (some v.answer) → ⊥) r epoch e
    (λ p q. through_is (overfull (push r e)) o (last_offset r + 1))
    (λ p q. through_is (overfull r) o (last_offset r))
    (λ p q. gap_is (overfull r) o (last_offset r + 1))
    (λ n. absurd (n own))

-- a log with room for the entry is not overfull with it
pub has_room : (r : ShardReplica) (epoch : ℕ) (e : Entry) → last_offset r ≤ 1024 → (e.offset ≡ last_offset r + 1 → last_offset r < 1024)
    → overfull (store r epoch e).replica ≡ false
has_room r epoch e most free =
    store_cases (λ v. overfull v.replica ≡ false) r epoch e
    (λ p q. let h = free q in let l = push-length r e in le-ltb 1024 (last_offset (push r e)) (omega arith))
    (λ p q. le-ltb 1024 (last_offset r) most) (λ p q. le-ltb 1024 (last_offset r) most) (λ p. le-ltb 1024 (last_offset r) most)

module _ (own epoch : ℕ) (e : Entry) (s : Store) (z : Sized s) (w : well_formed_store s ≡ true) where
  pub arrives_stale : (o : Epoch) → o.0 ≡ own → (epoch ≡ own → ⊥) → Arrives own epoch e s s (Stale o)
  arrives_stale o q n = record { arrived = arrived_stale own epoch e s z w o q n; kept = λ t. refl }

  pub arrives-full : epoch ≡ own → eqb s.count 1024 and eqb e.offset 1025 ≡ true → Arrives own epoch e s s Full
  arrives-full p o =
      let c = eqb-true s.count 1024 (and_left _ _ o) in
      let d = eqb-true e.offset 1025 (and_right (eqb s.count 1024) _ o) in
      record { arrived = arrived_full own epoch e s z w p (omega arith) c; kept = λ t. refl }

  free : eqb s.count 1024 and eqb e.offset 1025 ≡ false → e.offset ≡ s.count + 1 → s.count < 1024
  unfolding ◌and◌
  free o q =
      let most = count_most s w in
      by_test' (eqb s.count 1024) refl
    where
      by_test' : (b : Bool) → eqb s.count 1024 ≡ b → s.count < 1024
      by_test' true h =
          let c = eqb-true s.count 1024 h in
          let d : eqb e.offset 1025 ≡ true = eq-eqb e.offset 1025 (omega arith) in
          not_both (eqb s.count 1024 and eqb e.offset 1025) (rw (h, d)) o
      by_test' false h = let n = eqb-false s.count 1024 h in omega (arith, n, count_most s w)

  module _ (t : Store) (p : epoch ≡ own) (o : eqb s.count 1024 and eqb e.offset 1025 ≡ false) where
    not_over : overfull (store (replica_in own Euclidean s) epoch e).replica ≡ false
    not_over =
        let l = last-is own Euclidean s in
        has_room (replica_in own Euclidean s) epoch e (let m = count_most s w in omega arith)
        (λ q. let f = free o (omega arith) in omega arith)

    kept_by : (a : Outcome) → Arrived own epoch e s t a → turned_down a ≡ true → t ≡ s
    kept_by (Through x) d e' = not_both false e' refl
    kept_by (Gap x) d e' = not_both false e' refl
    kept_by (Stale x) d e' =
        absurd (not_stale (replica_in own Euclidean s) epoch e x.0 (p ∙ sym (own-epoch own Euclidean s)) (d.answer Euclidean))
    kept_by Full d e' =
        let r = d.answer Euclidean in
        let q : none ≡ some (store (replica_in own Euclidean s) epoch e).answer =
        r ∙ ap (λ (b : Bool). cond b none (some (store (replica_in own Euclidean s) epoch e).answer)) not_over in
        let z : ◌≡◌ {A = ℕ} 0 1 = cc in absurd (omega arith)

    pub arrives-stored : (a : Outcome) → Arrived own epoch e s t a → Arrives own epoch e s t a
    arrives-stored a d = record { arrived = d; kept = kept_by a d }

-- .. of an operation that was read as the code, the id and the bits of another
pub arrives-read : (own epoch under offset : ℕ) (op op' : Op) (s t : Store) → Sized s → well_formed_store s ≡ true → epoch ≡ own
    → eqb s.count 1024 and eqb offset 1025 ≡ false → (a : Outcome) → op ≡ op'
    → Arrived own epoch (record { epoch = under; offset = offset; op = op }) s t a
    → Arrives own epoch (record { epoch = under; offset = offset; op = op' }) s t a
arrives-read own epoch under offset op op' s t z w p o a q d =
    arrives-stored own epoch (record { epoch = under; offset = offset; op = op' }) s z w t p o a
    (subst (λ (x : Op). Arrived own epoch (record { epoch = under; offset = offset; op = x }) s t a) q d)
