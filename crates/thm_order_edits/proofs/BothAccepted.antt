-- Two edits appended in turn to a store with space for both: no call is refused. Apart from Order, so that a wrong bound is refused where
-- it stands. Assumes nothing.
use Prim.Native.Nat.{ℕ, ◌+◌, ◌≤◌, ◌<◌}
use mathlib.Core.Path.{◌≡◌, refl, sym, ap, ◌∙◌, subst}
use mathlib.Core.Bool.{true}
use mathlib.Core.List.{List}
use native.Mathlib.Omega.{arith}
use Rattle.spec.specs.Log.{Log, Op, ShardReplica, append}
use Rattle.spec.specs.declared.Metric.{Metric}
use Rattle.spec.specs.declared.Metric.TheVariants.{Euclidean}
use Rattle.spec_laws.proofs.Log.Edits.{op_id, swap_appends, later_append, appends_differ}
use Rattle.log_store.specs.Store.{Store, store_log, replica_in}
use Rattle.log_store.proofs.Facts.{facts, store_in_step}
use Rattle.log_calls.specs.Fits.{lent_fits}
use Rattle.log_calls.specs.declared.Answer.TheVariants as A
use Rattle.log_calls.specs.declared.Done.{Done}
use Rattle.log_calls.proofs.FitLaws.{fits-well}
use Rattle.thm_order_edits.specs.Edits.{Edit, Appends, InTurn, read_vectors, SearchedAlike}
use Rattle.thm_order_edits.proofs.Appends.{Appended, appended}

-- both calls of a turn were accepted, at the next two offsets, and the store is the definition's
pub record BothAppended (own : ℕ) (s u : Store) (a b : Op) (first second : Done) : Type 0 where
  pub one : first.answer ≡ A.Appended (record { 0 = s.count + 1 })
  pub two : second.answer ≡ A.Appended (record { 0 = s.count + 2 })
  pub replica : (m : Metric) → replica_in own m u ≡ append (append (replica_in own m s) a) b
  pub fits : lent_fits u ≡ true

module _ (own : ℕ) (s : Store) (f : lent_fits s ≡ true) (room : s.count ≤ 1022) where
  -- no call is refused where there is space for both
  pub both_appended : (x y : List ℕ) (a b : Op) (u : Store) → Edit x a → Edit y b → (t : InTurn x y own s u)
      → BothAppended own s u a b t.first t.second
  both_appended x y a b u p q t =
      let k = appended x own s a p f (omega arith) t.between t.first t.called in
      let c : Appends y own t.between u t.second =
      subst (λ (e : ℕ). Appends y e t.between u t.second) k.epoch t.followed in
      let j = appended y own t.between b q k.fits (omega (arith, k.count)) u t.second c in
      let n : t.between.count + 1 ≡ s.count + 2 = omega (arith, k.count) in
      record {
        one = k.answer;
        two = j.answer ∙ ap (λ (o : ℕ). A.Appended (record { 0 = o })) n;
        replica = λ m. j.replica m ∙ ap (λ (r : ShardReplica). append r b) (k.replica m);
        fits = j.fits;
      }
