-- Paper 02, 2.10, of the calls: a store lent twice, two edits appended in the two orders, each call known by its contract alone. With
-- space for both no call is refused, both stores are read with the same vectors, and `search` answers both alike. Assumes nothing.
use Prim.Native.Nat.{ℕ, ◌+◌, ◌≤◌, ◌<◌}
use mathlib.Core.Path.{◌≡◌, refl, sym, ap, ◌∙◌, subst}
use mathlib.Core.Bool.{true}
use mathlib.Core.List.{List}
use native.Mathlib.Omega.{arith}
use Rattle.spec.specs.Log.{Log, Op, ShardReplica, append}
use Rattle.spec.specs.declared.Metric.{Metric}
use Rattle.spec.specs.declared.Metric.TheVariants.{Euclidean}
use Rattle.spec_laws.proofs.Log.Play.{InStep}
use Rattle.spec_laws.proofs.Log.Edits.{op_id, swap_appends, later_append, appends_differ}
use Rattle.log_store.specs.Store.{Store, store_log, replica_in}
use Rattle.log_store.proofs.Facts.{facts, store_in_step}
use Rattle.log_calls.specs.Fits.{lent_fits}
use Rattle.log_calls.specs.declared.Answer.TheVariants as A
use Rattle.log_calls.specs.declared.Done.{Done}
use Rattle.log_calls.proofs.FitLaws.{fits-well}
use Rattle.thm_order_edits.specs.Edits.{Edit, Appends, InTurn, read_vectors, SearchedAlike}
use Rattle.thm_order_edits.proofs.Appends.{Appended, appended}
use Rattle.thm_order_edits.proofs.BothAccepted.{both_appended}
use Rattle.thm_order_edits.proofs.Searches.{searched_alike}

module _ (own : ℕ) (s : Store) (f : lent_fits s ≡ true) (room : s.count ≤ 1022) where
  in_step : (m : Metric) → InStep (replica_in own m s)
  in_step m = store_in_step s (facts s (fits-well s f)) own m

  vectors_of_lem : (u : Store) → (replica_in own Euclidean u).vectors ≡ read_vectors u
  unfolding replica_in
  vectors_of_lem u = refl

  log_of_lem : (u : Store) → (replica_in own Euclidean u).log ≡ store_log u
  unfolding replica_in
  log_of_lem u = refl

  abbrev r : ShardReplica
  r = replica_in own Euclidean s

  module _ (x y : List ℕ) (a b : Op) (p : Edit x a) (q : Edit y b) (u v : Store) where
    -- different ids, in either order
    module _ (t : InTurn x y own s u) (w : InTurn y x own s v) where
      pub same-vectors : (op_id a ≡ op_id b → ⊥) → read_vectors u ≡ read_vectors v
      same-vectors n =
          let k = both_appended own s f room x y a b u p q t in
          let j = both_appended own s f room y x b a v q p w in
          sym (vectors_of_lem u) ∙ ap (λ (z : ShardReplica). z.vectors) (k.replica Euclidean)
          ∙ swap_appends r a b (in_step Euclidean) n
          ∙ sym (ap (λ (z : ShardReplica). z.vectors) (j.replica Euclidean)) ∙ vectors_of_lem v

      -- the logs that the stores are read with differ whenever the edits do
      pub other-logs : (a ≡ b → ⊥) → store_log u ≡ store_log v → ⊥
      other-logs n e =
          let k = both_appended own s f room x y a b u p q t in
          let j = both_appended own s f room y x b a v q p w in
          appends_differ r a b n
          (sym (ap (λ (z : ShardReplica). z.log) (k.replica Euclidean)) ∙ log_of_lem u ∙ e ∙ sym (log_of_lem v)
          ∙ ap (λ (z : ShardReplica). z.log) (j.replica Euclidean))

    -- one id: the later alone, appended to the same store
    module _ (t : InTurn x y own s u) (d : Done) (w : Appends y own s v d) (same : op_id a ≡ op_id b) where
      alone : Appended own s v b d
      alone = appended y own s b q f (omega arith) v d w

      pub later_vectors : read_vectors u ≡ read_vectors v
      later_vectors =
          let k = both_appended own s f room x y a b u p q t in
          sym (vectors_of_lem u) ∙ ap (λ (z : ShardReplica). z.vectors) (k.replica Euclidean)
          ∙ later_append r a b (in_step Euclidean) same
          ∙ sym (ap (λ (z : ShardReplica). z.vectors) (alone.replica Euclidean)) ∙ vectors_of_lem v

      pub later_searches : SearchedAlike u v
      later_searches = searched_alike u v ((both_appended own s f room x y a b u p q t).fits ∙ sym alone.fits) later_vectors
