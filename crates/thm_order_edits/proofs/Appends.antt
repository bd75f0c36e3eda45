-- One edit appended to a well-formed store that has space: what the contract of `append` comes to then. Assumes nothing.
use Prim.Native.Nat.{ℕ, ◌+◌, ◌<◌}
use mathlib.Core.Path.{◌≡◌, refl, sym, ap, ◌∙◌, subst}
use mathlib.Core.Bool.{Bool, true, false, cond}
use mathlib.Core.List.{List}
use mathlib.Core.Option.{some}
use native.Mathlib.Omega.{arith}
use lib.Dec.{ltb}
use borrow.Author.Tests.{le-ltb}
use Rattle.spec.specs.Refusals.{no_room}
use Rattle.spec.specs.Log.{Op, ShardReplica, last_offset, push, append}
use Rattle.spec.specs.Layout.Message as message
use Rattle.spec.specs.Node.Wire.{op_in_domain, stored_op}
use Rattle.spec.specs.Node.Shards.{Result, gives}
use Rattle.spec.specs.Node.Client.{overfull}
use Rattle.spec.specs.declared.Metric.{Metric}
use Rattle.spec.specs.declared.Metric.TheVariants.{Euclidean}
use Rattle.spec_laws.proofs.Log.Store.{push-length}
use Rattle.log_store.specs.Store.{Store, replica_in}
use Rattle.log_arrive.proofs.Stores.{last-is, own-epoch}
use Rattle.log_calls.specs.Fits.{lent_fits}
use Rattle.log_calls.specs.Calls.{After, refused, append_to, append_lent, Calls}
use Rattle.log_calls.specs.declared.Answer.{Answer}
use Rattle.log_calls.specs.declared.Answer.TheVariants as A
use Rattle.log_calls.specs.declared.Done.{Done}
use Rattle.log_calls.proofs.Calls.{tested-there}
use Rattle.thm_order_edits.specs.Edits.{Edit, Appends}

-- an accepted edit: its offset is answered, the epoch stays, and the store is read as the definition's replica, one entry longer
pub record Appended (own : ℕ) (s t : Store) (op : Op) (d : Done) : Type 0 where
  pub answer : d.answer ≡ A.Appended (record { 0 = s.count + 1 })
  pub epoch : d.epoch.0 ≡ own
  pub replica : (m : Metric) → replica_in own m t ≡ append (replica_in own m s) op
  pub count : t.count ≡ s.count + 1
  pub fits : lent_fits t ≡ true

longer : (r : ShardReplica) (op : Op) → last_offset (append r op) ≡ last_offset r + 1
unfolding append
longer r op = push-length r (record { epoch = r.epoch; offset = last_offset r + 1; op = op })

append-epoch : (r : ShardReplica) (op : Op) → (append r op).epoch ≡ r.epoch
unfolding append push
append-epoch r op = refl

module _ (b : List ℕ) (own : ℕ) (s : Store) (op : Op) (x : Edit b op) (f : lent_fits s ≡ true) (room : s.count < 1024) where
  abbrev r : Metric → ShardReplica
  r m = replica_in own m s

  -- with space the definition appends
  pub there : (m : Metric) → append_lent b own s m ≡ gives (A.Appended (record { 0 = s.count + 1 })) (append (r m) op)
  unfolding append_lent append_to
  there m =
      let n = append (r m) op in
      let l : last_offset n ≡ s.count + 1 = longer (r m) op ∙ ap (λ (k : ℕ). k + 1) (last-is own m s) in
      let o : overfull n ≡ false = le-ltb 1024 (last_offset n) (omega arith) in
      tested-there _ _ _ _ _ x.write x.read x.domain f
      ∙ ap (append_to (r m)) x.stored
      ∙ ap (λ (z : Bool). cond z (refused no_room (r m)) (gives (A.Appended (record { 0 = last_offset n })) n)) o
      ∙ ap (λ (k : ℕ). gives {S = ShardReplica} (A.Appended (record { 0 = k })) n) l

  module _ (t : Store) (d : Done) (c : Appends b own s t d) where
    told : (m : Metric) → gives d.answer (replica_in d.epoch.0 m t) ≡ gives (A.Appended (record { 0 = s.count + 1 })) (append (r m) op)
    told m = c.same m ∙ there m

    left : (m : Metric) → replica_in d.epoch.0 m t ≡ append (r m) op
    left m = ap (λ (z : After). z.after) (told m)

    same-epoch : d.epoch.0 ≡ own
    same-epoch =
        sym (own-epoch d.epoch.0 Euclidean t) ∙ ap (λ (z : ShardReplica). z.epoch) (left Euclidean)
        ∙ append-epoch (r Euclidean) op ∙ own-epoch own Euclidean s

    pub appended : Appended own s t op d
    appended = record {
      answer = ap (λ (z : After). z.answer) (told Euclidean);
      epoch = same-epoch;
      replica = λ m. sym (ap (λ (e : ℕ). replica_in e m t) same-epoch) ∙ left m;
      count =
          sym (last-is d.epoch.0 Euclidean t) ∙ ap last_offset (left Euclidean) ∙ longer (r Euclidean) op
          ∙ ap (λ (k : ℕ). k + 1) (last-is own Euclidean s);
      fits = c.fits f;
    }
