-- NewEpoch at a shard that is not held: it is put in by its key, with an empty log and no vectors, or nothing changes. Assumes nothing.
use Prim.Native.Nat.{ℕ, zero, suc}
use mathlib.Core.Path.{◌≡◌, refl, sym, ap, ◌∙◌, subst}
use mathlib.Core.Bool.{Bool, true, false, cond, not}
use mathlib.Core.Logic.{◌⊎◌, inl, inr}
use mathlib.Core.List.{List, [], ◌∷◌}
use mathlib.Core.Option.{Option, none, some}
use lib.Dec.{eqb, leb}
use lib.ListN.{length}
use Rattle.spec.specs.Lists.{nth, lead, put}
use Rattle.spec.specs.Limits.{max_held}
use Rattle.spec.specs.Keys.{Key, key_below}
use Rattle.spec.specs.Log.{End, ShardReplica, keep, cut_to, adopted}
use Rattle.spec.specs.Layout.Message.{NewEpoch, decode_new_epoch}
use Rattle.spec.specs.Node.Held.{Held, Node}
use Rattle.spec.specs.Node.Shards.{Result, gives, held_shard, with_held, with_replica, demoted, held_below, begun}
use Rattle.spec.specs.Node.Backup.{BackupAnswer, new_epoch_held, begin_epoch, new_epoch_at, on_new_epoch}
use Rattle.spec.specs.Node.Calls.{new_epoch_of, new_epoch_with}
use Rattle.spec.specs.declared.Metric.{Metric}
use Rattle.spec_laws.proofs.Lists.{by-test, not_both}
use Rattle.spec_laws.proofs.Map.Orders.{keys}
use Rattle.spec_laws.proofs.Node.After.{new_epoch_after}

-- a shard of the key without any entry
pub record Fresh (k : Key) (g : Held) : Type 0 where
  pub key : g.key ≡ k
  pub log : g.replica.log ≡ []
  pub vectors : g.replica.vectors ≡ []

fresh-epoch : (k : Key) (m : Metric) (epoch end : ℕ) (t : List End) → Fresh k (new_epoch_held epoch end t (begun k m)).after
unfolding adopted cut_to keep
fresh-epoch k m epoch end t =
    new_epoch_after (Fresh k) (begun k m) (record { key = refl; log = refl; vectors = refl }) epoch end t
    (λ p q. by-test (λ (v : ShardReplica). Fresh k (demoted (with_replica (begun k m) v))) (eqb epoch 0)
    (λ u. record { key = refl; log = refl; vectors = refl }) (λ u. record { key = refl; log = refl; vectors = refl }))

-- n with such a shard put in, or as it was
abbrev pub PutIn : Node → Key → Node → Type 0
PutIn n k m = (m ≡ n) ⊎ ((g : Held) × Fresh k g × (m ≡ with_held n (put held_below g n.held)))

module _ (n : Node) (lent : Key → Bool) where
  begins : (w : NewEpoch) → PutIn n w.key (begin_epoch n w.key w.epoch w.end w.table w.metric).after
  begins w =
      by-test (λ (v : Result BackupAnswer Node). PutIn n w.key v.after) (leb max_held (length n.held))
      (λ p. inl refl) (λ p. inr (_, fresh-epoch w.key w.metric w.epoch w.end w.table, refl))

  begins_of : (k : Key) (m : Option NewEpoch) → ((w : NewEpoch) → m ≡ some w → k ≡ w.key) → held_shard n k ≡ none → PutIn n k (new_epoch_of lent n m).after
  unfolding on_new_epoch
  begins_of k none names e = inl refl
  begins_of k (some w) names e =
      let q = names w refl in
      subst (λ (j : Key). PutIn n j (new_epoch_of lent n (some w)).after) (sym q)
      (by-test (λ (v : Result BackupAnswer Node). PutIn n w.key v.after) (not (lent w.key)) (λ p. inl refl)
      (λ p. subst (λ (o : Option Held). PutIn n w.key (new_epoch_at n w.key w.epoch w.end w.table w.metric o).after)
      (sym (ap (held_shard n) (sym q) ∙ e)) (begins w)))

  pub new_epoch_begins : (k : Key) (s : List ℕ) → ((w : NewEpoch) → decode_new_epoch s ≡ some w → k ≡ w.key) → held_shard n k ≡ none
      → PutIn n k (new_epoch_with lent n s).after
  unfolding new_epoch_with
  new_epoch_begins k s names e = begins_of k (decode_new_epoch s) names e

-- where it stands: behind the shards below its key
pub put-at : (g : Held) (l : List Held) → nth (put held_below g l) (lead (λ h. key_below h.key g.key) l) ≡ some g
unfolding put lead nth
put-at g [] = refl
put-at g (y ∷ ys) = go (key_below g.key y.key) (key_below y.key g.key) refl refl (put-at g ys)
  where
    go : (a b : Bool) → key_below g.key y.key ≡ a → key_below y.key g.key ≡ b
        → nth (put held_below g ys) (lead (λ h. key_below h.key g.key) ys) ≡ some g
        → nth (cond a (g ∷ y ∷ ys) (cond b (y ∷ put held_below g ys) (g ∷ ys))) (cond b (suc (lead (λ h. key_below h.key g.key) ys)) zero) ≡ some g
    go true true p q more = not_both (key_below y.key g.key) q (keys.apart g.key y.key p)
    go true false p q more = refl
    go false true p q more = more
    go false false p q more = refl
