-- Two accepted Writes at a node of the definition, one after the other: both orders leave the same vectors and other logs, of one id the later
-- alone counts, and what a node accepts it accepts after another Write. The laws of the calls, by value and over images, follow from these.
-- Assumes nothing.
use Prim.Native.Nat.{ℕ, ◌+◌, ◌≤◌}
use mathlib.Core.Path.{◌≡◌, refl, sym, ap, ◌∙◌, subst}
use mathlib.Core.Bool.{false}
use mathlib.Core.Option.{Option, none, some}
use native.Mathlib.Omega.{arith}
use Rattle.spec.specs.Keys.{Key, same_key}
use Rattle.spec.specs.Log.{Op, ShardReplica, push, append}
use Rattle.spec.specs.Node.Held.{Held, Node}
use Rattle.spec.specs.Node.Lease.{leased}
use Rattle.spec.specs.Node.Shards.{held_shard, with_replica}
use Rattle.spec.specs.Node.Client.{accepted, on_write}
use Rattle.spec_laws.proofs.Lists.{some_same}
use Rattle.spec_laws.proofs.Log.Play.{InStep}
use Rattle.spec_laws.proofs.Log.Edits.{op_id, swap_appends, later_append, appends_differ}
use Rattle.spec_laws.proofs.Map.Orders.{same_key_lem}
use Rattle.node_header.proofs.Lists.{by_case}
use Rattle.thm_order_writes.specs.Editors.{vectors_in, log_in}
use Rattle.thm_order_writes.proofs.Node.{Appended, Admits, longer, admits_after, on_admitted}
use Rattle.thm_order_writes.proofs.Search.{bare, unlogged, Alike}

-- ---- nodes that are the same but for logs

-- the vectors are among what is the same
pub alike_vectors : (n p : Node) → Alike n p → (j : Key) → vectors_in (held_shard n j) ≡ vectors_in (held_shard p j)
alike_vectors n p a j = same (held_shard n j) ∙ ap vectors_in (a.shards j) ∙ sym (same (held_shard p j))
  where
    same : (o : Option Held) → vectors_in o ≡ vectors_in (unlogged o)
    same none = refl
    same (some h) = refl

-- p is n with another replica at the shard h of the key
pub record Leaves (n p : Node) (k : Key) (h : Held) (r : ShardReplica) : Type 0 where
  pub after : held_shard p k ≡ some (with_replica h r)
  pub others : (j : Key) → same_key k j ≡ false → held_shard p j ≡ held_shard n j
  pub expiry : p.expiry ≡ n.expiry

-- two replicas of one epoch and metric, with the same vectors
leaves_alike : (n p q : Node) (k : Key) (h : Held) (r s : ShardReplica) → Leaves n p k h r → Leaves n q k h s
    → r.epoch ≡ s.epoch → r.metric ≡ s.metric → r.vectors ≡ s.vectors → Alike p q
leaves_alike n p q k h r s v w e m g = record {
  expiry = v.expiry ∙ sym w.expiry;
  shards = λ j.
      by_case (same_key k j)
      (λ z. subst (λ (i : Key). unlogged (held_shard p i) ≡ unlogged (held_shard q i)) (same_key_lem k j z) own)
      (λ z. ap unlogged (v.others j z ∙ sym (w.others j z)));
}
  where
    bare-same : bare (with_replica h r) ≡ bare (with_replica h s)
    bare-same = rw (e, m, g) refl

    own : unlogged (held_shard p k) ≡ unlogged (held_shard q k)
    own = ap unlogged v.after ∙ ap some bare-same ∙ sym (ap unlogged w.after)

-- `append` keeps the epoch and the metric
epoch-kept : (r : ShardReplica) (op : Op) → (append r op).epoch ≡ r.epoch
unfolding append push
epoch-kept r op = refl

metric_kept : (r : ShardReplica) (op : Op) → (append r op).metric ≡ r.metric
unfolding append push
metric_kept r op = refl

-- ---- one accepted Write, and two in turn

-- the edit appended to a log that the shard's vectors are played from
pub record Taken (n p : Node) (clock least : ℕ) (k : Key) (epoch : ℕ) (op : Op) (o : ℕ) : Type 0 where
  pub appended : Appended n p clock least k epoch op o
  pub step : InStep appended.shard.replica

-- the shard that two began with, and both edits appended
pub record Both (n p : Node) (k : Key) (a b : Op) : Type 0 where
  pub shard : Held
  pub held : held_shard n k ≡ some shard
  pub step : InStep shard.replica
  pub leaves : Leaves n p k shard (append (append shard.replica a) b)

pub both : (n p q : Node) (c l c' l' : ℕ) (k : Key) (d d' : ℕ) (a b : Op) (o₁ o₂ : ℕ) → Taken n p c l k d a o₁ → Appended p q c' l' k d' b o₂ → Both n q k a b
both n p q c l c' l' k d d' a b o₁ o₂ t s =
    let g = t.appended in
    let same : s.shard ≡ with_replica g.shard (append g.shard.replica a) = some_same (sym s.held ∙ g.after) in
    record {
      shard = g.shard;
      held = g.held;
      step = t.step;
      leaves = record {
        after = s.after ∙ ap (λ (h : Held). some (with_replica h (append h.replica b))) same;
        others = λ j z. s.others j z ∙ g.others j z;
        expiry = s.expiry ∙ g.expiry;
      };
    }

module _ (n p q : Node) (k : Key) (a b : Op) (one : Both n p k a b) where
  abbrev h : Held
  h = one.shard

  abbrev r : ShardReplica
  r = h.replica

  -- different ids, in either order
  module _ (two : Both n q k b a) where
    other-leaves : Leaves n q k h (append (append r b) a)
    other-leaves =
        subst (λ (g : Held). Leaves n q k g (append (append g.replica b) a)) (some_same (sym two.held ∙ one.held)) two.leaves

    pub swapped : (op_id a ≡ op_id b → ⊥) → Alike p q
    swapped d =
        leaves_alike n p q k h (append (append r a) b) (append (append r b) a) one.leaves other-leaves
        (epoch-kept (append r a) b ∙ epoch-kept r a ∙ sym (epoch-kept (append r b) a ∙ epoch-kept r b))
        (metric_kept (append r a) b ∙ metric_kept r a ∙ sym (metric_kept (append r b) a ∙ metric_kept r b))
        (swap_appends r a b one.step d)

    -- the logs of the shard differ whenever the edits do
    pub differ : (a ≡ b → ⊥) → log_in (held_shard p k) ≡ log_in (held_shard q k) → ⊥
    differ d e =
        appends_differ r a b d (some_same (sym (ap log_in one.leaves.after) ∙ e ∙ ap log_in other-leaves.after))

  -- one id: the later alone, at the same node
  pub later : (clock least epoch o : ℕ) → Appended n q clock least k epoch b o → op_id a ≡ op_id b → Alike p q
  later clock least epoch o alone same =
      leaves_alike n p q k h (append (append r a) b) (append r b) one.leaves
      (subst (λ (g : Held). Leaves n q k g (append g.replica b)) (some_same (sym alone.held ∙ one.held))
      (record { after = alone.after; others = alone.others; expiry = alone.expiry }))
      (epoch-kept (append r a) b ∙ epoch-kept r a ∙ sym (epoch-kept r b))
      (metric_kept (append r a) b ∙ metric_kept r a ∙ sym (metric_kept r b))
      (later_append r a b one.step same)

-- ---- space for both

-- What a node accepts it accepts after another Write: the admission reads neither log nor vectors
module _ (n p q : Node) (c l c' l' : ℕ) (k : Key) (d d' : ℕ) (a b : Op) (o₁ o₂ : ℕ) where
  -- of the same shard at the next offset, if its log had at most 1,022 entries: its own offset says so
  pub next : o₁ ≤ 1023 → Appended n p c l k d a o₁ → Appended n q c' l' k d' b o₂ → (on_write p c' l' k d' b).answer ≡ accepted (o₁ + 1)
  next space g j =
      let h = with_replica g.shard (append g.shard.replica a) in
      let z = longer g.shard.replica a in
      let ok : Admits (leased p c') l' d' h =
      admits_after n p c' l' d' g.shard (append g.shard.replica a) g.expiry
      (subst (λ (y : Held). Admits (leased n c') l' d' y) (some_same (sym j.held ∙ g.held)) j.admits) in
      on_admitted p c' l' k d' b h g.after ok (omega (arith, z, g.offset)) ∙ ap accepted (omega (arith, z, g.offset))
