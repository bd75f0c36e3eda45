-- Laws of waiting for acks, one for each way out. Assumes nothing.
use mathlib.Core.Path.{◌≡◌, refl, ap, sym, ◌∙◌}
use mathlib.Core.Bool.{Bool, true, false, not}
use mathlib.Core.List.{List, map}
use Prim.Native.Nat.{ℕ, ◌-◌}
use lib.Dec.{ltb}
use lib.ListN.{take}
use Rattle.spec.specs.Lists.{◌and◌, every, collect}
use Rattle.spec.specs.Node.Shards.{leads_at}
use Rattle.spec.specs.Node.Client.{lacks, behind_since, to_shrink, wait_row, node_of, has_acked, wait_held}
use Rattle.spec.specs.declared.Peer.{Peer}
use Rattle.node_shard.specs.declared.Held.{Held}
use Rattle.node_shard.specs.declared.Nodes.{Nodes}
use Rattle.node_shard.specs.declared.WaitAnswer.TheVariants as W
use Rattle.node_shard.specs.View.{with_rows}
use Rattle.node_shard.specs.Answers.{WaitsHeld}

module _ (last now timeout : ℕ) (p : Peer) where
  pub shrink_late : lacks last p ≡ true → (e : ℕ) → e ≡ now - behind_since p now → (x : Bool) → x ≡ (ltb timeout e and not p.proposing)
      → x ≡ to_shrink last now timeout p
  shrink_late l e q x r =
      r ∙ ap (λ (e : ℕ). ltb timeout e and not p.proposing) q
      ∙ sym (ap (λ (b : Bool). b and ltb timeout (now - behind_since p now) and not p.proposing) l ∙ (unfold ◌and◌ in refl))

  pub shrink_not : lacks last p ≡ false → false ≡ to_shrink last now timeout p
  shrink_not l = sym (ap (λ (b : Bool). b and ltb timeout (now - behind_since p now) and not p.proposing) l ∙ (unfold ◌and◌ in refl))

-- ---- past the checks

module _ (h : Held) (epoch offset now timeout : ℕ) where
  pub waits_not : leads_at h.role epoch ≡ false → (s : Nodes) → s.count ≡ 0
      → WaitsHeld h epoch offset now timeout (record { answer = W.NotPrimary h.epoch.0; shrink = s; held = h })
  unfolding wait_held
  waits_not n s z k l v e = rw (n, z)

  module _ (leads : leads_at h.role epoch ≡ true) (s : Nodes)
      (late : take s.count s.items ≡ collect (to_shrink h.last now timeout) node_of (take h.count h.peers))
      (rows : List Peer) (waited : take h.count rows ≡ map (wait_row h.last now timeout) (take h.count h.peers)) where
    pub waits-done : every (has_acked offset) (take h.count h.peers) ≡ true
        → WaitsHeld h epoch offset now timeout (record { answer = W.Done; shrink = s; held = with_rows h rows })
    unfolding wait_held
    waits-done a k l v e = rw (e, leads, a, late, waited)

    pub waits-on : every (has_acked offset) (take h.count h.peers) ≡ false
        → WaitsHeld h epoch offset now timeout (record { answer = W.Waiting; shrink = s; held = with_rows h rows })
    unfolding wait_held
    waits-on a k l v e = rw (e, leads, a, late, waited)

-- ---- the call
