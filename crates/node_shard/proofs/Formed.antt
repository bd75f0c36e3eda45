-- Laws of the test for a malformed shard, one for each way out, and what a passed test tells. Assumes nothing.
use mathlib.Core.Path.{◌≡◌, ap, sym, ◌∙◌}
use mathlib.Core.Bool.{Bool, true, false}
use Prim.Native.Nat.{◌<◌, ◌≤◌}
use lib.Dec.{leb}
use lib.ListN.{take}
use borrow.Author.Tests.{le-leb, lt-leb, leb-true}
use Rattle.spec.specs.Lists.{◌and◌, every, rising}
use Rattle.spec.specs.Limits.{max_replicas, max_entries, max_workers}
use Rattle.spec.specs.Node.Shards.{row_below}
use Rattle.spec.specs.Node.WellFormed.{ack_fits}
use Rattle.spec_laws.proofs.Lists.{and_left, and_right}
use Rattle.node_shard.specs.declared.Held.{Held}
use Rattle.node_shard.specs.Formed.{formed_held}

module _ (h : Held) where
  abbrev rises : Bool
  rises = rising row_below (take h.count h.peers)

  abbrev acks : Bool
  acks = every ack_fits (take h.count h.peers)

  pub formed-holders : max_replicas < h.holders → false ≡ formed_held h
  unfolding formed_held ◌and◌
  formed-holders a = rw (lt-leb h.holders max_replicas a)

  module _ (few : h.holders ≤ max_replicas) where
    pub formed-last : max_entries < h.last → false ≡ formed_held h
    unfolding formed_held ◌and◌
    formed-last a = rw (le-leb h.holders max_replicas few, lt-leb h.last max_entries a)

    module _ (short : h.last ≤ max_entries) where
      pub formed-count : max_workers < h.count → false ≡ formed_held h
      unfolding formed_held ◌and◌
      formed-count a = rw (le-leb h.holders max_replicas few, le-leb h.last max_entries short, lt-leb h.count max_workers a)

      pub formed-rows : h.count ≤ max_workers → (x : Bool) → x ≡ (rises and acks) → x ≡ formed_held h
      formed-rows a x e =
          e
          ∙ sym (unfold formed_held in
          (ap (λ (b : Bool). b and leb h.last max_entries and leb h.count max_workers and rises and acks) (le-leb h.holders max_replicas few)
          ∙ (unfold ◌and◌ in
          (ap (λ (b : Bool). b and leb h.count max_workers and rises and acks) (le-leb h.last max_entries short)
          ∙ ap (λ (b : Bool). b and rises and acks) (le-leb h.count max_workers a)))))

  -- a shard that passed has no more rows than its table
  pub formed-few : formed_held h ≡ true → h.count ≤ max_workers
  unfolding formed_held
  formed-few e =
      let a = leb h.holders max_replicas in
      let b = leb h.last max_entries in
      let c = leb h.count max_workers in
      leb-true h.count max_workers
      (and_left c (rises and acks) (and_right b (c and rises and acks) (and_right a (b and c and rises and acks) e)))
