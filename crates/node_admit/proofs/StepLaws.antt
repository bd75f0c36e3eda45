-- Laws of the worker's step, one for each way out. Assumes nothing.
use mathlib.Core.List.{List, [], ◌∷◌, ◌++◌}
use mathlib.Core.Path.{◌≡◌, refl, ap, sym, ◌∙◌, subst}
use mathlib.Core.Bool.{Bool, true, false, cond, not}
use mathlib.Core.Option.{Option, none, some}
use Prim.Native.Nat.{ℕ, zero, suc, ◌+◌, ◌-◌, ◌<◌, ◌≤◌, min, max}
use native.Mathlib.Omega.{arith}
use borrow.Author.Tests.{le-leb, lt-leb, leb-true}
use lib.Dec.{leb}
use lib.ListN.{length, take, drop, get_or, length-take, length-drop}
use lib.Seq.{length-take-le, get_or-take}
use Rattle.spec.specs.Lists.{◌and◌, any, every, lead, rising}
use Rattle.spec.specs.Limits.{max_batch, max_replicas, max_entries, max_workers, max_time}
use Rattle.spec.specs.Log.{Log, Entry, entries_from}
use Rattle.spec.specs.Node.Shards.{leads_at, of_node, on_node, row_below}
use Rattle.spec.specs.Node.Worker.{send_of, step_row, step_held}
use Rattle.spec.specs.Node.WellFormed.{ack_fits}
use Rattle.spec.specs.declared.Peer.{Peer}
use Rattle.spec_laws.proofs.Lists.{and_left, and_right}
use Rattle.spec_laws.proofs.Map.Rows.{every_tail}
use Rattle.node_shard.specs.declared.Held.{Held}
use Rattle.node_shard.specs.View.{others, no_peer}
use Rattle.node_shard.specs.Formed.{formed_held}
use Rattle.node_shard.proofs.RowLaws.{row-found, row_missing}
use Rattle.node_admit.specs.declared.Step.{Step}
use Rattle.node_admit.specs.declared.Step.TheVariants as S
use Rattle.node_admit.specs.Steps.{step_word, step_from, Steps}

-- ---- what a shard that is not malformed has

module _ (h : Held) (f : formed_held h ≡ true) where
  abbrev rises : Bool
  rises = rising row_below (take h.count h.peers)

  abbrev acks : Bool
  acks = every ack_fits (take h.count h.peers)

  pub few-holders : h.holders ≤ max_replicas
  unfolding formed_held
  few-holders = leb-true h.holders max_replicas (and_left (leb h.holders max_replicas) (leb h.last max_entries and leb h.count max_workers and rises and acks) f)

  all-acks : acks ≡ true
  unfolding formed_held
  all-acks =
      let a = leb h.holders max_replicas in
      let b = leb h.last max_entries in
      let c = leb h.count max_workers in
      and_right rises acks (and_right c (rises and acks) (and_right b (c and rises and acks) (and_right a (b and c and rises and acks) f)))

  pub ack_at : (at : ℕ) → at < h.count → h.count ≤ length h.peers → (get_or h.peers at no_peer).acked.0 ≤ max_time
  ack_at at lt le =
      leb-true (get_or h.peers at no_peer).acked.0 max_time
      (subst (λ (p : Peer). ack_fits p ≡ true) (get_or-take h.count h.peers at no_peer lt)
      (every-at (take h.count h.peers) at (let l = length-take-le h.count h.peers le in omega arith) all-acks))
    where
      every-at : (l : List Peer) (i : ℕ) → i < length l → every ack_fits l ≡ true → ack_fits (get_or l i no_peer) ≡ true
      every-at [] i h e = absurd (omega arith)
      every-at (p ∷ ps) zero h e = (every_tail ack_fits p ps e).0
      every-at (p ∷ ps) (suc i) h e = every-at ps i (omega arith) (every_tail ack_fits p ps e).1

-- ---- what is sent

send_word : (first : ℕ) (es : Log) (a last : ℕ) → first ≡ a + 1 → length es ≡ min max_batch (last - a) → step_word (send_of first es) ≡ step_from a last
send_word first [] a last f e = sym (ap (λ (b : Bool). cond b S.Wait (S.Send (a + 1) (min max_batch (last - a)))) (le-leb last a (omega arith)))
send_word first (x ∷ xs) a last f e =
    ap (λ (n : ℕ). S.Send n (length (x ∷ xs))) f ∙ ap (S.Send (a + 1)) e
    ∙ sym (ap (λ (b : Bool). cond b S.Wait (S.Send (a + 1) (min max_batch (last - a)))) (lt-leb last a (omega arith)))

pub sends-word : (l : Log) (a : ℕ) → step_word (send_of (a + 1) (entries_from l (a + 1) max_batch)) ≡ step_from a (length l)
unfolding entries_from
sends-word l a =
    let z : max (a + 1) 1 - 1 ≡ a = omega arith in
    send_word (a + 1) (take max_batch (drop (max (a + 1) 1 - 1) l)) a (length l) refl
    (length-take max_batch (drop (max (a + 1) 1 - 1) l) ∙ ap (min max_batch) (length-drop (max (a + 1) 1 - 1) l ∙ ap (λ (k : ℕ). length l - k) z))

-- ---- the step

module _ (h : Held) (epoch peer : ℕ) where
  pub steps_not : leads_at h.role epoch ≡ false → Steps h epoch peer S.Stop
  unfolding step_held
  steps_not n k l v e = rw n

  module _ (leads : leads_at h.role epoch ≡ true) where
    pub steps-gone : any (on_node peer) (take h.holders h.replicas) ≡ false → Steps h epoch peer S.Stop
    unfolding step_held
    steps-gone n k l v e = rw (leads, n)

    module _ (listed : any (on_node peer) (take h.holders h.replicas) ≡ true) (at : ℕ) (fits : h.count ≤ length h.peers)
        (is : at ≡ lead (others peer) (take h.count h.peers)) where
      pub steps-new : h.count ≤ at → Steps h epoch peer S.Align
      unfolding step_held step_row
      steps-new out k l v e = rw (leads, listed, row_missing (of_node peer) h.peers h.count at fits is out)

      module _ (in_use : at < h.count) where
        pub steps_align : (get_or h.peers at no_peer).aligned ≡ false → Steps h epoch peer S.Align
        unfolding step_held step_row
        steps_align n k l v e = rw (leads, listed, row-found (of_node peer) h.peers h.count at fits is no_peer in_use, n)

        pub steps_send : (get_or h.peers at no_peer).aligned ≡ true → (r : Step) → r ≡ step_from (get_or h.peers at no_peer).acked.0 h.last → Steps h epoch peer r
        unfolding step_held step_row
        steps_send y r q k l v e =
            rw (leads, listed, row-found (of_node peer) h.peers h.count at fits is no_peer in_use, y)
            (q ∙ ap (step_from (get_or h.peers at no_peer).acked.0) (sym e) ∙ sym (sends-word l (get_or h.peers at no_peer).acked.0))
