-- The calls on one held shard are the definitions' calls on a node that holds it: the same answer, and the node with that one shard
-- changed in its place. Assumes nothing.
use mathlib.Core.Path.{◌≡◌, refl, ap, sym}
use mathlib.Core.Bool.{Bool, true, false, cond, not}
use mathlib.Core.Option.{some}
use Prim.Native.Nat.{ℕ}
use Rattle.spec.specs.Lists.{◌or◌}
use Rattle.spec.specs.Keys.{Key}
use Rattle.spec.specs.Refusals.{undecodable, malformed}
use Rattle.spec.specs.Layout.Message.{Reply}
use Rattle.spec.specs.Map.Apply.{update}
use Rattle.spec.specs.Node.Held.{Held, Node}
use Rattle.spec.specs.Node.Shards.{Result, gives, of_key, held_shard, with_held}
use Rattle.spec.specs.Node.Client.{wait_refused, wait_held, on_wait}
use Rattle.spec.specs.Node.Ack.{ack_refused, Sent, bad_reply, ack_held, on_ack, outcome_refused, outcome_at, Proposal, leaves, on_outcome}
use Rattle.spec.specs.Node.Calls.{late_time, wait_with, ack_of, outcome_with}
use Rattle.spec_laws.proofs.Node.Shards.{at_held, update_same}
use Rattle.node_shard.specs.Answers.{wait_call, outcome_call}
use Rattle.node_shard.specs.Acks.{ack_call}

module _ (n : Node) (k : Key) (h : Held) (e : held_shard n k ≡ some h) where
  -- a call on the shard, put back into the node
  abbrev pub lifted : {A : Type 0} → (Held → Result A Held) → Result A Node
  lifted f = gives (f h).answer (with_held n (update (of_key k) (λ x. (f x).after) n.held))

  -- where it leaves the shard as it is, so it leaves the node
  refused-is : {A : Type 0} (a : A) → gives a n ≡ lifted (λ x. gives a x)
  refused-is a = ap (gives a) (sym (ap (with_held n) (update_same (of_key k) (λ x. x) n.held h (unfold held_shard in e) refl)))

  pub wait_is : (lent : Bool) (now timeout epoch offset : ℕ)
      → wait_with lent n now timeout k epoch offset ≡ lifted (wait_call lent now timeout epoch offset)
  unfolding wait_with wait_call on_wait
  wait_is lent now timeout epoch offset = go (late_time now or late_time timeout) (not lent)
    where
      go : (a b : Bool)
          → cond a (gives (wait_refused undecodable) n) (cond b (gives (wait_refused malformed) n) (on_wait n now timeout k epoch offset))
          ≡ lifted (λ x. cond a (gives (wait_refused undecodable) x) (cond b (gives (wait_refused malformed) x) (wait_held now timeout epoch offset x)))
      go true b = refused-is (wait_refused undecodable)
      go false true = refused-is (wait_refused malformed)
      go false false = unfold on_wait in at_held n k _ (wait_held now timeout epoch offset) h e

  pub outcome-is : (lent : Bool) (epoch peer : ℕ) (what : Proposal) (applied : Bool)
      → outcome_with lent n k epoch peer what applied ≡ lifted (outcome_call lent n.id epoch peer (leaves what applied))
  unfolding outcome_with outcome_call
  outcome-is lent epoch peer what applied = go (not lent)
    where
      go : (b : Bool)
          → cond b (gives (outcome_refused malformed) n) (on_outcome n k epoch peer what applied)
          ≡ lifted (λ x. cond b (gives (outcome_refused malformed) x) (outcome_at n.id epoch peer (leaves what applied) x))
      go true = refused-is (outcome_refused malformed)
      go false = unfold on_outcome in at_held n k _ (outcome_at n.id epoch peer (leaves what applied)) h e

  pub ack_is_lem : (lent : Bool) (epoch peer : ℕ) (s : Sent) (r : Reply) → ack_of lent n k epoch peer s (some r) ≡ lifted (ack_call lent epoch peer s r)
  unfolding ack_call
  ack_is_lem lent epoch peer s r = go (bad_reply r) refl (not lent)
    where
      past : bad_reply r ≡ false → on_ack n k epoch peer s r ≡ lifted (ack_held epoch peer s r)
      past b = unfold on_ack in (rw b (at_held n k _ (ack_held epoch peer s r) h e))

      go : (a : Bool) → bad_reply r ≡ a → (b : Bool)
          → cond a (gives (ack_refused undecodable) n) (cond b (gives (ack_refused malformed) n) (on_ack n k epoch peer s r))
          ≡ lifted (λ x. cond a (gives (ack_refused undecodable) x) (cond b (gives (ack_refused malformed) x) (ack_held epoch peer s r x)))
      go true q b = refused-is (ack_refused undecodable)
      go false q true = refused-is (ack_refused malformed)
      go false q false = past q
