-- The engine never refuses its own state, over the images that a host owns: intact images stay intact under every call, and no call on them
-- answers 24 unless the map or the count that it is lent beside them is malformed. A fresh node's are intact. Assumes nothing.
use Prim.Native.Nat.{ℕ, ◌≤◌}
use mathlib.Core.Path.{◌≡◌, sym, subst}
use mathlib.Core.Bool.{Bool, true}
use mathlib.Core.List.{List, [], ◌∷◌}
use lib.ListN.{length}
use Rattle.spec.specs.Layout.Format.{All}
use Rattle.image_node.specs.Lent.{stores_size}
use Rattle.calls_header.specs.Fresh.{Freshens}
use Rattle.thm_never_malformed.specs.Intact.{Intact}
use Rattle.thm_never_malformed.specs.Calls.{
  Call,
  fresh_node,
  show_map,
  grant,
  wait,
  ack,
  outcome,
  replicate,
  new_epoch,
  copy,
  write,
  search,
  step,
  beside_formed,
  Called,
  Answered,
  Calls,
  NotMalformed,
}
use Rattle.thm_never_malformed.proofs.Keeps.{Keeps, unwritten}
use Rattle.thm_never_malformed.proofs.OnHeader.{fresh_intact, on-fresh, on-grant, on_wait_lem, on_ack_lem, on-outcome}
use Rattle.thm_never_malformed.proofs.OnMap.{on-map}
use Rattle.thm_never_malformed.proofs.OnPeers.{on_replicate_lem, on_new_epoch_lem, on_copy_lem}
use Rattle.thm_never_malformed.proofs.OnClients.{on-write, on_search_lem}
use Rattle.thm_never_malformed.proofs.OnWorkers.{on_step_lem}

module _ (h s h' s' : List ℕ) (r : ℕ) where
  -- a call that is not lent the stores
  unlent : (beside : Bool) → s' ≡ s → Keeps beside h' s r → Keeps beside h' s' r
  unlent beside e k = subst (λ (t : List ℕ). Keeps beside h' t r) (sym e) k

  -- one that leaves both images
  reads : (beside : Bool) → Intact h s → (h' ≡ h) × (s' ≡ s) → (beside ≡ true → r ≡ 24 → ⊥) → Keeps beside h' s' r
  reads beside i e f = record { intact = unwritten h s h' s' i e; fine = f }

  pub keeps : (c : Call) → Intact h s → Called c h s h' s' r → Keeps (beside_formed c) h' s' r
  unfolding Called
  keeps (fresh_node id incarnation) i (c, e) = unlent true e (on-fresh h s i h' id incarnation r c)
  keeps (show_map m p a fresh) i (q, b, c, e) = unlent (beside_formed (show_map m p a fresh)) e (on-map h s i m fresh h' p q a b r c)
  keeps (grant incarnation sent lease) i (c, e) = unlent true e (on-grant h s i h' incarnation sent lease r c)
  keeps (wait name p a shard epoch offset now timeout) i (q, b, c, e) =
      unlent true e (on_wait_lem h s i h' p q a b name shard epoch offset now timeout r c)
  keeps (ack name reply shard epoch peer code) i (c, e) = unlent true e (on_ack_lem h s i h' name reply shard epoch peer code r c)
  keeps (outcome name shard epoch peer command applied) i (c, e) =
      unlent true e (on-outcome h s i h' name shard epoch peer command applied r c)
  keeps (replicate m w) i (w', b, c) = on_replicate_lem h s i h' s' m w w' r b c
  keeps (new_epoch m w) i (w', b, c) = on_new_epoch_lem h s i h' s' m w w' r b c
  keeps (copy m w) i (w', b, c) = on_copy_lem h s i h' s' m w w' r b c
  keeps (write m a n clock least) i (a', n', b, c) = on-write h s i m clock n h' s' a a' n' least r b c
  keeps (search m o a n clock) i (n', o', a', c, e, d) =
      reads (beside_formed (search m o a n clock)) i (e, d) (on_search_lem h s i m clock n o a n' o' a' r c)
  keeps (step w o) i (o', c, e, d) = reads true i (e, d) (λ f. on_step_lem h s i w o o' r c)

  -- intact images stay so
  pub stays_intact : (c : Call) → Intact h s → Called c h s h' s' r → Intact h' s'
  stays_intact c i d = (keeps c i d).intact

  -- 24 is not said of them
  pub not_malformed : (c : Call) → Intact h s → Called c h s h' s' r → beside_formed c ≡ true → r ≡ 24 → ⊥
  not_malformed c i d = (keeps c i d).fine

-- ---- a list of calls

pub calls_intact : (cs : List Answered) (h s h' s' : List ℕ) → Intact h s → Calls cs h s h' s' → All NotMalformed cs × Intact h' s'
unfolding Calls
calls_intact [] h s h' s' i e = (tt, unwritten h s h' s' i e)
calls_intact (a ∷ cs) h s h' s' i (g, t, c, more) =
    let k = keeps h s g t a.number a.call i c in
    let r = calls_intact cs g t h' s' k.intact more in
    ((k.fine, r.0), r.1)

-- beginning with a fresh node, made in whatever bytes, and stores of their size, whatever they hold
pub never_malformed : (before h s h' s' : List ℕ) (id incarnation : ℕ) (cs : List Answered) → Freshens before h id incarnation 0 → stores_size ≤ length s
    → Calls cs h s h' s' → All NotMalformed cs × Intact h' s'
never_malformed before h s h' s' id incarnation cs fresh size c = calls_intact cs h s h' s' (fresh_intact before h s id incarnation fresh size) c
