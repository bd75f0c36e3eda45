-- What stands between a write and its loss: each of these, taken away, loses an acknowledged write in some run (docs/LOST-WRITES.md).
-- Assumes nothing.
use Prim.Native.Nat.{ℕ, ◌≤◌}
use mathlib.Core.Path.{◌≡◌, refl, ap}
use mathlib.Core.Bool.{Bool, true, false, not}
use borrow.Author.Tests.{ne_eqb, leb-true}
use Rattle.spec.specs.Lists.{◌and◌}
use Rattle.spec.specs.Node.Client.{lacks, wait_row}
use Rattle.spec.specs.Node.Worker.{copies}
use Rattle.spec.specs.Node.Ack.{acked_through, caught_up, joins, settled_row}
use Rattle.spec.specs.declared.Peer.{Peer}
use Rattle.spec_laws.proofs.Lists.{by-test, and_left}

-- request 2.5: a lone entry of another epoch than the primary's goes as CopyShard, which keeps its epoch
pub other-copies : (epoch own : ℕ) → (own ≡ epoch → ⊥) → copies epoch own ≡ true
other-copies epoch own h = ap not (ne_eqb own epoch h)

-- node.rs, check_acks: a wait takes nobody out of the ack set, whatever it proposes
pub wait_leaves_members : (last now timeout : ℕ) (p : Peer) → (wait_row last now timeout p).member ≡ p.member
unfolding wait_row
wait_leaves_members last now timeout p = by-test (λ (q : Peer). q.member ≡ p.member) (lacks last p) (λ e. refl) (λ e. refl)

-- node.rs, after `propose`: nobody leaves the ack set unless a Shrink was applied
pub settled_stays : (p : Peer) → p.member ≡ true → (settled_row false p).member ≡ true
unfolding settled_row ◌and◌
settled_stays p e = rw e

-- node.rs, record_ack: who joins the ack set, and is proposed for the in_sync_lem set, has the whole log
pub joins_caught_up : (last through : ℕ) (aligned : Bool) (p : Peer) → joins last through aligned p ≡ true
    → last ≤ acked_through last through aligned p
unfolding joins
joins_caught_up last through aligned p e = leb-true last _ (and_left (caught_up last through aligned p) _ e)
