-- What a reader would ask of the node's answers: paper 01's near misses and strict tests, as laws. Assumes nothing.
use Prim.Native.Nat.{ℕ, ◌+◌, ◌≤◌, ◌<◌, max, min}
use mathlib.Core.Path.{◌≡◌, refl, sym, ap, ◌∙◌}
use mathlib.Core.Bool.{Bool, true, false, cond, not}
use mathlib.Core.List.{List}
use mathlib.Core.Option.{Option, none, some}
use native.Mathlib.Omega.{arith}
use lib.Dec.{eqb, ltb}
use borrow.Author.Tests.{le-ltb, ne_eqb}
use Rattle.spec.specs.Lists.{◌and◌, ◌or◌, any}
use Rattle.spec.specs.Limits.{max_entries}
use Rattle.spec.specs.Refusals.{no_room}
use Rattle.spec.specs.Log.{Op, Entry, last_offset, store}
use Rattle.spec.specs.Layout.Message.{reply_stale}
use Rattle.spec.specs.Node.Held.{Held, Node}
use Rattle.spec.specs.Node.Shards.{Result, gives, on_node, with_replica}
use Rattle.spec.specs.Node.Lease.{grant, leased}
use Rattle.spec.specs.Node.Client.{overfull, overdue}
use Rattle.spec.specs.Node.Backup.{BackupAnswer, replied, backup_refused, reply_of, replicate_held}
use Rattle.spec.specs.Node.Ack.{acked_through, joins, ack_row}
use Rattle.spec.specs.Node.Shown.{retained}
use Rattle.spec.specs.declared.Peer.{Peer}
use Rattle.spec.specs.declared.Replica.{Replica}
use Rattle.spec_laws.proofs.Log.Store.{store_other}

-- 'Near misses': an entry of another epoch, a higher one too, is answered StaleEpoch own and changes nothing
pub replicate_other : (epoch offset : ℕ) (op : Op) (h : Held) → last_offset h.replica ≤ max_entries → (epoch ≡ h.replica.epoch → ⊥)
    → replicate_held epoch offset op h ≡ gives (replied (reply_stale h.replica.epoch)) h
unfolding replicate_held
replicate_other epoch offset op h room other =
    ap {B = Result BackupAnswer Held}
    (λ s. cond (overfull s.replica) (gives (backup_refused no_room) h)
    (gives (replied (reply_of s.answer)) (with_replica h s.replica)))
    (store_other h.replica epoch (record { epoch = epoch; offset = offset; op = op }) other)
    ∙ ap (λ b. cond b (gives (backup_refused no_room) h) (gives (replied (reply_stale h.replica.epoch)) h))
    (le-ltb max_entries (last_offset h.replica) room)

-- 'Near misses': an ordinary ack counts whole, past the log's end too, and never lowers; only alignment is cut
pub ack_whole : (last through : ℕ) (p : Peer) → through ≤ acked_through last through false p
unfolding acked_through
ack_whole last through p = omega arith

pub ack_raises : (last through : ℕ) (p : Peer) → p.acked.0 ≤ acked_through last through false p
unfolding acked_through
ack_raises last through p = omega arith

pub align_cuts : (last through : ℕ) (p : Peer) → acked_through last through true p ≤ last
unfolding acked_through
align_cuts last through p = omega arith

-- 'The node': a lease that ends now holds no more
pub lease-ends : (n : Node) (now : ℕ) → n.expiry ≡ some now → leased n now ≡ false
unfolding leased
lease-ends n now e = rw e (le-ltb now now (omega arith))

-- 'The node': a grant for another incarnation does nothing
pub grant-other : (n : Node) (i sent lease : ℕ) → (i ≡ n.incarnation → ⊥) → grant n i sent lease ≡ n
unfolding grant
grant-other n i sent lease h = rw (ne_eqb i n.incarnation h)

-- 'The node': a clock that ran back makes nobody overdue
pub no_time_passed : (now timeout : ℕ) (p : Peer) → p.behind ≡ true → now ≤ p.since → overdue now timeout p ≡ false
no_time_passed now timeout p b h = rw b (le-ltb timeout _ (omega arith))

-- node.rs, on_map: a peer that the shard no longer lists is not in the ack set
pub unlisted-leaves : (rs : List Replica) (p : Peer) → any (on_node p.node.0) rs ≡ false → (retained rs p).member ≡ false
unfolding retained ◌and◌
unlisted-leaves rs p e = ap (λ b. p.member and b) e ∙ both p.member
  where
    both : (b : Bool) → b and false ≡ false
    both true = unfold ◌and◌ in refl
    both false = unfold ◌and◌ in refl

-- node.rs, record_ack: an Expand is asked for only of a peer that is in the ack set by then
pub expand_joined : (last through : ℕ) (aligned : Bool) (p : Peer) → joins last through aligned p ≡ true
    → (ack_row last through aligned p).member ≡ true
unfolding ack_row
expand_joined last through aligned p e = ap (λ b. p.member or b) e ∙ either p.member
  where
    either : (b : Bool) → b or true ≡ true
    either true = unfold ◌or◌ in refl
    either false = unfold ◌or◌ in refl
