-- Laws of the slots after NewEpoch, one for each case. Assumes nothing.
use Prim.Native.Nat.{◌<◌, ◌≤◌}
use mathlib.Core.Path.{◌≡◌, refl}
use mathlib.Core.Bool.{Bool, true, false, cond}
use borrow.Author.Tests.{lt-ltb, le-ltb}
use Rattle.spec.specs.Keys.{Key}
use Rattle.node_header.specs.declared.Node.{Node}
use Rattle.node_header.specs.Slots.{slots_of}
use Rattle.node_lent.specs.Lend.{place_of}
use Rattle.node_replicate.specs.declared.PeerReply.{PeerReply}
use Rattle.node_replicate.specs.Peers.{turned_down}
use Rattle.node_epoch.specs.NewEpochs.{slots_with, slots_then}

same_both : {A : Type 0} (b : Bool) (x : A) → cond b x x ≡ x
same_both true x = refl
same_both false x = refl

module _ (n : Node) (k : Key) (w : PeerReply) where
  pub then_down : turned_down w ≡ true → slots_then n k w ≡ slots_of n
  unfolding slots_then
  then_down e = rw e

  pub then-held : place_of n k < n.count → slots_then n k w ≡ slots_of n
  unfolding slots_then
  then-held h = rw (lt-ltb _ _ h) (same_both (turned_down w) (slots_of n))

  pub then-absent : n.count ≤ place_of n k → slots_then n k w ≡ cond (turned_down w) (slots_of n) (slots_with n k)
  unfolding slots_then
  then-absent h = rw (le-ltb _ _ h)

  pub then-begun : n.count ≤ place_of n k → turned_down w ≡ false → slots_then n k w ≡ slots_with n k
  unfolding slots_then
  then-begun h e = rw e (rw (le-ltb _ _ h))
