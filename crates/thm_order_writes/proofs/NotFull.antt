-- A Write that a node accepts is not refused for want of space (23) after another, if the log had at most 1,022 entries. Apart from Order, so
-- that a wrong bound is refused where it stands. Assumes nothing.
use Prim.Native.Nat.{ℕ, ◌≤◌}
use mathlib.Core.Path.{◌≡◌, sym, ap, ◌∙◌}
use mathlib.Core.Logic.{⊎_elim}
use mathlib.Core.List.{List}
use native.Mathlib.Omega.{arith}
use Rattle.spec.specs.Keys.{Key}
use Rattle.spec.specs.Log.{Op}
use Rattle.node_write.specs.declared.WriteReply.{WriteReply}
use Rattle.node_write.specs.declared.WriteReply.TheVariants as R
use Rattle.node_write.specs.ClientWrites.{number_in}
use Rattle.thm_order_writes.specs.Editors.{Owned, Edit, Moment, Writes}
use Rattle.thm_order_writes.proofs.Order.{accepted, second-accepted}

module _ (u : Owned) (k : Key) (x y : List ℕ) (a b : Op) (e : Edit x k a) (f : Edit y k b) (c d : Moment) (v w : Owned) (o₁ o₂ : ℕ)
    (p : Writes u c x v (accepted o₁)) (q : Writes u d y w (accepted o₂)) (space : o₁ ≤ 1023) where
  pub not_full : (z : Owned) (said : WriteReply) → Writes v d y z said → said ≡ R.Refused 23 → ⊥
  not_full z said s full =
      ⊎_elim (λ t. let n : 23 ≡ 0 = ap number_in (sym full ∙ t) in omega arith)
      (λ t. let n : 23 ≡ 24 = ap number_in (sym full ∙ t) in omega arith) (second-accepted u k x y a b e f c d v w o₁ o₂ p q space z said s)
