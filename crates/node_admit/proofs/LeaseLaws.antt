-- Laws of the lease grant, one for each way out. Assumes nothing.
use mathlib.Core.Path.{◌≡◌, refl, ap, sym, ◌∙◌}
use mathlib.Core.Bool.{Bool, true, false, cond}
use mathlib.Core.Option.{Option, some}
use Prim.Native.Nat.{ℕ, ◌+◌}
use borrow.Author.Tests.{eq-eqb, ne_eqb}
use lib.Dec.{eqb}
use Rattle.spec.specs.Node.Held.{Node}
use Rattle.spec.specs.Node.Lease.{raised, grant}
use Rattle.std.specs.declared.option.Option as option
use Rattle.node_admit.specs.View.{view_expiry, with_expiry, Grants}

module _ (own : ℕ) (e : option.Option ℕ) (i sent lease : ℕ) where
  pub grants_own : i ≡ own → (r : option.Option ℕ) → view_expiry r ≡ some (raised (view_expiry e) (sent + lease)) → Grants own e i sent lease r
  unfolding grant
  grants_own q r x n a b = rw (eq-eqb i n.incarnation (q ∙ sym a), x, b)

  pub grants_other : (i ≡ own → ⊥) → Grants own e i sent lease e
  unfolding grant
  grants_other q n a b = rw (ne_eqb i n.incarnation (λ z. q (z ∙ a)), ← b)
