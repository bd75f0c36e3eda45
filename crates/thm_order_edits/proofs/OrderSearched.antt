-- Searches after two edits of different ids, in either order. Apart from Order, so that a wrong `same-vectors` is refused where it stands.
-- Assumes nothing.
use Prim.Native.Nat.{ℕ, ◌≤◌}
use mathlib.Core.Path.{◌≡◌, sym, ◌∙◌}
use mathlib.Core.Bool.{true}
use mathlib.Core.List.{List}
use Rattle.spec.specs.Log.{Op}
use Rattle.spec_laws.proofs.Log.Edits.{op_id}
use Rattle.log_store.specs.Store.{Store}
use Rattle.log_calls.specs.Fits.{lent_fits}
use Rattle.thm_order_edits.specs.Edits.{Edit, InTurn, SearchedAlike}
use Rattle.thm_order_edits.proofs.BothAccepted.{both_appended}
use Rattle.thm_order_edits.proofs.Order.{same-vectors}
use Rattle.thm_order_edits.proofs.Searches.{searched_alike}

module _ (own : ℕ) (s : Store) (f : lent_fits s ≡ true) (room : s.count ≤ 1022) where
  module _ (x y : List ℕ) (a b : Op) (p : Edit x a) (q : Edit y b) (u v : Store) where
    module _ (t : InTurn x y own s u) (w : InTurn y x own s v) where
      pub same-searches : (op_id a ≡ op_id b → ⊥) → SearchedAlike u v
      same-searches n =
          searched_alike u v
          ((both_appended own s f room x y a b u p q t).fits ∙ sym (both_appended own s f room y x b a v q p w).fits)
          (same-vectors own s f room x y a b p q u v t w n)
