use mathlib.Core.Path.{◌≡◌, refl, subst}
use Prim.Native.Nat.{ℕ}
use Rattle.spec.specs.Log.{Op}
use Rattle.log_store.specs.Store.{Store}
use Rattle.log_store.specs.declared.replica.Outcome.{Outcome}
use Rattle.log_arrive.specs.Arrivals.{Arrives}
use Rattle.log_arrive.proofs.store.store_op.Goals as goal

-- stored under an epoch that is the message's
under-its-epoch : (own epoch under offset : ℕ) (op : Op) (s t : Store) (a : Outcome)
    → Arrives own epoch (record { epoch = under; offset = offset; op = op }) s t a → under ≡ epoch
    → Arrives own epoch (record { epoch = epoch; offset = offset; op = op }) s t a
under-its-epoch own epoch under offset op s t a h e =
    subst (λ (u : ℕ). Arrives own epoch (record { epoch = u; offset = offset; op = op }) s t a) e h

pub returns : goal.returns
returns c =
    let ended = c in
    let stored = c.store_under.ensures in
    under-its-epoch _ _ _ _ _ _ _ _ stored refl
