-- The history beside a run of the protocol: what no call reads, but the invariant speaks of. Each move says how it changes.
-- Definitions only.
use Prim.Native.Nat.{ℕ, ◌≤◌, ◌<◌}
use mathlib.Core.Path.{◌≡◌}
use mathlib.Core.Bool.{Bool, true, false}
use mathlib.Core.List.{List}
use mathlib.Core.Option.{some}
use Rattle.spec.specs.Lists.{nth}
use Rattle.spec.specs.Log.{Entry, Log}
use Rattle.spec_laws.proofs.Lists.{Within}

-- By epoch: the primary and the in_sync_lem set that the map gave it (of the map's epoch: the present one; of an earlier one: that with
-- which it ended); whether its primary has been shown it; the log of its primary in it, and what that log was at the start; how many
-- entries of that log a node holds, or held when it left the epoch; up to which offset it is acknowledged
pub record History : Type 0 where
  pub pr : ℕ → ℕ
  pub ins : ℕ → List ℕ
  pub st : ℕ → Bool
  pub book : ℕ → Log
  pub start : ℕ → Log
  pub held : ℕ → ℕ → ℕ
  pub cmt : ℕ → ℕ

-- both logs have the first o entries, and the same ones
abbrev pub Agree : ℕ → Log → Log → Type 0
Agree o x y = (i : ℕ) → i < o → (e : Entry) × (nth x i ≡ some e) × (nth y i ≡ some e)
