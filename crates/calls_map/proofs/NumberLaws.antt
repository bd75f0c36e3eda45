-- The code of a remembered outcome is the number of the answer. Assumes nothing.
use mathlib.Core.Path.{◌≡◌, refl}
use Rattle.spec.specs.Keys.{Key}
use Rattle.spec.specs.Map.Tables as tables
use Rattle.spec.specs.Map.Calls.{reason_number}
use Rattle.map_tables.specs.View.{outcome_of}
use Rattle.map_tables.specs.declared.Outcome.{Outcome}
use Rattle.map_tables.specs.declared.Outcome.TheVariants.{Applied, Rejected}
use Rattle.map_tables.specs.declared.Rejection.TheVariants.{
  Older,
  Exists,
  ZeroSpec,
  PlacementMismatch,
  NotAlive,
  NoCollection,
  KnownIncarnation,
  NotAtIncarnation,
  NoShard,
  OtherEpoch,
  AlreadyHeld,
  RemovesPrimary,
  NotHeld,
  NotInSync,
  ShrinksPrimary,
  AlreadyInSync,
}
use Rattle.image_parts.specs.Codes.{outcome_coded}

pub code-number : (o : Outcome) (k : Key) → (outcome_coded o).code ≡ reason_number (tables.outcome (outcome_of o k))
code-number Applied k = refl
code-number (Rejected Older) k = refl
code-number (Rejected Exists) k = refl
code-number (Rejected ZeroSpec) k = refl
code-number (Rejected PlacementMismatch) k = refl
code-number (Rejected (NotAlive n)) k = refl
code-number (Rejected NoCollection) k = refl
code-number (Rejected (KnownIncarnation n i)) k = refl
code-number (Rejected (NotAtIncarnation n i)) k = refl
code-number (Rejected NoShard) k = refl
code-number (Rejected (OtherEpoch own given)) k = refl
code-number (Rejected (AlreadyHeld n)) k = refl
code-number (Rejected RemovesPrimary) k = refl
code-number (Rejected (NotHeld n)) k = refl
code-number (Rejected (NotInSync n)) k = refl
code-number (Rejected ShrinksPrimary) k = refl
code-number (Rejected (AlreadyInSync n)) k = refl
