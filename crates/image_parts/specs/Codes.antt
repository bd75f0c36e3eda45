-- The codes of an image: a flag, a primary, a remembered outcome (docs/IMAGES.md). Each is a number of 4 bytes; the operands of an
-- outcome stand beside it, 0 where it has none. The readers are total: a code that is not listed refuses the image before it is read.
-- Definitions only.
use Rattle.std.specs.Prelude.{ℕ, Bool, true, false, not, cond, List, [], ◌∷◌, get_or, eqb}
use Rattle.spec.specs.declared.DataNodeId.{DataNodeId}
use Rattle.spec.specs.declared.Epoch.{Epoch}
use Rattle.std.specs.Prelude.{Option}
use Rattle.std.specs.Prelude.{None, Some}
use Rattle.map_tables.specs.declared.Outcome.{Outcome}
use Rattle.map_tables.specs.declared.Outcome.TheVariants.{Applied, Rejected}
use Rattle.map_tables.specs.declared.Rejection.{Rejection}
use Rattle.map_tables.specs.declared.Rejection.TheVariants.{
  Older,
  Exists,
  ZeroSpec,
  PlacementMismatch,
  NotAlive,
  NoCollection,
  KnownIncarnation,
  NotAtIncarnation,
  NoShard,
  OtherEpoch,
  AlreadyHeld,
  RemovesPrimary,
  NotHeld,
  NotInSync,
  ShrinksPrimary,
  AlreadyInSync,
}
use Rattle.image_parts.specs.declared.Coded.{Coded}

abbrev pub id_of : ℕ → DataNodeId
id_of n = record { 0 = n }

abbrev pub epoch_of : ℕ → Epoch
epoch_of n = record { 0 = n }

-- 0 no, 1 yes
abbrev pub flag_of : ℕ → Bool
flag_of n = not (eqb n 0)

abbrev pub flag_code : Bool → ℕ
flag_code false = 0
flag_code true = 1

-- 0 nobody, 1 a node
abbrev pub primary_of : ℕ → ℕ → Option DataNodeId
primary_of n node = cond (eqb n 0) None (Some (id_of node))

abbrev pub primary_code : Option DataNodeId → ℕ
primary_code None = 0
primary_code (Some n) = 1

abbrev pub primary_node : Option DataNodeId → ℕ
primary_node None = 0
primary_node (Some n) = n.0

-- an outcome in three numbers: 0 applied, 1 to 16 the rejection's reason, with the numbers among its operands
abbrev pub coded : ℕ → ℕ → ℕ → Coded
coded c a b = record { code = c; first = a; second = b }

-- the rejections in the order of their codes, from 0 on, which none has
abbrev pub rejections : ℕ → ℕ → List Rejection
rejections a b =
    Older
    ∷ Older
    ∷ Exists
    ∷ ZeroSpec
    ∷ PlacementMismatch
    ∷ NotAlive (id_of a)
    ∷ NoCollection
    ∷ KnownIncarnation (id_of a) b
    ∷ NotAtIncarnation (id_of a) b
    ∷ NoShard
    ∷ OtherEpoch (epoch_of a) (epoch_of b)
    ∷ AlreadyHeld (id_of a)
    ∷ RemovesPrimary
    ∷ NotHeld (id_of a)
    ∷ NotInSync (id_of a)
    ∷ ShrinksPrimary
    ∷ AlreadyInSync (id_of a)
    ∷ []

unfoldable pub rejection_of : Coded → Rejection
rejection_of c = get_or (rejections c.first c.second) c.code Older

unfoldable pub outcome_of : Coded → Outcome
outcome_of c = cond (eqb c.code 0) Applied (Rejected (rejection_of c))

abbrev pub rejection_coded : Rejection → Coded
rejection_coded Older = coded 1 0 0
rejection_coded Exists = coded 2 0 0
rejection_coded ZeroSpec = coded 3 0 0
rejection_coded PlacementMismatch = coded 4 0 0
rejection_coded (NotAlive n) = coded 5 n.0 0
rejection_coded NoCollection = coded 6 0 0
rejection_coded (KnownIncarnation n i) = coded 7 n.0 i
rejection_coded (NotAtIncarnation n i) = coded 8 n.0 i
rejection_coded NoShard = coded 9 0 0
rejection_coded (OtherEpoch own given) = coded 10 own.0 given.0
rejection_coded (AlreadyHeld n) = coded 11 n.0 0
rejection_coded RemovesPrimary = coded 12 0 0
rejection_coded (NotHeld n) = coded 13 n.0 0
rejection_coded (NotInSync n) = coded 14 n.0 0
rejection_coded ShrinksPrimary = coded 15 0 0
rejection_coded (AlreadyInSync n) = coded 16 n.0 0

abbrev pub outcome_coded : Outcome → Coded
outcome_coded Applied = coded 0 0 0
outcome_coded (Rejected r) = rejection_coded r
