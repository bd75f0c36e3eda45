use mathlib.Core.Path.{◌∙◌}
use Rattle.image_parts.proofs.codes.rejection_coded.Goals as goal

pub returns-in-Older : goal.returns-in-Older
returns-in-Older c = c.of.ensures ∙ rw c.in-Older.is

pub returns-in-Exists : goal.returns-in-Exists
returns-in-Exists c = c.of-in-Exists.ensures ∙ rw c.in-Exists.is

pub returns-in-ZeroSpec : goal.returns-in-ZeroSpec
returns-in-ZeroSpec c = c.of-in-ZeroSpec.ensures ∙ rw c.in-ZeroSpec.is

pub returns-in-PlacementMismatch : goal.returns-in-PlacementMismatch
returns-in-PlacementMismatch c = c.of-in-PlacementMismatch.ensures ∙ rw c.in-PlacementMismatch.is

pub returns-in-NotAlive : goal.returns-in-NotAlive
returns-in-NotAlive c = c.of-in-NotAlive.ensures ∙ rw c.in-NotAlive.is

pub returns-in-NoCollection : goal.returns-in-NoCollection
returns-in-NoCollection c = c.of-in-NoCollection.ensures ∙ rw c.in-NoCollection.is

pub returns-in-KnownIncarnation : goal.returns-in-KnownIncarnation
returns-in-KnownIncarnation c = c.of-in-KnownIncarnation.ensures ∙ rw c.in-KnownIncarnation.is

pub returns-in-NotAtIncarnation : goal.returns-in-NotAtIncarnation
returns-in-NotAtIncarnation c = c.of-in-NotAtIncarnation.ensures ∙ rw c.in-NotAtIncarnation.is

pub returns-in-NoShard : goal.returns-in-NoShard
returns-in-NoShard c = c.of-in-NoShard.ensures ∙ rw c.in-NoShard.is

pub returns-in-OtherEpoch : goal.returns-in-OtherEpoch
returns-in-OtherEpoch c = c.of-in-OtherEpoch.ensures ∙ rw c.in-OtherEpoch.is

pub returns-in-AlreadyHeld : goal.returns-in-AlreadyHeld
returns-in-AlreadyHeld c = c.of-in-AlreadyHeld.ensures ∙ rw c.in-AlreadyHeld.is

pub returns-in-RemovesPrimary : goal.returns-in-RemovesPrimary
returns-in-RemovesPrimary c = c.of-in-RemovesPrimary.ensures ∙ rw c.in-RemovesPrimary.is

pub returns-in-NotHeld : goal.returns-in-NotHeld
returns-in-NotHeld c = c.of-in-NotHeld.ensures ∙ rw c.in-NotHeld.is

pub returns-in-NotInSync : goal.returns-in-NotInSync
returns-in-NotInSync c = c.of-in-NotInSync.ensures ∙ rw c.in-NotInSync.is

pub returns-in-ShrinksPrimary : goal.returns-in-ShrinksPrimary
returns-in-ShrinksPrimary c = c.of-in-ShrinksPrimary.ensures ∙ rw c.in-ShrinksPrimary.is

pub returns-in-AlreadyInSync : goal.returns-in-AlreadyInSync
returns-in-AlreadyInSync c = c.of-in-AlreadyInSync.ensures ∙ rw c.in-AlreadyInSync.is
