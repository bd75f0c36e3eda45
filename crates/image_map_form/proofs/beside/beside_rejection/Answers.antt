use Rattle.image_map_form.proofs.beside.beside_rejection.Goals as goal

pub returns-in-Older : goal.returns-in-Older
returns-in-Older c = λ k. rw c.in-Older.is

pub returns-in-Exists : goal.returns-in-Exists
returns-in-Exists c = λ k. rw c.in-Exists.is

pub returns-in-ZeroSpec : goal.returns-in-ZeroSpec
returns-in-ZeroSpec c = λ k. rw c.in-ZeroSpec.is

pub returns-in-PlacementMismatch : goal.returns-in-PlacementMismatch
returns-in-PlacementMismatch c = λ k. rw c.in-PlacementMismatch.is

pub returns-in-NotAlive : goal.returns-in-NotAlive
returns-in-NotAlive c = λ k. rw c.in-NotAlive.is

pub returns-in-NoCollection : goal.returns-in-NoCollection
returns-in-NoCollection c = λ k. rw c.in-NoCollection.is

pub returns-in-KnownIncarnation : goal.returns-in-KnownIncarnation
returns-in-KnownIncarnation c = λ k. rw c.in-KnownIncarnation.is

pub returns-in-NotAtIncarnation : goal.returns-in-NotAtIncarnation
returns-in-NotAtIncarnation c = λ k. rw c.in-NotAtIncarnation.is

pub returns-in-NoShard : goal.returns-in-NoShard
returns-in-NoShard c = λ k. rw c.in-NoShard.is

pub returns-in-OtherEpoch : goal.returns-in-OtherEpoch
returns-in-OtherEpoch c = λ k. rw c.in-OtherEpoch.is

pub returns-in-AlreadyHeld : goal.returns-in-AlreadyHeld
returns-in-AlreadyHeld c = λ k. rw c.in-AlreadyHeld.is

pub returns-in-RemovesPrimary : goal.returns-in-RemovesPrimary
returns-in-RemovesPrimary c = λ k. rw c.in-RemovesPrimary.is

pub returns-in-NotHeld : goal.returns-in-NotHeld
returns-in-NotHeld c = λ k. rw c.in-NotHeld.is

pub returns-in-NotInSync : goal.returns-in-NotInSync
returns-in-NotInSync c = λ k. rw c.in-NotInSync.is

pub returns-in-ShrinksPrimary : goal.returns-in-ShrinksPrimary
returns-in-ShrinksPrimary c = λ k. rw c.in-ShrinksPrimary.is

pub returns-in-AlreadyInSync : goal.returns-in-AlreadyInSync
returns-in-AlreadyInSync c = λ k. rw c.in-AlreadyInSync.is
