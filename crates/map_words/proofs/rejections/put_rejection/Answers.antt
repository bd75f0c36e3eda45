use mathlib.Core.Path.{sym, ap}
use Rattle.spec_words.specs.Words.{words}
use Rattle.map_tables.specs.Names.{view_key}
use Rattle.map_tables.specs.View.{rejection_of}
use Rattle.map_tables.specs.declared.Rejection.{Rejection}
use Rattle.map_words.proofs.PartLaws.{puts_as}
use Rattle.map_words.proofs.rejections.put_rejection.Goals as goal

pub returns-in-Older : goal.returns-in-Older
unfolding words
returns-in-Older c =
    puts_as (sym (ap (λ (q : Rejection). words (rejection_of q (view_key c.args.key))) c.in-Older.is)) c.put_words.ensures

pub returns-in-Exists : goal.returns-in-Exists
unfolding words
returns-in-Exists c =
    puts_as (sym (ap (λ (q : Rejection). words (rejection_of q (view_key c.args.key))) c.in-Exists.is)) c.put_exists.ensures

pub returns-in-ZeroSpec : goal.returns-in-ZeroSpec
unfolding words
returns-in-ZeroSpec c =
    puts_as (sym (ap (λ (q : Rejection). words (rejection_of q (view_key c.args.key))) c.in-ZeroSpec.is)) c.put_words-in-ZeroSpec.ensures

pub returns-in-PlacementMismatch : goal.returns-in-PlacementMismatch
unfolding words
returns-in-PlacementMismatch c =
    puts_as (sym (ap (λ (q : Rejection). words (rejection_of q (view_key c.args.key))) c.in-PlacementMismatch.is)) c.put_words-in-PlacementMismatch.ensures

pub returns-in-NotAlive : goal.returns-in-NotAlive
unfolding words
returns-in-NotAlive c =
    puts_as (sym (ap (λ (q : Rejection). words (rejection_of q (view_key c.args.key))) c.in-NotAlive.is)) c.put_node.ensures

pub returns-in-NoCollection : goal.returns-in-NoCollection
unfolding words
returns-in-NoCollection c =
    puts_as (sym (ap (λ (q : Rejection). words (rejection_of q (view_key c.args.key))) c.in-NoCollection.is)) c.put_no_collection.ensures

pub returns-in-KnownIncarnation : goal.returns-in-KnownIncarnation
unfolding words
returns-in-KnownIncarnation c =
    puts_as (sym (ap (λ (q : Rejection). words (rejection_of q (view_key c.args.key))) c.in-KnownIncarnation.is)) c.put_node_at.ensures

pub returns-in-NotAtIncarnation : goal.returns-in-NotAtIncarnation
unfolding words
returns-in-NotAtIncarnation c =
    puts_as (sym (ap (λ (q : Rejection). words (rejection_of q (view_key c.args.key))) c.in-NotAtIncarnation.is)) c.put_node_at-in-NotAtIncarnation.ensures

pub returns-in-NoShard : goal.returns-in-NoShard
unfolding words
returns-in-NoShard c =
    puts_as (sym (ap (λ (q : Rejection). words (rejection_of q (view_key c.args.key))) c.in-NoShard.is)) c.put_no_shard.ensures

pub returns-in-OtherEpoch : goal.returns-in-OtherEpoch
unfolding words
returns-in-OtherEpoch c =
    puts_as (sym (ap (λ (q : Rejection). words (rejection_of q (view_key c.args.key))) c.in-OtherEpoch.is)) c.put_epochs.ensures

pub returns-in-AlreadyHeld : goal.returns-in-AlreadyHeld
unfolding words
returns-in-AlreadyHeld c =
    puts_as (sym (ap (λ (q : Rejection). words (rejection_of q (view_key c.args.key))) c.in-AlreadyHeld.is)) c.put_node-in-AlreadyHeld.ensures

pub returns-in-RemovesPrimary : goal.returns-in-RemovesPrimary
unfolding words
returns-in-RemovesPrimary c =
    puts_as (sym (ap (λ (q : Rejection). words (rejection_of q (view_key c.args.key))) c.in-RemovesPrimary.is)) c.put_words-in-RemovesPrimary.ensures

pub returns-in-NotHeld : goal.returns-in-NotHeld
unfolding words
returns-in-NotHeld c =
    puts_as (sym (ap (λ (q : Rejection). words (rejection_of q (view_key c.args.key))) c.in-NotHeld.is)) c.put_node-in-NotHeld.ensures

pub returns-in-NotInSync : goal.returns-in-NotInSync
unfolding words
returns-in-NotInSync c =
    puts_as (sym (ap (λ (q : Rejection). words (rejection_of q (view_key c.args.key))) c.in-NotInSync.is)) c.put_node-in-NotInSync.ensures

pub returns-in-ShrinksPrimary : goal.returns-in-ShrinksPrimary
unfolding words
returns-in-ShrinksPrimary c =
    puts_as (sym (ap (λ (q : Rejection). words (rejection_of q (view_key c.args.key))) c.in-ShrinksPrimary.is)) c.put_words-in-ShrinksPrimary.ensures

pub returns-in-AlreadyInSync : goal.returns-in-AlreadyInSync
unfolding words
returns-in-AlreadyInSync c =
    puts_as (sym (ap (λ (q : Rejection). words (rejection_of q (view_key c.args.key))) c.in-AlreadyInSync.is)) c.put_node-in-AlreadyInSync.ensures
