-- What the decisions before the log promise: the definition's call on the shard, whatever its key, log and vectors are, is what the
-- decision says. Definitions only.
use Rattle.std.specs.Prelude.{ℕ, Bool, cond, ◌≡◌, List, ltb, length, Float}
use Rattle.spec.specs.Keys.{Key}
use Rattle.spec.specs.Refusals.{not_primary, no_lease, too_few_in_sync, no_room}
use Rattle.spec.specs.Nearest.Search.{hits}
use Rattle.spec.specs.Log.{Log, Vectors, Op, End, append, adopted, last_offset}
use Rattle.spec.specs.Layout.Message.{reply_stale, reply_adopted}
use Rattle.spec.specs.Node.Held as held
use Rattle.spec.specs.Node.Shards.{Result, gives, with_replica, demoted}
use Rattle.spec.specs.Node.Client as client
use Rattle.spec.specs.Node.Backup as backup
use Rattle.node_shard.specs.declared.Held.{Held}
use Rattle.node_shard.specs.View.{view_held}
use Rattle.node_admit.specs.declared.Admit.{Admit}
use Rattle.node_admit.specs.declared.Admit.TheVariants as A
use Rattle.node_admit.specs.declared.Epochs.{Epochs}
use Rattle.node_admit.specs.declared.Epochs.TheVariants as E

-- Write: the operation is appended, or the call refused by 18, 19, 20, 23
abbrev pub write_as : Admit → Op → held.Held → Result client.WriteAnswer held.Held
write_as A.Yes op h =
    gives (client.accepted (last_offset (append h.replica op))) (with_replica h (append h.replica op))
write_as (A.NotPrimary e) op h = gives (client.write_refused (not_primary e)) h
write_as A.NoLease op h = gives (client.write_refused no_lease) h
write_as A.TooFew op h = gives (client.write_refused too_few_in_sync) h
write_as A.NoRoom op h = gives (client.write_refused no_room) h

abbrev pub AdmitsWrite : Held → (epoch : ℕ) → Bool → (least : ℕ) → Admit → Type 0
AdmitsWrite h epoch lease least r =
    (k : Key) (l : Log) (v : Vectors) (op : Op) → length l ≡ h.last
    → client.write_held lease least epoch op (view_held k l v h) ≡ write_as r op (view_held k l v h)

-- Search: the answer goes into the lent output if it has room (23), or the call is refused by 18, 19
abbrev pub search_as : Admit → (room k : ℕ) → List Float → held.Held → Result client.SearchAnswer held.Held
search_as A.Yes room k q h =
    let l = hits h.replica.metric q h.replica.vectors k in
    cond (ltb room (length l)) (gives (client.search_refused no_room) h) (gives (client.found l) h)
search_as (A.NotPrimary e) room k q h = gives (client.search_refused (not_primary e)) h
search_as A.NoLease room k q h = gives (client.search_refused no_lease) h
search_as A.TooFew room k q h = gives (client.search_refused too_few_in_sync) h
search_as A.NoRoom room k q h = gives (client.search_refused no_room) h

abbrev pub AdmitsSearch : Held → (epoch : ℕ) → Bool → Admit → Type 0
AdmitsSearch h epoch lease r =
    (key : Key) (l : Log) (v : Vectors) (room k : ℕ) (q : List Float)
    → client.search_held lease room epoch k q (view_held key l v h) ≡ search_as r room k q (view_held key l v h)

-- NewEpoch: the log is aligned and the role left, or StaleEpoch own
abbrev pub epoch_as : Epochs → (epoch end : ℕ) → List End → held.Held → Result backup.BackupAnswer held.Held
epoch_as E.Taken epoch end t h =
    let r = adopted h.replica epoch end t in
    gives (backup.replied (reply_adopted (last_offset r))) (demoted (with_replica h r))
epoch_as (E.Stale e) epoch end t h = gives (backup.replied (reply_stale e)) h

abbrev pub TakesEpoch : Held → (epoch : ℕ) → Epochs → Type 0
TakesEpoch h epoch r =
    (k : Key) (l : Log) (v : Vectors) (end : ℕ) (t : List End)
    → backup.new_epoch_held epoch end t (view_held k l v h) ≡ epoch_as r epoch end t (view_held k l v h)
