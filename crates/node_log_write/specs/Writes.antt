-- What a Write on one held shard with its lent store promises: the definition's answer, and the definition's shard with its log and
-- vectors, read from the store at exit, whatever the shard's key is. Definitions only.
use Rattle.std.specs.Prelude.{ℕ, Bool, true, false, ◌≡◌}
use Rattle.spec.specs.Keys.{Key}
use Rattle.spec.specs.Refusals.{not_primary, no_lease, too_few_in_sync, no_room}
use Rattle.spec.specs.Log.{Op, last_offset}
use Rattle.spec.specs.Node.Held as held
use Rattle.spec.specs.Node.Shards.{Result, gives}
use Rattle.spec.specs.Node.Client as client
use Rattle.node_shard.specs.declared.Held.{Held}
use Rattle.node_shard.specs.View.{view_held}
use Rattle.node_admit.specs.declared.Admit.{Admit}
use Rattle.node_admit.specs.declared.Admit.TheVariants as A
use Rattle.log_store.specs.Store.{Store, Sized, store_log, store_rows, well_formed_store}
use Rattle.log_store.specs.Table.{vectors_of}
use Rattle.node_log_write.specs.declared.Written.{Written}

-- a held shard with its store, under the key k
abbrev pub view_stored : Key → Held → Store → held.Held
view_stored k h s = view_held k (store_log s) (vectors_of (store_log s) (store_rows s)) h

-- the answer that an admission stands for, with the shard as it is then
abbrev pub written_as : Admit → held.Held → Result client.WriteAnswer held.Held
written_as A.Yes h = gives (client.accepted (last_offset h.replica)) h
written_as (A.NotPrimary e) h = gives (client.write_refused (not_primary e)) h
written_as A.NoLease h = gives (client.write_refused no_lease) h
written_as A.TooFew h = gives (client.write_refused too_few_in_sync) h
written_as A.NoRoom h = gives (client.write_refused no_room) h

-- 18, 19, 20, 23
abbrev pub turned_down : Admit → Bool
turned_down A.Yes = false
turned_down (A.NotPrimary e) = true
turned_down A.NoLease = true
turned_down A.TooFew = true
turned_down A.NoRoom = true

-- refused, the call leaves every place of the store and of the shard as it was, the free ones too
pub record Writes (h : Held) (s t : Store) (epoch : ℕ) (lease : Bool) (least : ℕ) (op : Op) (r : Written) : Type 0 where
  pub same : (k : Key) → written_as r.admit (view_stored k r.held t) ≡ client.write_held lease least epoch op (view_stored k h s)
  pub kept : turned_down r.admit ≡ true → (t ≡ s) × (r.held ≡ h)
  pub well : well_formed_store t ≡ true
  pub sized : Sized t
