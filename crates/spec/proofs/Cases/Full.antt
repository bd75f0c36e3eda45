-- Paper 01, 'Who is turned down', 23: each limit is met, and refuses one past it, computed by the checker. Assumes nothing.
use mathlib.Core.Path.{◌≡◌, refl}
use mathlib.Core.Bool.{true}
use mathlib.Core.List.{List, [], ◌∷◌, map}
use lib.ListN.{length}
use Rattle.spec.specs.Refusals.{no_room}
use Rattle.spec.specs.Log.{delete}
use Rattle.spec.specs.Map.Tables.{Answer}
use Rattle.spec.specs.Map.Apply.{apply}
use Rattle.spec.specs.Layout.Message.{reply_stored, reply_adopted}
use Rattle.spec.specs.Node.Client.{write_held, accepted, write_refused}
use Rattle.spec.specs.Node.Backup.{replied, backup_refused, replicate_held, copy_held, on_new_epoch}
use Rattle.spec.specs.declared.Metric.TheVariants.{Euclidean}
use Rattle.spec.specs.Cases.Full.{Row, clients, nodes, collections, shards, replicas, logged, leading, delete_at, keeper}
use Rattle.spec.proofs.Opened.{opened}

abbrev answered : List Row → List Answer
answered rows = map (λ r. (apply r.given r.asked).answer) rows

abbrev expected : List Row → List Answer
expected rows = map (λ r. r.answer) rows

pub clients_hold : answered clients ≡ expected clients
unfolding opened
clients_hold = refl

pub nodes_hold : answered nodes ≡ expected nodes
unfolding opened
nodes_hold = refl

pub collections_hold : answered collections ≡ expected collections
unfolding opened
collections_hold = refl

pub shards_hold : answered shards ≡ expected shards
unfolding opened
shards_hold = refl

pub replicas_hold : answered replicas ≡ expected replicas
unfolding opened
replicas_hold = refl

-- ---- entry 1,024 is taken, 1,025 refused; of a copy that passes the limit nothing is stored

pub write_1024 : (write_held true 1 1 (delete 0) (leading 1023)).answer ≡ accepted 1024
unfolding opened
write_1024 = refl

pub write_1025 : (write_held true 1 1 (delete 0) (leading 1024)).answer ≡ write_refused no_room
unfolding opened
write_1025 = refl

pub replicate_1024 : (replicate_held 1 1024 (delete 0) (logged 1023)).answer ≡ replied (reply_stored 1024)
unfolding opened
replicate_1024 = refl

pub replicate_1025 : (replicate_held 1 1025 (delete 0) (logged 1024)).answer ≡ backup_refused no_room
unfolding opened
replicate_1025 = refl

pub copy_1024 : (copy_held 1 (delete_at 1023 ∷ delete_at 1024 ∷ []) (logged 1022)).answer ≡ replied (reply_stored 1024)
unfolding opened
copy_1024 = refl

pub copy_1025 : (copy_held 1 (delete_at 1024 ∷ delete_at 1025 ∷ []) (logged 1023)).answer ≡ backup_refused no_room
unfolding opened
copy_1025 = refl

pub copy_1025_kept : length (copy_held 1 (delete_at 1024 ∷ delete_at 1025 ∷ []) (logged 1023)).after.replica.log ≡ 1023
unfolding opened
copy_1025_kept = refl

-- ---- NewEpoch begins an eighth shard, and no ninth

pub eighth_shard : (on_new_epoch (keeper 7) (record { collection = []; shard = 7 }) 1 0 [] Euclidean).answer ≡ replied (reply_adopted 0)
unfolding opened
eighth_shard = refl

pub ninth_shard : (on_new_epoch (keeper 8) (record { collection = []; shard = 8 }) 1 0 [] Euclidean).answer ≡ backup_refused no_room
unfolding opened
ninth_shard = refl
