-- Paper 01, 'The log' and 'Who is turned down': every row of the table holds, computed by the checker. Assumes nothing.
use mathlib.Core.Path.{◌≡◌, refl}
use mathlib.Core.Bool.{false}
use mathlib.Core.List.{[], ◌∷◌, map}
use mathlib.Core.Option.{some}
use lib.ListN.{length}
use Rattle.spec.specs.Refusals.{no_room, undecodable}
use Rattle.spec.specs.Log.{delete, empty_replica, promote}
use Rattle.spec.specs.Layout.Message.{reply_stale, reply_adopted}
use Rattle.spec.specs.Node.Held.{empty_node}
use Rattle.spec.specs.Node.Shards.{gives}
use Rattle.spec.specs.Node.Lease.{granted, grant_refused}
use Rattle.spec.specs.Node.Client.{search_refused}
use Rattle.spec.specs.Node.Backup.{replied, replicate_held, copy_held, new_epoch_held, on_replicate, on_copy}
use Rattle.spec.specs.Node.Worker.{send, request_held}
use Rattle.spec.specs.Node.Shown.{shown_refused, on_map}
use Rattle.spec.specs.Node.Calls.{call_search, call_grant}
use Rattle.spec.specs.Starred.{backup_at}
use Rattle.spec.specs.declared.Metric.TheVariants.{Angular}
use Rattle.spec.specs.Cases.Commands.{id, part}
use Rattle.spec.specs.Cases.Serving.{primary}
use Rattle.spec.specs.Cases.Storing.{storing, copying, second, sending, ahead, newer, asking, listing, newcomer, working}
use Rattle.spec.proofs.Opened.{opened}

pub storing-holds :
    map (λ r. (replicate_held r.epoch r.offset (delete 0) (backup_at 2 (1 ∷ 1 ∷ 2 ∷ []))).answer) storing
    ≡ map (λ r. replied r.reply) storing
unfolding opened
storing-holds = refl

pub copying-holds :
    map (λ r. (copy_held r.epoch (map second r.offsets) (backup_at 2 (1 ∷ 1 ∷ 2 ∷ []))).answer) copying ≡ map (λ r. replied r.reply) copying
unfolding opened
copying-holds = refl

-- shard.rs, promote: an epoch never falls
pub promote-holds : map (λ e. (promote (empty_replica 5 Angular) e).epoch) (3 ∷ 5 ∷ 7 ∷ []) ≡ 5 ∷ 5 ∷ 7 ∷ []
unfolding opened
promote-holds = refl

-- a shard that is not held
pub unheld-store : (on_replicate (empty_node 1 1) (part 0) 2 1 (delete 0)).answer ≡ replied (reply_stale 0)
unfolding opened
unheld-store = refl

pub unheld_copy : (on_copy (empty_node 1 1) (part 0) 2 (second 1 ∷ [])).answer ≡ replied (reply_stale 0)
unfolding opened
unheld_copy = refl

-- a primary of that epoch stays what it is; one of an older epoch gives way
pub own-epoch : new_epoch_held 3 3 [] primary ≡ gives (replied (reply_stale 3)) primary
unfolding opened
own-epoch = refl

pub gives_way : (new_epoch_held 4 0 [] primary).answer ≡ replied (reply_adopted 0)
unfolding opened
gives_way = refl

pub sending-holds : map (λ r. request_held 3 Angular primary r.step) sending ≡ map (λ r. r.message) sending
unfolding opened
sending-holds = refl

pub newer_goes_whole : request_held 3 Angular ahead (send 1 1 4) ≡ some newer
unfolding opened
newer_goes_whole = refl

pub asking_holds : map (λ r. (call_search r.node r.now 9 r.bytes).answer) asking ≡ map (λ r. search_refused r.refusal) asking
unfolding opened
asking_holds = refl

-- a grant's times too
pub granting-holds :
    (call_grant (empty_node 1 1) 1 4611686018427387904 4611686018427387904).answer
    ∷ (call_grant (empty_node 1 1) 1 4611686018427387905 0).answer
    ∷ (call_grant (empty_node 1 1) 1 0 4611686018427387905).answer
    ∷ []
    ≡ granted ∷ grant_refused undecodable ∷ grant_refused undecodable ∷ []
unfolding opened
granting-holds = refl

-- ---- 8 shards and no ninth; 32 workers and no 33rd

pub eight-shown : length (on_map (empty_node 1 1) 9 (listing 8)).after.held ≡ 8
unfolding opened
eight-shown = refl

pub nine_shown : on_map (empty_node 1 1) 9 (listing 9) ≡ gives (shown_refused no_room) (empty_node 1 1)
unfolding opened
nine_shown = refl

pub worker_33 : on_map (working 32) 9 (newcomer (id 1 ∷ [])) ≡ gives (shown_refused no_room) (working 32)
unfolding opened
worker_33 = refl

pub worker_32 : map (λ h. length h.peers) (on_map (working 31) 9 (newcomer (id 1 ∷ []))).after.held ≡ 32 ∷ []
unfolding opened
worker_32 = refl

-- who leads without being in sync is not in its own ack set
pub leads_out_of_sync : map (λ h. h.own) (on_map (empty_node 1 1) 9 (newcomer (id 200 ∷ []))).after.held ≡ false ∷ []
unfolding opened
leads_out_of_sync = refl
