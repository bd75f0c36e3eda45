-- Paper 01, 'The node': every row of the table holds, computed by the checker. Assumes nothing.
use mathlib.Core.Path.{◌≡◌, refl}
use mathlib.Core.Bool.{true, false}
use mathlib.Core.List.{[], ◌∷◌, map}
use mathlib.Core.Option.{none, some}
use Rattle.spec.specs.Refusals.{not_primary, no_lease, too_few_in_sync, unknown_shard}
use Rattle.spec.specs.Log.{delete, last_offset}
use Rattle.spec.specs.Layout.Message.{reply_stored, reply_gap, reply_stale, reply_adopted}
use Rattle.spec.specs.Node.Held.{Node, empty_node}
use Rattle.spec.specs.Node.Shards.{gives}
use Rattle.spec.specs.Node.Lease.{grant, leased}
use Rattle.spec.specs.Node.Client.{accepted, write_held, write_refused, on_write, found, search_held, search_refused, on_search, wait_held, wait_refused}
use Rattle.spec.specs.Node.Ack.{noted, bad_reply, ack_held, sent_replicate, outcome_held, leaves}
use Rattle.spec.specs.Node.Worker.{step_held, send}
use Rattle.spec.specs.Node.Shown.{shown, on_map, retained}
use Rattle.spec.specs.Node.Refused.{counted, count_write, count_search}
use Rattle.spec.specs.Starred.{backup_at, floats}
use Rattle.spec.specs.declared.Role.TheVariants.{Backup, Primary}
use Rattle.spec.specs.Cases.Commands.{base, on, part}
use Rattle.spec.specs.Cases.Serving.{primary, leading, third, rows, late, writing, finder, searching, awaiting, acking, settling, stepping, longer, shown_two, shown_four, worker, ahead, level, logged}
use Rattle.spec.proofs.Opened.{opened}

pub writing-holds : map (λ r. (write_held r.lease r.least r.epoch (delete 7) primary).answer) writing ≡ map (λ r. r.answer) writing
unfolding opened
writing-holds = refl

-- a backup at that epoch, a shard that is not held, a node that has left its own ack set
pub backup_writes : (write_held true 0 3 (delete 7) (backup_at 3 [])).answer ≡ write_refused (not_primary 3)
unfolding opened
backup_writes = refl

pub unheld-writes : (on_write (empty_node 1 1) 0 0 (part 0) 3 (delete 7)).answer ≡ write_refused unknown_shard
unfolding opened
unheld-writes = refl

pub alone_writes : (write_held true 2 3 (delete 7) (leading third false rows)).answer ≡ write_refused too_few_in_sync
unfolding opened
alone_writes = refl

-- Search: 18, 19, then 23 where the room is short of the answer
pub searching-holds : map (λ r. (search_held r.lease r.room r.epoch r.k (floats (0 ∷ [])) finder).answer) searching ≡ map (λ r. r.answer) searching
unfolding opened
searching-holds = refl

pub unheld-searches : (on_search (empty_node 1 1) 0 9 (part 0) 3 1 (floats (0 ∷ []))).answer ≡ search_refused unknown_shard
unfolding opened
unheld-searches = refl

-- every refused Write and Search counts, and no other
pub write-counts :
    count_write 5 (write_refused too_few_in_sync) ∷ count_write 5 (accepted 4) ∷ count_search 5 (search_refused no_lease) ∷ count_search 5 (found []) ∷ []
    ≡ 6 ∷ 5 ∷ 6 ∷ 5 ∷ []
unfolding opened
write-counts = refl

pub awaiting-holds :
    map (λ r. wait_held r.now r.timeout 3 r.offset (leading third true r.given)) awaiting
    ≡ map (λ r. gives r.answer (leading third true r.left)) awaiting
unfolding opened
awaiting-holds = refl

pub wait_elsewhere : wait_held 100 10 2 3 primary ≡ gives (wait_refused (not_primary 3)) primary
unfolding opened
wait_elsewhere = refl

pub acking-holds :
    map (λ r. ack_held 3 r.peer r.sent r.reply (leading third true r.given)) acking ≡ map (λ r. gives r.answer r.left) acking
unfolding opened
acking-holds = refl

-- a reply to another epoch's worker
pub late-reply : ack_held 2 4 sent_replicate (reply_stale 9) primary ≡ gives noted primary
unfolding opened
late-reply = refl

-- 21: Gap 0, and values above 2^62 but for StaleEpoch's
pub bad-replies :
    map bad_reply
    (reply_gap 0
    ∷ reply_gap 4611686018427387905
    ∷ reply_stored 4611686018427387905
    ∷ reply_adopted 4611686018427387905
    ∷ reply_gap 1
    ∷ reply_gap 4611686018427387904
    ∷ reply_stored 4611686018427387904
    ∷ reply_adopted 4611686018427387904
    ∷ reply_stale 18446744073709551615
    ∷ [])
    ≡ true ∷ true ∷ true ∷ true ∷ false ∷ false ∷ false ∷ false ∷ false ∷ []
unfolding opened
bad-replies = refl

pub settling-holds :
    map (λ r. outcome_held 1 3 2 (leaves r.what r.applied) (leading third true (late 90 true ∷ []))) settling
    ≡ map (λ r. leading third true r.left) settling
unfolding opened
settling-holds = refl

-- the node itself leaves its own ack set where a Shrink of it was applied; at another epoch nothing happens
pub own-leaves : outcome_held 1 3 1 true primary ≡ leading third false rows
unfolding opened
own-leaves = refl

pub late-outcome : outcome_held 1 2 2 true primary ≡ primary
unfolding opened
late-outcome = refl

pub stepping-holds : map (λ r. step_held r.epoch r.peer primary) stepping ≡ map (λ r. r.step) stepping
unfolding opened
stepping-holds = refl

pub at_most_256 : step_held 1 4 longer ≡ send 11 256 1
unfolding opened
at_most_256 = refl

-- a grant raises the expiry and never lowers it; only at the current incarnation; the lease holds before it
pub grants :
    map (λ (n : Node). n.expiry) (grant (empty_node 1 7) 7 100 50 ∷ grant (grant (empty_node 1 7) 7 100 50) 7 10 20 ∷ grant (empty_node 1 7) 8 100 50 ∷ [])
    ≡ some 150 ∷ some 150 ∷ none ∷ []
unfolding opened
grants = refl

pub lease_until : map (leased (grant (empty_node 1 7) 7 100 50)) (0 ∷ 149 ∷ 150 ∷ []) ≡ true ∷ true ∷ false ∷ []
unfolding opened
lease_until = refl

-- the count stops at its largest value
pub counts : counted 5 true ∷ counted 5 false ∷ counted 4294967294 true ∷ counted 4294967295 true ∷ [] ≡ 6 ∷ 5 ∷ 4294967295 ∷ 4294967295 ∷ []
unfolding opened
counts = refl

-- ---- a map shown

pub shown_to_2 : on_map (empty_node 2 5) 9 base ≡ gives (shown (worker 0 1 ∷ [])) shown_two
unfolding opened
shown_to_2 = refl

pub shown_to_4 : on_map (empty_node 4 7) 9 base ≡ gives (shown (worker 1 2 ∷ [])) shown_four
unfolding opened
shown_to_4 = refl

-- shown again: no worker starts twice
pub shown-again : on_map shown_two 9 base ≡ gives (shown []) shown_two
unfolding opened
shown-again = refl

-- another incarnation holds nothing; a dead one starts over as the fresh one; an older map is ignored, one of the same version is not
pub shown_to_another : on_map (empty_node 2 4) 9 base ≡ gives (shown []) (record { id = 2; incarnation = 4; expiry = none; version = 17; held = [] })
unfolding opened
shown_to_another = refl

pub shown_to_the_dead : on_map (empty_node 3 6) 9 base ≡ gives (shown []) (empty_node 3 9)
unfolding opened
shown_to_the_dead = refl

-- nor is it started over that the map knows dead under an older incarnation
pub shown_to_the_new : (on_map (empty_node 3 7) 9 base).after ≡ record { id = 3; incarnation = 7; expiry = none; version = 17; held = [] }
unfolding opened
shown_to_the_new = refl

-- promoted with two entries: the epoch's end is 2, and the log stays
pub promoted-at-2 :
    map (λ h. h.role) (on_map (logged Backup) 9 base).after.held ≡ Primary (record { 0 = 1 }) (record { 0 = 2 }) ∷ Backup ∷ []
unfolding opened
promoted-at-2 = refl

pub promoted-whole : map (λ h. last_offset h.replica) (on_map (logged Backup) 9 base).after.held ≡ 2 ∷ 0 ∷ []
unfolding opened
promoted-whole = refl

pub older_ignored : on_map ahead 9 base ≡ gives (shown []) ahead
unfolding opened
older_ignored = refl

pub equal_taken : on_map level 9 base ≡ gives (shown (worker 0 1 ∷ [])) shown_two
unfolding opened
equal_taken = refl

-- a member of the ack set that the map no longer lists leaves it; one that it lists stays, and nobody joins
pub leaves_the_ack_set : map (λ p. (retained (on 4 1 ∷ []) p).member) rows ∷ map (λ p. (retained (on 2 1 ∷ on 4 1 ∷ []) p).member) rows ∷ []
    ≡ (false ∷ false ∷ false ∷ []) ∷ (true ∷ false ∷ false ∷ []) ∷ []
unfolding opened
leaves_the_ack_set = refl
