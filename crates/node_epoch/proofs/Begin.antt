-- Laws of a shard that NewEpoch begins: it aligns nothing, and is put in under the message's epoch and metric. Assumes nothing.
use Prim.Native.Nat.{ℕ, ◌<◌, ◌≤◌}
use native.Mathlib.Omega.{arith}
use mathlib.Core.Path.{◌≡◌, refl, sym, ap, ◌∙◌}
use mathlib.Core.Bool.{false}
use mathlib.Core.List.{List, [], map}
use mathlib.Core.Option.{none}
use lib.Dec.{eqb, ltb}
use lib.ListN.{length}
use borrow.Author.Tests.{eqb-true, le-leb, lt-leb, le-ltb}
use Rattle.spec.specs.Lists.{put}
use Rattle.spec.specs.Limits.{max_held}
use Rattle.spec.specs.Keys.{Key}
use Rattle.spec.specs.Log.{End, ShardReplica, empty_replica, last_offset, keep, cut_to, adopted}
use Rattle.spec.specs.Layout.Message.{reply_adopted}
use Rattle.spec.specs.Node.Held as held
use Rattle.spec.specs.Node.Shards.{Result, gives, with_held, with_replica, held_below, demoted, begun}
use Rattle.spec.specs.Node.Backup.{BackupAnswer, replied, new_epoch_held}
use Rattle.spec.specs.declared.Metric.{Metric}
use Rattle.spec_laws.proofs.Lists.{by-test, not_both}
use Rattle.node_shard.specs.declared.Held.{Held}
use Rattle.node_shard.specs.View.{view_held}
use Rattle.node_admit.specs.Headers.{Begins, Realigns}
use Rattle.map_tables.specs.declared.ShardKey.{ShardKey}
use Rattle.map_tables.specs.Names.{view_key}
use Rattle.map_tables.proofs.Tables.{used-size}
use Rattle.node_header.specs.declared.Node.{Node}
use Rattle.node_header.specs.View.{view_held_row, view_node, used}
use Rattle.node_header.specs.Answers.{answered_as}
use Rattle.node_header.specs.Grow.{Inserts}
use Rattle.node_replicate.specs.declared.PeerReply.TheVariants as P
use Rattle.node_replicate.specs.Peers.{word}
use Rattle.node_epoch.specs.NewEpochs.{BeginsAt}

-- a log of no entries is aligned whatever the table says, at epoch 0 or above it
adopts_none : (metric : Metric) (epoch end : ℕ) (table : List End)
    → adopted (empty_replica 0 metric) epoch end table ≡ record { epoch = epoch; metric = metric; log = []; vectors = [] }
unfolding adopted cut_to keep
adopts_none metric epoch end table =
    by-test (λ (x : ShardReplica). x ≡ record { epoch = epoch; metric = metric; log = []; vectors = [] }) (eqb epoch 0)
    (λ e. ap (λ (i : ℕ). record { epoch = i; metric = metric; log = []; vectors = [] }) (sym (eqb-true epoch 0 e))) (λ e. refl)

-- .. and no epoch is below 0
aligns-none : (k : Key) (metric : Metric) (epoch end : ℕ) (table : List End) (fresh h : Held) → Begins metric fresh → Realigns fresh epoch 0 h
    → new_epoch_held epoch end table (begun k metric) ≡ gives (replied (reply_adopted 0)) (view_held k [] [] h)
unfolding new_epoch_held
aligns-none k metric epoch end table fresh h b r =
    let low : ltb epoch 0 ≡ false = le-ltb epoch 0 (omega arith) in
    rw low
    (ap (λ (x : ShardReplica). gives {S = held.Held} (replied (reply_adopted (last_offset x))) (demoted (with_replica (begun k metric) x))) (adopts_none metric epoch end table)
    ∙ ap (λ (x : held.Held). gives {S = held.Held} (replied (reply_adopted 0)) x)
    (sym (r.same k [] [] [] []
    ∙ ap (λ (x : held.Held). demoted (with_replica x (record { epoch = epoch; metric = x.replica.metric; log = []; vectors = [] }))) (b.same k))))

module _ (n : Node) (key : ShardKey) (epoch : ℕ) (metric : Metric) where
  -- 23
  pub ninth : 8 ≤ n.count → BeginsAt n (view_key key) epoch metric (record { answer = P.Refused 23; node = n })
  ninth over = record {
    same = λ le s none end table.
        let size = used-size (view_held_row s) n.held n.count le in
        rw (le-leb max_held (length (map (view_held_row s) (used n))) (omega arith));
    slots_are = refl;
    slots = λ y. y;
    kept = λ y. refl;
  }

  pub begins : n.count < 8 → (fresh h : Held) → Begins metric fresh → Realigns fresh epoch 0 h → (r : Node) → Inserts n key h r
      → BeginsAt n (view_key key) epoch metric (record { answer = P.Adopted (record { 0 = 0 }); node = r })
  begins room fresh h b a r i = record {
    same = λ le s none end table.
        let size = used-size (view_held_row s) n.held n.count le in
        let k = view_key key in
        rw (lt-leb max_held (length (map (view_held_row s) (used n))) (omega arith))
        (ap (λ (v : held.Node). record { answer = P.Adopted (record { 0 = 0 }); node = v }) (i.same s a.last none)
        ∙ ap (λ (x : Result BackupAnswer held.Held).
        answered_as word (gives x.answer (with_held (view_node s n) (put held_below x.after (map (view_held_row s) (used n))))))
        (sym (aligns-none k metric epoch end table fresh h b a)));
    slots_are = i.slots_are;
    slots = i.slots;
    kept = λ y. not_both false y refl;
  }
