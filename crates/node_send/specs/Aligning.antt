-- What the writing of a NewEpoch promises: it is told by the columns of epochs and offsets. Definitions only.
use Rattle.std.specs.Prelude.{ℕ, List, Float, take}
use Rattle.std.proofs.Math.Option.{some}
use Rattle.spec.specs.Log.{epoch_ends}
use Rattle.spec.specs.Node.Worker.{new_epoch_message}
use Rattle.spec.specs.declared.Metric.{Metric}
use Rattle.log_store.specs.View.{columns, log_of}
use Rattle.node_send.specs.Requested.{key_named, Requested}
use Rattle.node_send.specs.declared.Request.{Request}

-- 21, with the epochs of the first `end` entries
abbrev pub Aligns : (name : List ℕ) → (shard epoch end : ℕ) → (epochs offsets : List ℕ) → (count : ℕ) → Metric → (before after : List ℕ) → Request → Type 0
Aligns name shard epoch end es os count metric before after r =
    (is cs ls : List ℕ) (fs : List Float) →
    Requested (some (new_epoch_message (record {
      key = key_named name shard;
      epoch = epoch;
      end = end;
      table = epoch_ends (take end (log_of (columns es os is cs ls fs) count));
      metric = metric;
    }))) before after r
