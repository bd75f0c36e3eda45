-- What the worker's step promises: the definition's step of the shard, whatever its key, log and vectors are; the first entry's epoch, which
-- stands in the log, apart. Definitions only.
use Rattle.std.specs.Prelude.{ℕ, ◌+◌, ◌-◌, min, Bool, cond, ◌≡◌, leb, length}
use Rattle.spec.specs.Limits.{max_batch}
use Rattle.spec.specs.Keys.{Key}
use Rattle.spec.specs.Log.{Log, Vectors}
use Rattle.spec.specs.Node.Worker as worker
use Rattle.node_shard.specs.declared.Held.{Held}
use Rattle.node_shard.specs.View.{view_held}
use Rattle.node_admit.specs.declared.Step.{Step}
use Rattle.node_admit.specs.declared.Step.TheVariants as S

abbrev pub step_word : worker.Step → Step
step_word worker.stop = S.Stop
step_word worker.wait = S.Wait
step_word worker.align = S.Align
step_word (worker.send first count epoch) = S.Send first count

-- an aligned peer's step, by its ack and the log's length
abbrev pub step_from : (acked last : ℕ) → Step
step_from acked last = cond (leb last acked) S.Wait (S.Send (acked + 1) (min max_batch (last - acked)))

abbrev pub Steps : Held → (epoch peer : ℕ) → Step → Type 0
Steps h epoch peer r =
    (k : Key) (l : Log) (v : Vectors) → length l ≡ h.last → r ≡ step_word (worker.step_held epoch peer (view_held k l v h))
