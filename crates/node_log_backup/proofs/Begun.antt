-- A shard that NewEpoch begins (node.rs, or_insert_with): its header with a store of no entries is the definition's, and such a store is
-- well formed if it has its floats. Assumes nothing.
use Prim.Native.Nat.{ℕ, ◌≤◌}
use mathlib.Core.Path.{◌≡◌}
use mathlib.Core.Bool.{true}
use mathlib.Core.List.{List}
use lib.ListN.{length}
use borrow.Author.Tests.{le-leb}
use Rattle.spec.specs.Keys.{Key}
use Rattle.spec.specs.Lists.{◌and◌, every}
use Rattle.spec.specs.Limits.{min_floats}
use Rattle.spec.specs.Node.Shards as shards
use Rattle.spec.specs.Node.WellFormed.{numbered_from}
use Rattle.spec.specs.declared.Metric.{Metric}
use Rattle.node_shard.specs.declared.Held.{Held}
use Rattle.node_admit.specs.Headers.{Begins}
use Rattle.log_store.specs.View.{Columns, firsts, log_of}
use Rattle.log_store.specs.Table.{zipped, rows_of, vectors_of, play_rows, play_rows_from}
use Rattle.log_store.specs.Store.{lent, every_below, same_rows, well_formed_store}
use Rattle.node_log_write.specs.Writes.{view_stored}

module _ (cs : Columns) (ks ps : List ℕ) where
  pub begun-view : (k : Key) (metric : Metric) (h : Held) → Begins metric h → view_stored k h (lent cs ks ps 0 0) ≡ shards.begun k metric
  unfolding log_of firsts rows_of zipped vectors_of
  begun-view k metric h b = b.same k

  pub begun-well : min_floats ≤ length cs.floats → well_formed_store (lent cs ks ps 0 0) ≡ true
  unfolding well_formed_store log_of firsts rows_of zipped play_rows play_rows_from numbered_from every_below same_rows every ◌and◌
  begun-well h = le-leb min_floats (length cs.floats) h
