-- What of a header is within its arrays, so that no call leaves one that the next refuses for its counts or its slots. Definitions only.
use Rattle.std.specs.Prelude.{ℕ, ◌≤◌, Bool, true, cond, ◌≡◌, leb, ltb}
use Rattle.spec.specs.Lists.{◌and◌, every}
use Rattle.spec.specs.Limits.{max_held, max_replicas, max_workers}
use Rattle.spec.specs.Keys.{Key}
use Rattle.spec.specs.Log.{Log, Vectors}
use Rattle.node_shard.specs.declared.Held.{Held}
use Rattle.node_shard.specs.View.{view_held}
use Rattle.node_header.specs.declared.Node.{Node}
use Rattle.node_header.specs.View.{used}
use Rattle.node_header.specs.Formed.{counts_fit, slots_fit}

abbrev pub at_most : ℕ → ℕ → ℕ
at_most n limit = cond (ltb n limit) n limit

-- a shard that is read as h, its counts within their arrays
pub record Trims (h r : Held) : Type 0 where
  pub count : r.count ≤ max_workers
  pub holders : r.holders ≤ max_replicas
  pub seen : (k : Key) (l : Log) (v : Vectors) → view_held k l v r ≡ view_held k l v h

-- the clauses of the header's test that speak of its arrays; the others speak of what it is read as
unfoldable pub arrays_fit : Node → Bool
arrays_fit n = leb n.count max_held and every counts_fit (used n) and slots_fit (used n)

abbrev pub Fitting : Node → Node → Type 0
Fitting n r = arrays_fit n ≡ true → arrays_fit r ≡ true
