-- How many shards a new collection adds: those of its keys that no shard has. Definitions only.
use Rattle.std.specs.Prelude.{ℕ, zero, suc, cond, List}
use Rattle.spec.specs.Keys.{Name}
use Rattle.spec.specs.Lists.{any}
use Rattle.spec.specs.Map.Apply.{is_shard}
use Rattle.spec.specs.Map.Tables.{ShardInfo}

-- of n keys of a collection, numbered from a number on
unfoldable pub absent : List ShardInfo → Name → (number n : ℕ) → ℕ
absent ss name number zero = 0
absent ss name number (suc n) =
    let r = absent ss name (suc number) n in cond (any (is_shard (record { collection = name; shard = number })) ss) r (suc r)
