-- Paper 02, 2.2, 'if every shard of the collection gave its full answer for k and holds only its own ids': a collection as the vectors of its shards
-- from shard 0 on, and what they answer in full. A collection has at most 16 shards, since a placement has at most 16 lists. Definitions only.
use Rattle.std.specs.Prelude.{ℕ, suc, ◌≡◌, true, List, [], ◌∷◌, map, eqb, Float}
use Rattle.spec.specs.declared.Metric.{Metric}
use Rattle.spec.specs.Lists.{every, rising}
use Rattle.spec.specs.Layout.ShardOf.{shard_of}
use Rattle.spec.specs.Log.{Vectors, vector_below}
use Rattle.spec.specs.Nearest.Search as nearest
use Rattle.spec_join.specs.Join.{Answer, hit}

-- the answer of the shard s to a query: the first k of its own vectors
abbrev pub full_answer : Metric → List Float → (k s : ℕ) → Vectors → Answer
full_answer m q k s vs = record { shard = s; hits = map hit (nearest.hits m q vs k) }

-- those of the shards from s on
unfoldable pub full_answers : Metric → List Float → (k s : ℕ) → List Vectors → List Answer
full_answers m q k s [] = []
full_answers m q k s (vs ∷ vss) = full_answer m q k s vs ∷ full_answers m q k (suc s) vss

-- the shards from s on hold their vectors by rising id, as a log played leaves them, and only their own ids
abbrev pub HoldOwn : (shards s : ℕ) → List Vectors → Type 0
HoldOwn shards s [] = Unit
HoldOwn shards s (vs ∷ vss) =
    (rising vector_below vs ≡ true)
    × (every (λ (v : nearest.Vector). eqb (shard_of v.id shards) s) vs ≡ true)
    × HoldOwn shards (suc s) vss
