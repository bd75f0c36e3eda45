-- How many rows a map's image has in use. Definitions only.
use Rattle.std.specs.Prelude.{ℕ, ◌≤◌, ◌≡◌, List, length}
use Rattle.spec.specs.Layout.Format.{number_at}

-- an image with so many nodes, as many as there can be at most
abbrev pub NodesCount : List ℕ → ℕ → Type 0
NodesCount s count = (26536 ≤ length s) × (count ≤ 32) × (number_at 8 s 8 ≡ count)

-- and so many collections
abbrev pub CollectionsCount : List ℕ → ℕ → Type 0
CollectionsCount s count = (26536 ≤ length s) × (count ≤ 16) × (number_at 8 s 16 ≡ count)

-- an image with so many sessions, as many as there can be at most
abbrev pub SessionsCount : List ℕ → ℕ → Type 0
SessionsCount s count = (26536 ≤ length s) × (count ≤ 64) × (number_at 8 s 32 ≡ count)

-- an image with so many shards, as many as there can be at most
abbrev pub ShardsCount : List ℕ → ℕ → Type 0
ShardsCount s count = (26536 ≤ length s) × (count ≤ 64) × (number_at 8 s 24 ≡ count)
