-- A header in place: how many shards it has. Definitions only.
use Rattle.std.specs.Prelude.{ℕ, ◌≤◌, ◌≡◌, List, length}
use Rattle.spec.specs.Layout.Format.{number_at}

-- an image of a header of so many shards, as many as there can be at most
abbrev pub Counts : List ℕ → ℕ → Type 0
Counts s count = (10288 ≤ length s) × (count ≤ 8) × (number_at 8 s 24 ≡ count)
