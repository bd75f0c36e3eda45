-- How far a log goes after a batch. Definitions only.
use Rattle.std.specs.Prelude.{ℕ, ◌≡◌, List, map}
use Rattle.spec.specs.Log.{ShardReplica, last_offset, store_all}
use Rattle.spec.specs.Layout.Parts.{WireEntry}
use Rattle.spec.specs.Node.Wire.{stored_entry}

-- how many entries a log of n has after a batch, stored at the own epoch
abbrev pub GrowsTo : List WireEntry → (n : ℕ) → ℕ → Type 0
GrowsTo es n r = (q : ShardReplica) → last_offset q ≡ n → r ≡ last_offset (store_all q q.epoch (map stored_entry es))
