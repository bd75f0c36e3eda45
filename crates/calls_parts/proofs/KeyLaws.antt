-- The whole of a name is taken into a key. Assumes nothing.
use Prim.Native.Nat.{ℕ}
use mathlib.Core.Path.{◌≡◌, ap}
use mathlib.Core.List.{List}
use lib.ListN.{length, take}
use lib.Seq.{take-length}
use Rattle.wire_put.specs.Fields.{key_given}

pub all_named : (name : List ℕ) (shard : ℕ) → key_given (take (length name) name) shard ≡ key_given name shard
all_named name shard = ap (λ (n : List ℕ). key_given n shard) (take-length name)
