-- The epoch table of 21 as a writer is handed it: a column of epochs and a column of ends, of one length.
use Rattle.std.specs.Prelude.{ℕ, List, [], ◌∷◌, map}
use Rattle.spec.specs.Log.{End}
use Rattle.spec.specs.Layout.Format.{◌▸◌, concat_map, encode}
use Rattle.spec.specs.Layout.Parts.{u64, end_value}
use Rattle.spec.specs.Layout.Message.{NewEpoch}
use Rattle.spec.specs.declared.Epoch.{Epoch}
use Rattle.spec.specs.declared.Offset.{Offset}
use Rattle.spec.specs.declared.Metric.{Metric}
use Rattle.wire_put.specs.Fields.{key_given}

abbrev pub ends_given : List ℕ → List ℕ → List End
ends_given [] os = []
ends_given (e ∷ es) [] = []
ends_given (e ∷ es) (o ∷ os) = record { epoch = e; end = o } ∷ ends_given es os

-- the bytes of the pairs
abbrev pub table_bytes : List ℕ → List ℕ → List ℕ
table_bytes es os = concat_map (encode (u64 ▸ u64)) (map end_value (ends_given es os))

abbrev pub new_epoch_given : List ℕ → ℕ → Epoch → Offset → List ℕ → List ℕ → Metric → NewEpoch
new_epoch_given name shard epoch end es os metric =
    record { key = key_given name shard; epoch = epoch.0; end = end.0; table = ends_given es os; metric = metric }
