use mathlib.Core.Path.{ap}
use mathlib.Core.List.{List}
use Prim.Native.Nat.{◌+◌, ◌*◌}
use lib.ListN.{length, set}
use lib.Ieee.{Float}
use Rattle.log_store.proofs.Bits.{lent_back}
use Rattle.log_store.specs.View.{columns, written}
use Rattle.spec.specs.Node.Wire.{floats_of}
use Rattle.log_store.proofs.log.write_entry.Goals as goal

pub returns : goal.returns
unfolding written
returns c =
    let a = c.args in
    ap (λ (f : List Float). columns (set a.epochs.now a.count a.epoch.0) (set a.offsets.now a.count (a.count + 1))
    (set a.ids.now a.count a.id) (set a.codes.now a.count a.code) (set a.lengths.now a.count (length a.bits.now)) f)
    (lent_back a.floats.now _ (floats_of a.bits.now) (a.count * 32) (length a.bits.now) c.write_vector.ensures)
