use native.Mathlib.Omega.{arith}
use Prim.Native.Nat.{◌+◌, ◌-◌}
use Rattle.calls_show_walk.proofs.RowLaws.{copied}
use Rattle.calls_show_walk.proofs.row.copy_row.Goals as goal

pub returns : goal.returns
returns c =
    copied c.args.header.now c.args.rows.now _ c.args.to c.args.from (c.args.from + 1280 - c.args.from) c.requires.0 c.requires.1 (omega arith) c.put_bytes.ensures
