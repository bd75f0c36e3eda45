use mathlib.Core.Path.{refl}
use native.Mathlib.Omega.{arith}
use Rattle.log_domain.proofs.Tables.{aligned-by}
use Rattle.log_domain.proofs.table.adopt_table.Goals as goal

pub read_table-requires : goal.read_table-requires
read_table-requires c = (c.requires.0, refl, refl)

pub adopt-requires : goal.adopt-requires
adopt-requires c =
    let p = c.requires in
    let t = p.0 in
    (p.1, p.2, omega (arith, t.0, c.read_table.ensures.0), omega (arith, t.0, c.read_table.ensures.1))

pub returns : goal.returns
returns c = aligned-by _ _ _ _ _ _ _ _ c.read_table.ensures.2 c.adopt.ensures
