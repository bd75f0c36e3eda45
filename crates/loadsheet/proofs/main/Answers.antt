use native.Mathlib.Omega.{arith}
use lib.ListN.{length-replicate}
use Rattle.image_map_loads.proofs.Rows.{used_of}
use Rattle.loadsheet.proofs.main.Goals as goal

pub last_map-requires : goal.last_map-requires
last_map-requires c = (simp length-replicate (omega arith), simp length-replicate (omega arith))

pub sheet_of-s-requires : goal.sheet_of-s-requires
sheet_of-s-requires c = let i = c.last_map.ensures in used_of _ i.lent i.formed

pub print_sheet-requires : goal.print_sheet-requires
print_sheet-requires c = c.sheet_of-s.ensures.count
