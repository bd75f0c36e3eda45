-- Paper 02, 2.4: what the code's sheet says, and what is answered of a lent map. Definitions only.
use Rattle.std.specs.Prelude.{ℕ, ◌≤◌, ◌≡◌, cond, List, map, take, Result, Ok, Err}
use Rattle.spec_sheet.specs.Sheet as sheet
use Rattle.spec_sheet.specs.Sheet.{sheet_of}
use Rattle.spec.specs.Lists.{◌and◌}
use Rattle.spec.specs.Refusals as said
use Rattle.map_tables.specs.View.{view_map, refusal_of}
use Rattle.map_tables.specs.declared.Refusal.{Refusal}
use Rattle.map_check.specs.Lent.{well_formed_lent}
use Rattle.image_map.specs.Image.{map_at, map_lent}
use Rattle.image_map_sheet.specs.declared.Load.{Load}
use Rattle.image_map_sheet.specs.declared.Loads.{Loads}
use Rattle.image_map_sheet.specs.declared.SheetOf.{SheetOf}

abbrev pub view_load : Load → sheet.Loaded
view_load l = record { node = l.node.0; count = l.count }

abbrev pub view_loads : Loads → List sheet.Loaded
view_loads t = map view_load (take t.count t.items)

abbrev pub view_sheet : SheetOf → sheet.Sheet
view_sheet s = record { lines = view_loads s.lines; unknown = s.unknown; total = s.total }

-- the sheet, its lines within their array
pub record SheetAs (s : sheet.Sheet) (r : SheetOf) : Type 0 where
  pub same : view_sheet r ≡ s
  pub count : r.lines.count ≤ 32

-- a sheet, or a refusal
pub data Answer : Type 0 where
  made : sheet.Sheet → Answer
  not_made : said.Refusal → Answer

abbrev pub answer_of : Result SheetOf Refusal → Answer
answer_of (Ok s) = made (view_sheet s)
answer_of (Err r) = not_made (refusal_of r)

-- 24 of a buffer that lends no map, and of a malformed map; then the sheet
unfoldable pub sheet_lent : List ℕ → Answer
sheet_lent s = cond (map_lent s and well_formed_lent (map_at s)) (made (sheet_of (view_map (map_at s)))) (not_made said.malformed)
