-- Paper 01, 'Program applymap': what the code is held to by `spec`'s definition of it, of the maps that the image's bytes are read as at entry
-- and at exit. Definitions only.
use Rattle.std.specs.Prelude.{ℕ, ◌≤◌, ◌≡◌, List, map, length, take}
use Rattle.spec.specs.Map.Tables as tables
use Rattle.spec.specs.Map.Tables.{empty_map}
use Rattle.spec.specs.Map.Calls as calls
use Rattle.spec.specs.Map.Calls.{apply_call, line_of, requests_in, end_in, lines_for, map_after}
use Rattle.map_tables.specs.View.{view_map, view_request}
use Rattle.map_tables.specs.declared.Request.{Request}
use Rattle.image_map.specs.Image.{map_at}
use Rattle.thm_map_never_malformed.specs.Calls.{Intact}
use Rattle.test_lines.specs.Words.{view_line}
use Rattle.test_lines.specs.declared.Line.{Line}
use Rattle.test_input.specs.declared.Said.{Said}
use Rattle.test_input.specs.declared.Drained.{Drained}

-- the map that an image's bytes are read as
abbrev pub map_in : List ℕ → tables.Map
map_in s = view_map (map_at s)

-- 'starts from an empty map'
pub record Starts (t : List ℕ) : Type 0 where
  pub intact : Intact t
  pub map : map_in t ≡ empty_map

-- one request: the line and the map are those of the definition, whatever the bytes of a Bench
pub record Stepped (s t : List ℕ) (r : Request) (l : Line) : Type 0 where
  pub line : (bs : List ℕ) → view_line l ≡ line_of r.index (apply_call (map_in s) (view_request r bs))
  pub map : (bs : List ℕ) → map_in t ≡ (apply_call (map_in s) (view_request r bs)).map
  pub intact : Intact t

abbrev pub view_said : Said → List calls.Line
view_said t = map view_line (take t.count t.items)

-- the bytes at hand: the lines of the requests that stand there, the map after them, and the place after the last
pub record DrainedAs (s t bytes : List ℕ) (d : Drained) : Type 0 where
  pub intact : Intact t
  pub count : d.said.count ≤ 328
  pub lines : view_said d.said ≡ lines_for (map_in s) (requests_in bytes)
  pub map : map_in t ≡ map_after (map_in s) (requests_in bytes)
  pub place : d.at ≡ end_in bytes
  pub inside : d.at ≤ length bytes
