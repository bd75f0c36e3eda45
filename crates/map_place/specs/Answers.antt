-- Paper 01, 'Place' and 'Who is turned down' (state.rs, place and replacement): what the calls answer of a lent map. Definitions only.
use Rattle.std.specs.Prelude.{cond, Option, Some, None, Result, Ok, Err}
use Rattle.spec.specs.Refusals as said
use Rattle.spec.specs.Map.Place as place
use Rattle.spec.specs.Map.Calls.{place_call, replacement_call}
use Rattle.map_tables.specs.Names.{view_key}
use Rattle.map_tables.specs.View.{view_map, view_spec, view_placement, refusal_of}
use Rattle.map_tables.specs.declared.Placement.{Placement}
use Rattle.map_tables.specs.declared.Refusal.{Refusal}
use Rattle.map_tables.specs.declared.ShardKey.{ShardKey}
use Rattle.spec.specs.declared.DataNodeId.{DataNodeId}
use Rattle.map_tables.specs.declared.ShardMap.{ShardMap}
use Rattle.map_tables.specs.declared.Spec.{Spec}
use Rattle.map_check.specs.Lent.{counted}

-- what the code answers: lists or none, or why not
abbrev pub PlaceAnswer : Type 0
PlaceAnswer = Result (Option Placement) Refusal

-- what an answer of place says: none, the lists, or the number of a refusal by `spec`'s Refusals
abbrev pub placed_of : PlaceAnswer → place.Placed
placed_of (Ok None) = place.nowhere
placed_of (Ok (Some p)) = place.placed_on (view_placement p)
placed_of (Err r) = place.not_placed (refusal_of r)

-- 24 also of a count over its limit beside an array; then `spec`'s call
unfoldable pub place_lent : ShardMap → Spec → place.Placed
place_lent m s = cond (counted m) (place_call (view_map m) (view_spec s)) (place.not_placed said.malformed)

abbrev pub Replaced : Type 0
Replaced = Result (Option DataNodeId) Refusal

-- what an answer of replacement says
abbrev pub replaced_of : Replaced → place.Replaced
replaced_of (Ok None) = place.nobody
replaced_of (Ok (Some n)) = place.replaced_by n.0
replaced_of (Err r) = place.not_replaced (refusal_of r)

-- 24 also of a count over its limit beside an array; then `spec`'s call
unfoldable pub replacement_lent : ShardMap → ShardKey → place.Replaced
replacement_lent m k = cond (counted m) (replacement_call (view_map m) (view_key k)) (place.not_replaced said.malformed)
