-- Apply as its caller makes it: bytes, and a lent map whose counts stand beside arrays. Definitions only.
use Rattle.std.specs.Prelude.{ℕ, ◌≡◌, true, cond, List}
use Rattle.std.proofs.Math.Option.{Option, none, some}
use Rattle.spec.specs.Refusals.{undecodable, malformed}
use Rattle.spec.specs.Map.Apply.{Applied, apply}
use Rattle.spec.specs.Map.Calls.{refused_with}
use Rattle.spec.specs.Map.WellFormed.{well_formed_map}
use Rattle.spec.specs.Layout.Request.{Request, decode_request}
use Rattle.map_tables.specs.Counted.{TablesCounted}
use Rattle.map_tables.specs.View.{answer_of, view_map}
use Rattle.map_tables.specs.declared.ShardMap.{ShardMap}
use Rattle.map_check.specs.Lent.{well_formed_lent}
use Rattle.map_apply.specs.declared.Settled.{Settled}

-- `spec`'s apply_decoded, where the test of the map (24) is that of the lent arrays
abbrev pub apply_lent : ShardMap → Option Request → Applied
apply_lent m none = refused_with (view_map m) undecodable
apply_lent m (some r) = cond (well_formed_lent m) (apply (view_map m) r) (refused_with (view_map m) malformed)

-- 'Who is turned down': 21, then 24, then the command. Where the definition leaves the map as it was (every refusal, 1, and a request that
-- is repeated), every place of it is as it was, the free ones too. A map that was well formed is so again
pub record AppliesBytes (m : ShardMap) (bytes : List ℕ) (s : Settled) : Type 0 where
  pub answer : answer_of s.verdict ≡ (apply_lent m (decode_request bytes)).answer
  pub map : view_map s.map ≡ (apply_lent m (decode_request bytes)).map
  pub kept : (apply_lent m (decode_request bytes)).map ≡ view_map m → s.map ≡ m
  pub counted : well_formed_lent m ≡ true → TablesCounted s.map
  pub formed : well_formed_lent m ≡ true → well_formed_map (view_map s.map) ≡ true
