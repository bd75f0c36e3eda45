-- What a map shown leaves in the three buffers, of the header and the map that the bytes are read as. Definitions only.
use Rattle.std.specs.Prelude.{ℕ, ◌≤◌, ◌≡◌, true, List, [], length}
use Rattle.spec.specs.Map.WellFormed.{well_formed_map}
use Rattle.map_tables.specs.View.{view_map}
use Rattle.map_tables.specs.Counted.{TablesCounted}
use Rattle.node_header.specs.declared.Node.{Node}
use Rattle.node_show.specs.declared.NodeShown.{NodeShown}
use Rattle.node_show.specs.declared.ShownAnswer.TheVariants as S
use Rattle.node_show.specs.Shows.{TakesMap, ShowsMap}
use Rattle.image_header.specs.Image.{node_at}
use Rattle.image_map.specs.Image.{map_at}
use Rattle.calls_header.specs.Shows.{ShowPut}

-- a map's image that is not malformed
pub record MapFormed (m : List ℕ) : Type 0 where
  pub long : 26536 ≤ length m
  pub tables : TablesCounted (map_at m)
  pub formed : well_formed_map (view_map (map_at m)) ≡ true

-- the map is taken note of, and no worker starts
abbrev pub no_starts : Node → NodeShown
no_starts n = record { answer = S.Shown; starts = []; count = 0; node = n }

-- the header's image holds s before and t after, `starts` p and q, `answer` a and b; the map's holds m. Past the tests of both
pub record ShowsAt (s t m p q a b : List ℕ) (fresh r : ℕ) : Type 0 where
  pub after : NodeShown
  pub call : ShowsMap (node_at s) (map_at m) fresh after
  pub put : ShowPut s t p q a b after r

-- the same of a map that is taken
pub record TakesAt (s t m p q a b : List ℕ) (r : ℕ) : Type 0 where
  pub after : NodeShown
  pub call : TakesMap (node_at s) (map_at m) after
  pub put : ShowPut s t p q a b after r

-- the node n after, and no worker to start, whatever `starts` holds
abbrev pub Quietly : (s t a b : List ℕ) → Node → ℕ → Type 0
Quietly s t a b n r = (p : List ℕ) → ShowPut s t p p a b (no_starts n) r
