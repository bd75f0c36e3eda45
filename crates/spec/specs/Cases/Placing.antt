-- Paper 01, 'Place' (state.rs, place and replacement): one small map, and where it puts new replicas. That every row holds is computed in
-- proofs/Cases/Placing.antt. Definitions only.
use Rattle.std.specs.Prelude.{ℕ, zero, suc, true, false, List, [], ◌∷◌}
use Rattle.spec.specs.Keys.{Key}
use Rattle.spec.specs.Refusals.{no_room}
use Rattle.spec.specs.Map.Tables.{NodeInfo, Spec, Map}
use Rattle.spec.specs.Map.Place.{Placed, nowhere, placed_on, not_placed, Replaced, nobody, replaced_by}
use Rattle.spec.specs.Cases.Commands.{node, on, id, shard, sized, c, d, part}

-- nodes 1 to 5 with 2, 3, 0, 1 and 1 replicas, of which 3 is dead. The first shard lists node 2 twice, the last has no live node but 4
abbrev pub loaded : Map
loaded = record {
  version = 9;
  nodes = node 1 [] 4 true ∷ node 2 [] 5 true ∷ node 3 [] 6 false ∷ node 4 [] 7 true ∷ node 5 [] 8 true ∷ [];
  collections = record { name = c; spec = sized 2 3 3 } ∷ [];
  shards =
      shard (part 0) (on 2 5 ∷ on 1 4 ∷ on 2 5 ∷ []) 2 (id 1 ∷ id 2 ∷ [])
      ∷ shard (part 1) (on 5 8 ∷ on 1 4 ∷ on 2 5 ∷ []) 5 (id 5 ∷ [])
      ∷ shard (part 2) (on 4 7 ∷ on 9 9 ∷ []) 4 (id 4 ∷ [])
      ∷ [];
  sessions = [];
}

-- ---- place

-- a spec, and the answer
pub record PlaceRow : Type 0 where
  pub spec : Spec
  pub placed : Placed

-- so many shards of so many replicas
abbrev pub places : (shards replication : ℕ) → Placed → PlaceRow
places s r p = record { spec = sized 1 s r; placed = p }

-- loads 2, 3, 1, 1 on 1, 2, 4, 5: the lightest, then the lowest id, counted on from list to list. Four live nodes serve four replicas
-- and not five; none comes before 23
abbrev pub placing : List PlaceRow
placing =
    places 1 1 (placed_on ((4 ∷ []) ∷ []))
    ∷ places 1 2 (placed_on ((4 ∷ 5 ∷ []) ∷ []))
    ∷ places 1 4 (placed_on ((4 ∷ 5 ∷ 1 ∷ 2 ∷ []) ∷ []))
    ∷ places 5 1 (placed_on ((4 ∷ []) ∷ (5 ∷ []) ∷ (1 ∷ []) ∷ (4 ∷ []) ∷ (5 ∷ []) ∷ []))
    ∷ places 4 2 (placed_on ((4 ∷ 5 ∷ []) ∷ (1 ∷ 4 ∷ []) ∷ (5 ∷ 1 ∷ []) ∷ (2 ∷ 4 ∷ []) ∷ []))
    ∷ places 2 3 (placed_on ((4 ∷ 5 ∷ 1 ∷ []) ∷ (4 ∷ 5 ∷ 1 ∷ []) ∷ []))
    ∷ places 0 4 (placed_on [])
    ∷ places 2 0 (placed_on ([] ∷ [] ∷ []))
    ∷ places 1 5 nowhere
    ∷ places 17 5 nowhere
    ∷ places 17 4 (not_placed no_room)
    ∷ places 16 1
    (placed_on
    ((4 ∷ [])
    ∷ (5 ∷ [])
    ∷ (1 ∷ [])
    ∷ (4 ∷ [])
    ∷ (5 ∷ [])
    ∷ (1 ∷ [])
    ∷ (2 ∷ [])
    ∷ (4 ∷ [])
    ∷ (5 ∷ [])
    ∷ (1 ∷ [])
    ∷ (2 ∷ [])
    ∷ (4 ∷ [])
    ∷ (5 ∷ [])
    ∷ (1 ∷ [])
    ∷ (2 ∷ [])
    ∷ (4 ∷ [])
    ∷ []))
    ∷ []

-- so many live nodes, from a number on
abbrev pub live_to : (first count : ℕ) → List NodeInfo
live_to first zero = []
live_to first (suc n) = node first [] 1 true ∷ live_to (suc first) n

-- ten live nodes and nothing on them
abbrev pub ten : Map
ten = record { version = 1; nodes = live_to 1 10; collections = []; shards = []; sessions = [] }

-- eight replicas and not nine; none where eleven are asked
abbrev pub wide : List PlaceRow
wide =
    places 1 8 (placed_on ((1 ∷ 2 ∷ 3 ∷ 4 ∷ 5 ∷ 6 ∷ 7 ∷ 8 ∷ []) ∷ []))
    ∷ places 2 8
    (placed_on ((1 ∷ 2 ∷ 3 ∷ 4 ∷ 5 ∷ 6 ∷ 7 ∷ 8 ∷ []) ∷ (9 ∷ 10 ∷ 1 ∷ 2 ∷ 3 ∷ 4 ∷ 5 ∷ 6 ∷ []) ∷ []))
    ∷ places 1 9 (not_placed no_room)
    ∷ places 0 9 (not_placed no_room)
    ∷ places 1 11 nowhere
    ∷ []

-- ---- replacement

-- a shard, and the answer
pub record ReplaceRow : Type 0 where
  pub key : Key
  pub replaced : Replaced

-- a row
abbrev pub replaces : Key → Replaced → ReplaceRow
replaces k r = record { key = k; replaced = r }

-- the lightest live node that holds nothing of the shard; none for a shard or a collection that the map lacks
abbrev pub replacing : List ReplaceRow
replacing =
    replaces (part 0) (replaced_by 4)
    ∷ replaces (part 1) (replaced_by 4)
    ∷ replaces (part 2) (replaced_by 5)
    ∷ replaces (part 3) nobody
    ∷ replaces (record { collection = d; shard = 0 }) nobody
    ∷ []

-- one shard on each live node: nobody is left
abbrev pub taken : Map
taken = record {
  version = 9;
  nodes = node 1 [] 4 true ∷ node 2 [] 5 false ∷ node 3 [] 6 true ∷ [];
  collections = record { name = c; spec = sized 2 1 2 } ∷ [];
  shards = shard (part 0) (on 3 6 ∷ on 1 1 ∷ []) 3 (id 3 ∷ []) ∷ [];
  sessions = [];
}
