-- The closed form of the six counts: sums of powers, so that no placement is walked. Definitions only.
use Rattle.std.specs.Prelude.{ℕ, zero, suc, min, ◌+◌, ◌-◌, ◌^◌, Bool, cond, List, [], leb, length, replicate}
use Rattle.spec.specs.Keys.{Name}
use Rattle.spec.specs.Map.Tables.{NodeInfo, Spec, Map}
use Rattle.spec.specs.Map.Create.{node_at, is_alive, has_collection, zero_in, create_room}
use Rattle.spec_count.specs.Tuples.{how_many}
use Rattle.spec_count.specs.Counts.{Six}

-- 1 + b + b² + .. + bⁿ: how many lists of at most n members there are over b of them
unfoldable pub geometric : ℕ → ℕ → ℕ
geometric b zero = 1
geometric b (suc n) = geometric b n + b ^ suc n

-- how many placements there are over that many ids
unfoldable pub total_of : (ids lists nodes : ℕ) → ℕ
total_of ids lists nodes = geometric (geometric ids nodes) lists

-- how many of them have as many lists as shards, each with a node and no more than the replication, over that many ids
unfoldable pub fitting_of : (shards replication ids lists nodes : ℕ) → ℕ
fitting_of shards replication ids lists nodes = cond (leb shards lists) ((geometric ids (min nodes replication) - 1) ^ shards) 0

-- 5: of the ids those that the map knows alive
unfoldable pub alive_among : List NodeInfo → List ℕ → ℕ
alive_among ns ids = how_many (λ (n : ℕ). is_alive (node_at ns n)) ids

-- 23 hangs on the number of lists alone
unfoldable pub room_for : Map → Name → ℕ → Bool
room_for m name shards = create_room m name (replicate shards [])

-- the counts by how far Create gets: 2, 3, then of all the total those that fit, and of these those on live nodes
unfoldable pub closed_by : (exists zeros room : Bool) → (total fitting live : ℕ) → Six
closed_by exists zeros room total fitting live =
    cond exists (record { accepted = 0; two = total; three = 0; four = 0; five = 0; full = 0 })
    (cond zeros (record { accepted = 0; two = 0; three = total; four = 0; five = 0; full = 0 })
    (record {
      accepted = cond room live 0;
      two = 0;
      three = 0;
      four = total - fitting;
      five = fitting - live;
      full = cond room 0 live;
    }))

unfoldable pub closed_six : Map → Name → Spec → (ids : List ℕ) → (lists nodes : ℕ) → Six
closed_six m name spec ids lists nodes =
    closed_by (has_collection name m.collections) (zero_in spec) (room_for m name spec.shards) (total_of (length ids) lists nodes)
    (fitting_of spec.shards spec.replication (length ids) lists nodes)
    (fitting_of spec.shards spec.replication (alive_among m.nodes ids) lists nodes)
