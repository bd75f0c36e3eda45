-- What place and replacement answer of a map's image, and what they leave of the buffer for the answer: s and t are its bytes at entry
-- and at exit, r the number that is answered (paper 01, 'Place' and 'Who is turned down'). Definitions only.
use Rattle.std.specs.Prelude.{ℕ, ◌*◌, ◌≡◌, true, false, cond, List, length, ltb}
use Rattle.std.proofs.lemmas.List.Edits.{sets}
use Rattle.spec.specs.Layout.Format.{bytes_of, concat_map, All}
use Rattle.spec.specs.Limits.{max_name}
use Rattle.spec.specs.Refusals.{undecodable, no_room, malformed, number_of}
use Rattle.spec.specs.declared.Metric.TheVariants.{Euclidean}
use Rattle.spec.specs.Map.Place.{Placed, nowhere, placed_on, not_placed, Replaced, nobody, replaced_by, not_replaced}
use Rattle.wire_write.specs.Written.{text_fits, key_given}
use Rattle.map_tables.specs.Names.{view_key}
use Rattle.map_tables.specs.declared.ShardKey.{ShardKey}
use Rattle.map_tables.specs.declared.Spec.{Spec}
use Rattle.map_place.specs.Answers.{place_lent, replacement_lent}
use Rattle.image_map.specs.Image.{map_at, map_lent}
use Rattle.calls_parts.specs.Answer.{answer_lent, number_put}
use Rattle.calls_map.specs.Calls.{Refuses}

-- ---- lists of nodes: 8 bytes for each node, a list behind the other

abbrev pub list_bytes : List ℕ → List ℕ
list_bytes ns = concat_map (bytes_of 8) ns

abbrev pub lists_bytes : List (List ℕ) → List ℕ
lists_bytes ls = concat_map list_bytes ls

-- as many lists as shards, each of as many nodes as replicas: the list of shard i begins at byte i * (8 * replication)
pub record Laid (shards replication : ℕ) (ls : List (List ℕ)) : Type 0 where
  pub lists : length ls ≡ shards
  pub nodes : All (λ (ns : List ℕ). length ns ≡ replication) ls
  pub bytes : length (lists_bytes ls) ≡ shards * (8 * replication)

-- 0 for the lists, 1 for none; 23 where the buffer is shorter than the lists
abbrev pub placed_number : Placed → List ℕ → ℕ
placed_number nowhere s = 1
placed_number (placed_on ls) s = cond (ltb (length s) (length (lists_bytes ls))) (number_of no_room) 0
placed_number (not_placed why) s = number_of why

-- the lists from the buffer's start on; what lies behind them stays
abbrev pub placed_bytes : Placed → List ℕ → List ℕ
placed_bytes nowhere s = s
placed_bytes (placed_on ls) s = cond (ltb (length s) (length (lists_bytes ls))) s (sets s 0 (lists_bytes ls))
placed_bytes (not_placed why) s = s

pub record AnswersLists (x : Placed) (s t : List ℕ) (r : ℕ) : Type 0 where
  pub number : r ≡ placed_number x s
  pub bytes : t ≡ placed_bytes x s

-- ---- one node

-- 0 for a node, 1 for none; 23 where the buffer is shorter than 8 bytes, which comes after every other refusal
abbrev pub replaced_number : Replaced → List ℕ → ℕ
replaced_number nobody s = cond (answer_lent s) 1 (number_of no_room)
replaced_number (replaced_by n) s = cond (answer_lent s) 0 (number_of no_room)
replaced_number (not_replaced why) s = number_of why

-- the node in the first 8 bytes
abbrev pub replaced_bytes : Replaced → List ℕ → List ℕ
replaced_bytes nobody s = s
replaced_bytes (replaced_by n) s = number_put s n
replaced_bytes (not_replaced why) s = s

pub record AnswersNode (x : Replaced) (s t : List ℕ) (r : ℕ) : Type 0 where
  pub number : r ≡ replaced_number x s
  pub bytes : t ≡ replaced_bytes x s

-- ---- the calls, on the bytes m of a map's image

-- a placement asks for shards and replication alone
abbrev pub spec_given : (shards replication : ℕ) → Spec
spec_given shards replication = record { dimension = 0; metric = Euclidean; shards = shards; replication = replication }

-- place's own answer on the map that the bytes are read as; 24 for a buffer that lends no map
pub record Places (m : List ℕ) (shards replication : ℕ) (s t : List ℕ) (r : ℕ) : Type 0 where
  pub unlent : map_lent m ≡ false → Refuses malformed s t r
  pub lent : map_lent m ≡ true → AnswersLists (place_lent (map_at m) (spec_given shards replication)) s t r
  pub laid : (ls : List (List ℕ)) → place_lent (map_at m) (spec_given shards replication) ≡ placed_on ls → Laid shards replication ls

-- replacement's own answer, of the key with that name and shard
pub record ReplacesImage (m name : List ℕ) (shard : ℕ) (s t : List ℕ) (r : ℕ) : Type 0 where
  pub key : ShardKey
  pub named : view_key key ≡ key_given name shard
  pub answer : AnswersNode (replacement_lent (map_at m) key) s t r

-- 21 for a name that no message can carry, before the image is looked at, then 24 for a buffer that lends no map
pub record Replaces (m name : List ℕ) (shard : ℕ) (s t : List ℕ) (r : ℕ) : Type 0 where
  pub unnamed : text_fits max_name name ≡ false → Refuses undecodable s t r
  pub unlent : text_fits max_name name ≡ true → map_lent m ≡ false → Refuses malformed s t r
  pub lent : text_fits max_name name ≡ true → map_lent m ≡ true → ReplacesImage m name shard s t r
