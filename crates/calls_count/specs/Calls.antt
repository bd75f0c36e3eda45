-- Paper 02, 2.14, for hosts: what the call answers of a map's image, and every byte of its buffer at exit. s and t are the buffer at entry and at
-- exit, r is the number that is answered. Definitions only.
use Rattle.std.specs.Prelude.{ℕ, zero, suc, ◌+◌, ◌/◌, ◌%◌, ◌≤◌, ◌≡◌, Bool, true, cond, List, [], ◌∷◌, eqb, ltb, length}
use Rattle.std.proofs.lemmas.List.Edits.{sets}
use Rattle.spec.specs.Lists.{◌and◌}
use Rattle.spec.specs.Layout.Format.{bytes_of, concat_map, number_at}
use Rattle.spec.specs.Limits.{max_name}
use Rattle.spec.specs.Refusals as said
use Rattle.spec.specs.Map.Tables.{Spec}
use Rattle.spec.specs.declared.Metric.TheVariants.{Euclidean}
use Rattle.wire_put.specs.Fields.{text_fits}
use Rattle.map_tables.specs.View.{view_map}
use Rattle.map_check.specs.Lent.{well_formed_lent}
use Rattle.image_map.specs.Image.{map_at, map_lent}
use Rattle.spec_count.specs.Counts.{Six, Counts, six, beyond, too_wide, not_counted, number_of, placements_of, is_wide, count_by}
use Rattle.image_map_count.specs.Read.{view_ids}
use Rattle.image_map_count.specs.declared.IdSet.{IdSet}

-- ---- what is given

-- n ids from a place on, 8 bytes each
unfoldable pub ids_from : ℕ → List ℕ → ℕ → List ℕ
ids_from zero s at = []
ids_from (suc n) s at = number_at 8 s at ∷ ids_from n s (at + 8)

unfoldable pub ids_in : List ℕ → List ℕ
ids_in s = ids_from (length s / 8) s 0

-- the ids as the code holds them: of more than 4 their count
pub record Loaded (s : List ℕ) (r : IdSet) : Type 0 where
  pub count : r.count ≡ length s / 8
  pub ids : r.count ≤ 4 → view_ids r ≡ ids_in s

-- the metric has no part in the answer
abbrev pub spec_given : (dimension shards replication : ℕ) → Spec
spec_given dimension shards replication = record { dimension = dimension; metric = Euclidean; shards = shards; replication = replication }

-- ---- the answer

-- 21 for a name that no message can carry and for bytes that are no whole ids; 24 for a buffer that lends no map or a malformed one; 36, 35
unfoldable pub tally_of : (map name : List ℕ) → Spec → (ids : List ℕ) → (lists nodes : ℕ) → Counts
tally_of map name spec ids lists nodes =
    cond (text_fits max_name name and eqb (length ids % 8) 0)
    (count_by (map_lent map and well_formed_lent (map_at map)) (is_wide (ids_in ids) lists nodes) (view_map (map_at map)) name spec (placements_of lists nodes (ids_in ids)))
    (not_counted said.undecodable)

-- 48 bytes: accepted, 2, 3, 4, 5, 23
unfoldable pub six_bytes : Six → List ℕ
six_bytes x = concat_map (bytes_of 8) (x.accepted ∷ x.two ∷ x.three ∷ x.four ∷ x.five ∷ x.full ∷ [])

-- 23, last: the buffer is shorter than the counts
abbrev pub answer_number : Counts → List ℕ → ℕ
answer_number (six x) s = cond (ltb (length s) 48) (said.number_of said.no_room) (number_of (six x))
answer_number beyond s = number_of beyond
answer_number too_wide s = number_of too_wide
answer_number (not_counted why) s = number_of (not_counted why)

-- the counts from the buffer's start on; what lies behind them stays, and beside a refusal nothing changes
abbrev pub answer_bytes : Counts → List ℕ → List ℕ
answer_bytes (six x) s = cond (ltb (length s) 48) s (sets s 0 (six_bytes x))
answer_bytes beyond s = s
answer_bytes too_wide s = s
answer_bytes (not_counted why) s = s

pub record Answers (x : Counts) (s t : List ℕ) (r : ℕ) : Type 0 where
  pub number : r ≡ answer_number x s
  pub bytes : t ≡ answer_bytes x s

abbrev pub Tallies : (map name : List ℕ) → Spec → (ids : List ℕ) → (lists nodes : ℕ) → (s t : List ℕ) → ℕ → Type 0
Tallies map name spec ids lists nodes = Answers (tally_of map name spec ids lists nodes)
