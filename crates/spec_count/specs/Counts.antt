-- Paper 02, 2.14: how many placements of at most a given number of lists, each of at most a given number of nodes drawn with repetition from a
-- given set of ids, Create accepts, and how many end in each of 2, 3, 4, 5 and 23. By enumeration. Definitions only.
use Rattle.std.specs.Prelude.{ℕ, Bool, true, false, cond, List, [], ◌∷◌, length, eqb, ltb}
use Rattle.spec.specs.Lists.{◌or◌, any}
use Rattle.spec.specs.Limits.{max_lists, max_listed, max_u64}
use Rattle.spec.specs.Keys.{Name}
use Rattle.spec.specs.Refusals as said
use Rattle.spec.specs.Map.Tables.{Spec, Map}
use Rattle.spec.specs.Map.Create.{Placement, create_answer}
use Rattle.spec.specs.Map.Calls.{reason_number}
use Rattle.spec.specs.Map.WellFormed.{well_formed_map}
use Rattle.spec_count.specs.Tuples.{sequences, how_many}

-- 'all placements of at most a given number of lists, each of at most a given number of nodes drawn with repetition from a given set': the empty
-- placement and empty lists are among them
abbrev pub placements_of : (lists nodes : ℕ) → List ℕ → List Placement
placements_of lists nodes ids = sequences lists (sequences nodes ids)

-- Create's own answer has that number, 0 for accepted; no client, no session enters
unfoldable pub ends_in : Map → Name → Spec → ℕ → Placement → Bool
ends_in m name spec n p = eqb (reason_number (create_answer m name spec p)) n

-- how many of the placements end so
unfoldable pub counted : Map → Name → Spec → List Placement → ℕ → ℕ
counted m name spec ps n = how_many (ends_in m name spec n) ps

-- 'the six counts': accepted, 2, 3, 4, 5, 23
pub record Six : Type 0 where
  pub accepted : ℕ
  pub two : ℕ
  pub three : ℕ
  pub four : ℕ
  pub five : ℕ
  pub full : ℕ

unfoldable pub six_of : Map → Name → Spec → List Placement → Six
six_of m name spec ps = record {
  accepted = counted m name spec ps 0;
  two = counted m name spec ps 2;
  three = counted m name spec ps 3;
  four = counted m name spec ps 4;
  five = counted m name spec ps 5;
  full = counted m name spec ps 23;
}

-- ---- what is answered

-- the six counts; 35, 36, or a refusal of paper 01
pub data Counts : Type 0 where
  six : Six → Counts
  beyond : Counts
  too_wide : Counts
  not_counted : said.Refusal → Counts

-- the number of an answer
abbrev pub number_of : Counts → ℕ
number_of (six x) = 0
number_of beyond = 35
number_of too_wide = 36
number_of (not_counted why) = said.number_of why

-- 'a given set of at most 4 ids'
abbrev pub max_ids : ℕ
max_ids = 4

-- 'an id given twice'
unfoldable pub repeats : List ℕ → Bool
repeats [] = false
repeats (x ∷ xs) = any (eqb x) xs or repeats xs

-- 36: 'more than 4 ids, an id given twice or a given number above 16 lists or 8 nodes'
unfoldable pub is_wide : (ids : List ℕ) → (lists nodes : ℕ) → Bool
is_wide ids lists nodes = ltb max_ids (length ids) or repeats ids or ltb max_lists lists or ltb max_listed nodes

-- 35: 'a total beyond 64 bits'
unfoldable pub is_beyond : List Placement → Bool
is_beyond ps = ltb max_u64 (length ps)

-- 24, then 36, then 35, by what is known of the map and of what is given
unfoldable pub count_by : (formed wide : Bool) → Map → Name → Spec → List Placement → Counts
count_by formed wide m name spec ps =
    cond formed (cond wide too_wide (cond (is_beyond ps) beyond (six (six_of m name spec ps)))) (not_counted said.malformed)

unfoldable pub count_placements : Map → Name → Spec → (ids : List ℕ) → (lists nodes : ℕ) → Counts
count_placements m name spec ids lists nodes = count_by (well_formed_map m) (is_wide ids lists nodes) m name spec (placements_of lists nodes ids)
