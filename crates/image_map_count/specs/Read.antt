-- How the code's ids, sums and counts are read (paper 02, 2.14). Definitions only.
use Rattle.std.specs.Prelude.{ℕ, ◌^◌, ◌≤◌, ◌≡◌, Bool, true, List, leb, ltb, length, take, get_or}
use Rattle.spec.specs.Lists.{◌or◌}
use Rattle.spec.specs.Limits.{max_u64}
use Rattle.map_check.specs.Lent.{well_formed_lent}
use Rattle.image_map.specs.Image.{map_at}
use Rattle.spec_count.specs.Counts.{Six, max_ids, is_wide}
use Rattle.spec_count.specs.Closed.{geometric, total_of}
use Rattle.image_map_count.specs.declared.IdSet.{IdSet}
use Rattle.image_map_count.specs.declared.Summed.{Summed}

abbrev pub view_ids : IdSet → List ℕ
view_ids s = take s.count s.items

-- 36: a count over its limit beside the array as well
unfoldable pub wide_lent : IdSet → (lists nodes : ℕ) → Bool
wide_lent s lists nodes = ltb max_ids s.count or is_wide (view_ids s) lists nodes

abbrev pub counts : (accepted two three four five full : ℕ) → Six
counts a b c d e f = record { accepted = a; two = b; three = c; four = d; five = e; full = f }

-- accepted, 2, 3, 4, 5, 23
abbrev pub view_six : List ℕ → Six
view_six xs = counts (get_or xs 0 0) (get_or xs 1 0) (get_or xs 2 0) (get_or xs 3 0) (get_or xs 4 0) (get_or xs 5 0)

-- the sum and its last term, where the sum is within 64 bits
pub record SumAs (b n : ℕ) (r : Summed) : Type 0 where
  pub fits : r.fits ≡ leb (geometric b n) max_u64
  pub sum : r.fits ≡ true → r.sum ≡ geometric b n
  pub last : r.fits ≡ true → r.last ≡ b ^ n

-- a map that passed the test (24), in its bytes
pub record Formed (s : List ℕ) : Type 0 where
  pub long : 26536 ≤ length s
  pub right : well_formed_lent (map_at s) ≡ true

-- a request that is neither malformed nor too wide, with its total
pub record Asked (s : List ℕ) (ids : IdSet) (lists nodes total : ℕ) : Type 0 where
  pub formed : Formed s
  pub few : ids.count ≤ 4
  pub sized : ids.count ≡ length (view_ids ids)
  pub listed : lists ≤ 16
  pub held : nodes ≤ 8
  pub fits : total ≤ max_u64
  pub whole : total ≡ total_of (length (view_ids ids)) lists nodes
