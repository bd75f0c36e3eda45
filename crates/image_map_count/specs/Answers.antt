-- Paper 02, 2.14: what the code's answer says, and what is answered of a lent map. Definitions only.
use Rattle.std.specs.Prelude.{ℕ, List, Result, Ok, Err}
use Rattle.spec.specs.Refusals as said
use Rattle.map_tables.specs.Names.{view_name}
use Rattle.map_tables.specs.View.{view_map, view_spec}
use Rattle.map_tables.specs.declared.Name.{Name}
use Rattle.map_tables.specs.declared.ShardMap.{ShardMap}
use Rattle.map_tables.specs.declared.Spec.{Spec}
use Rattle.map_check.specs.Lent.{well_formed_lent}
use Rattle.spec_count.specs.Counts.{Counts, six, beyond, too_wide, not_counted, placements_of, count_by}
use Rattle.image_map_count.specs.Read.{view_ids, wide_lent, view_six}
use Rattle.image_map_count.specs.declared.IdSet.{IdSet}
use Rattle.image_map_count.specs.declared.Uncounted.{Uncounted}
use Rattle.image_map_count.specs.declared.Uncounted.TheVariants.{Beyond, TooWide, Malformed}

-- the case of spec_count's Counts, which gives its number
abbrev pub counting_of : Result (List ℕ) Uncounted → Counts
counting_of (Ok xs) = six (view_six xs)
counting_of (Err Beyond) = beyond
counting_of (Err TooWide) = too_wide
counting_of (Err Malformed) = not_counted said.malformed

-- 24, 36, 35, then the counts by enumeration
unfoldable pub count_lent : ShardMap → Name → Spec → IdSet → (lists nodes : ℕ) → Counts
count_lent m name spec ids lists nodes =
    count_by (well_formed_lent m) (wide_lent ids lists nodes) (view_map m) (view_name name) (view_spec spec) (placements_of lists nodes (view_ids ids))
