-- The laws of 2.14, met by maps that a machine can have. The map knows node 1 alive, node 2 dead, and no node 7; a placement has at most two
-- lists of at most one node of these: 1 + 4 + 16. The largest request has more than 2⁷² placements, of which none is walked. Assumes nothing.
use Prim.Native.Nat.{ℕ, zero, suc, ◌+◌, ◌^◌, ◌≤◌}
use mathlib.Core.Path.{◌≡◌, refl, sym, ap, ◌∙◌, subst}
use mathlib.Core.Bool.{Bool, true, false}
use mathlib.Core.List.Memᴰ
use mathlib.Core.List.{List, [], ◌∷◌}
use native.Mathlib.Omega.{arith}
use lib.Dec.{ltb}
use lib.ListN.{length}
use mathlib.Core.Option.{none}
use Rattle.spec.specs.Lists.{every, any}
use Rattle.spec.specs.Limits.{max_u64}
use Rattle.spec.specs.Keys.{Name}
use Rattle.spec.specs.Map.Tables.{NodeInfo, Spec, Collection, ShardInfo, Map}
use Rattle.spec.specs.Map.Create.{Placement}
use Rattle.spec.specs.Map.WellFormed.{well_formed_map}
use Rattle.spec.specs.declared.Metric.TheVariants.{Euclidean}
use Rattle.spec.proofs.Opened.{opened}
use Rattle.spec_count.specs.Tuples.{before, tuples, sequences, how_many, In, Distinct}
use Rattle.spec_count.specs.Counts.{Six, six, beyond, too_wide, placements_of, ends_in, counted, six_of, repeats, is_wide, is_beyond, count_by, count_placements, number_of}
use Rattle.spec_count.specs.Closed.{geometric, total_of, fitting_of, alive_among, room_for, closed_by, closed_six}
use Rattle.spec_count.proofs.HowMany.{many-tuples}
use Rattle.spec_count.proofs.Members.{all_there}
use Rattle.spec_count.proofs.Once.{once}
use Rattle.spec_count.proofs.Closed.{all_of, closed}
use Rattle.spec_count.proofs.Cover.{sum_of, cover, no_other, beyond_iff, wide-first}

abbrev node : ℕ → Bool → NodeInfo
node n b = record { node = n; address = []; incarnation = 1; alive = b }

abbrev hall : List Collection → List ShardInfo → Map
hall cs ss = record { version = 3; nodes = node 1 true ∷ node 2 false ∷ []; collections = cs; shards = ss; sessions = [] }

abbrev spec : Spec
spec = record { dimension = 2; metric = Euclidean; shards = 2; replication = 1 }

abbrev stars : Name
stars = 97 ∷ []

abbrev ids : List ℕ
ids = 1 ∷ 2 ∷ 7 ∷ []

abbrev given : (accepted two three four five full : ℕ) → Six
given a b c d e f = record { accepted = a; two = b; three = c; four = d; five = e; full = f }

-- ---- counted by walking, and by the closed form

walked : six_of (hall [] []) stars spec (placements_of 2 1 ids) ≡ given 1 0 0 12 8 0
unfolding opened six_of counted ends_in before tuples sequences how_many
walked = refl

pub computed : closed_six (hall [] []) stars spec ids 2 1 ≡ given 1 0 0 12 8 0
computed = sym (closed (hall [] []) stars spec ids 2 1) ∙ walked

pub covered : sum_of (given 1 0 0 12 8 0) ≡ length (placements_of 2 1 ids)
covered = sym (ap sum_of walked) ∙ cover (hall [] []) stars spec (placements_of 2 1 ids)

-- ---- the name taken, a zero, no room; and shards of that name that are already there, which need no place

abbrev named : Name → Collection
named n = record { name = n; spec = spec }

-- n collections of other names, from a number on
unfoldable pub others : ℕ → ℕ → List Collection
others zero at = []
others (suc n) at = named (98 ∷ at ∷ []) ∷ others n (suc at)

abbrev shard : Name → ℕ → ShardInfo
shard name n = record { key = record { collection = name; shard = n }; replicas = []; primary = none; insync = []; epoch = 1 }

-- n shards of another collection, from a number on
unfoldable pub rows : ℕ → ℕ → List ShardInfo
rows zero at = []
rows (suc n) at = shard (98 ∷ []) at ∷ rows n (suc at)

-- 64 shards, two of them of that name
abbrev strays : List ShardInfo
strays = shard stars 0 ∷ shard stars 1 ∷ rows 62 0

module _ (cs : List Collection) (ss : List ShardInfo) (s : Spec) where
  abbrev Walks : Six → Type 0
  Walks x = six_of (hall cs ss) stars s (placements_of 2 1 ids) ≡ x

pub taken : Walks (named stars ∷ []) [] spec (given 0 21 0 0 0 0)
unfolding opened six_of counted ends_in before tuples sequences how_many
taken = refl

pub no_shards_lem : Walks [] [] (record { dimension = 2; metric = Euclidean; shards = 0; replication = 1 }) (given 0 0 21 0 0 0)
unfolding opened six_of counted ends_in before tuples sequences how_many
no_shards_lem = refl

pub no_collection_left : Walks (others 16 0) [] spec (given 0 0 0 12 8 1)
unfolding opened six_of counted ends_in before tuples sequences how_many others
no_collection_left = refl

pub no_shard_left : Walks [] (rows 63 0) spec (given 0 0 0 12 8 1)
unfolding opened six_of counted ends_in before tuples sequences how_many rows
no_shard_left = refl

pub replaced : Walks [] strays spec (given 1 0 0 12 8 0)
unfolding opened six_of counted ends_in before tuples sequences how_many rows
replaced = refl

pub replaced_computed : closed_six (hall [] strays) stars spec ids 2 1 ≡ given 1 0 0 12 8 0
replaced_computed = sym (closed (hall [] strays) stars spec ids 2 1) ∙ replaced

-- ---- what is among them, each once

abbrev twice : Placement
twice = [] ∷ (7 ∷ []) ∷ []

pub there : In twice (placements_of 2 1 ids)
there = (all_there 2 1 ids twice).1 (omega arith, ((omega arith, tt), ((omega arith, (Memᴰ.tail (Memᴰ.tail (Memᴰ.head refl)), tt)), tt)))

pub each_once : Distinct (placements_of 16 8 ids)
unfolding repeats opened
each_once = once 16 8 ids refl

pub one-ending : any (λ (n : ℕ). ends_in (hall [] []) stars spec n twice) (0 ∷ 2 ∷ 3 ∷ 4 ∷ 5 ∷ 23 ∷ []) ≡ true
one-ending = no_other (hall [] []) stars spec twice

-- 4⁸ lists of 8 of four ids, 2⁸ of them of two
two : how_many (λ (n : ℕ). ltb n 3) (1 ∷ 2 ∷ 3 ∷ 4 ∷ []) ≡ 2
unfolding how_many opened
two = refl

pub eights : how_many (every (λ (n : ℕ). ltb n 3)) (tuples 8 (1 ∷ 2 ∷ 3 ∷ 4 ∷ [])) ≡ 256
eights = many-tuples (λ (n : ℕ). ltb n 3) 8 (1 ∷ 2 ∷ 3 ∷ 4 ∷ []) ∙ ap (λ (n : ℕ). n ^ 8) two

-- ---- 35 and 36

abbrev four : List ℕ
four = 1 ∷ 2 ∷ 3 ∷ 4 ∷ []

well : well_formed_map (hall [] []) ≡ true
unfolding opened
well = refl

-- 1.08 of 2⁶⁴
above : 2 ^ 64 ≤ total_of 4 10 3
unfolding total_of geometric
above = omega arith

narrow : is_wide four 10 3 ≡ false
unfolding is_wide repeats opened
narrow = refl

pub just_beyond : count_placements (hall [] []) stars spec four 10 3 ≡ beyond
just_beyond = (beyond_iff (hall [] []) stars spec four 10 3 well narrow).1 (subst (λ (n : ℕ). 2 ^ 64 ≤ n) (sym (all_of four 10 3)) above)

-- 0.97 of 2⁶⁴
below : total_of 2 8 7 ≤ max_u64
unfolding total_of geometric
below = omega arith

two_narrow : is_wide (1 ∷ 2 ∷ []) 8 7 ≡ false
unfolding is_wide repeats opened
two_narrow = refl

pub just_within : count_placements (hall [] []) stars spec (1 ∷ 2 ∷ []) 8 7 ≡ beyond → ⊥
just_within e =
    let h = (beyond_iff (hall [] []) stars spec (1 ∷ 2 ∷ []) 8 7 well two_narrow).0 e in
    omega (arith, all_of (1 ∷ 2 ∷ []) 8 7, below)

-- more than 2⁷² placements, and an id given twice
doubled : is_wide (1 ∷ 1 ∷ []) 16 8 ≡ true
unfolding is_wide repeats opened
doubled = refl

pub given-twice : count_placements (hall [] []) stars spec (1 ∷ 1 ∷ []) 16 8 ≡ too_wide
given-twice = wide-first (hall [] []) stars spec (1 ∷ 1 ∷ []) 16 8 well doubled
