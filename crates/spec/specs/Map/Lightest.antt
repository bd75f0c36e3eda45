-- Paper 01, 'Place' (state.rs, place and replacement): what their answers have to be, said without how they are found. That Place's are
-- so is proved in crate spec_laws, Map/Placements.antt and Replacements.antt. Definitions only.
use Rattle.std.specs.Prelude.{ℕ, ◌+◌, ◌<◌, ◌≤◌, ◌≡◌, Bool, true, cond, not, ◌⊎◌, List, [], ◌∷◌, ◌++◌, length, eqb}
use Rattle.std.proofs.Math.Option.{some}
use Rattle.spec.specs.Lists.{any, nth}
use Rattle.spec.specs.Map.Tables.{Map, Spec, ShardInfo}
use Rattle.spec.specs.Map.Change.{holds}
use Rattle.spec.specs.Map.Create.{Placement, node_at, is_alive}
use Rattle.spec.specs.Map.Place.{replicas_of}

-- a node that the map knows alive
abbrev pub is_live : Map → ℕ → Bool
is_live m n = is_alive (node_at m.nodes n)

-- how often a node stands in a list
unfoldable pub times : ℕ → List ℕ → ℕ
times n [] = 0
times n (k ∷ ks) = cond (eqb k n) 1 0 + times n ks

-- the replicas that a node has in the map, with those that it was chosen for since
abbrev pub load_with : Map → (chosen : List ℕ) → ℕ → ℕ
load_with m chosen n = replicas_of n m.shards + times n chosen

-- fewer replicas, or as many and no higher id
abbrev pub NotAfter : (load : ℕ → ℕ) → ℕ → ℕ → Type 0
NotAfter load n k = (load n < load k) ⊎ ((load n ≡ load k) × (n ≤ k))

-- of the live nodes that may be chosen the one with the fewest replicas, ties broken by the lowest id
pub record Lightest (m : Map) (load : ℕ → ℕ) (may : ℕ → Bool) (n : ℕ) : Type 0 where
  pub live : is_live m n ≡ true
  pub free : may n ≡ true
  pub least : (k : ℕ) → is_live m k ≡ true → may k ≡ true → NotAfter load n k

-- a node that a shard does not have yet
abbrev pub not_in : (list : List ℕ) → ℕ → Bool
not_in list k = not (any (eqb k) list)

-- the rest of a shard's list: each node is the lightest that the shard has not got. `list` is what it has so far, `chosen` what the
-- shards before it got; both count
abbrev pub Choices : Map → (chosen list rest : List ℕ) → Type 0
Choices m chosen list [] = Unit
Choices m chosen list (n ∷ ns) = Lightest m (load_with m (chosen ++ list)) (not_in list) n × Choices m chosen (list ++ (n ∷ [])) ns

-- the lists of the shards, one after the other
abbrev pub Lists : Map → (replication : ℕ) → (chosen : List ℕ) → Placement → Type 0
Lists m n chosen [] = Unit
Lists m n chosen (l ∷ ls) = (length l ≡ n) × Choices m chosen [] l × Lists m n (chosen ++ l) ls

-- 'Place': a list for each shard, and in each as many nodes as the replication
pub record WellPlaced (m : Map) (spec : Spec) (p : Placement) : Type 0 where
  pub shards : length p ≡ spec.shards
  pub lists : Lists m spec.replication [] p

-- no node stands in it twice
abbrev pub Different : List ℕ → Type 0
Different l = (i j n : ℕ) → nth l i ≡ some n → nth l j ≡ some n → i ≡ j

-- 'replacement': the lightest live node that does not hold the shard
abbrev pub WellReplaced : Map → ShardInfo → ℕ → Type 0
WellReplaced m s n = Lightest m (λ k. replicas_of k m.shards) (λ k. not (holds k s.replicas)) n
