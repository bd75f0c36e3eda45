-- Laws of a placement's lists: their rows, and what each makes of the shards. Assumes nothing.
use mathlib.Core.Path.{◌≡◌, refl, sym, ap, ◌∙◌}
use mathlib.Core.List.{List, [], ◌∷◌, ◌++◌, map}
use Prim.Native.Nat.{ℕ, suc, ◌+◌, ◌≤◌, ◌<◌}
use native.Mathlib.Numerals.{add-one}
use native.Mathlib.Omega.{arith}
use lib.ListN.{length, take, drop, get_or, length-map, length-take, drop_of_length-le, get_or-map}
use lib.Seq.{drop-cons, take-suc, get_or-take, take_all, length-take-le}
use Rattle.spec.specs.Lists.{put}
use Rattle.spec.specs.Keys.{Name}
use Rattle.spec.specs.Map.Tables.{NodeInfo, ShardInfo}
use Rattle.spec.specs.Map.Change.{id_below}
use Rattle.spec.specs.Map.Create.{Placement, node_at, incarnation_of, replica_of, add_all, new_shard, shard_below, with_shards}
use Rattle.spec_laws.proofs.Map.Rows.{put_least}
use Rattle.spec.specs.declared.DataNodeId.{DataNodeId}

-- a row of an array read by f, where it is in use
module _ {A B : Type 0} (f : A → B) (xs : List A) (n : ℕ) where
  pub list-short : n < length xs → n ≡ length (map f (take n xs))
  list-short h = sym (length-map (take n xs) f ∙ length-take-le n xs (omega arith))

  pub list_long : length xs ≤ n → length xs ≡ length (map f (take n xs))
  list_long h = sym (length-map (take n xs) f ∙ ap length (take_all n xs h))

  pub list-row : (j : ℕ) (d : A) → j < length (map f (take n xs)) → get_or (map f (take n xs)) j (f d) ≡ f (get_or xs j d)
  list-row j d h =
      get_or-map f (take n xs) j d
      ∙ ap f (get_or-take n xs j d (let q = length-map (take n xs) f ∙ length-take n xs in omega arith))

-- ---- what a list makes

module _ {A B : Type 0} (f : A → B) where
  map-append : (l m : List A) → map f (l ++ m) ≡ map f l ++ map f m
  map-append [] m = refl
  map-append (y ∷ ys) m = ap (λ (w : List B). f y ∷ w) (map-append ys m)

  pub map_more : (l : List A) (j : ℕ) (d : A) → j < length l → map f (take j l) ++ (f (get_or l j d) ∷ []) ≡ map f (take (j + 1) l)
  map_more l j d h = sym (map-append (take j l) (get_or l j d ∷ [])) ∙ rw (add-one, take-suc l j d h)

-- one replica more
pub more-holders : (ns : List NodeInfo) (l : List ℕ) (j : ℕ) (node : DataNodeId) (i : ℕ) → j < length l → get_or l j 0 ≡ node.0
    → i ≡ incarnation_of (node_at ns node.0) → map (replica_of ns) (take j l) ++ (record { node = node; incarnation = i } ∷ []) ≡ map (replica_of ns) (take (j + 1) l)
more-holders ns l j node i h e f =
    ap (λ (k : ℕ). map (replica_of ns) (take j l) ++ (record { node = node; incarnation = k } ∷ [])) f
    ∙ ap (λ (k : ℕ). map (replica_of ns) (take j l) ++ (replica_of ns k ∷ [])) (sym e)
    ∙ map_more (replica_of ns) l j 0 h

-- one node more in the set
pub more_synced : (ds : List DataNodeId) (l : List ℕ) (j : ℕ) (node : DataNodeId) → j < length l → get_or l j 0 ≡ node.0
    → add_all ds (drop j l) ≡ add_all (put id_below node ds) (drop (j + 1) l)
unfolding add_all
more_synced ds l j node h e = rw (drop-cons l j 0 h, add-one, e)

pub synced_end : (ds : List DataNodeId) (l : List ℕ) (j : ℕ) → length l ≤ j → add_all ds (drop j l) ≡ ds
unfolding add_all
synced_end ds l j h = rw (drop_of_length-le l {i = j} h)

-- ---- the shards of a placement

module _ (ns : List NodeInfo) (name : Name) where
  -- the next list makes the next shard
  pub open_shards : (ss : List ShardInfo) (v : Placement) (i : ℕ) (l : List ℕ) → i < length v → get_or v i [] ≡ l
      → with_shards ss ns name i (drop i v) ≡ with_shards (put shard_below (new_shard ns name i l) ss) ns name (i + 1) (drop (i + 1) v)
  unfolding with_shards
  open_shards ss v i l h e = rw (drop-cons v i [] h, add-one, e)

  pub shards-end : (ss : List ShardInfo) (v : Placement) (i : ℕ) → length v ≤ i → with_shards ss ns name i (drop i v) ≡ ss
  unfolding with_shards
  shards-end ss v i h = rw (drop_of_length-le v {i = i} h)

  -- no shard is lost on the way
  pub shards_least : (ss : List ShardInfo) (i : ℕ) (v : Placement) → length ss ≤ length (with_shards ss ns name i v)
  unfolding with_shards
  shards_least ss i [] = omega arith
  shards_least ss i (l ∷ ls) =
      omega (arith, shards_least (put shard_below (new_shard ns name i l) ss) (suc i) ls, put_least shard_below (new_shard ns name i l) ss)
