-- 23 hangs on the name and the number of lists alone: the shards are put in by key. Assumes nothing.
use Prim.Native.Nat.{ℕ, zero, suc}
use mathlib.Core.Path.{◌≡◌, refl, sym, ap, ◌∙◌}
use mathlib.Core.Bool.{Bool, true, false, cond}
use mathlib.Core.List.{List, [], ◌∷◌, map}
use native.Mathlib.Omega.{arith}
use lib.Dec.{leb, ltb}
use lib.ListN.{length, length-map, replicate, length-replicate}
use Rattle.spec.specs.Lists.{put, ◌and◌}
use Rattle.spec.specs.Limits.{max_collections, max_shards}
use Rattle.spec.specs.Keys.{Name, Key, key_below}
use Rattle.spec.specs.Map.Tables.{NodeInfo, ShardInfo, Map}
use Rattle.spec.specs.Map.Create.{Placement, shard_below, new_shard, with_shards, created_shards, create_room}
use Rattle.spec_count.specs.Closed.{room_for}

abbrev keys : List ShardInfo → List Key
keys ss = map (λ (s : ShardInfo). s.key) ss

keys-put : (x : ShardInfo) (ss : List ShardInfo) → keys (put shard_below x ss) ≡ put key_below x.key (keys ss)
unfolding put
keys-put x [] = refl
keys-put x (y ∷ ys) = go (key_below x.key y.key) (key_below y.key x.key) (keys-put x ys)
  where
    go : (a b : Bool) → keys (put shard_below x ys) ≡ put key_below x.key (keys ys)
        → keys (cond a (x ∷ y ∷ ys) (cond b (y ∷ put shard_below x ys) (x ∷ ys)))
        ≡ cond a (x.key ∷ y.key ∷ keys ys) (cond b (y.key ∷ put key_below x.key (keys ys)) (x.key ∷ keys ys))
    go true b e = refl
    go false true e = ap (λ (l : List Key). y.key ∷ l) e
    go false false e = refl

module _ (ns : List NodeInfo) (name : Name) where
  same : (n : ℕ) (l k : List ℕ) (ss tt : List ShardInfo) → keys ss ≡ keys tt
      → keys (put shard_below (new_shard ns name n l) ss) ≡ keys (put shard_below (new_shard ns name n k) tt)
  unfolding new_shard
  same n l k ss tt e =
      keys-put (new_shard ns name n l) ss
      ∙ ap (put key_below (record { collection = name; shard = n })) e
      ∙ sym (keys-put (new_shard ns name n k) tt)

  -- of as many lists as many shards, with the same keys
  keys_with : (ss tt : List ShardInfo) (n : ℕ) (p q : Placement) → keys ss ≡ keys tt → length p ≡ length q
      → keys (with_shards ss ns name n p) ≡ keys (with_shards tt ns name n q)
  unfolding with_shards
  keys_with ss tt n [] [] e h = e
  keys_with ss tt n [] (k ∷ ks) e h = absurd (omega arith)
  keys_with ss tt n (l ∷ ls) [] e h = absurd (omega arith)
  keys_with ss tt n (l ∷ ls) (k ∷ ks) e h =
      keys_with (put shard_below (new_shard ns name n l) ss) (put shard_below (new_shard ns name n k) tt) (suc n) ls ks (same n l k ss tt e) (omega arith)

pub room-same : (m : Map) (name : Name) (p q : Placement) → length p ≡ length q → create_room m name p ≡ create_room m name q
unfolding create_room created_shards
room-same m name p q h = ap (λ (n : ℕ). ltb (length m.collections) max_collections and leb n max_shards) lengths
  where
    lengths : length (with_shards m.shards m.nodes name 0 p) ≡ length (with_shards m.shards m.nodes name 0 q)
    lengths =
        sym (length-map (with_shards m.shards m.nodes name 0 p) (λ (s : ShardInfo). s.key))
        ∙ ap (λ (l : List Key). length l) (keys_with m.nodes name m.shards m.shards 0 p q refl h)
        ∙ length-map (with_shards m.shards m.nodes name 0 q) (λ (s : ShardInfo). s.key)

pub room_for_lem : (m : Map) (name : Name) (p : Placement) → create_room m name p ≡ room_for m name (length p)
unfolding room_for
room_for_lem m name p = room-same m name p (replicate (length p) []) (sym (length-replicate (length p) []))
