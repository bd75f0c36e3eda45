-- Paper 01, 'The shard map', 'Bytes on the wire': names, shard keys, and their order. Definitions only.
use Rattle.std.specs.Prelude.{ℕ, Bool, true, false, cond, List, [], ◌∷◌, eqb, ltb}
use Rattle.spec.specs.Lists.{◌and◌, ◌or◌}

-- 'The shard map': a name or an address, as its bytes
abbrev pub Name : Type 0
Name = List ℕ

-- names by their bytes; of two that agree the shorter first (the source's order of strings)
unfoldable pub name_below : Name → Name → Bool
name_below [] [] = false
name_below [] (y ∷ ys) = true
name_below (x ∷ xs) [] = false
name_below (x ∷ xs) (y ∷ ys) = cond (ltb x y) true (cond (ltb y x) false (name_below xs ys))

-- 'The shard map': the same name, byte for byte
unfoldable pub same_name : Name → Name → Bool
same_name [] [] = true
same_name [] (y ∷ ys) = false
same_name (x ∷ xs) [] = false
same_name (x ∷ xs) (y ∷ ys) = eqb x y and same_name xs ys

-- 'Bytes on the wire', key: a collection's name, and the number of one of its shards (the source's ShardKey)
pub record Key : Type 0 where
  pub collection : Name
  pub shard : ℕ

-- the source's order of keys: by name, then by number
unfoldable pub key_below : Key → Key → Bool
key_below a b =
    name_below a.collection b.collection
    or (same_name a.collection b.collection and ltb a.shard b.shard)

-- 'Bytes on the wire', key: the same name and number
unfoldable pub same_key : Key → Key → Bool
same_key a b = same_name a.collection b.collection and eqb a.shard b.shard
