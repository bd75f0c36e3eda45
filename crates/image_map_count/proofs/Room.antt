-- How many shards there are after a Create: those whose keys were not there are new. Assumes nothing.
use Prim.Native.Nat.{ℕ, zero, suc, ◌+◌, ◌-◌, ◌≤◌, ◌<◌}
use mathlib.Core.Path.{◌≡◌, refl, sym, ap, ◌∙◌}
use mathlib.Core.Bool.{Bool, true, false, cond}
use mathlib.Core.List.{List, [], ◌∷◌}
use mathlib.Core.Option.{Option, none, some}
use native.Mathlib.Numerals.{add-one}
use native.Mathlib.Omega.{arith}
use lib.Dec.{eqb, leb, ltb}
use lib.ListN.{length, replicate, length-replicate}
use borrow.Author.Tests.{ne_eqb, le-ltb, lt-ltb}
use Rattle.spec.specs.Lists.{◌and◌, find, put, rising}
use Rattle.spec.specs.Keys.{Name, Key, key_below, same_name, same_key}
use Rattle.spec.specs.Limits.{max_collections, max_shards}
use Rattle.spec.specs.Map.Tables.{NodeInfo, ShardInfo, Map}
use Rattle.spec.specs.Map.Apply.{is_shard}
use Rattle.spec.specs.Map.Create.{Placement, shard_below, new_shard, with_shards, created_shards, create_room}
use Rattle.spec_laws.proofs.Lists.{not_both, none_some}
use Rattle.spec_laws.proofs.Map.Rows.{find_put_other, put-level}
use Rattle.spec_laws.proofs.Map.Orders.{keys, same_key_lem, key-same, shards_by_key}
use Rattle.spec_laws.proofs.Rising.{put-rising}
use Rattle.spec_count.specs.Closed.{room_for}

-- 1 for a key that no shard has
abbrev pub is_new : Option ShardInfo → ℕ
is_new none = 1
is_new (some s) = 0

abbrev pub key_of : Name → ℕ → Key
key_of name i = record { collection = name; shard = i }

-- how many of k keys from number i on are new
unfoldable pub new_from : List ShardInfo → Name → ℕ → ℕ → ℕ
new_from ss name i zero = 0
new_from ss name i (suc k) = is_new (find (is_shard (key_of name i)) ss) + new_from ss name (suc i) k

-- ---- one shard put in

own_key : (a : Key) → key_below a a ≡ false
own_key a = go (key_below a a) refl
  where
    go : (b : Bool) → key_below a a ≡ b → key_below a a ≡ false
    go true e = keys.apart a a e
    go false e = e

level-keys : (x z : ShardInfo) → same_key z.key x.key ≡ true → (shard_below x z ≡ false) × (shard_below z x ≡ false)
level-keys x z e =
    let q = same_key_lem z.key x.key e in
    (ap (key_below x.key) q ∙ own_key x.key, ap (λ (k : Key). key_below k x.key) q ∙ own_key x.key)

put-new : (x : ShardInfo) (ss : List ShardInfo) → find (is_shard x.key) ss ≡ none → length (put shard_below x ss) ≡ suc (length ss)
unfolding put find
put-new x [] = λ e. refl
put-new x (y ∷ ys) = go (is_shard x.key y) refl (key_below x.key y.key) refl (key_below y.key x.key) refl (put-new x ys)
  where
    go : (a : Bool) → is_shard x.key y ≡ a → (b : Bool) → key_below x.key y.key ≡ b → (c : Bool) → key_below y.key x.key ≡ c
        → (find (is_shard x.key) ys ≡ none → length (put shard_below x ys) ≡ suc (length ys))
        → cond a (some y) (find (is_shard x.key) ys) ≡ none
        → length (cond b (x ∷ y ∷ ys) (cond c (y ∷ put shard_below x ys) (x ∷ ys))) ≡ suc (suc (length ys))
    go true q b e c f more = λ n. none_some (sym n)
    go false q true e c f more = λ n. refl
    go false q false e true f more = λ n. ap suc (more n)
    go false q false e false f more =
        λ n. not_both (is_shard x.key y) (ap (λ (k : Key). same_key k x.key) (keys.level y.key x.key f e) ∙ key-same x.key) q

put-size : (x : ShardInfo) (ss : List ShardInfo) → rising shard_below ss ≡ true
    → length (put shard_below x ss) ≡ length ss + is_new (find (is_shard x.key) ss)
put-size x ss h = go (find (is_shard x.key) ss) refl
  where
    go : (o : Option ShardInfo) → find (is_shard x.key) ss ≡ o → length (put shard_below x ss) ≡ length ss + is_new o
    go none e = omega (arith, put-new x ss e)
    go (some y) e =
        omega (arith, put-level shard_below shards_by_key (λ a b q. keys.apart a.key b.key q) (is_shard x.key) x ss y (level-keys x) h e)

-- another key stands where it stood
other_key_lem : (k : Key) (x : ShardInfo) (ss : List ShardInfo) → same_key x.key k ≡ false → find (is_shard k) (put shard_below x ss) ≡ find (is_shard k) ss
other_key_lem k x ss h =
    find_put_other (is_shard k) shard_below x h
    (λ y e f. ap (λ (z : Key). same_key z k) (sym (keys.level x.key y.key e f)) ∙ h) ss

numbers_differ : (name : Name) (i j : ℕ) → i < j → same_key (key_of name i) (key_of name j) ≡ false
unfolding same_key ◌and◌
numbers_differ name i j h = go (same_name name name) (ne_eqb i j (λ e. omega arith))
  where
    go : (b : Bool) → eqb i j ≡ false → b and eqb i j ≡ false
    go true e = e
    go false e = refl

same_new : (x : ShardInfo) (ss : List ShardInfo) (name : Name) (i j k : ℕ) → x.key ≡ key_of name i → i < j
    → new_from (put shard_below x ss) name j k ≡ new_from ss name j k
unfolding new_from
same_new x ss name i j zero e h = refl
same_new x ss name i j (suc k) e h =
    let one = ap is_new (other_key_lem (key_of name j) x ss (ap (λ (z : Key). same_key z (key_of name j)) e ∙ numbers_differ name i j h)) in
    let rest = same_new x ss name i (suc j) k e (omega arith) in
    omega arith

-- ---- a list more

with_size : (ns : List NodeInfo) (name : Name) (ss : List ShardInfo) (i : ℕ) (p : Placement) → rising shard_below ss ≡ true
    → length (with_shards ss ns name i p) ≡ length ss + new_from ss name i (length p)
unfolding with_shards new_from new_shard
with_size ns name ss i [] h = omega arith
with_size ns name ss i (l ∷ ls) h =
    let x = new_shard ns name i l in
    let more = with_size ns name (put shard_below x ss) (suc i) ls (put-rising shard_below shards_by_key x ss h) in
    let one = put-size x ss h in
    let rest = same_new x ss name i (suc i) (length ls) refl (omega arith) in
    omega arith

module _ (m : Map) (name : Name) (n : ℕ) (rise : rising shard_below m.shards ≡ true) where
  abbrev after : ℕ
  after = length m.shards + new_from m.shards name 0 n

  room_as : room_for m name n ≡ ltb (length m.collections) max_collections and leb after max_shards
  unfolding room_for create_room created_shards
  room_as =
      ap (λ (k : ℕ). ltb (length m.collections) max_collections and leb k max_shards)
      (with_size m.nodes name m.shards 0 (replicate n []) rise ∙ ap (λ (k : ℕ). length m.shards + new_from m.shards name 0 k) (length-replicate n []))

  pub no_collection_left : max_collections ≤ length m.collections → false ≡ room_for m name n
  unfolding ◌and◌
  no_collection_left h = sym (room_as ∙ rw (le-ltb (length m.collections) max_collections h))

  pub room-left : length m.collections < max_collections → (total : ℕ) → total ≡ after → leb total max_shards ≡ room_for m name n
  unfolding ◌and◌
  room-left h total e = ap (λ (k : ℕ). leb k max_shards) e ∙ sym (room_as ∙ rw (lt-ltb (length m.collections) max_collections h))

-- ---- the loop

module _ (ss : List ShardInfo) (name : Name) (n i total whole : ℕ) (h : i < n) (inv : total + new_from ss name i (n - i) ≡ whole) where
  opened : new_from ss name i (n - i) ≡ is_new (find (is_shard (key_of name i)) ss) + new_from ss name (i + 1) (n - (i + 1))
  unfolding new_from
  opened = let q : n - i ≡ suc (n - (i + 1)) = omega arith in rw (q, add-one)

  pub key_counts : is_new (find (is_shard (key_of name i)) ss) ≡ 1 → (total + 1) + new_from ss name (i + 1) (n - (i + 1)) ≡ whole
  key_counts e = omega (arith, opened, e)

  pub key_stands : is_new (find (is_shard (key_of name i)) ss) ≡ 0 → total + new_from ss name (i + 1) (n - (i + 1)) ≡ whole
  key_stands e = omega (arith, opened, e)

pub keys-start : (ss : List ShardInfo) (name : Name) (n : ℕ) → new_from ss name 0 (n - 0) ≡ new_from ss name 0 n
keys-start ss name n = let q : n - 0 ≡ n = omega arith in rw q

pub keys-end : (ss : List ShardInfo) (name : Name) (n i total whole : ℕ) → n ≤ i → total + new_from ss name i (n - i) ≡ whole → total ≡ whole
unfolding new_from
keys-end ss name n i total whole h inv = let q : n - i ≡ 0 = omega arith in let z : new_from ss name i (n - i) ≡ 0 = rw q in omega arith
