-- How long the table of shards is once those of a new collection are put in: by one for each of its keys that no shard has. Assumes nothing.
use Prim.Native.Nat.{ℕ, zero, suc, ◌+◌, ◌-◌, ◌≤◌, ◌<◌}
use mathlib.Core.Path.{◌≡◌, refl, sym, ap, subst, ◌∙◌}
use mathlib.Core.Bool.{Bool, true, false, cond}
use mathlib.Core.List.{List, [], ◌∷◌, map}
use native.Mathlib.Numerals.{add-one}
use native.Mathlib.Omega.{arith}
use lib.ListN.{length}
use lib.Dec.{leb}
use borrow.Author.Tests.{lt-ltb}
use Rattle.spec.specs.Keys.{Name, Key, key_below, same_key}
use Rattle.spec.specs.Limits.{max_collections}
use Rattle.spec.specs.Lists.{◌and◌, any, put, rising}
use Rattle.spec.specs.Map.Apply.{is_shard}
use Rattle.spec.specs.Map.Create.{Placement, new_shard, shard_below, with_shards, created_shards, create_room}
use Rattle.spec.specs.Layout.Format.{number_at}
use Rattle.spec.specs.Map.Tables.{NodeInfo, ShardInfo}
use Rattle.spec_laws.proofs.Lists.{by-test, not_both}
use Rattle.spec_laws.proofs.Rising.{ByKey, rising_tail, rising-head, put-rising}
use Rattle.spec_laws.proofs.Map.Orders.{keys, same_key_lem, key-same, shards_by_key}
use Rattle.spec_laws.proofs.Map.Sets.{any_put_other}
use Rattle.map_tables.specs.Find.{first_at}
use Rattle.map_tables.specs.Names.{view_key}
use Rattle.map_tables.specs.View.{view_shard, view_shards}
use Rattle.map_tables.specs.declared.ShardKey.{ShardKey}
use Rattle.map_tables.specs.declared.ShardRow.{ShardRow}
use Rattle.map_tables.proofs.Tables.{any_at, any_none}
use Rattle.map_create.proofs.Create.{collections-full}
use Rattle.image_map_row.specs.Rows.{shard_at}
use Rattle.image_map.specs.Image.{no_shard, shards_at}
use Rattle.image_map_put.specs.Few.{Few}
use Rattle.image_map_put.specs.Rows.{read_as}
use Rattle.image_map_put.proofs.Tidy.{rows-used}
use Rattle.image_map_put.proofs.Whole.{collections_long, shards_long}
use Rattle.image_map_create.specs.Absent.{absent}

-- ---- a row put into a rising table

module _ {A : Type 0} (lt : A → A → Bool) (order : ByKey lt) (strict : (a b : A) → lt a b ≡ true → lt b a ≡ false) (p : A → Bool) (x : A)
    (level : (y : A) → p y ≡ true → (lt x y ≡ false) × (lt y x ≡ false)) (passes : (y : A) → lt x y ≡ false → lt y x ≡ false → p y ≡ true) where
  -- no row above is level
  none_above : (y : A) (ys : List A) → lt x y ≡ true → rising lt (y ∷ ys) ≡ true → any p (y ∷ ys) ≡ false
  unfolding any
  none_above y [] h r = by-test (λ (v : Bool). v ≡ false) (p y) (λ e. not_both (lt x y) h (level y e).0) (λ e. refl)
  none_above y (z ∷ zs) h r =
      let more = none_above z zs (order.through x y z h (rising-head lt order y (z ∷ zs) r)) (rising_tail lt order y (z ∷ zs) r) in
      by-test (λ (v : Bool). v ≡ false) (p y) (λ e. not_both (lt x y) h (level y e).0) (λ e. more)

  pub put_long : (l : List A) → rising lt l ≡ true → length (put lt x l) ≡ cond (any p l) (length l) (suc (length l))
  unfolding put any
  put_long [] h = refl
  put_long (y ∷ ys) h = go (lt x y) (lt y x) (p y) refl refl refl (put_long ys (rising_tail lt order y ys h))
    where
      go : (b c d : Bool) → lt x y ≡ b → lt y x ≡ c → p y ≡ d → length (put lt x ys) ≡ cond (any p ys) (length ys) (suc (length ys))
          → length (cond b (x ∷ y ∷ ys) (cond c (y ∷ put lt x ys) (x ∷ ys))) ≡ cond (any p (y ∷ ys)) (suc (length ys)) (suc (suc (length ys)))
      go true c d e f g more = rw (none_above y ys e h)
      go false true true e f g more = not_both (lt y x) f (level y g).1
      go false true false e f g more =
          rw g (ap suc more ∙ by-test (λ (v : ℕ). suc v ≡ cond (any p ys) (suc (length ys)) (suc (suc (length ys)))) (any p ys) (λ q. rw q) (λ q. rw q))
      go false false d e f g more = rw (passes y e f)

-- ---- shards

not_below : (k : Key) → key_below k k ≡ false
not_below k = go (key_below k k) refl
  where
    go : (b : Bool) → key_below k k ≡ b → key_below k k ≡ false
    go true e = keys.apart k k e
    go false e = e

module _ (x : ShardInfo) where
  level-key : (y : ShardInfo) → is_shard x.key y ≡ true → (shard_below x y ≡ false) × (shard_below y x ≡ false)
  level-key y e =
      let q = same_key_lem y.key x.key e in
      let n = not_below x.key in
      (subst (λ (k : Key). key_below x.key k ≡ false) (sym q) n, subst (λ (k : Key). key_below k x.key ≡ false) (sym q) n)

  key-level : (y : ShardInfo) → shard_below x y ≡ false → shard_below y x ≡ false → is_shard x.key y ≡ true
  key-level y e f = subst (λ (k : Key). same_key y.key k ≡ true) (sym (keys.level x.key y.key e f)) (key-same y.key)

  shard_long : (l : List ShardInfo) → rising shard_below l ≡ true → length (put shard_below x l) ≡ cond (any (is_shard x.key) l) (length l) (suc (length l))
  shard_long l h = put_long shard_below shards_by_key (λ a b. keys.apart a.key b.key) (is_shard x.key) x level-key key-level l h

  -- another key is there as before
  other_key_lem : (k : Key) → (x.key ≡ k → ⊥) → (l : List ShardInfo) → any (is_shard k) (put shard_below x l) ≡ any (is_shard k) l
  other_key_lem k ne l =
      let off : same_key x.key k ≡ false = go (same_key x.key k) refl in
      any_put_other shard_below (is_shard k) x l off (λ y e f. subst (λ (j : Key). same_key j k ≡ false) (keys.level x.key y.key e f) off)
    where
      go : (b : Bool) → same_key x.key k ≡ b → same_key x.key k ≡ false
      go true e = absurd (ne (same_key_lem x.key k e))
      go false e = e

module _ (name : Name) where
  abbrev key_of : ℕ → Key
  key_of i = record { collection = name; shard = i }

  absent-put : (x : ShardInfo) (k : ℕ) → x.key ≡ key_of k → (l : List ShardInfo) (i n : ℕ) → k < i → absent (put shard_below x l) name i n ≡ absent l name i n
  unfolding absent
  absent-put x k is l i zero h = refl
  absent-put x k is l i (suc n) h =
      let more = absent-put x k is l (suc i) n (omega arith) in
      let ne : x.key ≡ key_of i → ⊥ = λ e. let q : k ≡ i = ap (λ (j : Key). j.shard) (sym is ∙ e) in omega arith in
      rw (more, other_key_lem x (key_of i) ne l)

  pub with_long : (ns : List NodeInfo) (ss : List ShardInfo) (i : ℕ) (v : Placement) → rising shard_below ss ≡ true
      → length (with_shards ss ns name i v) ≡ length ss + absent ss name i (length v)
  unfolding with_shards absent new_shard
  with_long ns ss i [] h = omega arith
  with_long ns ss i (l ∷ ls) h =
      let x = new_shard ns name i l in
      let more = with_long ns (put shard_below x ss) (suc i) ls (put-rising shard_below shards_by_key x ss h) in
      let a = absent-put x i refl ss (suc i) (length ls) (omega arith) in
      let long = shard_long x ss h in
      more ∙ go (any (is_shard (key_of i)) ss) refl long a
    where
      go : (b : Bool) → any (is_shard (key_of i)) ss ≡ b
          → length (put shard_below (new_shard ns name i l) ss) ≡ cond (any (is_shard (key_of i)) ss) (length ss) (suc (length ss))
          → absent (put shard_below (new_shard ns name i l) ss) name (suc i) (length ls) ≡ absent ss name (suc i) (length ls)
          → length (put shard_below (new_shard ns name i l) ss) + absent (put shard_below (new_shard ns name i l) ss) name (suc i) (length ls)
          ≡ length ss + cond (any (is_shard (key_of i)) ss) (absent ss name (suc i) (length ls)) (suc (absent ss name (suc i) (length ls)))
      go true e long a = let z = rw e at long in rw (e, z, a)
      go false e long a = let z = rw e at long in rw (e, z, a) (omega arith)

  -- ---- the keys counted one after another

  module _ (ss : List ShardInfo) (n i free : ℕ) (h : i < n) (inv : free + absent ss name i (n - i) ≡ absent ss name 0 n) where
    open_absent : free + cond (any (is_shard (key_of i)) ss) (absent ss name (i + 1) (n - (i + 1))) (suc (absent ss name (i + 1) (n - (i + 1)))) ≡ absent ss name 0 n
    unfolding absent
    open_absent =
        let q : n - i ≡ suc (n - (i + 1)) = omega arith in
        let k : i + 1 ≡ suc i = add-one i in
        ap (λ (j : ℕ). free + cond (any (is_shard (key_of i)) ss) (absent ss name j (n - (i + 1))) (suc (absent ss name j (n - (i + 1))))) k
        ∙ ap (λ (j : ℕ). free + absent ss name i j) (sym q) ∙ inv

    pub absent-there : any (is_shard (key_of i)) ss ≡ true → free + absent ss name (i + 1) (n - (i + 1)) ≡ absent ss name 0 n
    absent-there e = rw e at open_absent

    pub absent-free : any (is_shard (key_of i)) ss ≡ false → free + 1 + absent ss name (i + 1) (n - (i + 1)) ≡ absent ss name 0 n
    absent-free e = let w = rw e at open_absent in omega arith

  pub absent-end : (ss : List ShardInfo) (n i free : ℕ) → n ≤ i → free + absent ss name i (n - i) ≡ absent ss name 0 n → free ≡ absent ss name 0 n
  unfolding absent
  absent-end ss n i free h inv = let q : n - i ≡ 0 = omega arith in let w = rw q at inv in omega arith

  pub absent-start : (ss : List ShardInfo) (n : ℕ) → 0 + absent ss name 0 (n - 0) ≡ absent ss name 0 n
  absent-start ss n = let q : n - 0 ≡ n = omega arith in ap (λ (k : ℕ). 0 + absent ss name 0 k) q ∙ omega arith

-- a key, by the place at which its shard was sought
module _ (s : List ℕ) (few : Few s) (key : ShardKey) (used place : ℕ) (counts : used ≡ number_at 8 s 24) (is : place ≡ first_at (is_shard (view_key key)) (view_shards (shards_at s))) where
  place_in : place ≡ first_at (is_shard (view_key key)) (read_as s).shards
  place_in = is ∙ ap (λ (l : List ShardRow). first_at (is_shard (view_key key)) (map view_shard l)) (rows-used (number_at 8 s 24) (shard_at s) 272 4008 no_shard 64 few.shards)

  pub key-absent : used ≤ place → any (is_shard (view_key key)) (read_as s).shards ≡ false
  key-absent h = let n = shards_long s few in let q = place_in in any_none (is_shard (view_key key)) (read_as s).shards (omega arith)

  pub key-there : place < used → any (is_shard (view_key key)) (read_as s).shards ≡ true
  key-there h = let n = shards_long s few in let q = place_in in any_at (is_shard (view_key key)) (read_as s).shards (omega arith)

-- ---- 23

module _ (s : List ℕ) (few : Few s) (name : Name) (rises : rising shard_below (read_as s).shards ≡ true) (lists : ℕ) where
  created_long : (p : Placement) → length p ≡ lists → length (created_shards (read_as s) name p) ≡ length (read_as s).shards + absent (read_as s).shards name 0 lists
  unfolding created_shards
  created_long p e = with_long name (read_as s).nodes (read_as s).shards 0 p rises ∙ ap (λ (n : ℕ). length (read_as s).shards + absent (read_as s).shards name 0 n) e

  pub room-none : 16 ≤ number_at 8 s 16 → (p : Placement) → length p ≡ lists → false ≡ create_room (read_as s) name p
  room-none h p e = let n = collections_long s few in sym (collections-full (read_as s) name p (omega arith))

  pub room-is : number_at 8 s 16 < 16 → (shards free : ℕ) → shards ≡ number_at 8 s 24 → free ≡ absent (read_as s).shards name 0 lists → (p : Placement) → length p ≡ lists
      → leb (shards + free) 64 ≡ create_room (read_as s) name p
  unfolding create_room ◌and◌
  room-is h shards free f g p e =
      let n = collections_long s few in
      let q : shards + free ≡ length (created_shards (read_as s) name p) = let l = shards_long s few in let c = created_long p e in omega arith in
      ap (λ (k : ℕ). leb k 64) q ∙ sym (rw (lt-ltb (length (read_as s).collections) max_collections (omega arith)))
