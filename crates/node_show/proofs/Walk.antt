-- Laws of the walk over a map's shards, one for each turn of the loop and each way out. Assumes nothing.
use mathlib.Core.Path.{◌≡◌, refl, sym, ap, ◌∙◌, subst}
use mathlib.Core.Bool.{Bool, true, false, cond}
use mathlib.Core.List.{List, [], ◌∷◌, ◌++◌, map, append_assoc}
use mathlib.Core.Option.{Option, none, some}
use Prim.Native.Nat.{ℕ, ◌+◌, ◌<◌, ◌≤◌}
use native.Mathlib.Omega.{arith}
use lib.Dec.{leb, ltb}
use lib.ListN.{length, take, drop, get_or, set, length-map, length-append}
use lib.Seq.{length-take-le, get_or-set_same, get_or-set_other}
use borrow.Author.Tests.{lt-ltb, ltb-true, ltb-false, leb-true, eqb-true, eqb-false}
use lib.Dec.{eqb}
use Rattle.spec.specs.Lists.{◌and◌, ◌or◌, any, rising}
use Rattle.spec.specs.Limits.{max_held}
use Rattle.spec.specs.Keys.{Key, key_below}
use Rattle.spec.specs.Map.Tables as tables
use Rattle.spec.specs.Node.Shown as show
use Rattle.spec.specs.Map.Create.{shard_below}
use Rattle.spec_laws.proofs.Lists.{not_both, and_left, and_right}
use Rattle.node_shard.proofs.Loops.{used-next, used_over, take_put}
use Rattle.map_tables.specs.declared.ShardRow.{ShardRow}
use Rattle.map_tables.specs.declared.Shards.{Shards}
use Rattle.map_tables.specs.declared.ShardMap.{ShardMap}
use Rattle.std.specs.Prelude.{None}
use Rattle.map_tables.specs.Counted.{Sized, row_counted, ShardsCounted}
use Rattle.map_tables.proofs.Tables.{every-at}
use Rattle.map_tables.specs.declared.Collections.{Collections}
use Rattle.map_tables.specs.Names.{view_key}
use Rattle.map_tables.specs.View.{view_shard, view_collections, view_map}
use Rattle.node_header.specs.declared.Node.{Node}
use Rattle.node_header.specs.View.{Stores, view_node}
use Rattle.node_header.specs.Formed.{held_row_below}
use Rattle.node_header.proofs.Lists.{by_case}
use Rattle.node_show.specs.Rows.{Taken, view_taken, held_row_of, SlotFrom, listed_shown, Overworks}
use Rattle.node_show.specs.Walks.{Walks}
use Rattle.node_show_slots.proofs.Slots.{or_right}
use Rattle.node_show_slots.proofs.Keys.{rising_less}

-- ---- lists

map-append : {A B : Type 0} (f : A → B) (l m : List A) → map f (l ++ m) ≡ map f l ++ map f m
map-append f [] m = refl
map-append {B = B} f (x ∷ xs) m = ap (λ (l : List B). f x ∷ l) (map-append f xs m)

append-nil : {A : Type 0} (l : List A) → l ++ [] ≡ l
append-nil [] = refl
append-nil {A} (x ∷ xs) = ap (λ (l : List A). x ∷ l) (append-nil xs)

any_append : {A : Type 0} (p : A → Bool) (l m : List A) → any p (l ++ m) ≡ cond (any p l) true (any p m)
unfolding any
any_append p [] m = refl
any_append p (x ∷ xs) m = go (p x) (any_append p xs m)
  where
    go : (b : Bool) → any p (xs ++ m) ≡ cond (any p xs) true (any p m) → cond b true (any p (xs ++ m)) ≡ cond (cond b true (any p xs)) true (any p m)
    go true e = refl
    go false e = e

-- one row more, of a table read as something else
grown : {A B : Type 0} (f : A → B) (xs : List A) (n : ℕ) (x : A) (m : List B) → n < length xs
    → map f (take (n + 1) (set xs n x)) ++ m ≡ map f (take n xs) ++ (f x ∷ m)
grown {A} {B} f xs n x m h =
    ap (λ (l : List A). map f l ++ m) (take_put xs n x h)
    ∙ ap (λ (l : List B). l ++ m) (map-append f (take n xs) (x ∷ []))
    ∙ append_assoc (map f (take n xs)) (f x ∷ []) m

-- ---- the walk

abbrev pub taken_key : Taken → Key
taken_key x = view_key x.kept.key

abbrev pub row_key : ShardRow → Key
row_key r = view_key r.key

-- the definition's list is what is taken, and that of the rows to come
pub record Walking (n : Node) (rows : List ShardRow) (total : ℕ) (t : Collections) (out : List Taken) (count i : ℕ) : Type 0 where
  pub same : (s : Stores) (m : tables.Map) → m.collections ≡ view_collections t
      → show.showings (view_node s n) m (map view_shard (take total rows))
      ≡ map (view_taken s) (take count out) ++ show.showings (view_node s n) m (map view_shard (drop i (take total rows)))
  pub fits : (s : Stores) → any show.overworked (map (view_taken s) (take count out)) ≡ false
  pub slots : (j : ℕ) (d : Taken) → j < count → SlotFrom n (get_or out j d).kept
  pub rise : rising key_below (map row_key (take total rows)) ≡ true
      → rising key_below (map taken_key (take count out) ++ map row_key (drop i (take total rows))) ≡ true

pub walk_start : (n : Node) (rows : List ShardRow) (total : ℕ) (t : Collections) (out : List Taken) → Walking n rows total t out 0 0
unfolding any
walk_start n rows total t out =
    record { same = λ s m e. refl; fits = λ s. refl; slots = λ j d h. absurd (omega arith); rise = λ e. e }

module _ (n : Node) (rows : List ShardRow) (total : ℕ) (t : Collections) (out : List Taken) (count i : ℕ) (w : Walking n rows total t out count i)
    (le : total ≤ length rows) where
  -- the definition's answer for the row i
  abbrev shown : Stores → tables.Map → ShardRow → Option show.Showing
  shown s m row = show.show_shard (view_node s n) m (view_shard row)

  module _ (h : i < total) (d : ShardRow) where
    abbrev row : ShardRow
    row = get_or rows i d

    abbrev rest : List ShardRow
    rest = drop (i + 1) (take total rows)

    opened : (s : Stores) (m : tables.Map) → m.collections ≡ view_collections t
        → show.showings (view_node s n) m (map view_shard (take total rows))
        ≡ map (view_taken s) (take count out) ++ show.or_not (shown s m row) (show.showings (view_node s n) m (map view_shard rest))
    unfolding show.showings
    opened s m e =
        w.same s m e
        ∙ ap (λ (l : List ShardRow). map (view_taken s) (take count out) ++ show.showings (view_node s n) m (map view_shard l)) (used-next rows total i d le h)

    opened-keys : rising key_below (map row_key (take total rows)) ≡ true
        → rising key_below (map taken_key (take count out) ++ (row_key row ∷ map row_key rest)) ≡ true
    opened-keys e =
        subst (λ (l : List ShardRow). rising key_below (map taken_key (take count out) ++ map row_key l) ≡ true) (used-next rows total i d le h) (w.rise e)

    -- the row's shard is not held after
    pub walk_skip : ((s : Stores) (m : tables.Map) → m.collections ≡ view_collections t → shown s m row ≡ none) → Walking n rows total t out count (i + 1)
    walk_skip f = record {
      same = λ s m e.
          opened s m e
          ∙ ap (λ (o : Option show.Showing). map (view_taken s) (take count out) ++ show.or_not o (show.showings (view_node s n) m (map view_shard rest))) (f s m e);
      fits = w.fits;
      slots = w.slots;
      rise = λ e. rising_less (map taken_key (take count out)) (row_key row) (map row_key rest) (opened-keys e);
    }

    -- it is taken
    pub walk_take : count < length out → (x : Taken)
        → ((s : Stores) (m : tables.Map) → m.collections ≡ view_collections t → shown s m row ≡ some (view_taken s x))
        → ((s : Stores) → show.overworked (view_taken s x) ≡ false) → SlotFrom n x.kept → taken_key x ≡ row_key row
        → Walking n rows total t (set out count x) (count + 1) (i + 1)
    walk_take room x f few from key = record {
      same = λ s m e.
          let more = show.showings (view_node s n) m (map view_shard rest) in
          opened s m e
          ∙ ap (λ (o : Option show.Showing). map (view_taken s) (take count out) ++ show.or_not o more) (f s m e)
          ∙ sym (grown (view_taken s) out count x more room);
      fits = λ s.
          ap (any show.overworked) (sym (append-nil (map (view_taken s) (take (count + 1) (set out count x)))) ∙ grown (view_taken s) out count x [] room)
          ∙ any_append show.overworked (map (view_taken s) (take count out)) (view_taken s x ∷ [])
          ∙ ap (λ (b : Bool). cond b true (any show.overworked (view_taken s x ∷ []))) (w.fits s)
          ∙ (unfold any in ap (λ (b : Bool). cond b true false) (few s));
      slots = λ j e q.
          by_case (eqb count j)
          (λ a.
          let z = eqb-true count j a in
          subst (λ (k : ℕ). SlotFrom n (get_or (set out count x) k e).kept) z
          (subst (λ (y : Taken). SlotFrom n y.kept) (sym (get_or-set_same out count x e room)) from))
          (λ a.
          subst (λ (y : Taken). SlotFrom n y.kept) (sym (get_or-set_other out count j x e (λ z. eqb-false count j a (sym z))))
          (w.slots j e (below j count q (eqb-false count j a))));
      rise = λ e.
          subst (λ (l : List Key). rising key_below l ≡ true)
          (ap (λ (k : Key). map taken_key (take count out) ++ (k ∷ map row_key rest)) (sym key) ∙ sym (grown taken_key out count x (map row_key rest) room))
          (opened-keys e);
    }
      where
        below : (j c : ℕ) → j < c + 1 → (c ≡ j → ⊥) → j < c
        below j c q a = by_case (ltb j c) (λ z. let u = ltb-true j c z in omega arith) (λ z. absurd (a (let u = ltb-false j c z in omega arith)))

    -- a 33rd worker
    pub walk_over : ((s : Stores) (m : tables.Map) → m.collections ≡ view_collections t → Overworks (shown s m row))
        → (s : Stores) (m : tables.Map) → m.collections ≡ view_collections t
        → show.too_many (show.showings (view_node s n) m (map view_shard (take total rows))) ≡ true
    walk_over f s m e =
        let o = f s m e in
        let more = show.showings (view_node s n) m (map view_shard rest) in
        let l = map (view_taken s) (take count out) in
        ap show.too_many (opened s m e ∙ ap (λ (p : Option show.Showing). l ++ show.or_not p more) o.is)
        ∙ or_right (ltb max_held (length (l ++ (o.showing ∷ more)))) (any show.overworked (l ++ (o.showing ∷ more)))
        (any_append show.overworked l (o.showing ∷ more) ∙ later (any show.overworked l) (any show.overworked (o.showing ∷ more)) (unfold any in rw o.over))
      where
        later : (a b : Bool) → b ≡ true → cond a true b ≡ true
        later true b q = refl
        later false b q = q

    -- a ninth shard
    pub walk_ninth : count ≤ length out → 8 ≤ count → ((s : Stores) (m : tables.Map) → m.collections ≡ view_collections t → (x : show.Showing) × (shown s m row ≡ some x))
        → (s : Stores) (m : tables.Map) → m.collections ≡ view_collections t
        → show.too_many (show.showings (view_node s n) m (map view_shard (take total rows))) ≡ true
    unfolding ◌or◌
    walk_ninth room many f s m e =
        let o = f s m e in
        let more = show.showings (view_node s n) m (map view_shard rest) in
        let l = map (view_taken s) (take count out) in
        let a = length-append l (o.0 ∷ more) in
        let b = length-map (take count out) (view_taken s) in
        let c = length-take-le count out room in
        ap show.too_many (opened s m e ∙ ap (λ (p : Option show.Showing). l ++ show.or_not p more) o.1)
        ∙ rw (lt-ltb max_held (length (l ++ (o.0 ∷ more))) (omega arith))

  -- every row has been passed
  pub walk_end : total ≤ i → (s : Stores) (m : tables.Map) → m.collections ≡ view_collections t
      → show.showings (view_node s n) m (map view_shard (take total rows)) ≡ map (view_taken s) (take count out)
  unfolding show.showings
  walk_end h s m e =
      w.same s m e
      ∙ ap (λ (l : List ShardRow). map (view_taken s) (take count out) ++ show.showings (view_node s n) m (map view_shard l)) (used_over rows total i le h)
      ∙ append-nil (map (view_taken s) (take count out))

  pub keys-end : total ≤ i → rising key_below (map row_key (take total rows)) ≡ true → rising key_below (map taken_key (take count out)) ≡ true
  keys-end h e =
      subst (λ (l : List Key). rising key_below l ≡ true)
      (ap (λ (l : List ShardRow). map taken_key (take count out) ++ map row_key l) (used_over rows total i le h) ∙ append-nil (map taken_key (take count out)))
      (w.rise e)

-- the definition's answer for a row, by whether it lists this node
module _ (s : Stores) (n : Node) (m : tables.Map) (row : ShardRow) where
  pub unlisted : any (show.listed_as n.id.0 n.incarnation) (view_shard row).replicas ≡ false → show.show_shard (view_node s n) m (view_shard row) ≡ none
  unfolding show.show_shard
  unlisted e = rw e

  pub listed : any (show.listed_as n.id.0 n.incarnation) (view_shard row).replicas ≡ true
      → show.show_shard (view_node s n) m (view_shard row) ≡ listed_shown s n m row
  unfolding show.show_shard
  listed e = rw e

-- ---- what the walk promises

abbrev pub no_row : ShardRow
no_row = record {
  key = record { collection = record { bytes = []; len = 0 }; shard = 0 };
  replicas = record { items = []; count = 0 };
  primary = None;
  insync = record { items = []; count = 0 };
  epoch = record { 0 = 0 };
}

-- a row in use is within its arrays
pub sized-at : (t : Shards) → ShardsCounted t → t.count ≤ length t.items → (i : ℕ) → i < t.count → (d : ShardRow) → Sized (get_or t.items i d)
sized-at t c le i h d =
    let r = get_or t.items i d in
    let e = every-at row_counted t.items t.count i d le c.rows h in
    record {
      held = leb-true r.replicas.count 8 (and_left (leb r.replicas.count 8) (leb r.insync.count 8) e);
      synced = leb-true r.insync.count 8 (and_right (leb r.replicas.count 8) (leb r.insync.count 8) e);
    }

pub rising-keys : {A B : Type 0} (f : A → B) (lt : B → B → Bool) (g : A → Key) → ((x y : A) → lt (f x) (f y) ≡ key_below (g x) (g y)) → (l : List A)
    → rising lt (map f l) ≡ rising key_below (map g l)
unfolding rising
rising-keys f lt g same [] = refl
rising-keys f lt g same (x ∷ []) = refl
rising-keys f lt g same (x ∷ y ∷ ys) =
    ap (λ (b : Bool). b and rising lt (f y ∷ map f ys)) (same x y)
    ∙ ap (λ (b : Bool). key_below (g x) (g y) and b) (rising-keys f lt g same (y ∷ ys))

module _ (n : Node) (m : ShardMap) (out : List Taken) (count i : ℕ)
    (w : Walking n m.shards.items m.shards.count m.collections out count i) (few : count ≤ 8) (long : count ≤ length out) where
  pub walks_full : ((s : Stores) (k : tables.Map) → k.collections ≡ view_collections m.collections
      → show.too_many (show.showings (view_node s n) k (map view_shard (take m.shards.count m.shards.items))) ≡ true)
      → Walks n m (record { full = true; items = out; count = count })
  walks_full f = record {
    few = few;
    long = long;
    over = λ q s. f s (view_map m) refl;
    same = λ q. not_both true refl q;
    fits = λ q. not_both true refl q;
    rise = λ q. not_both true refl q;
    slots = λ j d. w.slots j d;
  }

  pub walks_whole : m.shards.count ≤ length m.shards.items → m.shards.count ≤ i → Walks n m (record { full = false; items = out; count = count })
  walks_whole le h = record {
    few = few;
    long = long;
    over = λ q. not_both false q refl;
    same = λ q s. walk_end n m.shards.items m.shards.count m.collections out count i w le h s (view_map m) refl;
    fits = λ q. w.fits;
    rise = λ q e.
        rising-keys held_row_of held_row_below taken_key (λ x y. refl) (take count out)
        ∙ keys-end n m.shards.items m.shards.count m.collections out count i w le h
        (sym (rising-keys view_shard shard_below row_key (λ x y. refl) (take m.shards.count m.shards.items)) ∙ e);
    slots = λ j d. w.slots j d;
  }
