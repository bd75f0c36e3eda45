-- The steps of counting: a shard more, a node more. Assumes nothing.
use Prim.Native.Nat.{ℕ, suc, ◌+◌, ◌*◌, ◌≤◌, ◌<◌}
use mathlib.Core.Path.{◌≡◌, refl, sym, ap, subst, ◌∙◌}
use mathlib.Core.Bool.{Bool, true, false, cond, not}
use mathlib.Core.List.{List, [], ◌∷◌, ◌++◌, map, append-nil}
use mathlib.Core.Option.{Option, some}
use lib.Dec.{eqb, leb}
use lib.ListN.{length, take, drop, set, length-set}
use lib.Seq.{append_snoc}
use borrow.Author.Tests.{le-leb, ne_eqb}
use native.Mathlib.Omega.{arith}
use Rattle.spec.specs.Lists.{every, any, filter, collect}
use Rattle.spec.specs.Layout.Format.{number_at}
use Rattle.spec.specs.Map.Change.{is_on, holds}
use Rattle.spec.specs.Map.Tables.{NodeInfo}
use Rattle.spec.specs.Map.Place as place
use Rattle.spec.specs.Map.Place.{on_node, replicas_of, lightest, loads_of}
use Rattle.spec.specs.declared.Replica.{Replica}
use Rattle.spec_laws.proofs.Map.Rows.{every_cons, every_tail}
use Rattle.map_tables.specs.Counted.{ShardsCounted}
use Rattle.map_tables.specs.View.{view_node, view_nodes, view_shard, view_shards}
use Rattle.image_parts.specs.Parts.{replicas_at}
use Rattle.image_map_row.specs.Rows.{node_at, shard_at}
use Rattle.image_map.specs.Image.{nodes_at, shards_at, map_at}
use Rattle.image_map_check.proofs.RowLaws.{held-is, replicas-is}
use Rattle.map_place.specs.Read.{view_load, load_of, pairs, loads_in, Columns, Light, may_take, better}
use Rattle.map_place.specs.declared.Load.{Load}
use Rattle.map_place.proofs.Collecting.{map_add}
use Rattle.map_place.proofs.Pairs.{pairs_long, pairs_set, loads_size}
use Rattle.map_place.proofs.Choosing.{lightest_after, after_next, after-end}
use Rattle.image_map_loads.specs.Loads.{Live, free_in}
use Rattle.image_map_loads.proofs.Rows.{node-next, nodes-end, shard-next, shards-end}

-- ---- a shard more

row-replicas : (s : List ℕ) (at node : ℕ) → on_node node (view_shard (shard_at s at)).replicas ≡ on_node node (take (number_at 8 s (at + 64)) (replicas_at s (at + 80)))
row-replicas s at node =
    ap (λ (k : ℕ). on_node node (take k (shard_at s at).replicas.items)) (held-is s at)
    ∙ ap (λ (l : List Replica). on_node node (take (number_at 8 s (at + 64)) l)) (replicas-is s at)

module _ (s : List ℕ) (fit : ShardsCounted (shards_at s)) (node n i : ℕ)
    (inv : replicas_of node (view_shards (shards_at s)) ≡ n + replicas_of node (drop i (view_shards (shards_at s)))) where
  pub shard-more : (held k : ℕ) → i < number_at 8 s 24 → held ≡ number_at 8 s (4008 + 272 * i + 64)
      → k ≡ on_node node (take held (replicas_at s (4008 + 272 * i + 80)))
      → replicas_of node (view_shards (shards_at s)) ≡ n + k + replicas_of node (drop (i + 1) (view_shards (shards_at s)))
  unfolding replicas_of
  shard-more held k h e q =
      let more : replicas_of node (drop i (view_shards (shards_at s)))
      ≡ on_node node (view_shard (shard_at s (4008 + 272 * i))).replicas + replicas_of node (drop (i + 1) (view_shards (shards_at s))) =
      ap (replicas_of node) (shard-next s fit i h) in
      let own : k ≡ on_node node (view_shard (shard_at s (4008 + 272 * i))).replicas =
      q ∙ ap (λ (j : ℕ). on_node node (take j (replicas_at s (4008 + 272 * i + 80)))) e ∙ sym (row-replicas s (4008 + 272 * i) node) in
      omega arith

  pub shards-all : number_at 8 s 24 ≤ i → n ≡ replicas_of node (view_shards (shards_at s))
  unfolding replicas_of
  shards-all h =
      let none : replicas_of node (drop i (view_shards (shards_at s))) ≡ 0 = ap (replicas_of node) (shards-end s fit i h) in
      omega arith

-- ---- a node more

-- counted none of the replicas, it holds none
pub none-held : (n : ℕ) (rs : List Replica) → eqb (on_node n rs) 0 ≡ not (holds n rs)
unfolding on_node filter holds any
none-held n [] = refl
none-held n (r ∷ rs) = go (is_on n r) (none-held n rs)
  where
    go : (b : Bool) → eqb (length (filter (is_on n) rs)) 0 ≡ not (any (is_on n) rs)
        → eqb (length (cond b (r ∷ filter (is_on n) rs) (filter (is_on n) rs))) 0 ≡ not (cond b true (any (is_on n) rs))
    go true more = ne_eqb (suc (length (filter (is_on n) rs))) 0 (λ e. omega arith)
    go false more = more

pub node-id : (s : List ℕ) (at : ℕ) → (view_node (node_at s at)).node ≡ number_at 8 s at
unfolding node_at
node-id s at = refl

-- a node with its load
abbrev pub load_at : List ℕ → NodeInfo → place.Load
load_at s x = record { node = x.node; count = replicas_of x.node (view_shards (shards_at s)) }

-- the loads of the nodes that pass, from a place on
abbrev pub loads_from : List ℕ → (NodeInfo → Bool) → ℕ → List place.Load
loads_from s p i = collect p (load_at s) (drop i (view_nodes (nodes_at s)))

module _ (s : List ℕ) (i : ℕ) where
  abbrev pub there : NodeInfo
  there = view_node (node_at s (40 + 96 * i))

  pub load_is : (id k : ℕ) → id ≡ number_at 8 s (40 + 96 * i) → k ≡ replicas_of id (view_shards (shards_at s))
      → ◌≡◌ {A = place.Load} (record { node = id; count = k }) (load_at s there)
  load_is id k e q =
      let f : id ≡ there.node = e ∙ sym (node-id s (40 + 96 * i)) in
      ap (λ (j : ℕ). record { node = id; count = j }) q ∙ ap (λ (j : ℕ). record { node = j; count = replicas_of j (view_shards (shards_at s)) }) f

  module _ (few : number_at 8 s 8 ≤ 32) (p : NodeInfo → Bool) where
    loads_take : i < number_at 8 s 8 → p there ≡ true → loads_from s p i ≡ load_at s there ∷ loads_from s p (i + 1)
    unfolding collect
    loads_take h e = rw (node-next s few i h, e)

    loads_skip : i < number_at 8 s 8 → p there ≡ false → loads_from s p i ≡ loads_from s p (i + 1)
    unfolding collect
    loads_skip h e = rw (node-next s few i h, e)

    loads_none : number_at 8 s 8 ≤ i → loads_from s p i ≡ []
    unfolding collect
    loads_none h = rw (nodes-end s few i h)

-- ---- the live nodes, one after the other

abbrev alive : NodeInfo → Bool
alive x = x.alive

light_more : (l : List place.Load) (y : place.Load) → Light 512 l → y.count ≤ 512 → Light 512 (l ++ (y ∷ []))
unfolding every
light_more [] y h k = rw (le-leb y.count 512 k)
light_more (x ∷ xs) y h k =
    let t = every_tail (λ (z : place.Load). leb z.count 512) x xs h in
    every_cons (λ (z : place.Load). leb z.count 512) x (xs ++ (y ∷ [])) t.0 (light_more xs y t.1 k)

-- n loads stand in the arrays, and those of the nodes from place i on are still to come
pub record Filled (s ids counts : List ℕ) (n i : ℕ) : Type 0 where
  pub columns : Columns ids counts n
  pub light : Light 512 (loads_in ids counts n)
  pub rest : loads_in ids counts n ++ loads_from s alive i ≡ loads_from s alive 0

pub filled-start : (s ids counts : List ℕ) → length ids ≡ 32 → length counts ≡ 32 → Filled s ids counts 0 0
unfolding every
filled-start s ids counts e f = record { columns = record { named = e; counted = f; few = omega arith }; light = refl; rest = refl }

module _ (s ids counts : List ℕ) (n i : ℕ) (f : Filled s ids counts n i) (few : number_at 8 s 8 ≤ 32) where
  pub filled-skip : i < number_at 8 s 8 → (node_at s (40 + 96 * i)).alive ≡ false → Filled s ids counts n (i + 1)
  filled-skip h e = record {
    columns = f.columns;
    light = f.light;
    rest = ap (λ (l : List place.Load). loads_in ids counts n ++ l) (sym (loads_skip s i few alive h e)) ∙ f.rest;
  }

  pub filled-take : (x y : ℕ) → i < number_at 8 s 8 → (node_at s (40 + 96 * i)).alive ≡ true → n < 32 → view_load (load_of x y) ≡ load_at s (there s i) → y ≤ 512
      → Filled s (set ids n x) (set counts n y) (n + 1) (i + 1)
  filled-take x y h e room q k =
      let long = pairs_long ids counts (f.columns.named ∙ sym f.columns.counted) in
      let added : loads_in (set ids n x) (set counts n y) (n + 1) ≡ loads_in ids counts n ++ (view_load (load_of x y) ∷ []) =
      ap (λ (l : List Load). map view_load (take (n + 1) l)) (pairs_set ids counts n x y) ∙ map_add view_load (pairs ids counts) n (load_of x y) (omega (arith, f.columns.named)) in
      let next : (loads_in ids counts n ++ (view_load (load_of x y) ∷ [])) ++ loads_from s alive (i + 1) ≡ loads_in ids counts n ++ view_load (load_of x y) ∷ loads_from s alive (i + 1) =
      rw append_snoc in
      record {
        columns = record { named = simp length-set f.columns.named; counted = simp length-set f.columns.counted; few = omega arith };
        light = subst (Light 512) (sym added) (light_more (loads_in ids counts n) (view_load (load_of x y)) f.light k);
        rest = ap (λ (l : List place.Load). l ++ loads_from s alive (i + 1)) added ∙ next
            ∙ ap (λ (l : List place.Load). loads_in ids counts n ++ l)
            (ap (λ (z : place.Load). z ∷ loads_from s alive (i + 1)) q ∙ sym (loads_take s i few alive h e)) ∙ f.rest;
      }

  pub filled-end : number_at 8 s 8 ≤ i → Live s (record { ids = ids; counts = counts; count = n })
  unfolding loads_of map_at
  filled-end h = record {
    loads = sym (append-nil (loads_in ids counts n)) ∙ ap (λ (l : List place.Load). loads_in ids counts n ++ l) (sym (loads_none s i few alive h)) ∙ f.rest;
    size = loads_size ids counts n f.columns;
    count = f.columns.few;
    light = f.light;
  }

-- ---- the lightest of the nodes that may take a replica

module _ (s : List ℕ) (rs : List Replica) where
  -- the best so far, held against the nodes from a place on
  abbrev pub Held : Option place.Load → ℕ → Type 0
  Held o i = lightest (free_in s rs) ≡ lightest_after o (loads_from s (may_take rs) i)

  module _ (o : Option place.Load) (i : ℕ) (inv : Held o i) (few : number_at 8 s 8 ≤ 32) where
    pub held-skip : i < number_at 8 s 8 → may_take rs (there s i) ≡ false → Held o (i + 1)
    held-skip h e = inv ∙ ap (lightest_after o) (loads_skip s i few (may_take rs) h e)

    pub held-take : (y : place.Load) (b : Option place.Load) → i < number_at 8 s 8 → may_take rs (there s i) ≡ true → y ≡ load_at s (there s i)
        → b ≡ some (better o y) → Held b (i + 1)
    held-take y b h e q w =
        inv ∙ ap (lightest_after o) (loads_take s i few (may_take rs) h e ∙ ap (λ (z : place.Load). z ∷ loads_from s (may_take rs) (i + 1)) (sym q))
        ∙ after_next o y (loads_from s (may_take rs) (i + 1)) ∙ ap (λ (c : Option place.Load). lightest_after c (loads_from s (may_take rs) (i + 1))) (sym w)

    pub held-end : number_at 8 s 8 ≤ i → o ≡ lightest (free_in s rs)
    held-end h = sym (inv ∙ ap (lightest_after o) (loads_none s i few (may_take rs) h) ∙ after-end o)
