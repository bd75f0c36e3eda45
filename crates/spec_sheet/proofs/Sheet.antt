-- Paper 02, 2.4: laws of the load sheet. Its lines and the unknown add up to the total; it has a line for each row of the node table, in their
-- order; a record counts as often as it stands there; what follows a request that does not decode changes nothing; no count passes 512.
-- Assumes nothing.
use Prim.Native.Nat.{ℕ, ◌+◌, ◌*◌, ◌≤◌, ◌<◌}
use mathlib.Core.Path.{◌≡◌, refl, sym, ap, ◌∙◌}
use mathlib.Core.Bool.{Bool, true, false, cond, not}
use mathlib.Core.List.{List, [], ◌∷◌, ◌++◌, map, flatten}
use mathlib.Core.Option.{none}
use native.Mathlib.Omega.{arith}
use lib.ListN.{length, length-map}
use lib.Dec.{eqb, ltb}
use borrow.Author.Tests.{eqb-true, eqb-false, eq-eqb, ne_eqb, ltb-true}
use Rattle.spec.specs.Lists.{any, filter, every, rising}
use Rattle.spec.specs.Keys.{Name}
use Rattle.spec.specs.Layout.Format.{Bytes}
use Rattle.spec.specs.Layout.Request.{request_at}
use Rattle.spec.specs.Map.Tables.{NodeInfo, ShardInfo, Map, empty_map}
use Rattle.spec.specs.Map.Change.{is_on}
use Rattle.spec.specs.Map.Create.{is_node, new_shard}
use Rattle.spec.specs.Map.Apply.{node_below}
use Rattle.spec.specs.Map.Place.{on_node, replicas_of}
use Rattle.spec.specs.Map.WellFormed.{well_formed_map, shard_fits}
use Rattle.spec.specs.Map.Calls.{requests_in, end_in, map_after}
use Rattle.spec_sheet.specs.Sheet.{Loaded, Sheet, records_in, is_unknown, unknown_on, unknown_in, loaded_of, sheet_of, sheet_for}
use Rattle.spec.specs.declared.Replica.{Replica}
use Rattle.spec_laws.proofs.Map.Orders.{nodes_by_id}
use Rattle.spec_laws.proofs.Map.Rows.{every_tail, length-filter}
use Rattle.spec_laws.proofs.Map.Stream.{nothing_behind, turn_map, applied_in_parts}
use Rattle.spec_laws.proofs.Map.WellFormed.{map-parts, shard-parts}
use Rattle.spec_laws.proofs.Rising.{rising_tail, rising-head}

-- ---- sums over the node table

abbrev over_nodes : (ℕ → ℕ) → List NodeInfo → ℕ
over_nodes f [] = 0
over_nodes f (i ∷ is) = f i.node + over_nodes f is

over_none : (ns : List NodeInfo) → over_nodes (λ n. 0) ns ≡ 0
over_none [] = refl
over_none (i ∷ is) = omega (arith, over_none is)

over_both : (f g : ℕ → ℕ) (ns : List NodeInfo) → over_nodes (λ n. f n + g n) ns ≡ over_nodes f ns + over_nodes g ns
over_both f g [] = refl
over_both f g (i ∷ is) = omega (arith, over_both f g is)

-- ---- each record is counted on one line, or as unknown

abbrev one : Bool → ℕ
one true = 1
one false = 0

on-more : (n : ℕ) (r : Replica) (rs : List Replica) → on_node n (r ∷ rs) ≡ one (is_on n r) + on_node n rs
unfolding on_node filter
on-more n r rs = go (is_on n r)
  where
    go : (b : Bool) → length (cond b (r ∷ filter (is_on n) rs) (filter (is_on n) rs)) ≡ one b + length (filter (is_on n) rs)
    go true = omega arith
    go false = omega arith

over_on_more : (r : Replica) (rs : List Replica) (ns : List NodeInfo)
    → over_nodes (λ n. on_node n (r ∷ rs)) ns ≡ over_nodes (λ n. one (is_on n r)) ns + over_nodes (λ n. on_node n rs) ns
over_on_more r rs [] = refl
over_on_more r rs (i ∷ is) = omega (arith, on-more i.node r rs, over_on_more r rs is)

unknown_more : (ns : List NodeInfo) (r : Replica) (rs : List Replica) → unknown_on ns (r ∷ rs) ≡ one (is_unknown ns r) + unknown_on ns rs
unfolding unknown_on filter
unknown_more ns r rs = go (is_unknown ns r)
  where
    go : (b : Bool) → length (cond b (r ∷ filter (is_unknown ns) rs) (filter (is_unknown ns) rs)) ≡ one b + length (filter (is_unknown ns) rs)
    go true = omega arith
    go false = omega arith

-- the ids after one that is not below the record's are others
none_later : (r : Replica) (i : NodeInfo) (is : List NodeInfo) → rising node_below (i ∷ is) ≡ true → r.node.0 ≤ i.node
    → over_nodes (λ n. one (is_on n r)) is ≡ 0
none_later r i [] h l = refl
none_later r i (j ∷ is) h l =
    let k : i.node < j.node = ltb-true _ _ (rising-head node_below nodes_by_id i (j ∷ is) h) in
    let e : is_on j.node r ≡ false = ne_eqb r.node.0 j.node (λ (q : r.node.0 ≡ j.node). omega arith) in
    rw e (omega (arith, none_later r j is (rising_tail node_below nodes_by_id i (j ∷ is) h) (omega arith)))

known_or_not : (r : Replica) (ns : List NodeInfo) → rising node_below ns ≡ true → over_nodes (λ n. one (is_on n r)) ns + one (is_unknown ns r) ≡ 1
unfolding is_unknown any
known_or_not r [] h = refl
known_or_not r (i ∷ is) h = go (eqb i.node r.node.0) refl (known_or_not r is (rising_tail node_below nodes_by_id i is h))
  where
    go : (b : Bool) → eqb i.node r.node.0 ≡ b → over_nodes (λ n. one (is_on n r)) is + one (is_unknown is r) ≡ 1
        → one (is_on i.node r) + over_nodes (λ n. one (is_on n r)) is + one (not (cond b true (any (is_node r.node.0) is))) ≡ 1
    go true e w =
        let q : i.node ≡ r.node.0 = eqb-true i.node r.node.0 e in
        let p : is_on i.node r ≡ true = eq-eqb r.node.0 i.node (sym q) in
        rw p (omega (arith, none_later r i is h (omega arith)))
    go false e w =
        let p : is_on i.node r ≡ false = ne_eqb r.node.0 i.node (λ (q : r.node.0 ≡ i.node). eqb-false i.node r.node.0 e (sym q)) in
        rw p (omega (arith, w))

module _ (ns : List NodeInfo) (h : rising node_below ns ≡ true) where
  shard_adds : (rs : List Replica) → over_nodes (λ n. on_node n rs) ns + unknown_on ns rs ≡ length rs
  unfolding on_node unknown_on filter
  shard_adds [] = omega (arith, over_none ns)
  shard_adds (r ∷ rs) = omega (arith, over_on_more r rs ns, unknown_more ns r rs, known_or_not r ns h, shard_adds rs)

  all_add : (ss : List ShardInfo) → over_nodes (λ n. replicas_of n ss) ns + unknown_in ns ss ≡ records_in ss
  unfolding replicas_of unknown_in records_in
  all_add [] = omega (arith, over_none ns)
  all_add (s ∷ ss) =
      omega (arith, over_both (λ n. on_node n s.replicas) (λ n. replicas_of n ss) ns, shard_adds s.replicas, all_add ss)

-- ---- the sheet

-- what the lines come to together
unfoldable pub sum_of : List Loaded → ℕ
sum_of [] = 0
sum_of (l ∷ ls) = l.count + sum_of ls

sum_over : (ss : List ShardInfo) (ns : List NodeInfo) → sum_of (map (loaded_of ss) ns) ≡ over_nodes (λ n. replicas_of n ss) ns
unfolding sum_of
sum_over ss [] = refl
sum_over ss (i ∷ is) = ap (λ (k : ℕ). replicas_of i.node ss + k) (sum_over ss is)

-- 'The total must equal the count of replica records': the lines and the unknown come to it
pub adds_up : (m : Map) → well_formed_map m ≡ true → sum_of (sheet_of m).lines + (sheet_of m).unknown ≡ (sheet_of m).total
unfolding sheet_of
adds_up m w = omega (arith, sum_over m.shards m.nodes, all_add m.nodes (map-parts m w).0.1 m.shards)

-- 'one line a node by rising id', 'Dead nodes have their line too'
pub line_each : (m : Map) → map (λ (l : Loaded). l.node) (sheet_of m).lines ≡ map (λ (i : NodeInfo). i.node) m.nodes
unfolding sheet_of
line_each m = go m.nodes
  where
    go : (ns : List NodeInfo) → map (λ (l : Loaded). l.node) (map (loaded_of m.shards) ns) ≡ map (λ (i : NodeInfo). i.node) ns
    go [] = refl
    go (i ∷ is) = ap (λ (l : List ℕ). i.node ∷ l) (go is)

-- 'a node listed twice in a shard counting twice': a created shard has a record for each place of its list
pub created-counts : (ns : List NodeInfo) (name : Name) (number : ℕ) (l : List ℕ) (ss : List ShardInfo)
    → records_in (new_shard ns name number l ∷ ss) ≡ length l + records_in ss
unfolding records_in new_shard
created-counts ns name number l ss = simp length-map

-- 'takes its input as applymap does': what stands behind a request that does not decode changes nothing
pub sheet-ends : (s t : List ℕ) → Bytes (s ++ t) → request_at (s ++ t) (end_in s) ≡ none → sheet_for (s ++ t) ≡ sheet_for s
unfolding sheet_for
sheet-ends s t b e = rw (nothing_behind s t b e).0

-- an input that comes in parts
pub sheet_in_parts : (ps : List (List ℕ)) → Bytes (flatten ps) → sheet_of (turn_map empty_map [] ps) ≡ sheet_for (flatten ps)
unfolding sheet_for
sheet_in_parts ps b = ap sheet_of (applied_in_parts ps b).1

-- ---- bounds

few_records : (ss : List ShardInfo) → every shard_fits ss ≡ true → records_in ss ≤ 8 * length ss
unfolding records_in
few_records [] e = omega arith
few_records (s ∷ ss) e =
    let t = every_tail shard_fits s ss e in
    omega (arith, (shard-parts s t.0).1, few_records ss t.1)

pub total_bound : (m : Map) → well_formed_map m ≡ true → (sheet_of m).total ≤ 512
unfolding sheet_of
total_bound m w = let f = (map-parts m w).2 in omega (arith, f.0, few_records m.shards f.2)

on-most : (n : ℕ) (ss : List ShardInfo) → replicas_of n ss ≤ records_in ss
unfolding replicas_of on_node records_in
on-most n [] = omega arith
on-most n (s ∷ ss) = omega (arith, length-filter (is_on n) s.replicas, on-most n ss)

pub count_bound : (m : Map) → well_formed_map m ≡ true → (n : ℕ) → replicas_of n m.shards ≤ 512
unfolding sheet_of
count_bound m w n = omega (arith, on-most n m.shards, total_bound m w)

pub unknown_bound : (m : Map) → well_formed_map m ≡ true → (sheet_of m).unknown ≤ 512
unknown_bound m w = omega (arith, adds_up m w, total_bound m w)
