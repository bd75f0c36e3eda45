-- The walk over a map's shards: what stands in the two buffers after each of them. Assumes nothing.
use Prim.Native.Nat.{ℕ, ◌+◌, ◌*◌, ◌≤◌, ◌<◌}
use mathlib.Core.Path.{◌≡◌, refl, sym, ap, subst, ◌∙◌}
use mathlib.Core.Bool.{Bool, true, false}
use mathlib.Core.List.{List, [], ◌∷◌, ◌++◌, map, append_assoc}
use native.Mathlib.Omega.{arith}
use lib.Dec.{eqb}
use lib.ListN.{length, take, drop, get_or, set, replicate, length-set, length-append}
use lib.Seq.{length-sets, sets-eq, length-take-le, take_at, get_or-set_same, get_or-set_other}
use borrow.Author.Tests.{eqb-true, eqb-false}
use Rattle.spec.specs.Lists.{any}
use Rattle.spec.specs.Layout.Format.{number_at}
use Rattle.spec.specs.Map.Tables as tables
use Rattle.spec.specs.Node.Shown as show
use Rattle.spec.specs.declared.Replica.{Replica}
use Rattle.spec_laws.proofs.Lists.{not_both}
use Rattle.node_shard.proofs.Loops.{take_put}
use Rattle.map_tables.specs.declared.ShardRow.{ShardRow}
use Rattle.map_tables.specs.Counted.{Sized, TablesCounted}
use Rattle.map_tables.specs.View.{view_holders, view_shard, view_collections, view_map}
use Rattle.node_header.specs.declared.Node.{Node}
use Rattle.node_header.specs.View.{Stores, view_node, no_held_row}
use Rattle.node_header.proofs.Lists.{by_case}
use Rattle.image_parts.specs.Shape.{Stored}
use Rattle.image_header_row.specs.Rows.{held_row_at}
use Rattle.image_header.specs.Image.{node_at}
use Rattle.image_header_begin.proofs.RowLaws.{row_before}
use Rattle.image_map_row.specs.Rows as rows
use Rattle.image_map.specs.Image.{collections_at, map_at}
use Rattle.node_show.specs.declared.Start.{Start}
use Rattle.node_show.specs.Rows.{Taken, view_start, start_of, listed_shown}
use Rattle.node_show.specs.Shows.{view_starts}
use Rattle.node_show.proofs.Walk.{Walking, walk_start, walk_over, walk_ninth, no_row, walks_full, walks_whole, listed}
use Rattle.image_show.proofs.MapRows.{shards-fit, shard-row, row_sized, turn_unlisted, turn_skip, turn_take}
use Rattle.calls_header.specs.Shows.{worker_bytes, start_bytes}
use Rattle.calls_header.proofs.Starts.{no_start}
use Rattle.calls_show_walk.specs.Rows.{Refused, ninth, worker, RowSkipped, RowTaken, RowsStand, RowsRefused}

-- ---- workers behind workers

starts-append : (a b : List Start) → view_starts (a ++ b) ≡ view_starts a ++ view_starts b
unfolding view_starts
starts-append [] b = refl
starts-append (x ∷ a) b =
    ap (λ (l : List show.Worker). view_start x ++ l) (starts-append a b) ∙ sym (append_assoc (view_start x) (view_starts a) (view_starts b))

bytes-append : (a b : List show.Worker) → start_bytes (a ++ b) ≡ start_bytes a ++ start_bytes b
bytes-append [] b = refl
bytes-append (w ∷ a) b =
    ap (λ (l : List ℕ). worker_bytes w ++ l) (bytes-append a b) ∙ sym (append_assoc (worker_bytes w) (start_bytes a) (start_bytes b))

map-append : {A B : Type 0} (f : A → B) (l m : List A) → map f (l ++ m) ≡ map f l ++ map f m
map-append f [] m = refl
map-append {B = B} f (x ∷ l) m = ap (λ (r : List B). f x ∷ r) (map-append f l m)

append-nil : {A : Type 0} (l : List A) → l ++ [] ≡ l
append-nil [] = refl
append-nil {A} (x ∷ l) = ap (λ (r : List A). x ∷ r) (append-nil l)

abbrev all : List Taken → ℕ → List show.Worker
all out count = view_starts (map start_of (take count out))

more : (out : List Taken) (count : ℕ) (x : Taken) → count < length out → all (set out count x) (count + 1) ≡ all out count ++ view_start x.start
more out count x h =
    ap (λ (l : List Taken). view_starts (map start_of l)) (take_put out count x h)
    ∙ ap view_starts (map-append start_of (take count out) (x ∷ []))
    ∙ starts-append (map start_of (take count out)) (x.start ∷ [])
    ∙ ap (λ (l : List show.Worker). all out count ++ l) (unfold view_starts in append-nil (view_start x.start))

-- what stands up to the end of a store
stored-take : {p q : List ℕ} {at : ℕ} {b : List ℕ} {n : ℕ} → Stored p q at b n → at + n ≤ length p → take (at + n) q ≡ take at p ++ b
stored-take {p} {q} {at} {b} {n} k room =
    let l = k.long in
    let e = length-take-le at p (omega arith) in
    let m = length-append (take at p) b in
    ap (take (at + n)) (k.image ∙ sets-eq b p at (omega arith)) ∙ take_at (take at p ++ b) (drop (at + length b) p) (at + n) (omega arith)

-- ---- the walk

-- a list of replicas looked through for this node
pub listed_by : (s : List ℕ) (id own : ℕ) → id ≡ number_at 8 s 0 → own ≡ number_at 8 s 8 → (l : List Replica) (b : Bool) → b ≡ any (show.listed_as id own) l
    → any (show.listed_as (node_at s).id.0 (node_at s).incarnation) l ≡ b
unfolding node_at
listed_by s id own i o l b e = sym (e ∙ ap (λ (x : ℕ). any (show.listed_as x own) l) i ∙ ap (λ (x : ℕ). any (show.listed_as (number_at 8 s 0) x) l) o)

abbrev no_taken : Taken
no_taken = record { kept = no_held_row; start = no_start }

-- the first i shards of the map s are passed: `count` rows stand in u, `many` workers in p
pub record Going (n : Node) (s u₀ p₀ u p : List ℕ) (count many i : ℕ) : Type 0 where
  pub out : List Taken
  pub long : length out ≡ 8
  pub few : count ≤ 8
  pub most : many ≤ 32 * count
  pub wide : length u ≡ length u₀
  pub reach : length p ≡ length p₀
  pub walking : Walking n (map_at s).shards.items (map_at s).shards.count (map_at s).collections out count i
  pub rows : (j : ℕ) (d : Taken) → j < count → held_row_at u (1280 * j) ≡ (get_or out j d).kept
  pub starts : take (54 * many) p ≡ start_bytes (view_starts (map start_of (take count out)))
  pub workers : many ≡ length (view_starts (map start_of (take count out)))

pub going_start : (n : Node) (s u p : List ℕ) → Going n s u p u p 0 0 0
unfolding view_starts
going_start n s u p = record {
  out = replicate 8 no_taken;
  long = refl;
  few = omega arith;
  most = omega arith;
  wide = refl;
  reach = refl;
  walking = walk_start n (map_at s).shards.items (map_at s).shards.count (map_at s).collections (replicate 8 no_taken);
  rows = λ j d h. absurd (omega arith);
  starts = refl;
  workers = refl;
}

module _ (n : Node) (s : List ℕ) (counted : TablesCounted (map_at s)) (u₀ p₀ u p : List ℕ) (count many i : ℕ) (g : Going n s u₀ p₀ u p count many i)
  where
    fits : (map_at s).shards.count ≤ length (map_at s).shards.items
    fits = shards-fit s counted.shards.count

    on : Walking n (map_at s).shards.items (map_at s).shards.count (map_at s).collections g.out count (i + 1) → Going n s u₀ p₀ u p count many (i + 1)
    on w = record {
      out = g.out;
      long = g.long;
      few = g.few;
      most = g.most;
      wide = g.wide;
      reach = g.reach;
      walking = w;
      rows = g.rows;
      starts = g.starts;
      workers = g.workers;
    }

    pub going_end : (map_at s).shards.count ≤ i → RowsStand n (map_at s) u p (record { count = count; workers = many })
    going_end h =
        let l = g.long in
        let f = g.few in
        let m = g.most in
        record {
          items = g.out;
          walks = walks_whole n (map_at s) g.out count i g.walking f (omega arith) fits h;
          rows = g.rows;
          starts = g.starts;
          workers = g.workers;
          most = omega arith;
        }

    module _ (h : i < (map_at s).shards.count) (row : ShardRow) (row_is : row ≡ rows.shard_at s (4008 + 272 * i)) where
      abbrev there : ShardRow
      there = get_or (map_at s).shards.items i no_row

      here : row ≡ there
      here = row_is ∙ sym (shard-row s counted.shards.count i no_row h)

      pub going_sized : Sized row
      going_sized = row_sized n s counted g.out count i g.walking h row row_is

      pub going_past : any (show.listed_as n.id.0 n.incarnation) (view_holders row.replicas) ≡ false → Going n s u₀ p₀ u p count many (i + 1)
      going_past e = on (turn_unlisted n s counted g.out count i g.walking h row row_is e)

      module _ (l : any (show.listed_as n.id.0 n.incarnation) (view_holders row.replicas) ≡ true) where
        on_list : (st : Stores) (m : tables.Map) → show.show_shard (view_node st n) m (view_shard there) ≡ listed_shown st n m there
        on_list st m =
            listed st n m there (ap (λ (x : ShardRow). any (show.listed_as n.id.0 n.incarnation) (view_holders x.replicas)) (sym here) ∙ l)

        -- the shard is not held after
        pub going_skip : (v q : List ℕ) → RowSkipped n (collections_at s) row u v p q → Going n s u₀ p₀ v q count many (i + 1)
        going_skip v q t =
            let same = t.same in
            subst (λ (x : List ℕ). Going n s u₀ p₀ x q count many (i + 1)) (sym same.0)
            (subst (λ (x : List ℕ). Going n s u₀ p₀ u x count many (i + 1)) (sym same.1)
            (on
            (turn_skip n s counted g.out count i g.walking h row row_is l (record { skip = true; full = false; taken = no_taken })
            (record {
              skips = λ a. t.skips;
              over = λ a. not_both true refl a;
              takes = λ a. not_both true refl a;
              slot = λ a. not_both true refl a;
              key = λ a. not_both true refl a;
            })
            refl)))

        refused : Refused n (map_at s).collections there count → (st : Stores) (k : tables.Map) → k.collections ≡ view_collections (map_at s).collections
            → show.too_many (show.showings (view_node st n) k (view_map (map_at s)).shards) ≡ true
        refused (ninth m f) =
            let a = g.few in
            let b = g.long in
            walk_ninth n (map_at s).shards.items (map_at s).shards.count (map_at s).collections g.out count i g.walking fits h no_row (omega arith) m
            (λ st k c. let z = f st k c in (z.0, on_list st k ∙ z.1))
        refused (worker f) =
            walk_over n (map_at s).shards.items (map_at s).shards.count (map_at s).collections g.out count i g.walking fits h no_row
            (λ st k c. let z = f st k c in record { showing = z.showing; is = on_list st k ∙ z.is; over = z.over })

        -- the map is refused
        pub going_full : Refused n (collections_at s) row count → RowsRefused n (map_at s) (record { count = count; workers = many })
        unfolding map_at
        going_full t =
            let a = g.few in
            let b = g.long in
            let c = g.most in
            record {
              items = g.out;
              walks = walks_full n (map_at s) g.out count i g.walking a (omega arith)
                  (refused (subst (λ (x : ShardRow). Refused n (collections_at s) x count) here t));
              most = omega arith;
            }

        -- the shard is taken
        pub going_take : 10240 ≤ length u₀ → 13824 ≤ length p₀ → (v q : List ℕ) (after : ℕ) → RowTaken n (collections_at s) row u v p q count many after
            → Going n s u₀ p₀ v q (count + 1) after (i + 1)
        going_take room space v q after k =
            let x = k.taken in
            let a = g.few in
            let b = g.long in
            let m = g.most in
            let c = k.room in
            let d = k.most in
            let nx = k.next in
            let wu = g.wide in
            let wp = g.reach in
            let grown = more g.out count x (omega arith) in
            let z : 54 * after ≡ 54 * many + 54 * length (view_start x.start) = omega arith in
            record {
              out = set g.out count x;
              long = length-set g.out count x ∙ b;
              few = omega arith;
              most = omega arith;
              wide = k.becomes.outside.long ∙ wu;
              reach = ap length k.stored.image ∙ length-sets p (54 * many) (start_bytes (view_start x.start)) ∙ wp;
              walking = turn_take n s counted g.out count i g.walking h row row_is l (record { skip = false; full = false; taken = x }) k.shows refl a b refl c;
              rows = λ j o lt.
                  by_case (eqb j count)
                  (λ y.
                  let w = eqb-true j count y in
                  subst (λ (i : ℕ). held_row_at v (1280 * i) ≡ (get_or (set g.out count x) i o).kept) (sym w)
                  (k.becomes.row ∙ sym (ap (λ (y : Taken). y.kept) (get_or-set_same g.out count x o (omega arith)))))
                  (λ y.
                  let w = eqb-false j count y in
                  let less : j < count = omega (arith, w) in
                  row_before u v (1280 * count) k.becomes.outside.front (1280 * j) (omega arith)
                  ∙ g.rows j o less ∙ ap (λ (y : Taken). y.kept) (sym (get_or-set_other g.out count j x o w)));
              starts = ap (λ (i : ℕ). take i q) z
                  ∙ stored-take k.stored (omega arith)
                  ∙ ap (λ (y : List ℕ). y ++ start_bytes (view_start x.start)) g.starts
                  ∙ sym (ap start_bytes grown ∙ bytes-append (all g.out count) (view_start x.start));
              workers = let o = g.workers in
                  nx ∙ ap (λ (i : ℕ). i + length (view_start x.start)) o
                  ∙ sym (ap length grown ∙ length-append (all g.out count) (view_start x.start));
            }
