-- A full answer of a shard: it is the first k of the shard's own hits, it is in order, no id is there twice, and every id is the shard's own.
-- Assumes nothing.
use mathlib.Core.Path.{◌≡◌, refl, sym, ap, ◌∙◌, subst}
use mathlib.Core.Bool.{Bool, true, false, not, cond}
use mathlib.Core.List.Permᴰ
use mathlib.Core.List.{List, [], ◌∷◌, ◌++◌, map}
use Prim.Native.Nat.{ℕ, suc, ◌≤◌, ◌<◌}
use native.Mathlib.Omega.{arith}
use borrow.Author.Tests.{ltb-true, ne_eqb}
use lib.Dec.{eqb, ltb}
use lib.Ieee.{Float}
use lib.ListN.{take, drop}
use Rattle.spec.specs.declared.Metric.{Metric}
use Rattle.spec.specs.declared.Neighbor.{Neighbor}
use Rattle.spec.specs.Lists.{◌and◌, every, any, rising}
use Rattle.spec.specs.Layout.ShardOf.{shard_of}
use Rattle.spec.specs.Log.{Vectors, vector_below}
use Rattle.spec.specs.Nearest.Search.{Vector, neighbor, nearer, insert, ordered}
use Rattle.spec.specs.Nearest.Search as nearest
use Rattle.spec_laws.proofs.Lists.{and_true, by-test}
use Rattle.spec_laws.proofs.Rising.{rising-head, rising_tail}
use Rattle.spec_laws.proofs.Log.Ids.{by-id}
use Rattle.spec_laws.proofs.Nearest.Search.{hits-first}
use Rattle.spec_laws.proofs.Nearest.Select.{Other, Absent, Distinct, distinct_perm}
use Rattle.spec_join.specs.Join.{Hit, Answer, hit, nearer_hit, in_order, apart, sound_answer, insert_hit, ordered_hits}
use Rattle.spec_join.specs.Collection.{full_answer}
use Rattle.spec_join.proofs.Order.{nearer-is}
use Rattle.spec_join.proofs.Ordered.{Behind, Rises, ordered-rises, rises-take}
use Rattle.spec_join.proofs.Lists.{every_perm, every-left, every_map, map-take}

-- ---- as hits
insert-hit : (x : Neighbor) (l : List Neighbor) → map hit (insert x l) ≡ insert_hit (hit x) (map hit l)
unfolding insert insert_hit nearer nearer_hit
insert-hit x [] = refl
insert-hit x (y ∷ l) = go (nearer x y) (insert-hit x l)
  where
    go : (b : Bool) → map hit (insert x l) ≡ insert_hit (hit x) (map hit l)
        → map hit (cond b (x ∷ y ∷ l) (y ∷ insert x l)) ≡ cond b (hit x ∷ hit y ∷ map hit l) (hit y ∷ insert_hit (hit x) (map hit l))
    go true e = refl
    go false e = ap (λ (m : List Hit). hit y ∷ m) e

ordered-hit : (l : List Neighbor) → map hit (ordered l) ≡ ordered_hits (map hit l)
unfolding ordered ordered_hits
ordered-hit [] = refl
ordered-hit (x ∷ l) = insert-hit x (ordered l) ∙ ap (insert_hit (hit x)) (ordered-hit l)

module _ (m : Metric) (q : List Float) where
  -- the hits of vectors, in no order
  abbrev pub hits_of : Vectors → List Hit
  hits_of vs = map hit (map (neighbor m q) vs)

  pub found-is : (k : ℕ) (vs : Vectors) → map hit (nearest.hits m q vs k) ≡ take k (ordered_hits (hits_of vs))
  unfolding nearest.hits
  found-is k vs = map-take hit k (ordered (map (neighbor m q) vs)) ∙ ap (take k) (ordered-hit (map (neighbor m q) vs))

-- ---- in order
behind_head : (x y : Hit) (l : List Hit) → Behind x (y ∷ l) → not (nearer_hit y x) ≡ true
behind_head x y l b = ap not b.0

pub rises_in_order : (l : List Hit) → Rises l → in_order l ≡ true
unfolding in_order
rises_in_order [] r = refl
rises_in_order (x ∷ []) r = refl
rises_in_order (x ∷ y ∷ l) r =
    and_true (not (nearer_hit y x)) (in_order (y ∷ l)) (behind_head x y l r.0) (rises_in_order (y ∷ l) r.1)

-- ---- no id twice
other-any : (x : Neighbor) (l : List Neighbor) → Absent x l → any (λ (y : Hit). eqb y.id x.id) (map hit l) ≡ false
unfolding any
other-any x [] a = refl
other-any x (y ∷ l) a = rw (ne_eqb y.id x.id (λ e. a.0 (sym e))) (other-any x l a.1)

distinct_apart : (l : List Neighbor) → Distinct l → apart (map hit l) ≡ true
unfolding apart
distinct_apart [] d = refl
distinct_apart (x ∷ l) d =
    and_true (not (any (λ (y : Hit). eqb y.id x.id) (map hit l))) (apart (map hit l)) (ap not (other-any x l d.0)) (distinct_apart l d.1)

absent-left : (x : Neighbor) (l m : List Neighbor) → Absent x (l ++ m) → Absent x l
absent-left x [] m a = tt
absent-left x (y ∷ l) m a = (a.0, absent-left x l m a.1)

distinct_left : (l m : List Neighbor) → Distinct (l ++ m) → Distinct l
distinct_left [] m d = tt
distinct_left (x ∷ l) m d = (absent-left x l m d.0, distinct_left l m d.1)

module _ (m : Metric) (q : List Float) where
  -- ids that rise stand once each
  above : (v : Vector) (vs : Vectors) → rising vector_below (v ∷ vs) ≡ true → (x : Neighbor) → x.id < v.id → Absent x (map (neighbor m q) (v ∷ vs))
  unfolding neighbor rising
  above v [] r x g = ((λ e. omega arith), tt)
  above v (w ∷ vs) r x g =
      let up = ltb-true v.id w.id (rising-head vector_below by-id v (w ∷ vs) r) in
      ((λ e. omega arith), above w vs (rising_tail vector_below by-id v (w ∷ vs) r) x (omega arith))

  rising_distinct : (vs : Vectors) → rising vector_below vs ≡ true → Distinct (map (neighbor m q) vs)
  unfolding neighbor rising
  rising_distinct [] r = tt
  rising_distinct (v ∷ []) r = (tt, tt)
  rising_distinct (v ∷ w ∷ vs) r =
      let up = ltb-true v.id w.id (rising-head vector_below by-id v (w ∷ vs) r) in
      (above w vs (rising_tail vector_below by-id v (w ∷ vs) r) (neighbor m q v) up, rising_distinct (w ∷ vs) (rising_tail vector_below by-id v (w ∷ vs) r))

  module _ (k s : ℕ) (vs : Vectors) where
    abbrev rest : List Neighbor
    rest = drop k (ordered (map (neighbor m q) vs))

    -- what 28 asks of one answer
    pub full-sound : rising vector_below vs ≡ true → sound_answer (full_answer m q k s vs) ≡ true
    full-sound r =
        and_true (in_order (map hit (nearest.hits m q vs k))) (apart (map hit (nearest.hits m q vs k)))
        (ap in_order (found-is m q k vs) ∙ rises_in_order (take k (ordered_hits (hits_of m q vs))) (rises-take k (ordered_hits (hits_of m q vs)) (ordered-rises (hits_of m q vs))))
        (distinct_apart (nearest.hits m q vs k)
        (distinct_left (nearest.hits m q vs k) rest (distinct_perm (Permᴰ.symm (hits-first m q vs k).all) (rising_distinct vs r))))

    own-id : (shards : ℕ) (v : Vector) → eqb (shard_of v.id shards) s ≡ true → eqb (shard_of (neighbor m q v).id shards) s ≡ true
    unfolding neighbor
    own-id shards v e = e

    -- what 29 asks of it
    pub full-owned : (shards : ℕ) → every (λ (v : Vector). eqb (shard_of v.id shards) s) vs ≡ true
        → every (λ (h : Hit). eqb (shard_of h.id shards) s) (map hit (nearest.hits m q vs k)) ≡ true
    full-owned shards h =
        every_map hit (λ (h : Hit). eqb (shard_of h.id shards) s) (λ (n : Neighbor). eqb (shard_of n.id shards) s) (λ n e. e) (nearest.hits m q vs k)
        (every-left (λ (n : Neighbor). eqb (shard_of n.id shards) s) (nearest.hits m q vs k) rest
        (every_perm (λ (n : Neighbor). eqb (shard_of n.id shards) s) (Permᴰ.symm (hits-first m q vs k).all)
        (every_map (neighbor m q) (λ (n : Neighbor). eqb (shard_of n.id shards) s) (λ (v : Vector). eqb (shard_of v.id shards) s) (own-id shards) vs h)))
