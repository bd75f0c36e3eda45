-- The column of the stored vectors: it can be chosen from, and its neighbours are those of the search. Assumes nothing.
use Prim.Native.Nat.{ℕ, zero, suc, ◌^◌, ◌≤◌, ◌<◌}
use mathlib.Core.Path.{◌≡◌, refl, sym, ap, ◌∙◌, subst}
use mathlib.Core.Bool.{Bool, true, false, not, cond}
use mathlib.Core.List.{List, [], ◌∷◌, map}
use mathlib.Core.Logic.{inl}
use native.Mathlib.Nat.{le_of_lt}
use native.Mathlib.Omega.{arith}
use lib.Dec.{T, T_not, not_T, leb, ltb, eqb, ltb→lt}
use lib.Ieee.{Float, nan, binary32, fits, to_bits}
use borrow.Author.Tests.{leb-true, ltb-true, ltb-false, eqb-true, eqb-false}
use lib.ListN.{length, take, get_or, length-map, get_or-map}
use lib.Seq.{ext_get_or}
use Rattle.spec.specs.Lists.{◌and◌, nth, every, rising}
use Rattle.spec.specs.declared.Metric.{Metric}
use Rattle.spec.specs.declared.Metric.TheVariants.{Euclidean, Angular}
use Rattle.spec.specs.declared.Neighbor.{Neighbor}
use Rattle.spec.specs.Nearest.Order.{before, in_domain}
use Rattle.spec.specs.Nearest.Distance.{Bounded, all_in_domain, norm, squares, distance}
use Rattle.spec.specs.Nearest.Search.{Vector, neighbor, nearer, ordered, hits}
use Rattle.spec.specs.Node.WellFormed.{component, well_formed_vector, well_formed_op, well_formed_entry}
use Rattle.spec.specs.Log.{Op, upsert, delete, Log, entry_at, components, components_at, lookup}
use Rattle.spec_laws.proofs.Lists.{and_left, and_right}
use Rattle.spec_laws.proofs.Map.Rows.{every_tail}
use Rattle.spec_laws.proofs.Nearest.Classes.{before_plus}
use Rattle.spec_laws.proofs.Nearest.Exact.{sqrt_nearest, plus_float}
use Rattle.spec_laws.proofs.Nearest.NoNan.{squares-rootable}
use Rattle.spec_laws.proofs.Nearest.Rank.{nearer-holds, behind_not_nearer}
use Rattle.spec_laws.proofs.Nearest.Skip.{squares-fits, passed_over}
use Rattle.log_store.specs.View.{columns, log_of, firsts, stretch, op_of}
use Rattle.log_store.specs.Table.{Row, row_below, vector_of, vectors_of}
use Rattle.log_store.specs.Store.{Store, store_log, store_rows, Sized}
use Rattle.log_store.proofs.Columns.{look_zero, look_past, look_at, op_set, op_deleted}
use Rattle.log_store.proofs.Facts.{Facts, keys-fit, places-fit, rows-rising}
use Rattle.log_store.proofs.Firsts.{firsts-length, firsts_at}
use Rattle.log_store.proofs.Rows.{rows-length, rows_at, no_row}
use Rattle.float_distance.specs.declared.sums.Kind.{Kind}
use Rattle.float_distance.specs.Halves.{settled, kind_of, element_of}
use Rattle.log_select.specs.Selectable.{Ready, neighbor_at, bits_of, bits_at, Selectable}
use Rattle.log_search.specs.Column.{rough, Walkable}
use Rattle.log_search.proofs.Settled.{rough-settled, rough-ready}

-- ---- stored vectors lie in the domain

domain_all : (xs : List Float) → every component xs ≡ true → T (all_in_domain xs)
unfolding all_in_domain
domain_all [] e = tt
domain_all (x ∷ xs) e =
    let r = every_tail component x xs e in
    both (in_domain x) (all_in_domain xs) (and_right (fits binary32 x) (in_domain x) r.0) (domain_all xs r.1)
  where
    both : (a b : Bool) → a ≡ true → T b → T (mathlib.Core.Bool.◌&&◌ a b)
    both a b e t = subst (λ (v : Bool). T (mathlib.Core.Bool.◌&&◌ v b)) (sym e) t

pub vector_bounded : (xs : List Float) → well_formed_vector xs ≡ true → Bounded xs
unfolding well_formed_vector
vector_bounded xs e =
    let a = and_right (leb 1 (length xs)) (leb (length xs) 32 and every component xs) e in (
      leb-true (length xs) 32 (and_left (leb (length xs) 32) (every component xs) a),
      domain_all xs (and_right (leb (length xs) 32) (every component xs) a),
    )

op_bounded : (op : Op) → well_formed_op op ≡ true → Bounded (components op)
unfolding all_in_domain
op_bounded (upsert id xs) e = vector_bounded xs e
op_bounded (delete id) e = (omega arith, tt)

nth_bounded : (l : Log) (i : ℕ) → every well_formed_entry l ≡ true → Bounded (components_at (nth l i))
unfolding nth all_in_domain
nth_bounded [] i e = (omega arith, tt)
nth_bounded (x ∷ l) zero e = op_bounded x.op (every_tail well_formed_entry x l e).0
nth_bounded (x ∷ l) (suc i) e = nth_bounded l i (every_tail well_formed_entry x l e).1

pub look_bounded : (l : Log) (o : ℕ) → every well_formed_entry l ≡ true → Bounded (lookup l o)
unfolding lookup entry_at all_in_domain
look_bounded l zero e = (omega arith, tt)
look_bounded l (suc i) e = nth_bounded l i e

-- ---- a lookup is told by the columns of codes, lengths and floats
stretch-same : (cs ls : List ℕ) (fs : List Float) (es os is es' os' is' : List ℕ) (i : ℕ)
    → stretch (columns es os is cs ls fs) i ≡ stretch (columns es' os' is' cs ls fs) i
unfolding stretch
stretch-same cs ls fs es os is es' os' is' i = refl

look_same : (cs ls : List ℕ) (fs : List Float) (es os is es' os' is' : List ℕ) (n o : ℕ)
    → lookup (log_of (columns es os is cs ls fs) n) o ≡ lookup (log_of (columns es' os' is' cs ls fs) n) o
look_same cs ls fs es os is es' os' is' n zero =
    look_zero (log_of (columns es os is cs ls fs) n) 0 refl ∙ sym (look_zero (log_of (columns es' os' is' cs ls fs) n) 0 refl)
look_same cs ls fs es os is es' os' is' n (suc i) = within (ltb i n) refl
  where
    same : (b : Bool) → eqb (get_or cs i 0) 1 ≡ b
        → components (op_of (columns es os is cs ls fs) i) ≡ components (op_of (columns es' os' is' cs ls fs) i)
    same true e =
        op_set (columns es os is cs ls fs) i (eqb-true (get_or cs i 0) 1 e) ∙ stretch-same cs ls fs es os is es' os' is' i
        ∙ sym (op_set (columns es' os' is' cs ls fs) i (eqb-true (get_or cs i 0) 1 e))
    same false e =
        op_deleted (columns es os is cs ls fs) i (eqb-false (get_or cs i 0) 1 e)
        ∙ sym (op_deleted (columns es' os' is' cs ls fs) i (eqb-false (get_or cs i 0) 1 e))

    within : (b : Bool) → ltb i n ≡ b
        → lookup (log_of (columns es os is cs ls fs) n) (suc i) ≡ lookup (log_of (columns es' os' is' cs ls fs) n) (suc i)
    within true e =
        look_at (columns es os is cs ls fs) n (suc i) i (omega arith) (ltb-true i n e) ∙ same (eqb (get_or cs i 0) 1) refl
        ∙ sym (look_at (columns es' os' is' cs ls fs) n (suc i) i (omega arith) (ltb-true i n e))
    within false e =
        look_past (columns es os is cs ls fs) n (suc i) (omega (arith, ltb-false i n e))
        ∙ sym (look_past (columns es' os' is' cs ls fs) n (suc i) (omega (arith, ltb-false i n e)))

-- ---- ids rise
below_all : (x d : Row) (l : List Row) → rising row_below (x ∷ l) ≡ true → (j : ℕ) → j < length l → x.id < (get_or l j d).id
unfolding rising
below_all x d [] r j h = absurd (omega arith)
below_all x d (y ∷ l) r zero h = ltb-true x.id y.id (and_left (row_below x y) (rising row_below (y ∷ l)) r)
below_all x d (y ∷ l) r (suc j) h =
    let a = ltb-true x.id y.id (and_left (row_below x y) (rising row_below (y ∷ l)) r) in
    let b = below_all y d l (and_right (row_below x y) (rising row_below (y ∷ l)) r) j (omega arith) in
    omega arith

rising-rest : (x : Row) (l : List Row) → rising row_below (x ∷ l) ≡ true → rising row_below l ≡ true
unfolding rising
rising-rest x [] r = refl
rising-rest x (y ∷ l) r = and_right (row_below x y) (rising row_below (y ∷ l)) r

ids-rise : (d : Row) (l : List Row) → rising row_below l ≡ true → (i j : ℕ) → i < j → j < length l → (get_or l i d).id < (get_or l j d).id
ids-rise d [] r i j h k = absurd (omega arith)
ids-rise d (x ∷ l) r zero zero h k = absurd (omega arith)
ids-rise d (x ∷ l) r (suc i) zero h k = absurd (omega arith)
ids-rise d (x ∷ l) r zero (suc j) h k = below_all x d l r j (omega arith)
ids-rise d (x ∷ l) r (suc i) (suc j) h k = ids-rise d l (rising-rest x l r) i j (omega arith) (omega arith)

-- ---- an element further back: no lesser distance

-- a sum has a plus sign
sum_plus : (q v : List Float) → Bounded q → Bounded v → to_bits binary32 (squares q v) < 2 ^ 31
sum_plus q v a b =
    let f = squares-fits q v in
    let r = sqrt_nearest (squares q v) f (squares-rootable q v a b) in
    (plus_float (squares q v) r.u f r.of_x).0

-- of two neighbours with one id, the one that is not nearer has no lesser distance
not_before : (a b : Neighbor) → T (not (nearer b a)) → T (not (before (bits_of b) (bits_of a)))
not_before a b n = not_T (before (bits_of b) (bits_of a)) (λ t. T_not (nearer b a) n (nearer-holds b a (inl t)))

-- the neighbour that a vector of components makes, under any id
abbrev shape : List Float → Vector
shape v = record { id = 0; components = v }

not_lesser : (m : Metric) (q a b : List Float) → Bounded q → Bounded a → Bounded b
    → T (before (to_bits binary32 (rough m q a)) (to_bits binary32 (rough m q b)))
    → T (not (before (to_bits binary32 (distance m q b)) (to_bits binary32 (distance m q a))))
unfolding element_of neighbor distance
not_lesser Euclidean q a b l m n h =
    not_before (neighbor Euclidean q (shape a)) (neighbor Euclidean q (shape b))
    (passed_over q (shape a) (shape b) l m n (le_of_lt (ltb→lt (to_bits binary32 (squares q a)) (to_bits binary32 (squares q b))
    (subst T (before_plus (to_bits binary32 (squares q a)) (to_bits binary32 (squares q b)) (sum_plus q a l m) (sum_plus q b l n)) h))) (omega arith))
not_lesser Angular q a b l m n h =
    not_before (neighbor Angular q (shape a)) (neighbor Angular q (shape b)) (behind_not_nearer (neighbor Angular q (shape a)) (neighbor Angular q (shape b)) h)

-- ---- the stored vectors
module _ (s : Store) (f : Facts s) (z : Sized s) (m : Metric) (q : List Float) (asked : Bounded q) where
  pub walkable : (qnorm : Float) → qnorm ≡ norm q
      → Walkable s.columns.codes s.columns.lengths s.columns.floats s.places s.count s.stored q qnorm
  walkable qnorm e = record {
    count_most = f.count;
    codes_long = z.codes;
    lengths_long = z.lengths;
    floats_long = f.floats;
    places_long = places-fit s f z;
    rows-most = f.stored;
    asked = asked;
    norm-is = e;
    vectors = λ es os is o.
        subst Bounded
        (look_same s.columns.codes s.columns.lengths s.columns.floats s.columns.epochs s.columns.offsets s.columns.ids es os is s.count o)
        (look_bounded (store_log s) o f.entries);
  }

  abbrev vec : ℕ → Vector
  vec i = record { id = get_or s.keys i 0; components = lookup (store_log s) (get_or s.places i 0) }

  row_at : (i : ℕ) → i < s.stored → get_or (store_rows s) i no_row ≡ record { id = get_or s.keys i 0; offset = get_or s.places i 0 }
  row_at i h = rows_at s.keys s.places s.stored (keys-fit s f z) (places-fit s f z) i no_row h

  all-rows : length (store_rows s) ≡ s.stored
  all-rows = rows-length s.keys s.places s.stored (keys-fit s f z) (places-fit s f z)

  keys-rise : (i j : ℕ) → i < j → j < s.stored → get_or s.keys i 0 < get_or s.keys j 0
  keys-rise i j h k =
      let r = ids-rise no_row (store_rows s) (rows-rising s f) i j h (subst (λ (n : ℕ). j < n) (sym all-rows) k) in
      subst (λ (x : ℕ). x < get_or s.keys j 0) (ap (λ (x : Row). x.id) (row_at i (omega arith)))
      (subst (λ (x : ℕ). (get_or (store_rows s) i no_row).id < x) (ap (λ (x : Row). x.id) (row_at j k)) r)

  module _ (xs : List Float) (long : s.stored ≤ length xs)
      (filled : (i : ℕ) → i < s.stored → get_or xs i nan ≡ rough m q (lookup (store_log s) (get_or s.places i 0))) where
    at-neighbor : (i : ℕ) → i < s.stored → neighbor_at (kind_of m) s.keys xs i ≡ neighbor m q (vec i)
    unfolding neighbor_at neighbor
    at-neighbor i h =
        ap (λ (d : Float). record { id = get_or s.keys i 0; distance = d })
        (ap (settled (kind_of m)) (filled i h) ∙ rough-settled m q (lookup (store_log s) (get_or s.places i 0)))

    bounded : (i : ℕ) → Bounded (lookup (store_log s) (get_or s.places i 0))
    bounded i = look_bounded (store_log s) (get_or s.places i 0) f.entries

    passes : (i j : ℕ) → i < s.stored → j < s.stored → T (before (bits_at xs i) (bits_at xs j))
        → T (not (before (bits_of (neighbor_at (kind_of m) s.keys xs j)) (bits_of (neighbor_at (kind_of m) s.keys xs i))))
    unfolding neighbor
    passes i j hi hj l =
        let ahead : T (before (to_bits binary32 (rough m q (vec i).components)) (to_bits binary32 (rough m q (vec j).components))) =
        subst (λ (x : Float). T (before (to_bits binary32 x) (to_bits binary32 (rough m q (vec j).components)))) (filled i hi)
        (subst (λ (x : Float). T (before (bits_at xs i) (to_bits binary32 x))) (filled j hj) l) in
        subst (λ (x : Neighbor). T (not (before (bits_of x) (bits_of (neighbor_at (kind_of m) s.keys xs i))))) (sym (at-neighbor j hj))
        (subst (λ (x : Neighbor). T (not (before (bits_of (neighbor m q (vec j))) (bits_of x)))) (sym (at-neighbor i hi))
        (not_lesser m q (vec i).components (vec j).components asked (bounded i) (bounded j) ahead))

    selectable : Selectable (kind_of m) s.keys xs s.stored
    selectable = record {
      ids_long = keys-fit s f z;
      xs_long = long;
      ready = λ i h. subst (Ready (kind_of m)) (sym (filled i h)) (rough-ready m q (lookup (store_log s) (get_or s.places i 0)) asked (bounded i));
      differ = λ i j h k e. omega (arith, keys-rise i j h k);
      passing = passes;
    }

    abbrev nil : Neighbor
    nil = neighbor m q (vector_of (store_log s) no_row)

    vector-at : (i : ℕ) → i < s.stored → get_or (map (neighbor m q) (map (vector_of (store_log s)) (store_rows s))) i nil ≡ neighbor m q (vec i)
    unfolding vector_of
    vector-at i h =
        get_or-map (neighbor m q) (map (vector_of (store_log s)) (store_rows s)) i (vector_of (store_log s) no_row)
        ∙ ap (neighbor m q) (get_or-map (vector_of (store_log s)) (store_rows s) i no_row ∙ ap (vector_of (store_log s)) (row_at i h))

    all-is : firsts (neighbor_at (kind_of m) s.keys xs) s.stored ≡ map (neighbor m q) (map (vector_of (store_log s)) (store_rows s))
    all-is =
        let n : length (firsts (neighbor_at (kind_of m) s.keys xs) s.stored) ≡ s.stored = firsts-length (neighbor_at (kind_of m) s.keys xs) s.stored in
        ext_get_or nil _ _
        (n ∙ sym (length-map (map (vector_of (store_log s)) (store_rows s)) (neighbor m q) ∙ length-map (store_rows s) (vector_of (store_log s)) ∙ all-rows))
        (λ i h. let hi : i < s.stored = subst (λ (x : ℕ). i < x) n h in
        firsts_at (neighbor_at (kind_of m) s.keys xs) s.stored i nil hi ∙ at-neighbor i hi ∙ sym (vector-at i hi))

    hits_are : (k : ℕ) → take k (ordered (firsts (neighbor_at (kind_of m) s.keys xs) s.stored)) ≡ hits m q (vectors_of (store_log s) (store_rows s)) k
    unfolding hits vectors_of
    hits_are k = ap (λ (l : List Neighbor). take k (ordered l)) all-is

    -- .. whatever the kind of the column is called
    module _ (kind : Kind) (isKind : kind ≡ kind_of m) where
      pub column_selectable : Selectable kind s.keys xs s.stored
      column_selectable = subst (λ (k : Kind). Selectable k s.keys xs s.stored) (sym isKind) selectable

      pub column_hits : (k : ℕ) → take k (ordered (firsts (neighbor_at kind s.keys xs) s.stored)) ≡ hits m q (vectors_of (store_log s) (store_rows s)) k
      column_hits k = ap (λ (z : Kind). take k (ordered (firsts (neighbor_at z s.keys xs) s.stored))) isKind ∙ hits_are k
