-- The log played on rows and on vectors: the rows' vectors are the vectors, the rows rise, and are no more than the entries.
-- Assumes nothing.
use Prim.Native.Nat.{ℕ, suc, ◌+◌, ◌≤◌}
use mathlib.Core.Path.{◌≡◌, refl, ap, ◌∙◌}
use mathlib.Core.Bool.{Bool, true, cond}
use mathlib.Core.List.{List, [], ◌∷◌, ◌++◌, map}
use mathlib.Core.Option.{some}
use native.Mathlib.Omega.{arith}
use lib.Ieee.{Float}
use lib.ListN.{length}
use Rattle.spec.specs.Lists.{nth, filter, put, rising}
use Rattle.spec.specs.Log.{Op, upsert, delete, Entry, Log, Vectors, components, components_at, lookup, vector_below, other_id, apply_op, play_from, play}
use Rattle.spec_laws.proofs.Lists.{by-test}
use Rattle.spec_laws.proofs.Rising.{put-rising, filter-rising}
use Rattle.spec_laws.proofs.Log.Numbered.{Numbered, own-offset}
use Rattle.log_store.specs.Table.{Row, row_below, other_row, row_op, play_rows_from, play_rows, vector_of, vectors_of}
use Rattle.log_store.proofs.Without.{rows_by_id}

module _ {ℓ κ} {A : Type ℓ} {B : Type κ} (f : A → B) where
  map-put : (lt : A → A → Bool) (lt' : B → B → Bool) → ((a b : A) → lt a b ≡ lt' (f a) (f b)) → (x : A) (l : List A)
      → map f (put lt x l) ≡ put lt' (f x) (map f l)
  unfolding put
  map-put lt lt' e x [] = refl
  map-put lt lt' e x (y ∷ ys) =
      rw (← e x y, ← e y x, ← map-put lt lt' e x ys)
      (by-test (λ v. map f v ≡ cond (lt x y) (f x ∷ f y ∷ map f ys) (cond (lt y x) (f y ∷ map f (put lt x ys)) (f x ∷ map f ys))) (lt x y)
      (λ q. rw q)
      (λ q. rw q
      (by-test (λ v. map f v ≡ cond (lt y x) (f y ∷ map f (put lt x ys)) (f x ∷ map f ys)) (lt y x) (λ r. rw r) (λ r. rw r))))

  map-filter : (p : A → Bool) (p' : B → Bool) → ((a : A) → p a ≡ p' (f a)) → (l : List A) → map f (filter p l) ≡ filter p' (map f l)
  unfolding filter
  map-filter p p' e [] = refl
  map-filter p p' e (y ∷ ys) =
      rw (← e y, ← map-filter p p' e ys)
      (by-test (λ v. map f v ≡ cond (p y) (f y ∷ map f (filter p ys)) (map f (filter p ys))) (p y) (λ q. rw q) (λ q. rw q))

op_rows_at : (l : Log) (rs : List Row) (o : ℕ) (op : Op) → lookup l o ≡ components op
    → vectors_of l (row_op rs op o) ≡ apply_op (vectors_of l rs) op
unfolding vectors_of row_op apply_op vector_of
op_rows_at l rs o (upsert id xs) h =
    map-put (vector_of l) row_below vector_below (λ a b. refl) (record { id = id; offset = o }) rs
    ∙ ap (λ (ys : List Float). put vector_below (record { id = id; components = ys }) (map (vector_of l) rs)) h
op_rows_at l rs o (delete id) h = map-filter (vector_of l) (other_row id) (other_id id) (λ a. refl) rs

-- one entry of a log: its row's vector is the one that its operation sets
op-rows : (l : Log) (rs : List Row) (e : Entry) → lookup l e.offset ≡ components e.op
    → vectors_of l (row_op rs e.op e.offset) ≡ apply_op (vectors_of l rs) e.op
op-rows l rs e h = op_rows_at l rs e.offset e.op h

rows-from : (l : Log) (rs : List Row) (es : Log) → ((i : ℕ) (e : Entry) → nth es i ≡ some e → lookup l e.offset ≡ components e.op)
    → vectors_of l (play_rows_from rs es) ≡ play_from (vectors_of l rs) es
unfolding play_rows_from play_from nth
rows-from l rs [] f = refl
rows-from l rs (e ∷ es) f =
    rows-from l (row_op rs e.op e.offset) es (λ i. f (suc i))
    ∙ ap (λ (vs : Vectors). play_from vs es) (op-rows l rs e (f 0 e refl))

looked_own : (l : Log) (i : ℕ) (e : Entry) → Numbered l → nth l i ≡ some e → lookup l e.offset ≡ components e.op
unfolding lookup
looked_own l i e h q = ap components_at (own-offset l i e h q)

-- the vectors of the rows played are the vectors played
pub rows-vectors : (l : Log) → Numbered l → vectors_of l (play_rows l) ≡ play l
unfolding play_rows play vectors_of
rows-vectors l h = rows-from l [] l (λ i e q. looked_own l i e h q)

rows_join_from : (rs : List Row) (l m : Log) → play_rows_from rs (l ++ m) ≡ play_rows_from (play_rows_from rs l) m
unfolding play_rows_from
rows_join_from rs [] m = refl
rows_join_from rs (e ∷ es) m = rows_join_from (row_op rs e.op e.offset) es m

pub rows_snoc : (l : Log) (e : Entry) → play_rows (l ++ (e ∷ [])) ≡ row_op (play_rows l) e.op e.offset
unfolding play_rows play_rows_from
rows_snoc l e = rows_join_from [] l (e ∷ [])

op-rise : (rs : List Row) (op : Op) (o : ℕ) → rising row_below rs ≡ true → rising row_below (row_op rs op o) ≡ true
unfolding row_op
op-rise rs (upsert id xs) o h = put-rising row_below rows_by_id (record { id = id; offset = o }) rs h
op-rise rs (delete id) o h = filter-rising row_below rows_by_id (other_row id) rs h

rise-from : (rs : List Row) (l : Log) → rising row_below rs ≡ true → rising row_below (play_rows_from rs l) ≡ true
unfolding play_rows_from
rise-from rs [] h = h
rise-from rs (e ∷ es) h = rise-from (row_op rs e.op e.offset) es (op-rise rs e.op e.offset h)

pub rows-rise : (l : Log) → rising row_below (play_rows l) ≡ true
unfolding play_rows rising
rows-rise l = rise-from [] l refl

put-length : (x : Row) (l : List Row) → length (put row_below x l) ≤ length l + 1
unfolding put
put-length x [] = omega arith
put-length x (y ∷ ys) =
    let h = put-length x ys in
    by-test (λ v. length v ≤ suc (length ys) + 1) (row_below x y) {x = x ∷ y ∷ ys} {y = cond (row_below y x) (y ∷ put row_below x ys) (x ∷ ys)} (λ q. omega arith)
    (λ q. by-test (λ v. length v ≤ suc (length ys) + 1) (row_below y x) {x = y ∷ put row_below x ys} {y = x ∷ ys} (λ r. omega arith) (λ r. omega arith))

filter-length : (p : Row → Bool) (l : List Row) → length (filter p l) ≤ length l
unfolding filter
filter-length p [] = omega arith
filter-length p (y ∷ ys) =
    let h = filter-length p ys in
    by-test (λ v. length v ≤ suc (length ys)) (p y) {x = y ∷ filter p ys} {y = filter p ys} (λ q. omega arith) (λ q. omega arith)

op-length : (rs : List Row) (op : Op) (o : ℕ) → length (row_op rs op o) ≤ length rs + 1
unfolding row_op
op-length rs (upsert id xs) o = put-length (record { id = id; offset = o }) rs
op-length rs (delete id) o = let h = filter-length (other_row id) rs in omega arith

length_from : (rs : List Row) (l : Log) → length (play_rows_from rs l) ≤ length rs + length l
unfolding play_rows_from
length_from rs [] = omega arith
length_from rs (e ∷ es) =
    let h = length_from (row_op rs e.op e.offset) es in
    let g = op-length rs e.op e.offset in omega arith

-- a table has no more rows than its log has entries
pub rows-most : (l : Log) → length (play_rows l) ≤ length l
unfolding play_rows
rows-most l = let h = length_from [] l in omega arith
