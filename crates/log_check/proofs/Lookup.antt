-- Rows by lookup: what a lookup finds in rows that an operation changed and in those that two columns make; rows that rise are
-- told by their lookups. Assumes nothing.
use Prim.Native.Nat.{ℕ, zero, suc, ◌≤◌, ◌<◌}
use mathlib.Core.Path.{◌≡◌, refl, sym, ap, ◌∙◌, subst}
use mathlib.Core.Bool.{Bool, true, false, cond}
use mathlib.Core.List.{List, [], ◌∷◌}
use mathlib.Core.Option.{Option, none, some}
use native.Mathlib.Omega.{arith}
use lib.Dec.{eqb}
use borrow.Author.Tests.{eqb-true, eqb-false, eq-eqb, ne_eqb, ltb-true, ltb-false, lt-ltb}
use lib.ListN.{length, take, get_or}
use lib.Seq.{length-take-le, get_or-take}
use Rattle.spec.specs.Lists.{put, filter, rising}
use Rattle.spec_laws.proofs.Lists.{by-test, not_both, none_some, some_same}
use Rattle.spec_laws.proofs.Rising.{Below, rising_tail, rising-head, rising_cons}
use Rattle.spec_laws.proofs.Nearest.Tests.{Test, less, same, more, test}
use Rattle.log_store.specs.Table.{Row, zipped, rows_of, row_below, other_row, row_by}
use Rattle.log_store.proofs.Without.{rows_by_id}
use Rattle.log_check.specs.Conditions.{row_at, Rises, NoRow}

-- ---- one row

own_row : (y : Row) (ys : List Row) (id : ℕ) → y.id ≡ id → row_at (y ∷ ys) id ≡ some y.offset
unfolding row_at
own_row y ys id e = rw (eq-eqb y.id id e)

other_row_lem : (y : Row) (ys : List Row) (id : ℕ) → (y.id ≡ id → ⊥) → row_at (y ∷ ys) id ≡ row_at ys id
unfolding row_at
other_row_lem y ys id n = rw (ne_eqb y.id id n)

-- ---- an operation

module _ {ℓ} {A : Type ℓ} (x y z : A) where
  cond_swap : (a b : Bool) → (a ≡ true → b ≡ true → ⊥) → cond a x (cond b y z) ≡ cond b y (cond a x z)
  cond_swap true true n = absurd (n refl refl)
  cond_swap true false n = refl
  cond_swap false true n = refl
  cond_swap false false n = refl

  cond_over : (a b : Bool) → (b ≡ true → a ≡ true) → cond a x z ≡ cond a x (cond b y z)
  cond_over true b n = refl
  cond_over false true n = not_both false (n refl) refl
  cond_over false false n = refl

abbrev PutIn : (new y : Row) (ys : List Row) (id : ℕ) → List Row → Type 0
PutIn new y ys id v = row_at v id ≡ cond (eqb new.id id) (some new.offset) (cond (eqb y.id id) (some y.offset) (row_at ys id))

-- an Upsert's row is found under its id
row_put : (new : Row) (rs : List Row) (id : ℕ)
    → row_at (put row_below new rs) id ≡ cond (eqb new.id id) (some new.offset) (row_at rs id)
unfolding put row_at
row_put new [] id = refl
row_put new (y ∷ ys) id =
    by-test (PutIn new y ys id) (row_below new y) {x = new ∷ y ∷ ys} {y = cond (row_below y new) (y ∷ put row_below new ys) (new ∷ ys)}
    (λ q. refl)
    (λ q. by-test (PutIn new y ys id) (row_below y new) {x = y ∷ put row_below new ys} {y = new ∷ ys}
    (λ r.
    let h = ltb-true y.id new.id r in
    ap (cond (eqb y.id id) (some y.offset)) (row_put new ys id)
    ∙ cond_swap (some y.offset) (some new.offset) (row_at ys id) (eqb y.id id) (eqb new.id id)
    (λ a b. let p = eqb-true y.id id a in let o = eqb-true new.id id b in omega arith))
    (λ r.
    let h = ltb-false new.id y.id q in
    let g = ltb-false y.id new.id r in
    cond_over (some new.offset) (some y.offset) (row_at ys id) (eqb new.id id) (eqb y.id id)
    (λ b. let p = eqb-true y.id id b in eq-eqb new.id id (omega arith))))

-- a Delete's is not
row-filter : (k : ℕ) (rs : List Row) (id : ℕ) → row_at (filter (other_row k) rs) id ≡ cond (eqb k id) none (row_at rs id)
unfolding filter row_at
row-filter k [] id = by-test (λ (v : Option ℕ). none ≡ v) (eqb k id) (λ q. refl) (λ q. refl)
row-filter k (y ∷ ys) id = go (eqb y.id k) refl (row-filter k ys id)
  where
    go : (t : Bool) → eqb y.id k ≡ t → row_at (filter (other_row k) ys) id ≡ cond (eqb k id) none (row_at ys id)
        → row_at (cond (cond t false true) (y ∷ filter (other_row k) ys) (filter (other_row k) ys)) id
        ≡ cond (eqb k id) none (cond (eqb y.id id) (some y.offset) (row_at ys id))
    go true e ih =
        let p = eqb-true y.id k e in
        ih ∙ cond_over none (some y.offset) (row_at ys id) (eqb k id) (eqb y.id id)
        (λ b. let o = eqb-true y.id id b in eq-eqb k id (omega arith))
    go false e ih =
        ap (cond (eqb y.id id) (some y.offset)) ih
        ∙ cond_swap (some y.offset) none (row_at ys id) (eqb y.id id) (eqb k id)
        (λ a b. eqb-false y.id k e (eqb-true y.id id a ∙ sym (eqb-true k id b)))

pub row-by : (rs : List Row) (code k o id : ℕ)
    → row_at (row_by rs code k o) id ≡ cond (eqb k id) (cond (eqb code 1) (some o) none) (row_at rs id)
unfolding row_by
row-by rs code k o id = go (eqb code 1)
  where
    go : (t : Bool) → row_at (cond t (put row_below (record { id = k; offset = o }) rs) (filter (other_row k) rs)) id
        ≡ cond (eqb k id) (cond t (some o) none) (row_at rs id)
    go true = row_put (record { id = k; offset = o }) rs id
    go false = row-filter k rs id

-- ---- rows that rise

abbrev Over : ℕ → List Row → Type 0
Over id [] = Unit
Over id (y ∷ ys) = id < y.id

over_next : (id : ℕ) (y : Row) (ys : List Row) → id ≤ y.id → Below row_below rows_by_id y ys → Over id ys
over_next id y [] h b = tt
over_next id y (z ∷ zs) h b = let l = ltb-true y.id z.id b in omega arith

-- an id below all rows has none
absent : (l : List Row) (id : ℕ) → rising row_below l ≡ true → Over id l → row_at l id ≡ none
unfolding row_at
absent [] id r h = refl
absent (y ∷ ys) id r h =
    other_row_lem y ys id (λ e. omega arith)
    ∙ absent ys id (rising_tail row_below rows_by_id y ys r) (over_next id y ys (omega arith) (rising-head row_below rows_by_id y ys r))

-- two tables that rise and answer alike are the same
pub same_lookups : (a b : List Row) → rising row_below a ≡ true → rising row_below b ≡ true → ((id : ℕ) → row_at a id ≡ row_at b id) → a ≡ b
unfolding row_at
same_lookups [] [] ra rb f = refl
same_lookups [] (y ∷ ys) ra rb f = none_some (f y.id ∙ own_row y ys y.id refl)
same_lookups (x ∷ xs) [] ra rb f = none_some (sym (f x.id) ∙ own_row x xs x.id refl)
same_lookups (x ∷ xs) (y ∷ ys) ra rb f =
    go (test x.id y.id)
    (same_lookups xs ys (rising_tail row_below rows_by_id x xs ra) (rising_tail row_below rows_by_id y ys rb))
  where
    one : (x y : Row) → x.id ≡ y.id → x.offset ≡ y.offset → (xs ys : List Row) → xs ≡ ys → x ∷ xs ≡ y ∷ ys
    one x y i o xs ys t =
        ap (λ (n : ℕ). record { id = n; offset = x.offset } ∷ xs) i
        ∙ ap (λ (n : ℕ). record { id = y.id; offset = n } ∷ xs) o
        ∙ ap (λ (l : List Row). y ∷ l) t

    tails : x.id ≡ y.id → (id : ℕ) → (t : Bool) → eqb x.id id ≡ t → row_at xs id ≡ row_at ys id
    tails e id true q =
        let p = eqb-true x.id id q in
        absent xs id (rising_tail row_below rows_by_id x xs ra) (over_next id x xs (omega arith) (rising-head row_below rows_by_id x xs ra))
        ∙ sym (absent ys id (rising_tail row_below rows_by_id y ys rb) (over_next id y ys (omega arith) (rising-head row_below rows_by_id y ys rb)))
    tails e id false q =
        let n = eqb-false x.id id q in
        sym (other_row_lem x xs id n) ∙ f id ∙ other_row_lem y ys id (λ p. n (e ∙ p))

    go : Test x.id y.id → (((id : ℕ) → row_at xs id ≡ row_at ys id) → xs ≡ ys) → x ∷ xs ≡ y ∷ ys
    go (less h p q) ih = none_some (sym (absent (y ∷ ys) x.id rb h) ∙ sym (f x.id) ∙ own_row x xs x.id refl)
    go (same e p q) ih =
        one x y e (some_same (sym (own_row x xs x.id refl) ∙ f x.id ∙ own_row y ys x.id (sym e))) xs ys
        (ih (λ id. tails e id (eqb x.id id) refl))
    go (more h p q) ih = none_some (sym (absent (x ∷ xs) y.id ra h) ∙ f y.id ∙ own_row y ys y.id refl)

-- ---- rows that two columns make

zip_some : (a b : List ℕ) (id o : ℕ) → row_at (zipped a b) id ≡ some o → (j : ℕ) × (j < length a) × (get_or a j 0 ≡ id) × (get_or b j 0 ≡ o)
unfolding zipped row_at
zip_some [] b id o e = none_some e
zip_some (x ∷ a) [] id o e = none_some e
zip_some (x ∷ a) (y ∷ b) id o e = go (eqb x id) refl (zip_some a b id o)
  where
    go : (t : Bool) → eqb x id ≡ t
        → (row_at (zipped a b) id ≡ some o → (j : ℕ) × (j < length a) × (get_or a j 0 ≡ id) × (get_or b j 0 ≡ o))
        → (j : ℕ) × (j < length (x ∷ a)) × (get_or (x ∷ a) j 0 ≡ id) × (get_or (y ∷ b) j 0 ≡ o)
    go true q ih =
        (0, omega arith, eqb-true x id q, some_same (sym (own_row (record { id = x; offset = y }) (zipped a b) id (eqb-true x id q)) ∙ e))
    go false q ih =
        let r = ih (sym (other_row_lem (record { id = x; offset = y }) (zipped a b) id (eqb-false x id q)) ∙ e) in
        let h = r.1 in
        (suc r.0, omega arith, r.2, r.3)

zip_first : (a b : List ℕ) (j : ℕ) → j < length a → j < length b → ((k : ℕ) → k < j → get_or a k 0 ≡ get_or a j 0 → ⊥)
    → row_at (zipped a b) (get_or a j 0) ≡ some (get_or b j 0)
unfolding zipped
zip_first [] b j h g f = absurd (omega arith)
zip_first (x ∷ a) [] j h g f = absurd (omega arith)
zip_first (x ∷ a) (y ∷ b) zero h g f = own_row (record { id = x; offset = y }) (zipped a b) x refl
zip_first (x ∷ a) (y ∷ b) (suc j) h g f =
    other_row_lem (record { id = x; offset = y }) (zipped a b) (get_or a j 0) (λ e. f 0 (omega arith) e)
    ∙ zip_first a b j (omega arith) (omega arith) (λ k l. f (suc k) (omega arith))

zip_rises : (a b : List ℕ) → length a ≡ length b → rising row_below (zipped a b) ≡ true → (k : ℕ) → suc k < length a → get_or a k 0 < get_or a (suc k) 0
unfolding zipped
zip_rises [] b e r k h = absurd (omega arith)
zip_rises (x ∷ []) b e r k h = absurd (omega arith)
zip_rises (x ∷ w ∷ a) [] e r k h = absurd (omega arith)
zip_rises (x ∷ w ∷ a) (y ∷ []) e r k h = absurd (omega arith)
zip_rises (x ∷ w ∷ a) (y ∷ z ∷ b) e r zero h =
    ltb-true x w (rising-head row_below rows_by_id (record { id = x; offset = y }) (record { id = w; offset = z } ∷ zipped a b) r)
zip_rises (x ∷ w ∷ a) (y ∷ z ∷ b) e r (suc k) h =
    zip_rises (w ∷ a) (z ∷ b) (omega arith)
    (rising_tail row_below rows_by_id (record { id = x; offset = y }) (record { id = w; offset = z } ∷ zipped a b) r) k (omega arith)

rises_zip : (a b : List ℕ) → ((k : ℕ) → suc k < length a → get_or a k 0 < get_or a (suc k) 0) → rising row_below (zipped a b) ≡ true
unfolding zipped rising
rises_zip [] b f = refl
rises_zip (x ∷ a) [] f = refl
rises_zip (x ∷ []) (y ∷ b) f = refl
rises_zip (x ∷ w ∷ a) (y ∷ []) f = refl
rises_zip (x ∷ w ∷ a) (y ∷ z ∷ b) f =
    rising_cons row_below rows_by_id (record { id = x; offset = y }) (record { id = w; offset = z } ∷ zipped a b)
    (lt-ltb x w (f 0 (omega arith))) (rises_zip (w ∷ a) (z ∷ b) (λ k h. f (suc k) (omega arith)))

-- neighbours that rise make all rise
pub rises_by : (ks : List ℕ) (m : ℕ) → ((k : ℕ) → suc k < m → get_or ks k 0 < get_or ks (suc k) 0) → Rises ks m
rises_by ks m f i zero h g = absurd (omega arith)
rises_by ks m f i (suc j) h g = go (test i j) (rises_by ks m f i j)
  where
    go : Test i j → (i < j → j < m → get_or ks i 0 < get_or ks j 0) → get_or ks i 0 < get_or ks (suc j) 0
    go (less l p q) ih = let u = ih l (omega arith) in let v = f j g in omega arith
    go (same e p q) ih = subst (λ (k : ℕ). get_or ks k 0 < get_or ks (suc j) 0) (sym e) (f j g)
    go (more l p q) ih = absurd (omega arith)

module _ (ks ps : List ℕ) (m : ℕ) (hk : m ≤ length ks) (hp : m ≤ length ps) where
  lk : length (take m ks) ≡ m
  lk = length-take-le m ks hk

  lp : length (take m ps) ≡ m
  lp = length-take-le m ps hp

  pub rows-rises : rising row_below (rows_of ks ps m) ≡ true → Rises ks m
  unfolding rows_of
  rows-rises r =
      rises_by ks m
      (λ k h.
      let u = zip_rises (take m ks) (take m ps) (lk ∙ sym lp) r k (subst (λ (n : ℕ). suc k < n) (sym lk) h) in
      let a = get_or-take m ks k 0 (omega arith) in
      let b = get_or-take m ks (suc k) 0 h in
      omega arith)

  pub rises-rows : Rises ks m → rising row_below (rows_of ks ps m) ≡ true
  unfolding rows_of
  rises-rows f =
      rises_zip (take m ks) (take m ps)
      (λ k h.
      let l : suc k < m = subst (λ (n : ℕ). suc k < n) lk h in
      let u = f k (suc k) (omega arith) l in
      let a = get_or-take m ks k 0 (omega arith) in
      let b = get_or-take m ks (suc k) 0 l in
      omega arith)

  pub row_some : (id o : ℕ) → row_at (rows_of ks ps m) id ≡ some o → (j : ℕ) × (j < m) × (get_or ks j 0 ≡ id) × (get_or ps j 0 ≡ o)
  unfolding rows_of
  row_some id o e =
      let r = zip_some (take m ks) (take m ps) id o e in
      let l : r.0 < m = subst (λ (n : ℕ). r.0 < n) lk r.1 in
      (r.0, l, sym (get_or-take m ks r.0 0 l) ∙ r.2, sym (get_or-take m ps r.0 0 l) ∙ r.3)

  pub row-none : (id : ℕ) → NoRow ks m id → row_at (rows_of ks ps m) id ≡ none
  row-none id n = go (row_at (rows_of ks ps m) id) refl
    where
      go : (x : Option ℕ) → row_at (rows_of ks ps m) id ≡ x → x ≡ none
      go none e = refl
      go (some o) e = let r = row_some id o e in absurd (n r.0 r.1 r.2)

  pub row_first : Rises ks m → (j id : ℕ) → j < m → get_or ks j 0 ≡ id → row_at (rows_of ks ps m) id ≡ some (get_or ps j 0)
  unfolding rows_of
  row_first f j id h e =
      let a = get_or-take m ks j 0 h in
      ap (row_at (zipped (take m ks) (take m ps))) (sym (a ∙ e))
      ∙ zip_first (take m ks) (take m ps) j (subst (λ (n : ℕ). j < n) (sym lk) h) (subst (λ (n : ℕ). j < n) (sym lp) h)
      (λ k l q. let u = f k j l h in let b = get_or-take m ks k 0 (omega arith) in omega arith)
      ∙ ap some (get_or-take m ps j 0 h)
