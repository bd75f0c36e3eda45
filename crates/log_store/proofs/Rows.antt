-- Laws of the rows that two columns make: rows put in, replaced and taken out, as the columns are. Assumes nothing.
use Prim.Native.Nat.{ℕ, zero, suc, ◌+◌, ◌-◌, ◌≤◌, ◌<◌, min}
use mathlib.Core.Path.{◌≡◌, refl, sym, ap, ◌∙◌, subst}
use mathlib.Core.Bool.{Bool, true, false}
use mathlib.Core.List.{List, [], ◌∷◌, ◌++◌, append_assoc}
use native.Mathlib.Numerals.{add-one}
use native.Mathlib.Omega.{arith}
use lib.Dec.{ltb}
use borrow.Author.Tests.{ltb-true, lt-ltb, le-ltb}
use lib.ListN.{length, take, drop, get_or, set, length-append, length-take, length-drop, take-append-drop}
use lib.Seq.{take_at, length-take-le, drop-append-le, take-set-lt, set_split, split_at, get_or-take, take-take}
use Rattle.spec.specs.Lists.{lead, put}
use Rattle.log_store.specs.Table.{Row, zipped, rows_of, row_below, inserted, removed}
use Rattle.log_store.proofs.Put.{put-level, put-between}

pub zipped-append : (a a' b b' : List ℕ) → length a ≡ length b → zipped (a ++ a') (b ++ b') ≡ zipped a b ++ zipped a' b'
unfolding zipped
zipped-append [] a' [] b' e = refl
zipped-append [] a' (y ∷ b) b' e = absurd (omega arith)
zipped-append (x ∷ a) a' [] b' e = absurd (omega arith)
zipped-append (x ∷ a) a' (y ∷ b) b' e = rw (zipped-append a a' b b' (omega arith))

pub zipped-take : (k : ℕ) (a b : List ℕ) → take k (zipped a b) ≡ zipped (take k a) (take k b)
unfolding zipped
zipped-take zero a b = refl
zipped-take (suc k) [] b = refl
zipped-take (suc k) (x ∷ a) [] = refl
zipped-take (suc k) (x ∷ a) (y ∷ b) = rw (zipped-take k a b)

zipped-nil : (a : List ℕ) → zipped a [] ≡ []
unfolding zipped
zipped-nil [] = refl
zipped-nil (x ∷ a) = refl

pub zipped-drop : (k : ℕ) (a b : List ℕ) → drop k (zipped a b) ≡ zipped (drop k a) (drop k b)
unfolding zipped
zipped-drop zero a b = refl
zipped-drop (suc k) [] b = refl
zipped-drop (suc k) (x ∷ a) [] = sym (zipped-nil (drop k a))
zipped-drop (suc k) (x ∷ a) (y ∷ b) = zipped-drop k a b

pub zipped-length : (a b : List ℕ) → length a ≡ length b → length (zipped a b) ≡ length a
unfolding zipped
zipped-length [] b e = refl
zipped-length (x ∷ a) [] e = absurd (omega arith)
zipped-length (x ∷ a) (y ∷ b) e = ap suc (zipped-length a b (omega arith))

pub zipped-at : (a b : List ℕ) (i : ℕ) (d : Row) → i < length a → length a ≡ length b
    → get_or (zipped a b) i d ≡ record { id = get_or a i 0; offset = get_or b i 0 }
unfolding zipped
zipped-at [] b i d h e = absurd (omega arith)
zipped-at (x ∷ a) [] i d h e = absurd (omega arith)
zipped-at (x ∷ a) (y ∷ b) zero d h e = refl
zipped-at (x ∷ a) (y ∷ b) (suc i) d h e = zipped-at a b i d (omega arith) (omega arith)

-- the leading rows that pass a test of their id
pub zipped-lead : (p : ℕ → Bool) (a b : List ℕ) → length a ≡ length b → lead (λ (r : Row). p r.id) (zipped a b) ≡ lead p a
unfolding zipped lead
zipped-lead p [] b e = refl
zipped-lead p (x ∷ a) [] e = absurd (omega arith)
zipped-lead p (x ∷ a) (y ∷ b) e = rw (zipped-lead p a b (omega arith))

-- ---- the columns, and the rows of their first n places

-- the first places of a column into which x is put
pub inserted-take : (at n x : ℕ) (l : List ℕ) → at ≤ n → n < length l
    → take (n + 1) (inserted at n x l) ≡ take at (take n l) ++ x ∷ drop at (take n l)
unfolding inserted
inserted-take at n x l h k =
    let m = take n l in
    let r = drop n l in
    let lm : length m ≡ n = length-take-le n l (omega arith) in
    let s : m ++ r ≡ l = take-append-drop n l in
    let f : take at l ≡ take at m = sym (take-take at n l h) in
    let g : drop at l ≡ drop at m ++ r = ap (drop at) (sym s) ∙ drop-append-le at m r (omega arith) in
    let front = take at m ++ x ∷ drop at m in
    let lf : length front ≡ suc n =
    length-append (take at m) (x ∷ drop at m)
    ∙ omega (arith, length-take-le at m (omega arith), length-drop at m) in
    let base : take at l ++ x ∷ drop at l ≡ front ++ r =
    rw (f, g) (sym (append_assoc (take at m) (x ∷ drop at m) r)) in
    let t : take (suc n) (take at l ++ x ∷ drop at l) ≡ front =
    ap (take (suc n)) base ∙ take_at front r (suc n) lf in
    rw (add-one, t) (take_at front (drop (suc n) l) (suc n) lf)

pub removed-take : (at n : ℕ) (l : List ℕ) → at < n → n ≤ length l
    → take (n - 1) (removed at n l) ≡ take at (take n l) ++ drop (at + 1) (take n l)
unfolding removed
removed-take at n l h k =
    let m = take n l in
    let r = drop n l in
    let lm : length m ≡ n = length-take-le n l (omega arith) in
    let s : m ++ r ≡ l = take-append-drop n l in
    let f : take at l ≡ take at m = sym (take-take at n l (omega arith)) in
    let g : drop (at + 1) l ≡ drop (at + 1) m ++ r = ap (drop (at + 1)) (sym s) ∙ drop-append-le (at + 1) m r (omega arith) in
    let front = take at m ++ drop (at + 1) m in
    let lf : length front ≡ n - 1 =
    length-append (take at m) (drop (at + 1) m)
    ∙ omega (arith, length-take-le at m (omega arith), length-drop (at + 1) m) in
    let base : take at l ++ drop (at + 1) l ≡ front ++ r =
    rw (f, g) (sym (append_assoc (take at m) (drop (at + 1) m) r)) in
    let t : take (n - 1) (take at l ++ drop (at + 1) l) ≡ front =
    ap (take (n - 1)) base ∙ take_at front r (n - 1) lf in
    rw t (take_at front (drop (n - 1) l) (n - 1) lf)

pub inserted-length : (at n x : ℕ) (l : List ℕ) → at ≤ n → n < length l → length (inserted at n x l) ≡ length l
unfolding inserted
inserted-length at n x l h k =
    let base = take at l ++ x ∷ drop at l in
    let lb : length base ≡ suc (length l) =
    length-append (take at l) (x ∷ drop at l)
    ∙ omega (arith, length-take-le at l (omega arith), length-drop at l) in
    length-append (take (suc n) base) (drop (suc n) l)
    ∙ omega (arith, length-take-le (suc n) base (omega arith), length-drop (suc n) l)

pub removed-length : (at n : ℕ) (l : List ℕ) → at < n → n ≤ length l → length (removed at n l) ≡ length l
unfolding removed
removed-length at n l h k =
    let base = take at l ++ drop (at + 1) l in
    let lb : length base ≡ length l - 1 =
    length-append (take at l) (drop (at + 1) l)
    ∙ omega (arith, length-take-le at l (omega arith), length-drop (at + 1) l) in
    length-append (take (n - 1) base) (drop (n - 1) l)
    ∙ omega (arith, length-take-le (n - 1) base (omega arith), length-drop (n - 1) l)

-- strictly by id: no two rows stand below each other
row_asym : (a b : Row) → row_below a b ≡ true → row_below b a ≡ false
row_asym a b e = let h = ltb-true a.id b.id e in le-ltb b.id a.id (omega arith)

pub no_row : Row
no_row = record { id = 0; offset = 0 }

module _ (keys places : List ℕ) (n : ℕ) (hk : n ≤ length keys) (hp : n ≤ length places) where
  lk : length (take n keys) ≡ n
  lk = length-take-le n keys hk

  lp : length (take n places) ≡ n
  lp = length-take-le n places hp

  same : length (take n keys) ≡ length (take n places)
  same = lk ∙ sym lp

  pub rows-length : length (rows_of keys places n) ≡ n
  unfolding rows_of
  rows-length = zipped-length (take n keys) (take n places) same ∙ lk

  pub rows_at : (i : ℕ) (d : Row) → i < n → get_or (rows_of keys places n) i d ≡ record { id = get_or keys i 0; offset = get_or places i 0 }
  unfolding rows_of
  rows_at i d h =
      zipped-at (take n keys) (take n places) i d (rw lk h) same ∙ rw (get_or-take n keys i 0 h, get_or-take n places i 0 h)

  pub rows-lead : (id : ℕ) → lead (λ (r : Row). ltb r.id id) (rows_of keys places n) ≡ lead (λ k. ltb k id) (take n keys)
  unfolding rows_of
  rows-lead id = zipped-lead (λ k. ltb k id) (take n keys) (take n places) same

  -- two columns split at one place, with a row there
  split_rows : (a c b d : List ℕ) (k o : ℕ) → length a ≡ length b → zipped (a ++ k ∷ c) (b ++ o ∷ d) ≡ zipped a b ++ record { id = k; offset = o } ∷ zipped c d
  unfolding zipped
  split_rows a c b d k o e = zipped-append a (k ∷ c) b (o ∷ d) e

  front_same : (at : ℕ) → length (take at (take n keys)) ≡ length (take at (take n places))
  front_same at = length-take at (take n keys) ∙ ap (min at) same ∙ sym (length-take at (take n places))

  module _ (id o at : ℕ) (is_at : at ≡ lead (λ k. ltb k id) (take n keys)) where
    place_of : at ≡ lead (λ (r : Row). ltb r.id id) (rows_of keys places n)
    place_of = is_at ∙ sym (rows-lead id)

    abbrev new : Row
    new = record { id = id; offset = o }

    -- the row of an id that is there
    replaced : at < n → get_or keys at 0 ≡ id
        → rows_of keys (set places at o) n ≡ take at (rows_of keys places n) ++ new ∷ drop (suc at) (rows_of keys places n)
    unfolding rows_of
    replaced h q =
        let K = take n keys in
        let P = take n places in
        let a : K ≡ take at K ++ id ∷ drop (suc at) K =
        split_at K at 0 (rw lk h) ∙ ap (λ (v : ℕ). take at K ++ v ∷ drop (suc at) K) (get_or-take n keys at 0 h ∙ q) in
        let b : take n (set places at o) ≡ take at P ++ o ∷ drop (suc at) P =
        take-set-lt n places at o h ∙ set_split P at o (rw lp h) in
        ap (λ (v : List ℕ). zipped v (take n (set places at o))) a
        ∙ ap (zipped (take at K ++ id ∷ drop (suc at) K)) b
        ∙ split_rows (take at K) (drop (suc at) K) (take at P) (drop (suc at) P) id o (front_same at)
        ∙ rw (zipped-take at K P, zipped-drop (suc at) K P)

    pub set-level : at < n → get_or keys at 0 ≡ id
        → rows_of keys (set places at o) n ≡ put row_below new (rows_of keys places n)
    set-level h q =
        replaced h q
        ∙ sym
        (subst (λ (m : ℕ). m < length (rows_of keys places n) → row_below new (get_or (rows_of keys places n) m no_row) ≡ false
        → put row_below new (rows_of keys places n) ≡ take m (rows_of keys places n) ++ new ∷ drop (suc m) (rows_of keys places n))
        (sym place_of) (put-level row_below row_asym new no_row (rows_of keys places n))
        (rw rows-length h)
        (le-ltb id (get_or (rows_of keys places n) at no_row).id (rw (rows_at at no_row h) (omega arith))))

    put_in : at ≤ n → n < length keys → n < length places
        → rows_of (inserted at n id keys) (inserted at n o places) (n + 1)
        ≡ take at (rows_of keys places n) ++ new ∷ drop at (rows_of keys places n)
    unfolding rows_of
    put_in h k p =
        let K = take n keys in
        let P = take n places in
        ap (λ (v : List ℕ). zipped v (take (n + 1) (inserted at n o places))) (inserted-take at n id keys h k)
        ∙ ap (zipped (take at K ++ id ∷ drop at K)) (inserted-take at n o places h p)
        ∙ split_rows (take at K) (drop at K) (take at P) (drop at P) id o (front_same at)
        ∙ rw (zipped-take at K P, zipped-drop at K P)

    pub set-between : at ≤ n → n < length keys → n < length places → (at < n → id < get_or keys at 0)
        → rows_of (inserted at n id keys) (inserted at n o places) (n + 1) ≡ put row_below new (rows_of keys places n)
    set-between h k p q =
        put_in h k p
        ∙ sym
        (subst (λ (m : ℕ). (m < length (rows_of keys places n) → row_below new (get_or (rows_of keys places n) m no_row) ≡ true)
        → put row_below new (rows_of keys places n) ≡ take m (rows_of keys places n) ++ new ∷ drop m (rows_of keys places n))
        (sym place_of) (put-between row_below row_asym new no_row (rows_of keys places n))
        (λ l. let l' : at < n = subst (λ (m : ℕ). at < m) rows-length l in
        lt-ltb id (get_or (rows_of keys places n) at no_row).id (rw (rows_at at no_row l') (q l'))))

    pub taken_out : at < n → rows_of (removed at n keys) (removed at n places) (n - 1)
        ≡ take at (rows_of keys places n) ++ drop (at + 1) (rows_of keys places n)
    unfolding rows_of
    taken_out h =
        let K = take n keys in
        let P = take n places in
        ap (λ (v : List ℕ). zipped v (take (n - 1) (removed at n places))) (removed-take at n keys h hk)
        ∙ ap (zipped (take at K ++ drop (at + 1) K)) (removed-take at n places h hp)
        ∙ zipped-append (take at K) (drop (at + 1) K) (take at P) (drop (at + 1) P) (front_same at)
        ∙ rw (zipped-take at K P, zipped-drop (at + 1) K P)
