-- The table is the log played if, and only if, the rows fit and every entry is settled. Assumes nothing.
use Prim.Native.Nat.{ℕ, zero, suc, ◌+◌, ◌-◌, ◌≤◌, ◌<◌}
use mathlib.Core.Path.{◌≡◌, refl, sym, ap, ◌∙◌, subst}
use mathlib.Core.Bool.{Bool, true, false, cond}
use mathlib.Core.List.{List}
use mathlib.Core.Logic.{inl, inr}
use mathlib.Core.Option.{Option, none, some}
use native.Mathlib.Numerals.{add-one}
use native.Mathlib.Omega.{arith}
use lib.Dec.{eqb}
use borrow.Author.Tests.{eqb-true, eqb-false}
use lib.ListN.{length, get_or}
use Rattle.spec.specs.Lists.{rising}
use Rattle.spec_laws.proofs.Lists.{none_some, some_same}
use Rattle.spec_laws.proofs.Nearest.Tests.{Test, less, same, more, test}
use Rattle.log_store.specs.Table.{Row, rows_of, row_below, rows_played}
use Rattle.log_store.proofs.Rebuilt.{played-rise}
use Rattle.log_check.specs.Conditions.{row_at, Rises, NoRow, Names, RowsFit, Settled, AllSettled}
use Rattle.log_check.proofs.Lookup.{row-by, same_lookups, rises_by, rows-rises, rises-rows, row_some, row-none, row_first}

-- the last of n entries that has an id stands at place l
record Last (is : List ℕ) (n id l : ℕ) : Type 0 where
  below : l < n
  own : get_or is l 0 ≡ id
  last : (k : ℕ) → l < k → k < n → get_or is k 0 ≡ id → ⊥

-- what the log played gives an id: no row if it has no entry, or if the last is a Delete; else the last entry's
data Lasting (is cs : List ℕ) (n id : ℕ) (x : Option ℕ) : Type 0 where
  never : x ≡ none → ((i : ℕ) → i < n → get_or is i 0 ≡ id → ⊥) → Lasting is cs n id x
  dropped : (l : ℕ) → x ≡ none → Last is n id l → (get_or cs l 0 ≡ 1 → ⊥) → Lasting is cs n id x
  kept : (l : ℕ) → x ≡ some (l + 1) → Last is n id l → get_or cs l 0 ≡ 1 → Lasting is cs n id x

last_on : (is : List ℕ) (n id l : ℕ) → Last is n id l → (get_or is n 0 ≡ id → ⊥) → Last is (suc n) id l
last_on is n id l p q = record { below = let h = p.below in omega arith; own = p.own; last = later }
  where
    later : (k : ℕ) → l < k → k < suc n → get_or is k 0 ≡ id → ⊥
    later k h g = go (test k n)
      where
        go : Test k n → get_or is k 0 ≡ id → ⊥
        go (less a b c) e = p.last k h a e
        go (same a b c) e = q (subst (λ (m : ℕ). get_or is m 0 ≡ id) a e)
        go (more a b c) e = omega arith

last_here : (is : List ℕ) (n id : ℕ) → get_or is n 0 ≡ id → Last is (suc n) id n
last_here is n id e = record { below = omega arith; own = e; last = λ k h g q. omega arith }

never_on : (is : List ℕ) (n id : ℕ) → ((i : ℕ) → i < n → get_or is i 0 ≡ id → ⊥) → (get_or is n 0 ≡ id → ⊥) → (i : ℕ) → i < suc n → get_or is i 0 ≡ id → ⊥
never_on is n id f q i h = go (test i n)
  where
    go : Test i n → get_or is i 0 ≡ id → ⊥
    go (less a b c) e = f i a e
    go (same a b c) e = q (subst (λ (m : ℕ). get_or is m 0 ≡ id) a e)
    go (more a b c) e = omega arith

lasting : (os is cs : List ℕ) (n id : ℕ) → ((i : ℕ) → i < n → get_or os i 0 ≡ i + 1) → Lasting is cs n id (row_at (rows_played os is cs n) id)
unfolding rows_played row_at
lasting os is cs zero id h = never refl (λ i q. absurd (omega arith))
lasting os is cs (suc n) id h =
    go (eqb (get_or is n 0) id) refl (eqb (get_or cs n 0) 1) refl
    (row-by (rows_played os is cs n) (get_or cs n 0) (get_or is n 0) (get_or os n 0) id)
    (lasting os is cs n id (λ i q. h i (omega arith)))
  where
    x : Option ℕ
    x = row_at (rows_played os is cs (suc n)) id

    go : (a : Bool) → eqb (get_or is n 0) id ≡ a → (b : Bool) → eqb (get_or cs n 0) 1 ≡ b
        → x ≡ cond (eqb (get_or is n 0) id) (cond (eqb (get_or cs n 0) 1) (some (get_or os n 0)) none) (row_at (rows_played os is cs n) id)
        → Lasting is cs n id (row_at (rows_played os is cs n) id) → Lasting is cs (suc n) id x
    go true p true q e l =
        kept n (e ∙ rw (p, q) (ap some (h n (omega arith)))) (last_here is n id (eqb-true (get_or is n 0) id p)) (eqb-true (get_or cs n 0) 1 q)
    go true p false q e l = dropped n (e ∙ rw (p, q)) (last_here is n id (eqb-true (get_or is n 0) id p)) (eqb-false (get_or cs n 0) 1 q)
    go false p b q e (never f g) = never (e ∙ rw p f) (never_on is n id g (eqb-false (get_or is n 0) id p))
    go false p b q e (dropped l f g d) = dropped l (e ∙ rw p f) (last_on is n id l g (eqb-false (get_or is n 0) id p)) d
    go false p b q e (kept l f g d) = kept l (e ∙ rw p f) (last_on is n id l g (eqb-false (get_or is n 0) id p)) d

pub fit-rises : (is cs ks ps : List ℕ) (n m : ℕ) → RowsFit is cs ks ps n m → Rises ks m
fit-rises is cs ks ps n m f = rises_by ks m (λ k h. (f (suc k) h).above k (add-one k))

module _ (os is cs ks ps : List ℕ) (n m : ℕ) (hk : m ≤ length ks) (hp : m ≤ length ps) (num : (i : ℕ) → i < n → get_or os i 0 ≡ i + 1) where
  abbrev rows : List Row
  rows = rows_of ks ps m

  abbrev played : List Row
  played = rows_played os is cs n

  -- ---- rows that fit a settled log

  module _ (f : RowsFit is cs ks ps n m) (g : AllSettled is cs ks ps n m) where
    -- a row that names the last entry of its id, or a later one, names that entry
    names_last : (id l j : ℕ) → Last is n id l → j < m → get_or ks j 0 ≡ id → l < get_or ps j 0 → get_or ps j 0 ≡ l + 1
    names_last id l j w h e q =
        let a = (f j h).names in
        let b = a.starts in
        let c = a.ends in
        close (get_or ps j 0) (λ u. w.last (get_or ps j 0 - 1) u (omega arith) (a.same ∙ e)) q
      where
        close : (p : ℕ) → (l < p - 1 → ⊥) → l < p → p ≡ l + 1
        close p u v = omega (arith, u)

    upsert_last : (id l j : ℕ) → Last is n id l → j < m → get_or ks j 0 ≡ id → l < get_or ps j 0 → get_or cs l 0 ≡ 1
    upsert_last id l j w h e q =
        let a = names_last id l j w h e q in
        let b : get_or ps j 0 - 1 ≡ l = omega arith in
        subst (λ (i : ℕ). get_or cs i 0 ≡ 1) b (f j h).names.upsert

    found : (id : ℕ) (x : Option ℕ) → Lasting is cs n id x → row_at rows id ≡ x
    found id x (never e w) = row-none ks ps m hk hp id (λ j h q. no j h q) ∙ sym e
      where
        no : (j : ℕ) → j < m → get_or ks j 0 ≡ id → ⊥
        no j h q =
            let a = (f j h).names in
            let b = a.starts in
            let c = a.ends in
            w (get_or ps j 0 - 1) (omega arith) (a.same ∙ q)
    found id x (dropped l e w d) = row-none ks ps m hk hp id (λ j h q. no j h q (g l w.below)) ∙ sym e
      where
        no : (j : ℕ) → j < m → get_or ks j 0 ≡ id → Settled is cs ks ps n m l → ⊥
        no j h q (inl (inl r)) = d (upsert_last id l r.0 w r.1 (r.2 ∙ w.own) r.3)
        no j h q (inl (inr r)) = r.1 j h (q ∙ sym w.own)
        no j h q (inr r) = w.last r.0 r.1 r.2 (r.3 ∙ w.own)
    found id x (kept l e w u) = go (g l w.below) ∙ sym e
      where
        go : Settled is cs ks ps n m l → row_at rows id ≡ some (l + 1)
        go (inl (inl r)) =
            row_first ks ps m hk hp (fit-rises is cs ks ps n m f) r.0 id r.1 (r.2 ∙ w.own)
            ∙ ap some (names_last id l r.0 w r.1 (r.2 ∙ w.own) r.3)
        go (inl (inr r)) = absurd (r.0 u)
        go (inr r) = absurd (w.last r.0 r.1 r.2 (r.3 ∙ w.own))

    pub settled-played : rows ≡ played
    settled-played =
        same_lookups rows played (rises-rows ks ps m hk hp (fit-rises is cs ks ps n m f)) (played-rise os is cs n)
        (λ id. found id (row_at played id) (lasting os is cs n id num))

  -- ---- the rows of the log played

  module _ (e : rows ≡ played) where
    rise : Rises ks m
    rise = rows-rises ks ps m hk hp (ap (rising row_below) e ∙ played-rise os is cs n)

    looked : (j : ℕ) → j < m → row_at played (get_or ks j 0) ≡ some (get_or ps j 0)
    looked j h = ap (λ (rs : List Row). row_at rs (get_or ks j 0)) (sym e) ∙ row_first ks ps m hk hp rise j (get_or ks j 0) h refl

    names_of : (j : ℕ) (x : Option ℕ) → x ≡ some (get_or ps j 0) → Lasting is cs n (get_or ks j 0) x → Names is cs ks ps n j
    names_of j x q (never p w) = none_some (sym p ∙ q)
    names_of j x q (dropped l p w d) = none_some (sym p ∙ q)
    names_of j x q (kept l p w u) =
        let o : l + 1 ≡ get_or ps j 0 = some_same (sym p ∙ q) in
        let h = w.below in
        let i : l ≡ get_or ps j 0 - 1 = omega arith in
        record {
          starts = omega arith;
          ends = omega arith;
          same = subst (λ (k : ℕ). get_or is k 0 ≡ get_or ks j 0) i w.own;
          upsert = subst (λ (k : ℕ). get_or cs k 0 ≡ 1) i u;
        }

    pub played-fit : RowsFit is cs ks ps n m
    played-fit j h = record {
      names = names_of j (row_at played (get_or ks j 0)) (looked j h) (lasting os is cs n (get_or ks j 0) num);
      above = λ k q. rise k j (omega arith) h;
    }

    pub played-settled : AllSettled is cs ks ps n m
    played-settled i h = go (lasting os is cs n (get_or is i 0) num)
      where
        at_last : (l : ℕ) → Last is n (get_or is i 0) l → (i ≡ l → Settled is cs ks ps n m i) → Settled is cs ks ps n m i
        at_last l w f = by (test i l)
          where
            by : Test i l → Settled is cs ks ps n m i
            by (less a b c) = inr (l, a, w.below, w.own)
            by (same a b c) = f a
            by (more a b c) = absurd (w.last i a h refl)

        no_row : row_at played (get_or is i 0) ≡ none → NoRow ks m (get_or is i 0)
        no_row q j g r = none_some (sym q ∙ ap (row_at played) (sym r) ∙ looked j g)

        go : Lasting is cs n (get_or is i 0) (row_at played (get_or is i 0)) → Settled is cs ks ps n m i
        go (never p w) = absurd (w i h refl)
        go (dropped l p w d) = at_last l w (λ q. inl (inr ((λ u. d (subst (λ (k : ℕ). get_or cs k 0 ≡ 1) q u)), no_row p)))
        go (kept l p w u) =
            at_last l w
            (λ q.
            let r = row_some ks ps m hk hp (get_or is i 0) (l + 1) (ap (λ (rs : List Row). row_at rs (get_or is i 0)) e ∙ p) in
            let o = r.3 in
            inl (inl (r.0, r.1, r.2, omega arith)))
