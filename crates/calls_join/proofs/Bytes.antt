-- The answers where they stand are what the format says, and how walks go through them. Assumes nothing.
use Prim.Native.Nat.{ℕ, zero, suc, ◌+◌, ◌-◌, ◌*◌, ◌≤◌, ◌<◌}
use mathlib.Core.Path.{◌≡◌, refl, sym, ap, ◌∙◌, subst}
use mathlib.Core.Bool.{Bool, true, false}
use mathlib.Core.List.{List, ◌∷◌, map}
use mathlib.Core.Option.{none, some}
use native.Mathlib.Omega.{arith}
use lib.Dec.{leb, eqb}
use lib.ListN.{length}
use borrow.Author.Tests.{le-leb, lt-leb, leb-true, leb-false, eq-eqb, ne_eqb}
use Rattle.spec.specs.Lists.{◌and◌, nth}
use Rattle.spec.specs.Layout.Format.{number_at, next_n, fits_n, value_n, fits, next, value}
use Rattle.spec_laws.proofs.Lists.{and_left, and_right, and_true, not_both}
use Rattle.spec_join.specs.Join.{Hit}
use Rattle.spec_join.specs.Answers.{hit_f, answer_f, hit_of, answer_of, answers_from, answers_in}
use Rattle.calls_join.specs.View.{hit_at, hits_at, count_at, answer_at, after_at, stands_at, answers_at, Leads, Stand}

-- a hit's twelve bytes, and then the rest up to m, of l
one_more : (l q m : ℕ) (rest : Bool) → q + 12 ≤ m → (q + 12 ≤ l → rest ≡ leb m l) → ((leb (q + 8) l and leb (q + 8 + 4) l) and rest) ≡ leb m l
unfolding ◌and◌
one_more l q m rest h f = go (leb (q + 8) l) (leb (q + 8 + 4) l) refl refl
  where
    go : (a b : Bool) → leb (q + 8) l ≡ a → leb (q + 8 + 4) l ≡ b → ((a and b) and rest) ≡ leb m l
    go true true p e = f (let k = leb-true (q + 8 + 4) l e in omega arith)
    go true false p e = sym (lt-leb m l (let k = leb-false (q + 8 + 4) l e in omega arith))
    go false b p e = sym (lt-leb m l (let k = leb-false (q + 8) l p in omega arith))

module _ (s : List ℕ) where
  -- ---- one answer
  pub record Stands (p : ℕ) : Type 0 where
    pub begins : p + 6 ≤ length s
    pub few : count_at s p ≤ 1024
    pub ends : after_at s p ≤ length s

  pub stands_says : (p : ℕ) → stands_at s p ≡ true → Stands p
  unfolding stands_at
  stands_says p e =
      let r = and_right (leb (p + 6) (length s)) (leb (count_at s p) 1024 and leb (after_at s p) (length s)) e in
      record {
        begins = leb-true (p + 6) (length s) (and_left (leb (p + 6) (length s)) (leb (count_at s p) 1024 and leb (after_at s p) (length s)) e);
        few = leb-true (count_at s p) 1024 (and_left (leb (count_at s p) 1024) (leb (after_at s p) (length s)) r);
        ends = leb-true (after_at s p) (length s) (and_right (leb (count_at s p) 1024) (leb (after_at s p) (length s)) r);
      }

  pub stands_holds : (p : ℕ) → Stands p → stands_at s p ≡ true
  unfolding stands_at
  stands_holds p h =
      and_true (leb (p + 6) (length s)) (leb (count_at s p) 1024 and leb (after_at s p) (length s)) (le-leb (p + 6) (length s) h.begins)
      (and_true (leb (count_at s p) 1024) (leb (after_at s p) (length s)) (le-leb (count_at s p) 1024 h.few) (le-leb (after_at s p) (length s) h.ends))

  pub stands_not : (p : ℕ) → (Stands p → ⊥) → stands_at s p ≡ false
  stands_not p n = go (stands_at s p) refl
    where
      go : (b : Bool) → stands_at s p ≡ b → b ≡ false
      go true e = absurd (n (stands_says p e))
      go false e = refl

  pub stands_is : (p n : ℕ) → n ≡ count_at s p → p + 6 ≤ length s → n ≤ 1024 → leb (12 * n) (length s - p - 6) ≡ stands_at s p
  stands_is p n e h g = go (leb (12 * n) (length s - p - 6)) refl
    where
      go : (b : Bool) → leb (12 * n) (length s - p - 6) ≡ b → b ≡ stands_at s p
      go true q =
          let l = leb-true (12 * n) (length s - p - 6) q in
          sym (stands_holds p (record { begins = h; few = omega arith; ends = omega arith }))
      go false q = let l = leb-false (12 * n) (length s - p - 6) q in sym (stands_not p (λ st. (let k = st.ends in omega arith)))

  -- ---- as the format has it
  next-hits : (n q : ℕ) → next_n (next hit_f s) n q ≡ q + 12 * n
  next-hits zero q = omega arith
  next-hits (suc n) q = next-hits n (q + 8 + 4) ∙ omega arith

  fits-hits : (n q : ℕ) → q ≤ length s → fits_n (fits hit_f s) (next hit_f s) n q ≡ leb (q + 12 * n) (length s)
  fits-hits zero q h = sym (le-leb (q + 12 * 0) (length s) (omega arith))
  fits-hits (suc n) q h =
      one_more (length s) q (q + 12 * suc n) (fits_n (fits hit_f s) (next hit_f s) n (q + 8 + 4)) (omega arith)
      (λ g. fits-hits n (q + 8 + 4) (omega arith) ∙ ap (λ (m : ℕ). leb m (length s)) (omega arith))

  value-hits : (n q : ℕ) → map hit_of (value_n (value hit_f s) (next hit_f s) n q) ≡ hits_at s n q
  unfolding hits_at
  value-hits zero q = refl
  value-hits (suc n) q = ap (λ (l : List Hit). hit_at s q ∷ l) (value-hits n (q + 8 + 4) ∙ ap (hits_at s n) (omega arith))

  pub next-is : (p : ℕ) → next answer_f s p ≡ after_at s p
  next-is p = next-hits (number_at 2 s (p + 4)) (p + 4 + 2) ∙ omega arith

  pub value-is : (p : ℕ) → answer_of (value answer_f s p) ≡ answer_at s p
  value-is p = rw (value-hits (number_at 2 s (p + 4)) (p + 4 + 2), six) refl
    where
      six : p + 4 + 2 ≡ p + 6
      six = omega arith

  pub fits-is : (p : ℕ) → fits answer_f s p ≡ stands_at s p
  unfolding stands_at ◌and◌
  fits-is p = go (leb (p + 4) (length s)) (leb (p + 6) (length s)) refl refl
    where
      go : (a b : Bool) → leb (p + 4) (length s) ≡ a → leb (p + 6) (length s) ≡ b
          → (a and (leb (p + 4 + 2) (length s) and (leb 0 (count_at s p) and (leb (count_at s p) 1024 and fits_n (fits hit_f s) (next hit_f s) (count_at s p) (p + 4 + 2)))))
          ≡ (b and (leb (count_at s p) 1024 and leb (after_at s p) (length s)))
      go true true e f =
          let six : p + 4 + 2 ≡ p + 6 = omega arith in
          let h = leb-true (p + 6) (length s) f in
          rw (six, f, le-leb 0 (count_at s p) (omega arith), fits-hits (count_at s p) (p + 6) h) refl
      go true false e f = let six : p + 4 + 2 ≡ p + 6 = omega arith in rw (six, f) refl
      go false true e f = let h = leb-true (p + 6) (length s) f in not_both (leb (p + 4) (length s)) (le-leb (p + 4) (length s) (omega arith)) e
      go false false e f = refl

  -- ---- one after the other
  pub leads_snoc : (n p q : ℕ) → Leads s n p q → stands_at s q ≡ true → Leads s (suc n) p (after_at s q)
  leads_snoc zero p q l h = (subst (λ (z : ℕ). stands_at s z ≡ true) (sym l) h, ap (after_at s) l)
  leads_snoc (suc n) p q l h = (l.0, leads_snoc n (after_at s p) q l.1 h)

  pub leads-size : (n p q : ℕ) → Leads s n p q → p + 6 * n ≤ q
  leads-size zero p q l = omega arith
  leads-size (suc n) p q l = let h = leads-size n (after_at s p) q l.1 in omega arith

  at-end : (p : ℕ) → stands_at s p ≡ true → eqb p (length s) ≡ false
  at-end p e = ne_eqb p (length s) (λ q. let h = (stands_says p e).begins in omega arith)

  pub broken : (n p q : ℕ) → Leads s n p q → (q ≡ length s → ⊥) → stands_at s q ≡ false → (most : ℕ) → answers_from most s p ≡ none
  unfolding answers_from
  broken zero p q l n f zero = rw (ne_eqb p (length s) (λ e. n (sym l ∙ e)))
  broken zero p q l n f (suc most) =
      rw (ne_eqb p (length s) (λ e. n (sym l ∙ e)), fits-is p, subst (λ (z : ℕ). stands_at s z ≡ false) (sym l) f)
  broken (suc m) p q l n f zero = rw (at-end p l.0)
  broken (suc m) p q l n f (suc most) = rw (at-end p l.0, fits-is p, l.0, next-is p, broken m (after_at s p) q l.1 n f most)

  pub whole : (n p most : ℕ) → Stand s n p → n ≤ most → answers_from most s p ≡ some (answers_at s n p)
  unfolding answers_from answers_at
  whole zero p zero l h = rw (eq-eqb p (length s) l)
  whole zero p (suc most) l h = rw (eq-eqb p (length s) l)
  whole (suc n) p zero l h = absurd (omega arith)
  whole (suc n) p (suc most) l h = rw (at-end p l.0, fits-is p, l.0, next-is p, value-is p, whole n (after_at s p) most l.1 (omega arith))

  pub whole_in : (n : ℕ) → Stand s n 0 → answers_in s ≡ some (answers_at s n 0)
  unfolding answers_in
  whole_in n l = whole n 0 (length s) l (let h = leads-size n 0 (length s) l in omega arith)

  pub broken_in : (n q : ℕ) → Leads s n 0 q → (q ≡ length s → ⊥) → stands_at s q ≡ false → answers_in s ≡ none
  unfolding answers_in
  broken_in n q l d f = broken n 0 q l d f (length s)

  -- ---- the first of several
  pub stand_first : (n p : ℕ) → 0 < n → Stand s n p → stands_at s p ≡ true
  stand_first zero p h l = absurd (omega arith)
  stand_first (suc n) p h l = l.0

  pub stand_rest : (n p : ℕ) → 0 < n → Stand s n p → Stand s (n - 1) (after_at s p)
  stand_rest zero p h l = absurd (omega arith)
  stand_rest (suc n) p h l = let e : suc n - 1 ≡ n = omega arith in subst (λ (m : ℕ). Stand s m (after_at s p)) (sym e) l.1

  -- the same, i of n gone by
  pub stand_here : (n i p : ℕ) → i < n → Stand s (n - i) p → stands_at s p ≡ true
  stand_here n i p h l = stand_first (n - i) p (omega arith) l

  pub stand_next : (n i p : ℕ) → i < n → Stand s (n - i) p → Stand s (n - (i + 1)) (after_at s p)
  stand_next n i p h l =
      let e : n - i - 1 ≡ n - (i + 1) = omega arith in subst (λ (m : ℕ). Stand s m (after_at s p)) e (stand_rest (n - i) p (omega arith) l)

  pub answers-first : (n p : ℕ) → 0 < n → answers_at s n p ≡ answer_at s p ∷ answers_at s (n - 1) (after_at s p)
  unfolding answers_at
  answers-first zero p h = absurd (omega arith)
  answers-first (suc n) p h = let e : suc n - 1 ≡ n = omega arith in ap (λ (m : ℕ). answer_at s p ∷ answers_at s m (after_at s p)) (sym e)

  pub hits-first : (n p : ℕ) → 0 < n → hits_at s n p ≡ hit_at s p ∷ hits_at s (n - 1) (p + 12)
  unfolding hits_at
  hits-first zero p h = absurd (omega arith)
  hits-first (suc n) p h = let e : suc n - 1 ≡ n = omega arith in ap (λ (m : ℕ). hit_at s p ∷ hits_at s m (p + 12)) (sym e)

  pub answers-next : (n i p : ℕ) → i < n → answers_at s (n - i) p ≡ answer_at s p ∷ answers_at s (n - (i + 1)) (after_at s p)
  answers-next n i p h =
      let e : n - i - 1 ≡ n - (i + 1) = omega arith in
      answers-first (n - i) p (omega arith) ∙ ap (λ (m : ℕ). answer_at s p ∷ answers_at s m (after_at s p)) e

  -- the i-th of n hits from p on, and those behind it
  pub hits-next : (n p i : ℕ) → i < n → hits_at s (n - i) (p + 12 * i) ≡ hit_at s (p + 12 * i) ∷ hits_at s (n - (i + 1)) (p + 12 * (i + 1))
  hits-next n p i h =
      let e : n - i - 1 ≡ n - (i + 1) = omega arith in
      let f : p + 12 * i + 12 ≡ p + 12 * (i + 1) = omega arith in
      hits-first (n - i) (p + 12 * i) (omega arith) ∙ rw (e, f) refl

  pub hits-length : (n p : ℕ) → length (hits_at s n p) ≡ n
  unfolding hits_at
  hits-length zero p = refl
  hits-length (suc n) p = ap suc (hits-length n (p + 12))

  pub answers-length : (n p : ℕ) → length (answers_at s n p) ≡ n
  unfolding answers_at
  answers-length zero p = refl
  answers-length (suc n) p = ap suc (answers-length n (after_at s p))

  -- ---- by places
  pub hit-there : (n p i : ℕ) → i < n → nth (hits_at s n p) i ≡ some (hit_at s (p + 12 * i))
  unfolding hits_at nth
  hit-there zero p i h = absurd (omega arith)
  hit-there (suc n) p zero h = let e : p + 12 * 0 ≡ p = omega arith in ap (λ (q : ℕ). some (hit_at s q)) (sym e)
  hit-there (suc n) p (suc i) h =
      let e : p + 12 + 12 * i ≡ p + 12 * suc i = omega arith in hit-there n (p + 12) i (omega arith) ∙ ap (λ (q : ℕ). some (hit_at s q)) e
