-- The tests of one row and of one entry, way by way, and what the loops over them carry. Assumes nothing.
use Prim.Native.Nat.{ℕ, zero, suc, ◌+◌, ◌-◌, ◌≤◌, ◌<◌}
use mathlib.Core.Path.{◌≡◌, refl, sym, ap, ◌∙◌, subst}
use mathlib.Core.Bool.{Bool, true, false, not}
use mathlib.Core.List.{List}
use mathlib.Core.Logic.{inl, inr}
use native.Mathlib.Omega.{arith}
use lib.Dec.{eqb, ltb}
use borrow.Author.Tests.{eqb-true, ltb-true, ltb-false}
use lib.ListN.{length, take, get_or, set, replicate}
use lib.Seq.{length-take-le, get_or-set_other, get_or-take}
use Rattle.std.specs.List.Sorted.{IsPartitionPoint, IsPartitionedBy}
use Rattle.std.proofs.lemmas.List.Sorted.{IsNonDecreasingBy-from_default, IsPartitionedBy-ltb}
use Rattle.spec_laws.proofs.Lists.{not_both}
use Rattle.spec_laws.proofs.Nearest.Tests.{Test, less, same, more, test}
use Rattle.log_store.specs.Table.{rows_of, rows_played}
use Rattle.log_store.specs.Store.{same_rows}
use Rattle.log_store.proofs.Facts.{same-rows, rows_same}
use Rattle.log_check.specs.Conditions.{Decides, Rises, Names, RowFits, RowsFit, Marked, Tested, Parted, NoRow, Agrees, Again, Settled, AllSettled, Walk}
use Rattle.log_check.proofs.Answers.{grant, deny, by_less, by-other, hand_on, false_if, true_if}
use Rattle.log_check.proofs.Played.{fit-rises, settled-played, played-fit, played-settled}

-- what holds below i and at i holds below i + 1
below_on : (P : ℕ → Type 0) (i : ℕ) → ((j : ℕ) → j < i → P j) → P i → (j : ℕ) → j < i + 1 → P j
below_on P i f p j h = go (test j i)
  where
    go : Test j i → P j
    go (less a b c) = f j a
    go (same a b c) = subst P (sym a) p
    go (more a b c) = absurd (omega arith)

-- ---- a row

module _ (is cs ks ps : List ℕ) (n j : ℕ) where
  abbrev p : ℕ
  p = get_or ps j 0

  abbrev Fits : Type 0
  Fits = RowFits is cs ks ps n j

  pub row_zero : p ≡ 0 → Decides false Fits
  row_zero e = deny (λ f. (let h = f.names.starts in omega arith))

  pub row-far : n < p → Decides false Fits
  row-far l = deny (λ f. (let h = f.names.ends in omega arith))

  pub row_other : (get_or is (p - 1) 0 ≡ get_or ks j 0 → ⊥) → Decides false Fits
  row_other q = deny (λ f. q f.names.same)

  pub row_delete : (get_or cs (p - 1) 0 ≡ 1 → ⊥) → Decides false Fits
  row_delete q = deny (λ f. q f.names.upsert)

  module _ (pos : p ≡ 0 → ⊥) (l : p ≤ n) (s : get_or is (p - 1) 0 ≡ get_or ks j 0) (u : get_or cs (p - 1) 0 ≡ 1) where
    names : Names is cs ks ps n j
    names = record { starts = starts p pos; ends = l; same = s; upsert = u }
      where
        starts : (x : ℕ) → (x ≡ 0 → ⊥) → 1 ≤ x
        starts zero f = absurd (f refl)
        starts (suc x) f = omega arith

    pub row-top : j ≡ 0 → Decides true Fits
    row-top e = grant (record { names = names; above = λ k q. absurd (omega arith) })

    pub row_next : (j ≡ 0 → ⊥) → Decides (ltb (get_or ks (j - 1) 0) (get_or ks j 0)) Fits
    row_next ne =
        by_less (get_or ks (j - 1) 0) (get_or ks j 0)
        (λ h. record { names = names; above = λ k q. subst (λ (m : ℕ). get_or ks m 0 < get_or ks j 0) (before j k q) h })
        (λ f. f.above (j - 1) (again j ne))
      where
        before : (j k : ℕ) → k + 1 ≡ j → j - 1 ≡ k
        before j k q = omega arith

        again : (j : ℕ) → (j ≡ 0 → ⊥) → j - 1 + 1 ≡ j
        again zero f = absurd (f refl)
        again (suc j) f = omega arith

-- ---- all rows, with their marks

-- marks that are all 0
pub blank : (n i : ℕ) → ◌≡◌ {A = ℕ} (get_or (replicate n 0) i 0) 0
blank zero i = refl
blank (suc n) zero = refl
blank (suc n) (suc i) = blank n i

-- no mark yet
pub unmarked : (ps marks : List ℕ) → ((i : ℕ) → get_or marks i 0 ≡ 0) → Marked ps marks 0
unmarked ps marks f i q = absurd (q (f i))

module _ (is cs ks ps : List ℕ) (n : ℕ) where
  pub mark_on : (marks : List ℕ) (j : ℕ) → RowFits is cs ks ps n j → Marked ps marks j → Marked ps (set marks (get_or ps j 0 - 1) 1) (j + 1)
  mark_on marks j r f i q = go (test i (get_or ps j 0 - 1))
    where
      older : (i ≡ get_or ps j 0 - 1 → ⊥) → (k : ℕ) × (k < j + 1) × (get_or ps k 0 ≡ i + 1)
      older ne =
          let a = f i (λ e. q (get_or-set_other marks (get_or ps j 0 - 1) i 1 0 ne ∙ e)) in
          let h = a.1 in
          (a.0, omega arith, a.2)

      go : Test i (get_or ps j 0 - 1) → (k : ℕ) × (k < j + 1) × (get_or ps k 0 ≡ i + 1)
      go (less a b c) = older (λ e. omega arith)
      go (same a b c) = let h = r.names.starts in (j, omega arith, omega arith)
      go (more a b c) = older (λ e. omega arith)

  pub fit_on : (j : ℕ) → RowsFit is cs ks ps n j → RowFits is cs ks ps n j → RowsFit is cs ks ps n (j + 1)
  fit_on j f r = below_on (RowFits is cs ks ps n) j f r

  pub rows_stop : (marks : List ℕ) (j m : ℕ) (b : Bool) → j < m → length marks ≡ 1024 → Marked ps marks j → Decides b (RowFits is cs ks ps n j) → b ≡ false
      → Tested is cs ks ps marks n m false
  rows_stop marks j m b h l f d e = record {
    answer = deny (λ g. d.nay e (g j h));
    marked = λ i q. (let a = f i q in let k = a.1 in (a.0, omega arith, a.2));
    size = l;
  }

  pub rows_end : (marks : List ℕ) (j m : ℕ) → j ≡ m → length marks ≡ 1024 → Marked ps marks j → RowsFit is cs ks ps n j → Tested is cs ks ps marks n m true
  rows_end marks j m e l f g = record {
    answer = grant (subst (λ (k : ℕ). RowsFit is cs ks ps n k) e g);
    marked = subst (λ (k : ℕ). Marked ps marks k) e f;
    size = l;
  }

-- ---- the place of an id among keys that rise

module _ (ks : List ℕ) (n id : ℕ) (f : Rises ks n) where
  rising-on : (i j : ℕ) → i ≤ j → j < n → get_or ks i 0 ≤ get_or ks j 0
  rising-on i j h g = go (test i j)
    where
      go : Test i j → get_or ks i 0 ≤ get_or ks j 0
      go (less a b c) = let u = f i j a g in omega arith
      go (same a b c) = subst (λ (k : ℕ). get_or ks i 0 ≤ get_or ks k 0) a (omega arith)
      go (more a b c) = absurd (omega arith)

  module _ (h : n ≤ length ks) where
    -- what the library's search asks of the first n
    pub seek-parted : IsPartitionedBy (λ (k : ℕ). ltb k id) (take n ks)
    seek-parted =
        IsPartitionedBy-ltb (λ (k : ℕ). k) (take n ks) id (IsNonDecreasingBy-from_default (λ (k : ℕ). k) (take n ks) 0
        (λ i j le lt. (let l = length-take-le n ks h in let g : j < n = omega arith in
        let a = get_or-take n ks i 0 (omega arith) in let b = get_or-take n ks j 0 g in let u = rising-on i j le g in omega arith)))

    -- .. and what it answers
    pub seek-done : (r : ℕ) → r ≤ length (take n ks) → IsPartitionPoint (λ (k : ℕ). ltb k id ≡ true) (λ (k : ℕ). ltb k id ≡ false) (take n ks) r → Parted ks n id r
    seek-done r m p = let l = length-take-le n ks h in record {
      most = omega arith;
      below = λ j g. (let a = get_or-take n ks j 0 (omega arith) in let u = ltb-true (get_or (take n ks) j 0) id (p.0 j 0 (omega arith) g) in omega arith);
      above = λ j g t. (let a = get_or-take n ks j 0 t in let u = ltb-false (get_or (take n ks) j 0) id (p.1 j 0 g (omega arith)) in omega arith);
    }

  -- the key there is another's, or there is none
  pub no_key_lem : (at : ℕ) → Parted ks n id at → (at < n → get_or ks at 0 ≡ id → ⊥) → NoRow ks n id
  no_key_lem at w q j h e = go (test j at)
    where
      go : Test j at → ⊥
      go (less a b c) = let u = w.below j a in omega arith
      go (same a b c) = q (subst (λ (k : ℕ). k < n) a h) (subst (λ (k : ℕ). get_or ks k 0 ≡ id) a e)
      go (more a b c) = let u = f at j a h in let v = w.above at (omega arith) (omega arith) in omega arith

-- keys that rise are all different
one_key : (ks : List ℕ) (n i j : ℕ) → Rises ks n → i < n → j < n → get_or ks i 0 ≡ get_or ks j 0 → i ≡ j
one_key ks n i j f h g e = go (test i j)
  where
    go : Test i j → i ≡ j
    go (less a b c) = let u = f i j a g in absurd (omega arith)
    go (same a b c) = a
    go (more a b c) = let u = f j i a h in absurd (omega arith)

-- ---- an entry

module _ (is cs ks ps : List ℕ) (m i : ℕ) (f : Rises ks m) where
  pub agrees-found : (at : ℕ) → at < m → get_or ks at 0 ≡ get_or is i 0 → Decides (ltb i (get_or ps at 0)) (Agrees is cs ks ps m i)
  agrees-found at h e = by_less i (get_or ps at 0) (λ l. inl (at, h, e, l)) back
    where
      back : Agrees is cs ks ps m i → i < get_or ps at 0
      back (inl r) = subst (λ (j : ℕ). i < get_or ps j 0) (one_key ks m r.0 at f r.1 h (r.2 ∙ sym e)) r.3
      back (inr r) = absurd (r.1 at h e)

  pub agrees-none : (at : ℕ) → Parted ks m (get_or is i 0) at → (at < m → get_or ks at 0 ≡ get_or is i 0 → ⊥)
      → Decides (not (eqb (get_or cs i 0) 1)) (Agrees is cs ks ps m i)
  agrees-none at w q = by-other (get_or cs i 0) 1 (λ n. inr (n, none)) back
    where
      none : NoRow ks m (get_or is i 0)
      none = no_key_lem ks m (get_or is i 0) f at w q

      back : Agrees is cs ks ps m i → get_or cs i 0 ≡ 1 → ⊥
      back (inl r) e = none r.0 r.1 r.2
      back (inr r) e = r.0 e

module _ (is cs ks ps marks : List ℕ) (n m i : ℕ) (w : Walk is cs ks ps marks n m) where
  pub walk_rises : Rises ks m
  walk_rises = fit-rises is cs ks ps n m w.rows

  -- a row names the entry
  pub by_mark : (get_or marks i 0 ≡ 0 → ⊥) → Decides true (Settled is cs ks ps n m i)
  by_mark q =
      let a = w.marked i q in
      let r = (w.rows a.0 a.1).names in
      let e = a.2 in
      let k : get_or ps a.0 0 - 1 ≡ i = omega arith in
      grant (inl (inl (a.0, a.1, sym (subst (λ (l : ℕ). get_or is l 0 ≡ get_or ks a.0 0) k r.same), omega arith)))

  pub by_agrees : (b : Bool) → Decides b (Agrees is cs ks ps m i) → b ≡ true → Decides true (Settled is cs ks ps n m i)
  by_agrees b d e = grant (inl (d.yes e))

  pub by-again : (b : Bool) → Decides b (Agrees is cs ks ps m i) → b ≡ false → (r : Bool) → Decides r (Again is n i)
      → Decides r (Settled is cs ks ps n m i)
  by-again b d e r a = hand_on r a inr back
    where
      back : Settled is cs ks ps n m i → Again is n i
      back (inl x) = absurd (d.nay e x)
      back (inr x) = x

-- no entry of the same id up to k
pub not_again : (is : List ℕ) (i k : ℕ) → ((j : ℕ) → i < j → j < k → get_or is j 0 ≡ get_or is i 0 → ⊥) → (get_or is k 0 ≡ get_or is i 0 → ⊥)
    → (j : ℕ) → i < j → j < k + 1 → get_or is j 0 ≡ get_or is i 0 → ⊥
not_again is i k f q j h l = below_on (λ (j : ℕ). i < j → get_or is j 0 ≡ get_or is i 0 → ⊥) k (λ j g b. f j b g) (λ b. q) j l h

-- a hint that holds true
pub hint_holds : (is : List ℕ) (n i k : ℕ) → i < k → k < n → eqb (get_or is k 0) (get_or is i 0) ≡ true → Again is n i
hint_holds is n i k h l e = (k, h, l, eqb-true (get_or is k 0) (get_or is i 0) e)

pub no_hint : {P : Type 0} → false ≡ true → P
no_hint e = not_both false e refl

-- ---- all entries, from the last to the first

module _ (is cs ks ps : List ℕ) (n m : ℕ) where
  abbrev pub From : ℕ → Type 0
  From i = (k : ℕ) → i ≤ k → k < n → Settled is cs ks ps n m k

  pub from_on : (i j : ℕ) → j + 1 ≡ i → From i → Settled is cs ks ps n m j → From j
  from_on i j e f s k h l = go (test k j)
    where
      go : Test k j → Settled is cs ks ps n m k
      go (less a b c) = absurd (omega arith)
      go (same a b c) = subst (Settled is cs ks ps n m) (sym a) s
      go (more a b c) = f k (omega arith) l

-- ---- the table

module _ (os is cs ks ps : List ℕ) (n m : ℕ) (hk : m ≤ length ks) (hp : m ≤ length ps) (num : (i : ℕ) → i < n → get_or os i 0 ≡ i + 1) where
  abbrev answer : Bool
  answer = same_rows (rows_of ks ps m) (rows_played os is cs n)

  pub rows-refused : (marks : List ℕ) (b : Bool) → Tested is cs ks ps marks n m b → b ≡ false → false ≡ answer
  rows-refused marks b t e =
      false_if answer
      (λ q. t.answer.nay e (played-fit os is cs ks ps n m hk hp num (same-rows (rows_of ks ps m) (rows_played os is cs n) q)))

  pub all-answered : (b : Bool) → RowsFit is cs ks ps n m → Decides b (AllSettled is cs ks ps n m) → b ≡ answer
  all-answered b f d =
      true_if b answer
      (λ e.
      ap (same_rows (rows_of ks ps m)) (sym (settled-played os is cs ks ps n m hk hp num f (d.yes e)))
      ∙ rows_same (rows_of ks ps m))
      (λ e. back b d (played-settled os is cs ks ps n m hk hp num (same-rows (rows_of ks ps m) (rows_played os is cs n) e)))
    where
      back : (b : Bool) → Decides b (AllSettled is cs ks ps n m) → AllSettled is cs ks ps n m → b ≡ true
      back true d s = refl
      back false d s = absurd (d.nay refl s)
