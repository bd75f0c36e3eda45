-- The epoch table of a log, entry by entry from the front: an equal epoch moves the last end, another begins a pair.
-- Assumes nothing.
use Prim.Native.Nat.{ℕ, zero, suc, ◌+◌, ◌-◌, ◌≤◌, ◌<◌}
use mathlib.Core.Path.{◌≡◌, refl, sym, ap, ◌∙◌}
use mathlib.Core.Bool.{Bool, true, false, cond}
use mathlib.Core.List.{List, [], ◌∷◌, ◌++◌}
use native.Mathlib.Numerals.{add-one}
use native.Mathlib.Omega.{arith}
use lib.Dec.{eqb, ltb}
use borrow.Author.Tests.{eqb-true, eq-eqb, ne_eqb}
use lib.ListN.{length, take, get_or, set}
use lib.Seq.{take-suc, length-take-le, take-suc-set}
use Rattle.spec.specs.Lists.{◌and◌}
use Rattle.spec.specs.Log.{Op, Entry, End, Log, with_end, epoch_ends}
use Rattle.spec_laws.proofs.Lists.{by-test}
use Rattle.log_store.specs.View.{columns, firsts, entry_of, log_of}
use Rattle.log_store.specs.Align.{paired, table_of, EndsOf}
use Rattle.log_store.proofs.Firsts.{firsts-next}
use Rattle.log_store.proofs.Tabled.{here, not_here}

abbrev pub pair : Entry → End
pair e = record { epoch = e.epoch; end = e.offset }

unfoldable pub add_end : List End → Entry → List End
add_end [] e = pair e ∷ []
add_end (t ∷ []) e = cond (eqb t.epoch e.epoch) (record { epoch = t.epoch; end = e.offset } ∷ []) (t ∷ pair e ∷ [])
add_end (t ∷ u ∷ us) e = t ∷ add_end (u ∷ us) e

-- the last pair's epoch is the entry's: its end moves
add_same : (ts : List End) (t : End) (e : Entry) → t.epoch ≡ e.epoch
    → add_end (ts ++ (t ∷ [])) e ≡ ts ++ (record { epoch = t.epoch; end = e.offset } ∷ [])
unfolding add_end
add_same [] t e q = rw (eq-eqb t.epoch e.epoch q)
add_same (s ∷ []) t e q = ap (λ (r : List End). s ∷ r) (add_same [] t e q)
add_same (s ∷ u ∷ us) t e q = ap (λ (r : List End). s ∷ r) (add_same (u ∷ us) t e q)

-- it is another: a pair begins
add_other : (ts : List End) (t : End) (e : Entry) → (t.epoch ≡ e.epoch → ⊥)
    → add_end (ts ++ (t ∷ [])) e ≡ (ts ++ (t ∷ [])) ++ (pair e ∷ [])
unfolding add_end
add_other [] t e q = rw (ne_eqb t.epoch e.epoch q)
add_other (s ∷ []) t e q = ap (λ (r : List End). s ∷ r) (add_other [] t e q)
add_other (s ∷ u ∷ us) t e q = ap (λ (r : List End). s ∷ r) (add_other (u ∷ us) t e q)

with-same : (x : Entry) (t : End) (ts : List End) → x.epoch ≡ t.epoch → with_end x (t ∷ ts) ≡ t ∷ ts
unfolding with_end
with-same x t ts q = rw (eq-eqb x.epoch t.epoch q)

with-other : (x : Entry) (t : End) (ts : List End) → (x.epoch ≡ t.epoch → ⊥) → with_end x (t ∷ ts) ≡ pair x ∷ t ∷ ts
unfolding with_end
with-other x t ts q = rw (ne_eqb x.epoch t.epoch q)

-- one pair in front, and one entry behind
cross : (x e : Entry) (ts : List End) → with_end x (add_end ts e) ≡ add_end (with_end x ts) e
unfolding with_end add_end
cross x e [] = go (eqb x.epoch e.epoch) refl
  where
    go : (b : Bool) → eqb x.epoch e.epoch ≡ b
        → cond b (pair e ∷ []) (pair x ∷ pair e ∷ []) ≡ cond b (record { epoch = x.epoch; end = e.offset } ∷ []) (pair x ∷ pair e ∷ [])
    go true q = ap (λ (n : ℕ). record { epoch = n; end = e.offset } ∷ []) (sym (eqb-true x.epoch e.epoch q))
    go false q = refl
cross x e (t ∷ []) =
    by-test (λ v. with_end x v ≡ add_end (with_end x (t ∷ [])) e) (eqb t.epoch e.epoch)
    (λ q. by-test (λ w. cond (eqb x.epoch t.epoch) (record { epoch = t.epoch; end = e.offset } ∷ []) (pair x ∷ record { epoch = t.epoch; end = e.offset } ∷ []) ≡ add_end w e)
    (eqb x.epoch t.epoch)
    (λ p. rw (p, q)) (λ p. rw (p, q)))
    (λ q. by-test (λ w. cond (eqb x.epoch t.epoch) (t ∷ pair e ∷ []) (pair x ∷ t ∷ pair e ∷ []) ≡ add_end w e)
    (eqb x.epoch t.epoch)
    (λ p. rw (p, q)) (λ p. rw (p, q)))
cross x e (t ∷ u ∷ us) =
    by-test (λ w. cond (eqb x.epoch t.epoch) (t ∷ add_end (u ∷ us) e) (pair x ∷ t ∷ add_end (u ∷ us) e) ≡ add_end w e)
    (eqb x.epoch t.epoch) (λ p. rw p) (λ p. rw p)

pub ends_snoc : (l : Log) (e : Entry) → epoch_ends (l ++ (e ∷ [])) ≡ add_end (epoch_ends l) e
unfolding epoch_ends add_end with_end
ends_snoc [] e = refl
ends_snoc (x ∷ l) e = ap (with_end x) (ends_snoc l e) ∙ cross x e (epoch_ends l)

-- ---- the two columns

paired_snoc : (a b : List ℕ) (f o : ℕ) → length a ≡ length b → paired (a ++ (f ∷ [])) (b ++ (o ∷ [])) ≡ paired a b ++ (record { epoch = f; end = o } ∷ [])
unfolding paired
paired_snoc [] [] f o e = refl
paired_snoc [] (y ∷ b) f o e = absurd (omega arith)
paired_snoc (x ∷ a) [] f o e = absurd (omega arith)
paired_snoc (x ∷ a) (y ∷ b) f o e = rw (paired_snoc a b f o (omega arith))

module _ (froms ends : List ℕ) (n : ℕ) (hf : n ≤ length froms) (he : n ≤ length ends) where
  same_long : (m : ℕ) → m ≤ n → length (take m froms) ≡ length (take m ends)
  same_long m h = length-take-le m froms (omega arith) ∙ sym (length-take-le m ends (omega arith))

  -- a table of m + 1 pairs, by its last
  last-pair : (m : ℕ) → n ≡ suc m → table_of froms ends n ≡ table_of froms ends m ++ (record { epoch = get_or froms m 0; end = get_or ends m 0 } ∷ [])
  unfolding table_of
  last-pair m e =
      ap (λ (k : ℕ). paired (take k froms) (take k ends)) e
      ∙ ap (λ (l : List ℕ). paired l (take (suc m) ends)) (take-suc froms m 0 (omega arith))
      ∙ ap (paired (take m froms ++ (get_or froms m 0 ∷ []))) (take-suc ends m 0 (omega arith))
      ∙ paired_snoc (take m froms) (take m ends) (get_or froms m 0) (get_or ends m 0) (same_long m (omega arith))

  module _ (e : Entry) where
    -- the last end moves
    pub moved : (m : ℕ) → n ≡ suc m → get_or froms m 0 ≡ e.epoch → table_of froms (set ends m e.offset) n ≡ add_end (table_of froms ends n) e
    unfolding table_of
    moved m q s =
        ap (λ (k : ℕ). paired (take k froms) (take k (set ends m e.offset))) q
        ∙ ap (λ (l : List ℕ). paired l (take (suc m) (set ends m e.offset))) (take-suc froms m 0 (omega arith))
        ∙ ap (paired (take m froms ++ (get_or froms m 0 ∷ []))) (take-suc-set ends m e.offset (omega arith))
        ∙ paired_snoc (take m froms) (take m ends) (get_or froms m 0) e.offset (same_long m (omega arith))
        ∙ sym (add_same (table_of froms ends m) (record { epoch = get_or froms m 0; end = get_or ends m 0 }) e s)
        ∙ ap (λ (t : List End). add_end t e) (sym (last-pair m q))

    -- a pair begins
    begun : n < length froms → n < length ends
        → table_of (set froms n e.epoch) (set ends n e.offset) (suc n) ≡ table_of froms ends n ++ (pair e ∷ [])
    unfolding table_of
    begun h k =
        ap (λ (l : List ℕ). paired l (take (suc n) (set ends n e.offset))) (take-suc-set froms n e.epoch h)
        ∙ ap (paired (take n froms ++ (e.epoch ∷ []))) (take-suc-set ends n e.offset k)
        ∙ paired_snoc (take n froms) (take n ends) e.epoch e.offset (same_long n (omega arith))

    new-last : (m : ℕ) → n ≡ suc m → (get_or froms m 0 ≡ e.epoch → ⊥) → add_end (table_of froms ends n) e ≡ table_of froms ends n ++ (pair e ∷ [])
    new-last m q s =
        ap (λ (t : List End). add_end t e) (last-pair m q)
        ∙ add_other (table_of froms ends m) (record { epoch = get_or froms m 0; end = get_or ends m 0 }) e s
        ∙ ap (λ (t : List End). t ++ (pair e ∷ [])) (sym (last-pair m q))

    new-first : n ≡ 0 → add_end (table_of froms ends n) e ≡ table_of froms ends n ++ (pair e ∷ [])
    unfolding table_of paired add_end
    new-first q = rw q

-- .. where there is none, or its epoch is another
fresh-pair : (froms ends : List ℕ) (n : ℕ) → n ≤ length froms → n ≤ length ends → (e : Entry)
    → (0 < n → get_or froms (n - 1) 0 ≡ e.epoch → ⊥) → (m : ℕ) → n ≡ m → add_end (table_of froms ends n) e ≡ table_of froms ends n ++ (pair e ∷ [])
fresh-pair froms ends n hf he e f zero q = new-first froms ends n hf he e q
fresh-pair froms ends n hf he e f (suc m) q =
    let k : n - 1 ≡ m = omega arith in
    new-last froms ends n hf he e m q (λ s. f (omega arith) (ap (λ (j : ℕ). get_or froms j 0) k ∙ s))

-- equal columns make the same table
pub same-table : {froms froms' ends ends' : List ℕ} → {n n' : ℕ} → froms' ≡ froms → ends' ≡ ends → n' ≡ n → table_of froms' ends' n' ≡ table_of froms ends n
same-table f e k = rw f (rw e (rw k refl))

module _ (es os : List ℕ) (i : ℕ) where
  -- the next entry's table, by the table of those before it
  next-ends : (t t' : List End) → EndsOf es os i t
      → ((op : Op) → t' ≡ add_end t (record { epoch = get_or es i 0; offset = get_or os i 0; op = op })) → EndsOf es os (i + 1) t'
  unfolding log_of entry_of
  next-ends t t' h q is cs ls fs =
      let c = columns es os is cs ls fs in
      q (entry_of c i).op ∙ ap (λ (u : List End). add_end u (entry_of c i)) (h is cs ls fs)
      ∙ sym (ap epoch_ends (firsts-next (entry_of c) i) ∙ ends_snoc (firsts (entry_of c) i) (entry_of c i))

  pub ends-none : (froms ends : List ℕ) → EndsOf es os 0 (table_of froms ends 0)
  unfolding table_of paired log_of firsts epoch_ends
  ends-none froms ends is cs ls fs = refl

  module _ (froms ends : List ℕ) (n : ℕ) (hf : n ≤ length froms) (he : n ≤ length ends) (h : EndsOf es os i (table_of froms ends n))
      (b : Bool) (is_b : b ≡ (ltb 0 n and eqb (get_or froms (n - 1) 0) (get_or es i 0))) where
    pub ends_moved : b ≡ true → EndsOf es os (i + 1) (table_of froms (set ends (n - 1) (get_or os i 0)) n)
    ends_moved t =
        let r = here 0 n (get_or froms (n - 1) 0) (get_or es i 0) b is_b t in
        next-ends (table_of froms ends n) (table_of froms (set ends (n - 1) (get_or os i 0)) n) h
        (λ op. moved froms ends n hf he (record { epoch = get_or es i 0; offset = get_or os i 0; op = op }) (n - 1) (omega (arith, r.0)) r.1)

    pub ends-begun : b ≡ false → n < length froms → n < length ends
        → EndsOf es os (i + 1) (table_of (set froms n (get_or es i 0)) (set ends n (get_or os i 0)) (n + 1))
    ends-begun t k l =
        next-ends (table_of froms ends n) (table_of (set froms n (get_or es i 0)) (set ends n (get_or os i 0)) (n + 1)) h
        (λ op.
        let e : Entry = record { epoch = get_or es i 0; offset = get_or os i 0; op = op } in
        ap (table_of (set froms n (get_or es i 0)) (set ends n (get_or os i 0))) (add-one n)
        ∙ begun froms ends n hf he e k l
        ∙ sym (fresh-pair froms ends n hf he e (not_here 0 n (get_or froms (n - 1) 0) (get_or es i 0) b is_b t) n refl))
