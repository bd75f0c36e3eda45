-- Alignment by columns: what a pair of columns answers for an offset, and how many leading entries agree. Assumes nothing.
use Prim.Native.Nat.{ℕ, suc, ◌+◌, ◌≤◌, ◌<◌}
use mathlib.Core.Path.{◌≡◌, refl, sym, ap, ◌∙◌, subst}
use mathlib.Core.Bool.{Bool, true, false}
use mathlib.Core.List.{List, [], ◌∷◌}
use mathlib.Core.Option.{Option, some}
use native.Mathlib.Numerals.{add-one}
use native.Mathlib.Omega.{arith}
use lib.Dec.{eqb, ltb}
use lib.Ieee.{Float}
use borrow.Author.Tests.{ltb-true, ltb-false, le-leb, lt-leb}
use lib.ListN.{length, get_or, take, drop, drop_of_length-le}
use lib.Seq.{drop-cons, length-take-le, get_or-take}
use Rattle.spec.specs.Lists.{◌and◌, nth, lead}
use Rattle.spec.specs.Log.{End, epoch_at, is_epoch, agrees}
use Rattle.spec_laws.proofs.Lists.{nth_get_d, nth-none}
use Rattle.log_store.specs.View.{columns, firsts, entry_of, op_of, log_of}
use Rattle.log_store.specs.Align.{paired, table_of, AgreesAt, KeptOf}
use Rattle.log_store.proofs.Put.{lead_true, lead_false}
use Rattle.log_store.proofs.Firsts.{firsts-length, firsts_at}

epoch-low : (t : End) (ts : List End) (o : ℕ) → o ≤ t.end → epoch_at (t ∷ ts) o ≡ some t.epoch
unfolding epoch_at
epoch-low t ts o h = rw (le-leb o t.end h)

epoch_high : (t : End) (ts : List End) (o : ℕ) → t.end < o → epoch_at (t ∷ ts) o ≡ epoch_at ts o
unfolding epoch_at
epoch_high t ts o h = rw (lt-leb o t.end h)

-- the first pair with end at or above the offset stands behind the ends below it
paired_at : (a b : List ℕ) (o : ℕ) → length a ≡ length b → epoch_at (paired a b) o ≡ nth a (lead (λ k. ltb k o) b)
unfolding paired epoch_at nth lead
paired_at [] b o e = refl
paired_at (x ∷ a) [] o e = absurd (omega arith)
paired_at (x ∷ a) (y ∷ b) o e = go (ltb y o) refl (paired_at a b o (omega arith))
  where
    step : (k : ℕ) → nth (x ∷ a) (suc k) ≡ nth a k
    step k = refl

    go : (v : Bool) → ltb y o ≡ v → epoch_at (paired a b) o ≡ nth a (lead (λ k. ltb k o) b)
        → epoch_at (record { epoch = x; end = y } ∷ paired a b) o ≡ nth (x ∷ a) (lead (λ k. ltb k o) (y ∷ b))
    go true q ih =
        epoch_high (record { epoch = x; end = y }) (paired a b) o (ltb-true y o q) ∙ ih
        ∙ sym (step (lead (λ k. ltb k o) b)) ∙ ap (nth (x ∷ a)) (sym (lead_true (λ k. ltb k o) y b q))
    go false q ih =
        epoch-low (record { epoch = x; end = y }) (paired a b) o (ltb-false y o q)
        ∙ ap (nth (x ∷ a)) (sym (lead_false (λ k. ltb k o) y b q))

is_in_lem : (a : List ℕ) (k e : ℕ) → k < length a → is_epoch (nth a k) e ≡ (true and eqb (get_or a k 0) e)
unfolding ◌and◌
is_in_lem a k e h = ap (λ (t : Option ℕ). is_epoch t e) (nth_get_d a k 0 h)

is-out : (a : List ℕ) (k e : ℕ) → length a ≤ k → is_epoch (nth a k) e ≡ (false and eqb (get_or a k 0) e)
unfolding ◌and◌
is-out a k e h = ap (λ (t : Option ℕ). is_epoch t e) (nth-none a k h)

and_false : (b : Bool) → (false and b) ≡ false
unfolding ◌and◌
and_false b = refl

is-nth : (a : List ℕ) (n k e : ℕ) → length a ≡ n → is_epoch (nth a k) e ≡ (ltb k n and eqb (get_or a k 0) e)
is-nth a n k e l = go (ltb k n) refl
  where
    go : (b : Bool) → ltb k n ≡ b → is_epoch (nth a k) e ≡ (b and eqb (get_or a k 0) e)
    go true q = is_in_lem a k e (let h = ltb-true k n q in omega arith)
    go false q = is-out a k e (let h = ltb-false k n q in omega arith)

module _ (froms ends : List ℕ) (n : ℕ) (hf : n ≤ length froms) (he : n ≤ length ends) (end epoch o : ℕ) where
  -- past the end
  pub agrees_past : end < o → AgreesAt end (table_of froms ends n) epoch o false
  unfolding agrees ◌and◌
  agrees_past h op = rw (lt-leb o end h)

  -- within it: by the pair at the place behind the ends below the offset
  pub agrees-by : (at : ℕ) (b : Bool) → at ≡ lead (λ k. ltb k o) (take n ends) → o ≤ end
      → b ≡ (ltb at n and eqb (get_or froms at 0) epoch) → AgreesAt end (table_of froms ends n) epoch o b
  unfolding agrees ◌and◌ table_of
  agrees-by at b e h q op =
      rw (le-leb o end h)
      (q ∙ sym
      (ap (λ (t : Option ℕ). is_epoch t epoch)
      (paired_at (take n froms) (take n ends) o (length-take-le n froms hf ∙ sym (length-take-le n ends he))
      ∙ ap (nth (take n froms)) (sym e))
      ∙ is-nth (take n froms) n at epoch (length-take-le n froms hf)
      ∙ same_test at))
    where
      same_test : (k : ℕ) → (ltb k n and eqb (get_or (take n froms) k 0) epoch) ≡ (ltb k n and eqb (get_or froms k 0) epoch)
      same_test k = go (ltb k n) refl
        where
          go : (v : Bool) → ltb k n ≡ v → (v and eqb (get_or (take n froms) k 0) epoch) ≡ (v and eqb (get_or froms k 0) epoch)
          go true q = ap (λ (x : ℕ). true and eqb x epoch) (get_or-take n froms k 0 (ltb-true k n q))
          go false q = and_false (eqb (get_or (take n froms) k 0) epoch) ∙ sym (and_false (eqb (get_or froms k 0) epoch))

-- ---- the leading entries that agree

module _ {ℓ} {A : Type ℓ} (p : A → Bool) (f : ℕ → A) (n i : ℕ) where
  front : i < n → drop i (firsts f n) ≡ f i ∷ drop (i + 1) (firsts f n)
  front h =
      drop-cons (firsts f n) i (f i) (subst (λ (m : ℕ). i < m) (sym (firsts-length f n)) h)
      ∙ ap (λ (x : A). x ∷ drop (suc i) (firsts f n)) (firsts_at f n i (f i) h)
      ∙ ap (λ (m : ℕ). f i ∷ drop m (firsts f n)) (sym (add-one i))

  first_on : i < n → p (f i) ≡ true → lead p (drop i (firsts f n)) ≡ suc (lead p (drop (i + 1) (firsts f n)))
  first_on h q = ap (lead p) (front h) ∙ lead_true p (f i) (drop (i + 1) (firsts f n)) q

  first_stop : i < n → p (f i) ≡ false → lead p (drop i (firsts f n)) ≡ 0
  first_stop h q = ap (lead p) (front h) ∙ lead_false p (f i) (drop (i + 1) (firsts f n)) q

  first-end : n ≤ i → lead p (drop i (firsts f n)) ≡ 0
  unfolding lead
  first-end h = ap (lead p) (drop_of_length-le (firsts f n) {i = i} (subst (λ (m : ℕ). m ≤ i) (sym (firsts-length f n)) h))

-- the invariant of the walk: so far all agree
abbrev pub KeptFrom : (epochs offsets : List ℕ) → (count end : ℕ) → List End → ℕ → Type 0
KeptFrom es os count end t i =
    (is cs ls : List ℕ) (fs : List Float)
    → lead (agrees end t) (log_of (columns es os is cs ls fs) count) ≡ i + lead (agrees end t) (drop i (log_of (columns es os is cs ls fs) count))

module _ (es os : List ℕ) (count end : ℕ) (t : List End) where
  pub kept_zero : KeptFrom es os count end t 0
  kept_zero is cs ls fs = omega arith

  module _ (i : ℕ) (h : KeptFrom es os count end t i) where
    pub kept_on : (b : Bool) → AgreesAt end t (get_or es i 0) (get_or os i 0) b → b ≡ true → i < count → KeptFrom es os count end t (i + 1)
    unfolding log_of entry_of
    kept_on b a q l is cs ls fs =
        let c = columns es os is cs ls fs in
        let e = first_on (agrees end t) (entry_of c) count i l (sym (a (op_of c i)) ∙ q) in
        h is cs ls fs ∙ omega arith

    pub kept_stop : (b : Bool) → AgreesAt end t (get_or es i 0) (get_or os i 0) b → b ≡ false → i < count → KeptOf es os count end t i
    unfolding log_of entry_of
    kept_stop b a q l is cs ls fs =
        let c = columns es os is cs ls fs in
        let e = first_stop (agrees end t) (entry_of c) count i l (sym (a (op_of c i)) ∙ q) in
        sym (h is cs ls fs ∙ omega arith)

    pub kept-end : i ≡ count → KeptOf es os count end t count
    unfolding log_of
    kept-end q is cs ls fs =
        let c = columns es os is cs ls fs in
        let e = first-end (agrees end t) (entry_of c) count i (omega arith) in
        sym (h is cs ls fs ∙ omega arith)
