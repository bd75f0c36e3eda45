-- Paper 01, 'The log', 'offsets start at 1': logs whose offsets are 1, 2, 3 and so on, and what keeps them so. Assumes nothing.
use Prim.Native.Nat.{ℕ, zero, suc, ◌+◌, ◌-◌, ◌≤◌, ◌<◌, max}
use mathlib.Core.Path.{◌≡◌, refl, sym, ap, ◌∙◌, subst}
use mathlib.Core.List.{List, [], ◌∷◌, ◌++◌}
use mathlib.Core.Option.{Option, none, some}
use native.Mathlib.Omega.{arith}
use lib.ListN.{length, take, drop}
use native.Mathlib.Numerals.{add-one}
use mathlib.Core.Bool.{true}
use lib.Dec.{eqb}
use borrow.Author.Tests.{eqb-true, eq-eqb}
use Rattle.spec.specs.Lists.{◌and◌, nth}
use Rattle.spec.specs.Node.WellFormed.{numbered_from}
use Rattle.spec.specs.Log.{Entry, Log, entry_at, entries_from}
use Rattle.spec_laws.proofs.Lists.{and_true, and_left, and_right, none_some, nth-nil, nth_lt, lt_nth, nth-same, nth_snoc, nth_drop, nth-taken, Within}

-- a log of which k entries stand before: its offsets are k + 1, k + 2 and so on
abbrev pub NumberedFrom : ℕ → Log → Type 0
NumberedFrom k l = (i : ℕ) (e : Entry) → nth l i ≡ some e → e.offset ≡ k + suc i

abbrev pub Numbered : Log → Type 0
Numbered l = NumberedFrom 0 l

pub numbered-nil : (k : ℕ) → NumberedFrom k []
numbered-nil k i e q = nth-nil i e q

pub numbered-head : (k : ℕ) (e : Entry) (es : Log) → NumberedFrom k (e ∷ es) → e.offset ≡ suc k
unfolding nth
numbered-head k e es h = let q = h 0 e refl in omega arith

pub numbered_tail : (k : ℕ) (e : Entry) (es : Log) → NumberedFrom k (e ∷ es) → NumberedFrom (suc k) es
unfolding nth
numbered_tail k e es h i x q = let p = h (suc i) x q in omega arith

pub numbered_cons : (k : ℕ) (e : Entry) (es : Log) → e.offset ≡ suc k → NumberedFrom (suc k) es → NumberedFrom k (e ∷ es)
unfolding nth
numbered_cons k e es p h zero x q = let u : e ≡ x = nth-same (e ∷ es) 0 e x refl q in subst (λ y. y.offset ≡ k + 1) u (omega arith)
numbered_cons k e es p h (suc i) x q = let r = h i x q in omega arith

-- an entry more, at the next offset
pub numbered_snoc : (l : Log) (e : Entry) → Numbered l → e.offset ≡ suc (length l) → Numbered (l ++ (e ∷ []))
numbered_snoc l e h q = nth_snoc (λ i x. x.offset ≡ 0 + suc i) l e h (omega arith)

-- a prefix
pub numbered_within : (l m : Log) → Within l m → Numbered m → Numbered l
numbered_within l m w h i e q = h i e (w i e q)

-- the entry at an offset has that offset, and the log is as long
pub entry-offset : (l : Log) (o : ℕ) (e : Entry) → Numbered l → entry_at l o ≡ some e → e.offset ≡ o
unfolding entry_at
entry-offset l zero e h q = none_some q
entry-offset l (suc i) e h q = let p = h i e q in omega arith

pub entry_lt : (l : Log) (o : ℕ) (e : Entry) → entry_at l o ≡ some e → (1 ≤ o) × (o ≤ length l)
unfolding entry_at
entry_lt l zero e q = none_some q
entry_lt l (suc i) e q = let h = nth_lt l i e q in (omega arith, omega arith)

pub lt_entry : (l : Log) (o : ℕ) → 1 ≤ o → o ≤ length l → (e : Entry) × (entry_at l o ≡ some e)
unfolding entry_at
lt_entry l zero h g = absurd (omega arith)
lt_entry l (suc i) h g = lt_nth l i (omega arith)

-- each entry of a numbered log is the one at its own offset
pub own-offset : (l : Log) (i : ℕ) (e : Entry) → Numbered l → nth l i ≡ some e → entry_at l e.offset ≡ some e
unfolding entry_at
own-offset l i e h q = let p : e.offset ≡ suc i = (let r = h i e q in omega arith) in ap (entry_at l) p ∙ q

-- 'entries_from': what is handed out stands in the log, from the place asked for on
pub from_at : (l : Log) (from count i : ℕ) (e : Entry) → nth (entries_from l from count) i ≡ some e
    → (i < count) × (nth l (max from 1 - 1 + i) ≡ some e)
unfolding entries_from
from_at l from count i e q =
    let h = nth-taken count (drop (max from 1 - 1) l) i e q in (h.0, sym (nth_drop (max from 1 - 1) l i) ∙ h.1)

-- .. at its own offset
pub from-own : (l : Log) (from count i : ℕ) (e : Entry) → Numbered l → nth (entries_from l from count) i ≡ some e
    → entry_at l e.offset ≡ some e
from-own l from count i e h q = own-offset l (max from 1 - 1 + i) e h (from_at l from count i e q).1

-- the computed test of the same
pub test-numbered : (k : ℕ) (l : Log) → numbered_from (suc k) l ≡ true → NumberedFrom k l
unfolding numbered_from
test-numbered k [] e = numbered-nil k
test-numbered k (x ∷ xs) e =
    let p = eqb-true x.offset (suc k) (and_left (eqb x.offset (suc k)) (numbered_from (suc k + 1) xs) e) in
    let r = and_right (eqb x.offset (suc k)) (numbered_from (suc k + 1) xs) e in
    numbered_cons k x xs p (test-numbered (suc k) xs (subst (λ (o : ℕ). numbered_from o xs ≡ true) (add-one (suc k)) r))

pub numbered-test : (k : ℕ) (l : Log) → NumberedFrom k l → numbered_from (suc k) l ≡ true
unfolding numbered_from
numbered-test k [] h = refl
numbered-test k (x ∷ xs) h =
    and_true (eqb x.offset (suc k)) (numbered_from (suc k + 1) xs) (eq-eqb x.offset (suc k) (numbered-head k x xs h))
    (subst (λ (o : ℕ). numbered_from o xs ≡ true) (sym (add-one (suc k))) (numbered-test (suc k) xs (numbered_tail k x xs h)))
