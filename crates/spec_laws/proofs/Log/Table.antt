-- Paper 01, 'The log': the epoch table of a log answers with that log's epochs. Assumes nothing.
use Prim.Native.Nat.{ℕ, zero, suc, ◌+◌, ◌≤◌, ◌<◌}
use mathlib.Core.Path.{◌≡◌, refl, sym, ap, ◌∙◌, subst}
use mathlib.Core.Bool.{Bool, true, false, cond}
use mathlib.Core.List.{List, [], ◌∷◌, ◌++◌}
use mathlib.Core.Option.{Option, none, some}
use native.Mathlib.Omega.{arith}
use lib.Dec.{eqb, leb}
use lib.ListN.{length}
use borrow.Author.Tests.{eqb-true, le-leb, lt-leb, leb-false}
use Rattle.spec.specs.Lists.{nth}
use Rattle.spec.specs.Log.{Entry, End, Log, entry_at, with_end, epoch_ends, epoch_at}
use Rattle.spec_laws.proofs.Lists.{by-test, none_some, nth-nil, nth-same}
use Rattle.spec_laws.proofs.Log.Numbered.{NumberedFrom, Numbered, numbered-head, numbered_tail, lt_entry}

-- the first end, if there is one, is at k or above
abbrev HeadFrom : ℕ → List End → Type 0
HeadFrom k [] = Unit
HeadFrom k (t ∷ ts) = k ≤ t.end

head-with : (k : ℕ) (e : Entry) (t : List End) → k ≤ e.offset → HeadFrom k t → HeadFrom k (with_end e t)
unfolding with_end
head-with k e [] p h = p
head-with k e (t ∷ ts) p h = by-test (HeadFrom k) (eqb e.epoch t.epoch) (λ q. h) (λ q. p)

lower : (k : ℕ) (t : List End) → HeadFrom (suc k) t → HeadFrom k t
lower k [] h = tt
lower k (t ∷ ts) h = omega arith

head-ends : (k : ℕ) (l : Log) → NumberedFrom k l → HeadFrom (suc k) (epoch_ends l)
unfolding epoch_ends
head-ends k [] h = tt
head-ends k (e ∷ es) h =
    let q = numbered-head k e es h in
    head-with (suc k) e (epoch_ends es) (omega arith)
    (lower (suc k) (epoch_ends es) (head-ends (suc k) es (numbered_tail k e es h)))

-- the table with one entry more, asked for that entry's offset, and above it
at_with : (e : Entry) (t : List End) → HeadFrom e.offset t → epoch_at (with_end e t) e.offset ≡ some e.epoch
unfolding with_end epoch_at
at_with e [] h = rw (le-leb e.offset e.offset (omega arith))
at_with e (t ∷ ts) h =
    by-test (λ v. epoch_at v e.offset ≡ some e.epoch) (eqb e.epoch t.epoch)
    (λ q. rw (le-leb e.offset t.end h) (ap some (sym (eqb-true e.epoch t.epoch q))))
    (λ q. rw (le-leb e.offset e.offset (omega arith)))

over_with : (e : Entry) (t : List End) (o : ℕ) → e.offset < o → epoch_at (with_end e t) o ≡ epoch_at t o
unfolding with_end epoch_at
over_with e [] o h = rw (lt-leb o e.offset h)
over_with e (t ∷ ts) o h =
    by-test (λ v. epoch_at v o ≡ epoch_at (t ∷ ts) o) (eqb e.epoch t.epoch) (λ q. refl) (λ q. rw (lt-leb o e.offset h))

table-from : (k : ℕ) (l : Log) (i o : ℕ) (x : Entry) → NumberedFrom k l → o ≡ k + suc i → nth l i ≡ some x
    → epoch_at (epoch_ends l) o ≡ some x.epoch
unfolding epoch_ends nth
table-from k [] i o x h p q = nth-nil i x q
table-from k (y ∷ ys) zero o x h p q =
    let u : y ≡ x = nth-same (y ∷ ys) 0 y x refl q in
    let at = numbered-head k y ys h in
    let s : o ≡ y.offset = omega arith in
    let r : HeadFrom y.offset (epoch_ends ys) =
    subst (λ n. HeadFrom n (epoch_ends ys)) (sym at) (lower (suc k) (epoch_ends ys) (head-ends (suc k) ys (numbered_tail k y ys h))) in
    ap (epoch_at (with_end y (epoch_ends ys))) s ∙ at_with y (epoch_ends ys) r ∙ ap (λ (z : Entry). some z.epoch) u
table-from k (y ∷ ys) (suc i) o x h p q =
    let at = numbered-head k y ys h in
    over_with y (epoch_ends ys) o (omega arith) ∙ table-from (suc k) ys i o x (numbered_tail k y ys h) (omega arith) q

-- asked for the offset of an entry, the table answers with that entry's epoch
pub table_at : (l : Log) (o : ℕ) (e : Entry) → Numbered l → entry_at l o ≡ some e → epoch_at (epoch_ends l) o ≡ some e.epoch
unfolding entry_at
table_at l zero e h q = none_some q
table_at l (suc i) e h q = table-from 0 l i (suc i) e h (omega arith) q

table_past : (k : ℕ) (l : Log) (o : ℕ) → NumberedFrom k l → k + length l < o → epoch_at (epoch_ends l) o ≡ none
unfolding epoch_ends epoch_at
table_past k [] o h p = refl
table_past k (y ∷ ys) o h p =
    let at = numbered-head k y ys h in
    over_with y (epoch_ends ys) o (omega arith) ∙ table_past (suc k) ys o (numbered_tail k y ys h) (omega arith)

-- it answers for the offsets of the log, and for none above
pub table_none : (l : Log) (o : ℕ) → Numbered l → length l < o → epoch_at (epoch_ends l) o ≡ none
table_none l o h p = table_past 0 l o h (omega arith)

pub table_some : (l : Log) (o : ℕ) → Numbered l → 1 ≤ o → o ≤ length l
    → (e : Entry) × (entry_at l o ≡ some e) × (epoch_at (epoch_ends l) o ≡ some e.epoch)
table_some l o h p q = let f = lt_entry l o p q in (f.0, f.1, table_at l o f.0 h f.1)

pub some_table : (l : Log) (o d : ℕ) → Numbered l → epoch_at (epoch_ends l) o ≡ some d → o ≤ length l
some_table l o d h p = go (leb o (length l)) refl
  where
    go : (b : Bool) → leb o (length l) ≡ b → o ≤ length l
    go true q = borrow.Author.Tests.leb-true o (length l) q
    go false q =
        let r : epoch_at (epoch_ends l) o ≡ none = table_none l o h (leb-false o (length l) q) in
        let z : ◌≡◌ {A = ℕ} 0 1 = cc in absurd (omega arith)
