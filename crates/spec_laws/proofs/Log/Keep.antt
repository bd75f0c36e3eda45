-- Paper 01, 'The log', adopt: what is kept is the longest prefix that agrees; kept by another log's own end and table, it is the
-- longest common prefix, where equal epochs at one offset mean equal entries. Assumes nothing.
use Prim.Native.Nat.{ℕ, zero, suc, ◌+◌, ◌≤◌, ◌<◌}
use mathlib.Core.Path.{◌≡◌, refl, sym, ap, ◌∙◌, subst}
use mathlib.Core.Bool.{Bool, true, false, cond}
use mathlib.Core.List.{List, [], ◌∷◌, ◌++◌}
use mathlib.Core.Option.{Option, none, some}
use native.Mathlib.Omega.{arith}
use lib.Dec.{eqb, leb}
use lib.ListN.{length, take}
use borrow.Author.Tests.{eqb-true, eq-eqb, leb-true, le-leb}
use Rattle.spec.specs.Lists.{◌and◌, nth, lead}
use Rattle.spec.specs.Log.{Entry, End, Log, entry_at, epoch_ends, epoch_at, is_epoch, agrees, keep}
use Rattle.spec_laws.proofs.Lists.{by-test, not_both, some_same, and_true, and_left, and_right, nth-nil, nth_lt, lt_nth, nth-same, nth-take, Within, within-take, within-length, taken-same}
use Rattle.spec_laws.proofs.Log.Numbered.{Numbered, numbered_within}
use Rattle.spec_laws.proofs.Log.Table.{table_at}

is-epoch : (o : Option ℕ) (d : ℕ) → is_epoch o d ≡ true → o ≡ some d
is-epoch none d q = not_both false q refl
is-epoch (some c) d q = ap some (eqb-true c d q)

epoch-is : (o : Option ℕ) (d : ℕ) → o ≡ some d → is_epoch o d ≡ true
epoch-is o d q = rw q (eq-eqb d d refl)

-- an entry agrees where its offset is at most the end, and its epoch is the table's
pub record Agrees (end : ℕ) (t : List End) (e : Entry) : Type 0 where
  pub upto : e.offset ≤ end
  pub epoch : epoch_at t e.offset ≡ some e.epoch

pub agrees_fact : (end : ℕ) (t : List End) (e : Entry) → agrees end t e ≡ true → Agrees end t e
unfolding agrees
agrees_fact end t e q = record {
  upto = leb-true e.offset end (and_left (leb e.offset end) (is_epoch (epoch_at t e.offset) e.epoch) q);
  epoch =
      is-epoch (epoch_at t e.offset) e.epoch (and_right (leb e.offset end) (is_epoch (epoch_at t e.offset) e.epoch) q);
}

pub fact_agrees : (end : ℕ) (t : List End) (e : Entry) → Agrees end t e → agrees end t e ≡ true
unfolding agrees
fact_agrees end t e h =
    and_true (leb e.offset end) (is_epoch (epoch_at t e.offset) e.epoch)
    (le-leb e.offset end h.upto) (epoch-is (epoch_at t e.offset) e.epoch h.epoch)

-- what is kept is a prefix: the leading entries that agree
pub keep-lead : (end : ℕ) (t : List End) (l : Log) → keep end t l ≡ take (lead (agrees end t) l) l
unfolding keep lead
keep-lead end t [] = refl
keep-lead end t (e ∷ es) =
    by-test (λ v. cond (agrees end t e) (e ∷ keep end t es) [] ≡ take v (e ∷ es)) (agrees end t e)
    (λ q. rw (q, keep-lead end t es))
    (λ q. rw q)

-- each entry of it stands in the log, and agrees
pub kept : (end : ℕ) (t : List End) (l : Log) (i : ℕ) (e : Entry) → nth (keep end t l) i ≡ some e
    → (nth l i ≡ some e) × Agrees end t e
unfolding keep nth
kept end t [] i e = λ q. nth-nil i e q
kept end t (y ∷ ys) zero e =
    by-test (λ v. nth v 0 ≡ some e → (nth (y ∷ ys) 0 ≡ some e) × Agrees end t e) (agrees end t y)
    (λ b q. let u : y ≡ e = nth-same (y ∷ ys) 0 y e refl q in (q, subst (Agrees end t) u (agrees_fact end t y b)))
    (λ b q. nth-nil 0 e q)
kept end t (y ∷ ys) (suc i) e =
    let below = kept end t ys i e in
    by-test (λ v. nth v (suc i) ≡ some e → (nth ys i ≡ some e) × Agrees end t e) (agrees end t y)
    (λ b q. below q) (λ b q. nth-nil (suc i) e q)

pub keep-within : (end : ℕ) (t : List End) (l : Log) → Within (keep end t l) l
keep-within end t l i e q = (kept end t l i e q).0

pub keep-length : (end : ℕ) (t : List End) (l : Log) → length (keep end t l) ≤ length l
keep-length end t l = within-length (keep end t l) l (keep-within end t l)

pub keep-take : (end : ℕ) (t : List End) (l : Log) → keep end t l ≡ take (length (keep end t l)) l
keep-take end t l = sym (within-take (keep end t l) l (keep-within end t l))

pub keep-numbered : (end : ℕ) (t : List End) (l : Log) → Numbered l → Numbered (keep end t l)
keep-numbered end t l h = numbered_within (keep end t l) l (keep-within end t l) h

-- the longest: the first entry that is not kept does not agree
pub longest : (end : ℕ) (t : List End) (l : Log) (e : Entry) → nth l (length (keep end t l)) ≡ some e → agrees end t e ≡ false
unfolding keep nth
longest end t [] e = λ q. nth-nil 0 e q
longest end t (y ∷ ys) e =
    by-test (λ v. nth (y ∷ ys) (length v) ≡ some e → agrees end t e ≡ false) (agrees end t y)
    {x = y ∷ keep end t ys} {y = []}
    (λ b q. longest end t ys e q)
    (λ b q. let u : y ≡ e = nth-same (y ∷ ys) 0 y e refl q in subst (λ z. agrees end t z ≡ false) u b)

-- so a prefix of which every entry agrees is no longer than what is kept
pub keep-most : (end : ℕ) (t : List End) (l : Log) (o : ℕ) → o ≤ length l
    → ((i : ℕ) (e : Entry) → i < o → nth l i ≡ some e → Agrees end t e) → o ≤ length (keep end t l)
unfolding keep nth
keep-most end t [] o h f = h
keep-most end t (y ∷ ys) zero h f = omega arith
keep-most end t (y ∷ ys) (suc o) h f =
    let q : agrees end t y ≡ true = fact_agrees end t y (f 0 y (omega arith) refl) in
    let r = keep-most end t ys o (omega arith) (λ i e p. f (suc i) e (omega arith)) in
    rw q (omega arith)

-- a log of which every entry agrees stays as it is
pub keep_all : (end : ℕ) (t : List End) (l : Log) → ((i : ℕ) (e : Entry) → nth l i ≡ some e → Agrees end t e) → keep end t l ≡ l
unfolding keep nth
keep_all end t [] f = refl
keep_all end t (y ∷ ys) f =
    rw (fact_agrees end t y (f 0 y refl), keep_all end t ys (λ i. f (suc i)))

-- equal epochs at one place mean equal entries
abbrev pub SameByEpoch : Log → Log → Type 0
SameByEpoch l m = (i : ℕ) (x y : Entry) → nth l i ≡ some x → nth m i ≡ some y → x.epoch ≡ y.epoch → x ≡ y

module _ (l m : Log) (hl : Numbered l) (hm : Numbered m) where
  -- m holds an entry that agrees with its end and table, at that place
  agreed_epoch : (i : ℕ) (x : Entry) → nth l i ≡ some x → Agrees (length m) (epoch_ends m) x
      → (y : Entry) × (nth m i ≡ some y) × (x.epoch ≡ y.epoch)
  unfolding entry_at
  agreed_epoch i x q h =
      let at = hl i x q in
      let up = h.upto in
      let f = lt_nth m i (omega arith) in
      let s : x.offset ≡ suc i = omega arith in
      let p : some x.epoch ≡ some f.0.epoch =
      sym h.epoch ∙ ap (epoch_at (epoch_ends m)) s ∙ table_at m (suc i) f.0 hm f.1 in
      (f.0, f.1, some_same p)

  -- an entry that both hold agrees
  both_agree : (i : ℕ) (x : Entry) → nth l i ≡ some x → nth m i ≡ some x → Agrees (length m) (epoch_ends m) x
  unfolding entry_at
  both_agree i x p q =
      let at = hl i x p in
      let lt = nth_lt m i x q in
      let s : x.offset ≡ suc i = omega arith in
      record { upto = omega arith; epoch = ap (epoch_at (epoch_ends m)) s ∙ table_at m (suc i) x hm q }

  -- what is kept by the end and table of m is a prefix of m
  pub kept-within : SameByEpoch l m → Within (keep (length m) (epoch_ends m) l) m
  kept-within same i x q =
      let h = kept (length m) (epoch_ends m) l i x q in
      let f = agreed_epoch i x h.0 h.1 in
      f.1 ∙ ap some (sym (same i x f.0 h.0 f.1 f.2))

  -- .. and no shorter than any common prefix
  pub kept_common : (o : ℕ) → o ≤ length l → o ≤ length m → take o l ≡ take o m → o ≤ length (keep (length m) (epoch_ends m) l)
  kept_common o hlo hmo e =
      keep-most (length m) (epoch_ends m) l o hlo (λ i x p q. both_agree i x q (sym (taken-same o l m e i p) ∙ q))

  -- a prefix of m stays as it is
  pub kept_prefix : Within l m → keep (length m) (epoch_ends m) l ≡ l
  kept_prefix w = keep_all (length m) (epoch_ends m) l (λ i x q. both_agree i x q (w i x q))
