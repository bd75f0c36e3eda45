-- A batch by its offsets. Assumes nothing.
use Prim.Native.Nat.{ℕ, ◌+◌, ◌-◌, ◌≤◌, ◌<◌}
use mathlib.Core.Path.{◌≡◌, refl, sym, ap, ◌∙◌}
use mathlib.Core.Bool.{Bool, true, false, cond}
use mathlib.Core.List.{List, [], ◌∷◌, map}
use lib.Dec.{eqb}
use native.Mathlib.Omega.{arith}
use borrow.Author.Tests.{eq-eqb, ne_eqb}
use Rattle.spec.specs.Log.{Entry, ShardReplica, last_offset, store, store_all}
use Rattle.spec.specs.Layout.Parts.{WireEntry}
use Rattle.spec.specs.Node.Wire.{stored_entry}
use Rattle.spec_laws.proofs.Log.Store.{push-length, store_cases, store-epoch}
use Rattle.spec.specs.Layout.Format.{next, value}
use Rattle.spec.specs.Layout.Parts.{entry_f, entry_of}
use Rattle.wire_read.specs.Shown.{part, entry_shown}
use Rattle.wire_read.specs.declared.EntryPart.{EntryPart}
use Rattle.log_domain.specs.Parts.{entries_in, EntriesThere}
use Rattle.log_domain.specs.Growth.{GrowsTo}
use Rattle.log_domain.proofs.InMessage.{entries_none, entries_split}

-- a log of n entries after one of this offset
abbrev pub after_one : (n offset : ℕ) → ℕ
after_one n o = cond (eqb o (n + 1)) (n + 1) n

-- .. and after a batch
unfoldable pub grown : ℕ → List WireEntry → ℕ
grown n [] = n
grown n (e ∷ es) = grown (after_one n e.offset) es

pub after-most : (n o : ℕ) → after_one n o ≤ n + 1
after-most n o = by (eqb o (n + 1))
  where
    by : (b : Bool) → cond b (n + 1) n ≤ n + 1
    by true = omega arith
    by false = omega arith

-- at the own epoch a store takes the next offset alone
after_store : (r : ShardReplica) (epoch : ℕ) (e : Entry) → epoch ≡ r.epoch → last_offset (store r epoch e).replica ≡ after_one (last_offset r) e.offset
after_store r epoch e own =
    let n = last_offset r in
    let no : (e.offset ≡ n + 1 → ⊥) → n ≡ after_one n e.offset = λ d. sym (ap (λ (b : Bool). cond b (n + 1) n) (ne_eqb e.offset (n + 1) d)) in
    store_cases (λ v. last_offset v.replica ≡ after_one n e.offset) r epoch e
    (λ p q. push-length r e ∙ sym (ap (λ (b : Bool). cond b (n + 1) n) (eq-eqb e.offset (n + 1) q)))
    (λ p q. no (λ z. omega arith)) (λ p q. no (λ z. omega arith)) (λ d. absurd (d own))

grown-is : (es : List WireEntry) (r : ShardReplica) (epoch : ℕ) → epoch ≡ r.epoch
    → grown (last_offset r) es ≡ last_offset (store_all r epoch (map stored_entry es))
unfolding grown store_all
grown-is [] r epoch own = refl
grown-is (e ∷ es) r epoch own =
    ap (λ (k : ℕ). grown k es) (sym (after_store r epoch (stored_entry e) own))
    ∙ grown-is es (store r epoch (stored_entry e)).replica epoch (own ∙ sym (store-epoch r epoch (stored_entry e)))

pub grows : (es : List WireEntry) (n r : ℕ) → grown n es ≡ r → GrowsTo es n r
grows es n r h q l = sym h ∙ ap (λ (k : ℕ). grown k es) (sym l) ∙ grown-is es q q.epoch refl

-- what is left of a batch in a message: one entry more, or none
module _ (s : List ℕ) (n at i : ℕ) where
  pub grown-end : n ≤ i → (k : ℕ) → grown k (entries_in s (part at (n - i))) ≡ k
  unfolding grown
  grown-end h k = ap (grown k) (entries_none s n at i h)

  pub grown-on : (l : i < n) (h : EntriesThere s (part at (n - i))) (e : EntryPart)
      → e ≡ entry_shown at (entry_of (value entry_f s at)) (next entry_f s at) → (k : ℕ)
      → grown k (entries_in s (part at (n - i))) ≡ grown (after_one k e.offset.0) (entries_in s (part e.next (n - (i + 1))))
  unfolding grown
  grown-on l h e q k = ap (grown k) (entries_split s n at i l h e q)
