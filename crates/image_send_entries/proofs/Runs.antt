-- The epoch table of a log: a pair for each entry whose epoch the next one does not have. Assumes nothing.
use Prim.Native.Nat.{ℕ, suc, ◌+◌, ◌*◌, ◌≤◌, ◌<◌}
use mathlib.Core.Path.{◌≡◌, refl, sym, ap, ◌∙◌}
use mathlib.Core.Bool.{Bool, true, false, cond, not}
use mathlib.Core.List.{List, [], ◌∷◌, ◌++◌, append_assoc}
use native.Mathlib.Numerals.{add-one}
use native.Mathlib.Omega.{arith}
use borrow.Author.Tests.{eqb-true, eqb-false, eq-eqb, ne_eqb, ltb-true, ltb-false, not-true, not-false}
use lib.Dec.{eqb, ltb}
use lib.ListN.{length, drop, drop_of_length-le}
use lib.Seq.{sets, drop-cons}
use Rattle.spec.specs.Log.{Entry, End, Log, with_end, epoch_ends}
use Rattle.spec.specs.Layout.Format.{bytes_of, number_at}
use Rattle.spec_laws.proofs.Lists.{not_both}
use Rattle.wire_write.proofs.Writes.{sets_then}
use Rattle.log_store.proofs.Ends.{pair}
use Rattle.log_store.proofs.Firsts.{firsts_at, firsts-length}
use Rattle.image_store.specs.Image.{entry_at, log_at}
use Rattle.image_send_entries.specs.Store.{ends_run, pairs_bytes}

-- a table that begins with a pair of the entry's epoch
record Begins (e : Entry) (t : List End) : Type 0 where
  first : End
  others : List End
  is : t ≡ first ∷ others
  epoch : first.epoch ≡ e.epoch

begins_with : (e : Entry) (ts : List End) → Begins e (with_end e ts)
unfolding with_end
begins_with e [] = record { first = pair e; others = []; is = refl; epoch = refl }
begins_with e (t ∷ ts) = go (eqb e.epoch t.epoch) refl
  where
    go : (b : Bool) → eqb e.epoch t.epoch ≡ b → Begins e (cond b (t ∷ ts) (pair e ∷ t ∷ ts))
    go true q = record { first = t; others = ts; is = refl; epoch = sym (eqb-true e.epoch t.epoch q) }
    go false q = record { first = pair e; others = t ∷ ts; is = refl; epoch = refl }

begins : (e : Entry) (l : Log) → Begins e (epoch_ends (e ∷ l))
unfolding epoch_ends
begins e l = begins_with e (epoch_ends l)

module _ (e d : Entry) (t : List End) (b : Begins d t) where
  on-with : e.epoch ≡ d.epoch → with_end e t ≡ t
  unfolding with_end
  on-with q = ap (with_end e) b.is ∙ (rw (eq-eqb e.epoch b.first.epoch (q ∙ sym b.epoch))) ∙ sym b.is

  over_with : (e.epoch ≡ d.epoch → ⊥) → with_end e t ≡ pair e ∷ t
  unfolding with_end
  over_with q =
      ap (with_end e) b.is ∙ (rw (ne_eqb e.epoch b.first.epoch (λ z. q (z ∙ b.epoch)))) ∙ ap (λ (l : List End). pair e ∷ l) (sym b.is)

module _ (e d : Entry) (l : Log) where
  run_on : e.epoch ≡ d.epoch → epoch_ends (e ∷ d ∷ l) ≡ epoch_ends (d ∷ l)
  unfolding epoch_ends
  run_on q = on-with e d (epoch_ends (d ∷ l)) (begins d l) q

  run_over : (e.epoch ≡ d.epoch → ⊥) → epoch_ends (e ∷ d ∷ l) ≡ pair e ∷ epoch_ends (d ∷ l)
  unfolding epoch_ends
  run_over q = over_with e d (epoch_ends (d ∷ l)) (begins d l) q

run_alone : (e : Entry) → epoch_ends (e ∷ []) ≡ pair e ∷ []
unfolding epoch_ends with_end
run_alone e = refl

-- ---- the log of a store, from place i on

module _ (s : List ℕ) (base n : ℕ) where
  abbrev log : Log
  log = log_at s base n

  log_long : length log ≡ n
  unfolding log_at
  log_long = firsts-length (entry_at s base) n

  from_place : (i : ℕ) → i < n → drop i log ≡ entry_at s base i ∷ drop (i + 1) log
  unfolding log_at
  from_place i h =
      drop-cons log i (entry_at s base i) (omega (arith, log_long))
      ∙ ap (λ (e : Entry). e ∷ drop (suc i) log) (firsts_at (entry_at s base) n i (entry_at s base i) h)
      ∙ ap (λ (k : ℕ). entry_at s base i ∷ drop k log) (sym (add-one i))

  past_place : (i : ℕ) → n ≤ i → drop i log ≡ []
  past_place i h = drop_of_length-le log {i = i} (omega (arith, log_long))

  -- the pairs that the entries from place i on make
  abbrev pub pairs_from : ℕ → List End
  pairs_from i = epoch_ends (drop i log)

  pub pairs-none : (i : ℕ) → n ≤ i → pairs_from i ≡ []
  unfolding epoch_ends
  pairs-none i h = ap epoch_ends (past_place i h)

  module _ (i : ℕ) (h : i < n) where
    abbrev next : Bool
    next = not (eqb (number_at 8 s (base + i * 8)) (number_at 8 s (base + (i + 1) * 8)))

    two-places : i + 1 < n → drop i log ≡ entry_at s base i ∷ entry_at s base (i + 1) ∷ drop (i + 1 + 1) log
    two-places m = from_place i h ∙ ap (λ (l : Log). entry_at s base i ∷ l) (from_place (i + 1) m)

    on-place : i + 1 < n → next ≡ false → pairs_from i ≡ pairs_from (i + 1)
    unfolding entry_at
    on-place m e =
        ap epoch_ends (two-places m)
        ∙ run_on (entry_at s base i) (entry_at s base (i + 1)) (drop (i + 1 + 1) log) (eqb-true _ _ (not-false _ e))
        ∙ ap epoch_ends (sym (from_place (i + 1) m))

    over_place : i + 1 < n → next ≡ true → pairs_from i ≡ pair (entry_at s base i) ∷ pairs_from (i + 1)
    unfolding entry_at
    over_place m e =
        ap epoch_ends (two-places m)
        ∙ run_over (entry_at s base i) (entry_at s base (i + 1)) (drop (i + 1 + 1) log) (eqb-false _ _ (not-true _ e))
        ∙ ap (λ (l : Log). pair (entry_at s base i) ∷ epoch_ends l) (sym (from_place (i + 1) m))

    last-place : n ≤ i + 1 → pairs_from i ≡ pair (entry_at s base i) ∷ pairs_from (i + 1)
    last-place m =
        ap epoch_ends (from_place i h ∙ ap (λ (l : Log). entry_at s base i ∷ l) (past_place (i + 1) m))
        ∙ run_alone (entry_at s base i)
        ∙ ap (λ (l : List End). pair (entry_at s base i) ∷ l) (sym (pairs-none (i + 1) m))

    module _ (b : Bool) (is : b ≡ ends_run s base n i) where
      pub pairs-same : b ≡ false → pairs_from i ≡ pairs_from (i + 1)
      pairs-same e = go (ltb (i + 1) n) refl (sym is ∙ e)
        where
          go : (v : Bool) → ltb (i + 1) n ≡ v → cond v next true ≡ false → pairs_from i ≡ pairs_from (i + 1)
          go true q z = on-place (ltb-true (i + 1) n q) z
          go false q z = not_both true refl z

      pub pairs_next : b ≡ true → pairs_from i ≡ pair (entry_at s base i) ∷ pairs_from (i + 1)
      pairs_next e = go (ltb (i + 1) n) refl (sym is ∙ e)
        where
          go : (v : Bool) → ltb (i + 1) n ≡ v → cond v next true ≡ true → pairs_from i ≡ pair (entry_at s base i) ∷ pairs_from (i + 1)
          go true q z = over_place (ltb-true (i + 1) n q) z
          go false q z = last-place (ltb-false (i + 1) n q)

-- ---- the pairs as bytes

pair_put : (l : List ℕ) (p : ℕ) (e : Entry) (t : List End)
    → sets (sets (sets l p (bytes_of 8 e.epoch)) (p + 8) (bytes_of 8 e.offset)) (p + 16) (pairs_bytes t) ≡ sets l p (pairs_bytes (pair e ∷ t))
pair_put l p e t =
    let a = bytes_of 8 e.epoch in
    let o = bytes_of 8 e.offset in
    let q : p + 16 ≡ p + 8 + 8 = omega arith in
    sets_then (sets l p a) (p + 8) (p + 16) o (pairs_bytes t) q
    ∙ sets_then l p (p + 8) a (o ++ pairs_bytes t) refl
    ∙ ap (sets l p) (sym (append_assoc a o (pairs_bytes t)))

pub pair-at : (s : List ℕ) (base n i : ℕ) (l : List ℕ) (p : ℕ)
    → sets (sets (sets l p (bytes_of 8 (number_at 8 s (base + i * 8)))) (p + 8) (bytes_of 8 (number_at 8 s (base + 8192 + i * 8)))) (p + 16) (pairs_bytes (pairs_from s base n (i + 1)))
    ≡ sets l p (pairs_bytes (pair (entry_at s base i) ∷ pairs_from s base n (i + 1)))
unfolding entry_at
pair-at s base n i l p = pair_put l p (entry_at s base i) (pairs_from s base n (i + 1))
