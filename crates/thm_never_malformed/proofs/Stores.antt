-- One store's image (24): what passes its test is read as a well-formed log with its vectors; a store whose bytes stay passes again, and one in
-- which a shard begins passes whatever its bytes are. Assumes nothing.
use Prim.Native.Nat.{ℕ, ◌+◌, ◌≤◌, ◌<◌}
use mathlib.Core.Path.{◌≡◌, refl, sym, ap, subst, ◌∙◌}
use mathlib.Core.Bool.{Bool, true, cond}
use mathlib.Core.List.{List}
use native.Mathlib.Omega.{arith}
use lib.Dec.{eqb, leb}
use lib.ListN.{get_or}
use borrow.Author.Tests.{eq-eqb, leb-true}
use Rattle.spec.specs.Lists.{◌and◌, every}
use Rattle.spec.specs.Log.{Log}
use Rattle.spec.specs.Node.WellFormed.{numbered_from, well_formed_entry, well_formed_log}
use Rattle.spec.specs.declared.Metric.{Metric}
use Rattle.spec_laws.proofs.Lists.{and_true, and_left, and_right}
use Rattle.spec_laws.proofs.Log.Numbered.{test-numbered}
use Rattle.spec_laws.proofs.Node.Logs.{formed-log}
use Rattle.log_store.specs.View.{firsts}
use Rattle.log_store.specs.Table.{Row, zipped, rows_of, play_rows_from, play_rows, vectors_of}
use Rattle.log_store.specs.Store.{every_below, same_rows}
use Rattle.log_store.proofs.Facts.{below_fact, fact_below, same-rows}
use Rattle.log_store.proofs.PlayRows.{rows-vectors}
use Rattle.image_store.specs.Image.{log_at, rows_at, code_fits_at, well_formed_image}
use Rattle.image_store.proofs.Stored.{Same}
use Rattle.image_store.proofs.WriteLaws.{Short}
use Rattle.image_store.proofs.Image.{log-same, table_same}

-- no entries and no rows
pub begun-store : (s : List ℕ) (base : ℕ) → well_formed_image s base 0 0 ≡ true
unfolding well_formed_image log_at firsts numbered_from every_below every rows_of zipped play_rows play_rows_from same_rows ◌and◌
begun-store s base = refl

-- ---- the clauses of the test

pub record Passes (s : List ℕ) (base count stored : ℕ) : Type 0 where
  pub most : count ≤ 1024
  pub few : leb stored 1024 ≡ true
  pub numbered : numbered_from 1 (log_at s base count) ≡ true
  pub codes : (i : ℕ) → i < count → code_fits_at s base i ≡ true
  pub entries : every well_formed_entry (log_at s base count) ≡ true
  pub rows : same_rows (rows_at s base stored) (play_rows (log_at s base count)) ≡ true

module _ (s : List ℕ) (base count stored : ℕ) where
  pub passes : well_formed_image s base count stored ≡ true → Passes s base count stored
  unfolding well_formed_image
  passes w =
      let t₂ = and_right (leb count 1024) _ w in
      let t₃ = and_right (leb stored 1024) _ t₂ in
      let t₄ = and_right (numbered_from 1 (log_at s base count)) _ t₃ in
      let t₅ = and_right (every_below (code_fits_at s base) count) _ t₄ in
      record {
        most = leb-true count 1024 (and_left (leb count 1024) _ w);
        few = and_left (leb stored 1024) _ t₂;
        numbered = and_left (numbered_from 1 (log_at s base count)) _ t₃;
        codes = below_fact (code_fits_at s base) count (and_left (every_below (code_fits_at s base) count) _ t₄);
        entries = and_left (every well_formed_entry (log_at s base count)) _ t₅;
        rows = and_right (every well_formed_entry (log_at s base count)) _ t₅;
      }

  -- what it is read as
  pub store-formed : (epoch : ℕ) (metric : Metric) → well_formed_image s base count stored ≡ true
      → well_formed_log
      (record { epoch = epoch; metric = metric; log = log_at s base count; vectors = vectors_of (log_at s base count) (rows_at s base stored) }) ≡ true
  store-formed epoch metric w =
      let l = log_at s base count in
      let p = passes w in
      let n = test-numbered 0 l p.numbered in
      formed-log (record { epoch = epoch; metric = metric; log = l; vectors = vectors_of l (rows_at s base stored) })
      (record {
        numbered = n;
        entries = p.entries;
        played = ap (vectors_of l) (same-rows (rows_at s base stored) (play_rows l) p.rows) ∙ rows-vectors l n;
      })

-- ---- the same bytes

short : (s : List ℕ) (base i : ℕ) → code_fits_at s base i ≡ true → Short s base i
short s base i e q =
    let code = get_or s (base + 24576 + i) 0 in
    let len = get_or s (base + 25600 + i) 0 in
    leb-true len 32 (sym (ap (λ (b : Bool). cond b (leb len 32) (eqb code 2)) (eq-eqb code 1 q)) ∙ e)

module _ (s t : List ℕ) (base count stored : ℕ) (h : Same s t base 174080) where
  code_same : (i : ℕ) → i < 1024 → code_fits_at s base i ≡ code_fits_at t base i
  code_same i m = rw (h (base + 24576 + i) (omega arith) (omega arith), h (base + 25600 + i) (omega arith) (omega arith))

  pub same_store : well_formed_image t base count stored ≡ true → well_formed_image s base count stored ≡ true
  unfolding well_formed_image
  same_store w =
      let p = passes t base count stored w in
      let m = p.most in
      let l : log_at t base count ≡ log_at s base count =
      sym (log-same s t base count m (λ j a b. h j a (omega arith)) (λ i lt. short t base i (p.codes i lt))) in
      let r : rows_at t base stored ≡ rows_at s base stored = sym (table_same s t base stored (λ j a b. h j (omega arith) (omega arith))) in
      and_true _ _ (and_left (leb count 1024) _ w)
      (and_true _ _ p.few
      (and_true _ _ (subst (λ (x : Log). numbered_from 1 x ≡ true) l p.numbered)
      (and_true _ _ (fact_below (code_fits_at s base) count (λ i lt. code_same i (omega arith) ∙ p.codes i lt))
      (and_true _ _ (subst (λ (x : Log). every well_formed_entry x ≡ true) l p.entries)
      (subst (λ (x : Log). same_rows (rows_at s base stored) (play_rows x) ≡ true) l
      (subst (λ (x : List Row). same_rows x (play_rows (log_at t base count)) ≡ true) r p.rows))))))
