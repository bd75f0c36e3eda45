-- What a well-formed store is, as facts, and back. Assumes nothing.
use Prim.Native.Nat.{ℕ, zero, suc, ◌≤◌, ◌<◌}
use mathlib.Core.Path.{◌≡◌, refl, sym, ap, ◌∙◌}
use mathlib.Core.Bool.{Bool, true, false, cond}
use mathlib.Core.List.{List, [], ◌∷◌}
use mathlib.Core.Logic.{⊎_elim}
use native.Mathlib.Nat.{eq-or-lt_of_le}
use native.Mathlib.Omega.{arith}
use lib.Dec.{eqb, leb}
use lib.ListN.{length, get_or}
use borrow.Author.Tests.{eqb-true, eq-eqb, leb-true, le-leb}
use Rattle.spec.specs.Lists.{◌and◌, every, rising}
use Rattle.spec.specs.Limits.{max_entries, min_floats}
use Rattle.spec.specs.Node.WellFormed.{numbered_from, well_formed_entry}
use Rattle.spec.specs.declared.Metric.{Metric}
use Rattle.spec_laws.proofs.Lists.{and_true, and_left, and_right, not_both}
use Rattle.spec_laws.proofs.Log.Numbered.{Numbered, test-numbered, numbered-test}
use Rattle.spec_laws.proofs.Log.Play.{InStep}
use Rattle.log_store.specs.View.{Room}
use Rattle.log_store.specs.Table.{Row, row_below, play_rows, vectors_of}
use Rattle.log_store.specs.Store.{Store, store_log, store_rows, replica_in, every_below, code_fits, same_rows, well_formed_store, Sized}
use Rattle.log_store.proofs.Columns.{log-length}
use Rattle.log_store.proofs.Rows.{rows-length}
use Rattle.log_store.proofs.PlayRows.{rows-vectors, rows-rise, rows-most}

pub below_fact : (p : ℕ → Bool) (n : ℕ) → every_below p n ≡ true → (i : ℕ) → i < n → p i ≡ true
unfolding every_below
below_fact p zero e i h = absurd (omega arith)
below_fact p (suc n) e i h =
    ⊎_elim
    (λ (q : i ≡ n). ap p q ∙ and_right (every_below p n) (p n) e)
    (λ (lt : i < n). below_fact p n (and_left (every_below p n) (p n) e) i lt)
    (eq-or-lt_of_le {n = i} {m = n} (omega arith))

pub fact_below : (p : ℕ → Bool) (n : ℕ) → ((i : ℕ) → i < n → p i ≡ true) → every_below p n ≡ true
unfolding every_below
fact_below p zero f = refl
fact_below p (suc n) f = and_true (every_below p n) (p n) (fact_below p n (λ i h. f i (omega arith))) (f n (omega arith))

pub same-rows : (a b : List Row) → same_rows a b ≡ true → a ≡ b
unfolding same_rows
same-rows [] [] e = refl
same-rows [] (y ∷ ys) e = not_both false e refl
same-rows (x ∷ xs) [] e = not_both false e refl
same-rows (x ∷ xs) (y ∷ ys) e =
    let i = eqb-true x.id y.id (and_left (eqb x.id y.id) (eqb x.offset y.offset and same_rows xs ys) e) in
    let r = and_right (eqb x.id y.id) (eqb x.offset y.offset and same_rows xs ys) e in
    let o = eqb-true x.offset y.offset (and_left (eqb x.offset y.offset) (same_rows xs ys) r) in
    let t = same-rows xs ys (and_right (eqb x.offset y.offset) (same_rows xs ys) r) in
    row_same x y i o xs ys t
  where
    row_same : (x y : Row) → x.id ≡ y.id → x.offset ≡ y.offset → (xs ys : List Row) → xs ≡ ys → x ∷ xs ≡ y ∷ ys
    row_same x y i o xs ys t =
        ap (λ (n : ℕ). record { id = n; offset = x.offset } ∷ xs) i
        ∙ ap (λ (n : ℕ). record { id = y.id; offset = n } ∷ xs) o
        ∙ ap (λ (l : List Row). y ∷ l) t

pub rows_same : (a : List Row) → same_rows a a ≡ true
unfolding same_rows
rows_same [] = refl
rows_same (x ∷ xs) =
    and_true (eqb x.id x.id) (eqb x.offset x.offset and same_rows xs xs) (eq-eqb x.id x.id refl)
    (and_true (eqb x.offset x.offset) (same_rows xs xs) (eq-eqb x.offset x.offset refl) (rows_same xs))

pub record Facts (s : Store) : Type 0 where
  pub count : s.count ≤ 1024
  pub stored : s.stored ≤ 1024
  pub numbered : Numbered (store_log s)
  pub codes : (i : ℕ) → i < s.count → code_fits s.columns i ≡ true
  pub entries : every well_formed_entry (store_log s) ≡ true
  pub rows : store_rows s ≡ play_rows (store_log s)
  pub floats : 32768 ≤ length s.columns.floats

module _ (s : Store) where
  abbrev c₁ : Bool
  c₁ = leb s.count max_entries

  abbrev c₂ : Bool
  c₂ = leb s.stored max_entries

  abbrev c₃ : Bool
  c₃ = numbered_from 1 (store_log s)

  abbrev c₄ : Bool
  c₄ = every_below (code_fits s.columns) s.count

  abbrev c₅ : Bool
  c₅ = every well_formed_entry (store_log s)

  abbrev c₆ : Bool
  c₆ = same_rows (store_rows s) (play_rows (store_log s))

  abbrev c₇ : Bool
  c₇ = leb min_floats (length s.columns.floats)

  pub facts : well_formed_store s ≡ true → Facts s
  unfolding well_formed_store
  facts e₁ =
      let e₂ = and_right c₁ (c₂ and (c₃ and (c₄ and (c₅ and (c₆ and c₇))))) e₁ in
      let e₃ = and_right c₂ (c₃ and (c₄ and (c₅ and (c₆ and c₇)))) e₂ in
      let e₄ = and_right c₃ (c₄ and (c₅ and (c₆ and c₇))) e₃ in
      let e₅ = and_right c₄ (c₅ and (c₆ and c₇)) e₄ in
      let e₆ = and_right c₅ (c₆ and c₇) e₅ in
      record {
        count = leb-true s.count max_entries (and_left c₁ (c₂ and (c₃ and (c₄ and (c₅ and (c₆ and c₇))))) e₁);
        stored = leb-true s.stored max_entries (and_left c₂ (c₃ and (c₄ and (c₅ and (c₆ and c₇)))) e₂);
        numbered = test-numbered 0 (store_log s) (and_left c₃ (c₄ and (c₅ and (c₆ and c₇))) e₃);
        codes = below_fact (code_fits s.columns) s.count (and_left c₄ (c₅ and (c₆ and c₇)) e₄);
        entries = and_left c₅ (c₆ and c₇) e₅;
        rows = same-rows (store_rows s) (play_rows (store_log s)) (and_left c₆ c₇ e₆);
        floats = leb-true min_floats (length s.columns.floats) (and_right c₆ c₇ e₆);
      }

  pub well-formed : Facts s → well_formed_store s ≡ true
  unfolding well_formed_store
  well-formed f =
      and_true c₁ (c₂ and (c₃ and (c₄ and (c₅ and (c₆ and c₇))))) (le-leb s.count max_entries f.count)
      (and_true c₂ (c₃ and (c₄ and (c₅ and (c₆ and c₇)))) (le-leb s.stored max_entries f.stored)
      (and_true c₃ (c₄ and (c₅ and (c₆ and c₇))) (numbered-test 0 (store_log s) f.numbered)
      (and_true c₄ (c₅ and (c₆ and c₇)) (fact_below (code_fits s.columns) s.count f.codes)
      (and_true c₅ (c₆ and c₇) f.entries
      (and_true c₆ c₇ (ap (same_rows (store_rows s)) (sym f.rows) ∙ rows_same (store_rows s))
      (le-leb min_floats (length s.columns.floats) f.floats))))))

module _ (s : Store) (f : Facts s) where
  short : (i : ℕ) → i < s.count → get_or s.columns.codes i 0 ≡ 1 → get_or s.columns.lengths i 0 ≤ 32
  short i h q =
      leb-true (get_or s.columns.lengths i 0) 32
      (sym (ap (λ (b : Bool). cond b (leb (get_or s.columns.lengths i 0) 32) (eqb (get_or s.columns.codes i 0) 2)) (eq-eqb (get_or s.columns.codes i 0) 1 q))
      ∙ f.codes i h)

  pub room_of_lem : Sized s → Room s.columns s.count
  room_of_lem z = record {
    count = f.count;
    epochs = z.epochs;
    offsets = z.offsets;
    ids = z.ids;
    codes = z.codes;
    lengths = z.lengths;
    floats = f.floats;
    short = short;
  }

  pub rows-rising : rising row_below (store_rows s) ≡ true
  rows-rising = ap (rising row_below) f.rows ∙ rows-rise (store_log s)

  -- the vectors of a well-formed store are its log played
  pub store_in_step : (e : ℕ) (m : Metric) → InStep (replica_in e m s)
  unfolding replica_in
  store_in_step e m = ap (vectors_of (store_log s)) f.rows ∙ rows-vectors (store_log s) f.numbered

  -- a table has no more rows than the log has entries
  pub stored-most : Sized s → s.stored ≤ s.count
  stored-most z =
      let l : length (store_rows s) ≡ s.stored =
      rows-length s.keys s.places s.stored (omega (arith, f.stored, z.keys)) (omega (arith, f.stored, z.places)) in
      let m : length (play_rows (store_log s)) ≤ length (store_log s) = rows-most (store_log s) in
      let k : length (store_rows s) ≡ length (play_rows (store_log s)) = ap length f.rows in
      omega (arith, log-length s.columns s.count)

  pub keys-fit : Sized s → s.stored ≤ length s.keys
  keys-fit z = omega (arith, f.stored, z.keys)

  pub places-fit : Sized s → s.stored ≤ length s.places
  places-fit z = omega (arith, f.stored, z.places)
