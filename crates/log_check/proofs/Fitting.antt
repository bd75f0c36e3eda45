-- The test of one entry, way by way, of all of them, and of the store as a whole. Assumes nothing.
use Prim.Native.Nat.{ℕ, zero, suc, ◌+◌, ◌-◌, ◌*◌, ◌≤◌, ◌<◌}
use mathlib.Core.Path.{◌≡◌, refl, sym, ap, ◌∙◌, subst}
use mathlib.Core.Bool.{Bool, true, false, cond}
use mathlib.Core.Logic.{⊎_elim}
use native.Mathlib.Nat.{eq-or-lt_of_le}
use native.Mathlib.Omega.{arith}
use lib.Dec.{eqb, leb}
use borrow.Author.Tests.{eqb-true, eqb-false, eq-eqb, ne_eqb, le-leb, lt-leb, leb-true, leb-false}
use lib.ListN.{length, take, drop, get_or, length-drop}
use lib.Seq.{length-take-le}
use Rattle.spec.specs.Lists.{◌and◌, every}
use Rattle.spec.specs.Node.WellFormed.{component, well_formed_vector, well_formed_op, well_formed_entry}
use Rattle.spec.specs.Log.{upsert, delete, Entry}
use Rattle.spec_laws.proofs.Lists.{and_true, and_left, and_right, not_both, nth_lt, nth-same}
use Rattle.spec_laws.proofs.Log.Numbered.{Numbered}
use Rattle.log_store.specs.View.{Columns, firsts, stretch, op_of, entry_of, log_of}
use Rattle.log_store.specs.Table.{rows_played}
use Rattle.log_store.specs.Store.{Store, store_log, store_rows, every_below, code_fits, same_rows, well_formed_store}
use Rattle.log_store.proofs.Firsts.{firsts_at}
use Rattle.log_store.proofs.Columns.{log-length, log-at}
use Rattle.log_store.proofs.Bits.{every-at}
use Rattle.log_store.proofs.Rebuilt.{played-log}
use Rattle.log_store.proofs.Push.{every_snoc}
use Rattle.log_check.specs.Entries.{entry_fits, number_fits, shape_fits, shape_at, StretchFits}
use Rattle.log_check.proofs.Answers.{false_if, true_if}
use Rattle.log_check.proofs.Domain.{every_front, stretches}
use Rattle.log_store.proofs.Facts.{Facts, facts, well-formed, below_fact, fact_below, rows_same, same-rows}

op_of_set : (c : Columns) (i : ℕ) → get_or c.codes i 0 ≡ 1 → op_of c i ≡ upsert (get_or c.ids i 0) (stretch c i)
unfolding op_of
op_of_set c i e = rw (eq-eqb (get_or c.codes i 0) 1 e)

op_of_drop : (c : Columns) (i : ℕ) → (get_or c.codes i 0 ≡ 1 → ⊥) → op_of c i ≡ delete (get_or c.ids i 0)
unfolding op_of
op_of_drop c i e = rw (ne_eqb (get_or c.codes i 0) 1 e)

-- ---- one entry

module _ (c : Columns) (i : ℕ) where
  abbrev o : ℕ
  o = get_or c.offsets i 0

  abbrev code : ℕ
  code = get_or c.codes i 0

  abbrev len : ℕ
  len = get_or c.lengths i 0

  fits_of : entry_fits c i ≡ true → (o ≡ i + 1) × (code_fits c i ≡ true) × (well_formed_entry (entry_of c i) ≡ true)
  unfolding entry_fits
  fits_of e =
      let r = and_right (eqb o (i + 1)) (code_fits c i and well_formed_entry (entry_of c i)) e in (
        eqb-true o (i + 1) (and_left (eqb o (i + 1)) (code_fits c i and well_formed_entry (entry_of c i)) e),
        and_left (code_fits c i) (well_formed_entry (entry_of c i)) r,
        and_right (code_fits c i) (well_formed_entry (entry_of c i)) r,
      )

  of_fits : o ≡ i + 1 → code_fits c i ≡ true → well_formed_entry (entry_of c i) ≡ true → entry_fits c i ≡ true
  unfolding entry_fits
  of_fits p q r =
      and_true (eqb o (i + 1)) (code_fits c i and well_formed_entry (entry_of c i)) (eq-eqb o (i + 1) p)
      (and_true (code_fits c i) (well_formed_entry (entry_of c i)) q r)

  code-set : code ≡ 1 → code_fits c i ≡ leb len 32
  code-set e = ap (λ (b : Bool). cond b (leb len 32) (eqb code 2)) (eq-eqb code 1 e)

  code_other : (code ≡ 1 → ⊥) → code_fits c i ≡ eqb code 2
  code_other n = ap (λ (b : Bool). cond b (leb len 32) (eqb code 2)) (ne_eqb code 1 n)

  entry_set : code ≡ 1 → well_formed_entry (entry_of c i) ≡ well_formed_vector (stretch c i)
  unfolding entry_of
  entry_set e = ap well_formed_op (op_of_set c i e)

  entry-drop : (code ≡ 1 → ⊥) → well_formed_entry (entry_of c i) ≡ true
  unfolding entry_of
  entry-drop n = ap well_formed_op (op_of_drop c i n)

  pub no_offset : (o ≡ i + 1 → ⊥) → false ≡ entry_fits c i
  no_offset n = false_if (entry_fits c i) (λ e. n (fits_of e).0)

  pub a_delete : o ≡ i + 1 → code ≡ 2 → true ≡ entry_fits c i
  a_delete p q =
      let n : code ≡ 1 → ⊥ = λ e. omega arith in
      sym (of_fits p (code_other n ∙ eq-eqb code 2 q) (entry-drop n))

  pub no_code : (code ≡ 2 → ⊥) → (code ≡ 1 → ⊥) → false ≡ entry_fits c i
  no_code m n = false_if (entry_fits c i) (λ e. m (eqb-true code 2 (sym (code_other n) ∙ (fits_of e).1)))

  module _ (set : code ≡ 1) where
    pub too_long : 32 < len → false ≡ entry_fits c i
    too_long h =
        false_if (entry_fits c i)
        (λ e. let l = leb-true len 32 (sym (code-set set) ∙ (fits_of e).1) in omega arith)

    pub too_short : len ≡ 0 → false ≡ entry_fits c i
    unfolding well_formed_vector stretch
    too_short z =
        false_if (entry_fits c i)
        (λ e.
        let w : well_formed_vector (stretch c i) ≡ true = sym (entry_set set) ∙ (fits_of e).2 in
        let l = leb-true 1 (length (stretch c i)) (and_left (leb 1 (length (stretch c i))) (leb (length (stretch c i)) 32 and every component (stretch c i)) w) in
        let k : length (stretch c i) ≡ 0 = ap (λ (m : ℕ). length (take m (drop (i * 32) c.floats))) z in
        omega arith)

    pub by_domain : (w : ℕ) (b : Bool) → i < 1024 → 32768 ≤ length c.floats → o ≡ i + 1 → w ≡ len → (w ≡ 0 → ⊥) → w ≤ 32
        → b ≡ every component (take (i * 32 + w - i * 32) (drop (i * 32) c.floats)) → b ≡ entry_fits c i
    unfolding well_formed_vector stretch
    by_domain w b hi hf p e nz h q =
        let k : i * 32 + w - i * 32 ≡ len = omega arith in
        let b' : b ≡ every component (stretch c i) = q ∙ ap (λ (m : ℕ). every component (take m (drop (i * 32) c.floats))) k in
        let l : length (stretch c i) ≡ len = length-take-le len (drop (i * 32) c.floats) (rw (length-drop (i * 32) c.floats) (omega arith)) in
        let pos : 1 ≤ len = positive w nz e in
        true_if b (entry_fits c i)
        (λ t.
        of_fits p (code-set set ∙ le-leb len 32 (omega arith))
        (entry_set set
        ∙ and_true (leb 1 (length (stretch c i))) (leb (length (stretch c i)) 32 and every component (stretch c i)) (le-leb 1 (length (stretch c i)) (omega arith))
        (and_true (leb (length (stretch c i)) 32) (every component (stretch c i)) (le-leb (length (stretch c i)) 32 (omega arith)) (sym b' ∙ t))))
        (λ t.
        let v : well_formed_vector (stretch c i) ≡ true = sym (entry_set set) ∙ (fits_of t).2 in
        let r = and_right (leb 1 (length (stretch c i))) (leb (length (stretch c i)) 32 and every component (stretch c i)) v in
        b' ∙ and_right (leb (length (stretch c i)) 32) (every component (stretch c i)) r)
      where
        positive : (w : ℕ) → (w ≡ 0 → ⊥) → w ≡ len → 1 ≤ len
        positive zero n e = absurd (n refl)
        positive (suc w) n e = omega arith

    -- the whole stretch is known to lie in the domain
    pub by-stretch : (w : ℕ) → i < 1024 → 32768 ≤ length c.floats → o ≡ i + 1 → w ≡ len → (w ≡ 0 → ⊥) → w ≤ 32 → StretchFits c.floats i
        → true ≡ entry_fits c i
    by-stretch w hi hf p e nz h q =
        by_domain w true hi hf p e nz h
        (sym (every_front component 32 (i * 32 + w - i * 32) (drop (i * 32) c.floats) (omega arith) q))

  -- .. and the offset is right: the entry's shape decides
  pub by_shape : i < 1024 → 32768 ≤ length c.floats → o ≡ i + 1 → StretchFits c.floats i → shape_fits code len ≡ entry_fits c i
  unfolding shape_fits ◌and◌
  by_shape hi hf p q = go (eqb code 1) refl (eqb code 2) refl (leb 1 len) refl (leb len 32) refl
    where
      go : (s : Bool) → eqb code 1 ≡ s → (d : Bool) → eqb code 2 ≡ d → (a : Bool) → leb 1 len ≡ a → (b : Bool) → leb len 32 ≡ b
          → cond s (a and b) d ≡ entry_fits c i
      go true s d e false a b f = let l = leb-false 1 len a in too_short (eqb-true code 1 s) (omega arith)
      go true s d e true a false b = too_long (eqb-true code 1 s) (leb-false len 32 b)
      go true s d e true a true b =
          let l = leb-true 1 len a in
          by-stretch (eqb-true code 1 s) len hi hf p refl (λ z. omega arith) (leb-true len 32 b) q
      go false s true d a e b f = a_delete p (eqb-true code 2 d)
      go false s false d a e b f = no_code (eqb-false code 2 d) (eqb-false code 1 s)

-- the test of a shape, way by way
module _ (code len : ℕ) where
  pub shape-other : (code ≡ 1 → ⊥) → eqb code 2 ≡ shape_fits code len
  unfolding shape_fits
  shape-other n = rw (ne_eqb code 1 n)

  module _ (set : code ≡ 1) where
    pub shape-none : len ≡ 0 → false ≡ shape_fits code len
    unfolding shape_fits ◌and◌
    shape-none z = rw (eq-eqb code 1 set, lt-leb 1 len (omega arith))

    pub shape_some : (len ≡ 0 → ⊥) → leb len 32 ≡ shape_fits code len
    unfolding shape_fits ◌and◌
    shape_some n = rw (eq-eqb code 1 set, le-leb 1 len (positive len n))
      where
        positive : (w : ℕ) → (w ≡ 0 → ⊥) → 1 ≤ w
        positive zero n = absurd (n refl)
        positive (suc w) n = omega arith

-- ---- all entries

below-same : (p q : ℕ → Bool) (n : ℕ) → ((i : ℕ) → i < n → p i ≡ q i) → every_below p n ≡ every_below q n
unfolding every_below
below-same p q zero f = refl
below-same p q (suc n) f =
    ap (λ (v : Bool). v and p n) (below-same p q n (λ i h. f i (omega arith))) ∙ ap (λ (v : Bool). every_below q n and v) (f n (omega arith))

module _ (c : Columns) (n : ℕ) where
  -- an offset is wrong
  pub not_numbered : (b : Bool) → b ≡ every_below (number_fits c.offsets) n → b ≡ false → false ≡ every_below (entry_fits c) n
  not_numbered b e q =
      false_if (every_below (entry_fits c) n)
      (λ t.
      not_both b
      (e ∙ fact_below (number_fits c.offsets) n
      (λ i h. eq-eqb (get_or c.offsets i 0) (i + 1) (fits_of c i (below_fact (entry_fits c) n t i h)).0))
      q)

  -- the offsets are right, and all floats lie in the domain
  pub by_shapes : n ≤ 1024 → 32768 ≤ length c.floats → (e : ℕ) → e ≡ n * 32 → every component (take e c.floats) ≡ true
      → every_below (number_fits c.offsets) n ≡ true → (b : Bool) → b ≡ every_below (shape_at c.codes c.lengths) n
      → b ≡ every_below (entry_fits c) n
  by_shapes hn hf e is q w b u =
      u ∙ below-same (shape_at c.codes c.lengths) (entry_fits c) n
      (λ i h.
      by_shape c i (omega arith) hf (eqb-true (get_or c.offsets i 0) (i + 1) (below_fact (number_fits c.offsets) n w i h))
      (stretches c.floats n i e h is q))

pub entries_on : (p : ℕ → Bool) (i : ℕ) → ((j : ℕ) → j < i → p j ≡ true) → p i ≡ true → (j : ℕ) → j < i + 1 → p j ≡ true
entries_on p i f q j h =
    ⊎_elim (λ (e : j ≡ i). ap p e ∙ q) (λ (lt : j < i). f j lt) (eq-or-lt_of_le {n = j} {m = i} (omega arith))

pub entries_end : (p : ℕ → Bool) (i n : ℕ) → i ≡ n → ((j : ℕ) → j < i → p j ≡ true) → true ≡ every_below p n
entries_end p i n e f = sym (fact_below p n (λ j h. f j (omega arith)))

pub entries_stop : (p : ℕ → Bool) (n i : ℕ) → i < n → p i ≡ false → false ≡ every_below p n
entries_stop p n i h q = false_if (every_below p n) (λ e. not_both (p i) (below_fact p n e i h) q)

log_get_d : (c : Columns) (n i : ℕ) → i < n → get_or (log_of c n) i (entry_of c i) ≡ entry_of c i
unfolding log_of
log_get_d c n i h = firsts_at (entry_of c) n i (entry_of c i) h

every-firsts {ℓ} : {A : Type ℓ} (p : A → Bool) (f : ℕ → A) (n : ℕ) → ((i : ℕ) → i < n → p (f i) ≡ true) → every p (firsts f n) ≡ true
unfolding firsts every
every-firsts p f zero h = refl
every-firsts p f (suc n) h = every_snoc p (firsts f n) (f n) (every-firsts p f n (λ i k. h i (omega arith))) (h n (omega arith))

every-log : (c : Columns) (n : ℕ) → ((i : ℕ) → i < n → well_formed_entry (entry_of c i) ≡ true) → every well_formed_entry (log_of c n) ≡ true
unfolding log_of
every-log c n h = every-firsts well_formed_entry (entry_of c) n h

module _ (s : Store) where
  abbrev c : Columns
  c = s.columns

  fits_entries : Facts s → (i : ℕ) → i < s.count → entry_fits c i ≡ true
  unfolding entry_of
  fits_entries f i h =
      of_fits c i
      (let q = f.numbered i (entry_of c i) (log-at c s.count i h) in omega arith)
      (f.codes i h)
      (ap well_formed_entry (sym (log_get_d c s.count i h)) ∙ every-at well_formed_entry (store_log s) i (entry_of c i) f.entries (subst (λ (m : ℕ). i < m) (sym (log-length c s.count)) h))

  numbered_of : ((i : ℕ) → i < s.count → entry_fits c i ≡ true) → Numbered (store_log s)
  unfolding entry_of
  numbered_of f i e q =
      let h : i < s.count = subst (λ (m : ℕ). i < m) (log-length c s.count) (nth_lt (store_log s) i e q) in
      let same : entry_of c i ≡ e = nth-same (store_log s) i (entry_of c i) e (log-at c s.count i h) q in
      let r = (fits_of c i (f i h)).0 in
      subst (λ (x : Entry). x.offset ≡ 0 + suc i) same (omega arith)

  entries_of_lem : (n : ℕ) → ((i : ℕ) → i < n → entry_fits c i ≡ true) → every well_formed_entry (log_of c n) ≡ true
  entries_of_lem n f = every-log c n (λ i h. (fits_of c i (f i h)).2)

  pub well-by : (b : Bool) → (b ≡ true → Facts s) → (Facts s → b ≡ true) → b ≡ well_formed_store s
  well-by b f g = true_if b (well_formed_store s) (λ t. well-formed s (f t)) (λ t. g (facts s t))

  pub not_well : (Facts s → ⊥) → false ≡ well_formed_store s
  not_well n = false_if (well_formed_store s) (λ t. n (facts s t))

  pub entries_fail : (b : Bool) → b ≡ every_below (entry_fits c) s.count → b ≡ false → false ≡ well_formed_store s
  entries_fail b e q = not_well (λ f. not_both b (e ∙ fact_below (entry_fits c) s.count (fits_entries f)) q)

  -- the offsets are 1, 2, 3 and so on
  pub offsets_of : (b : Bool) → b ≡ every_below (entry_fits c) s.count → b ≡ true → (i : ℕ) → i < s.count → get_or c.offsets i 0 ≡ i + 1
  offsets_of b e q i h = (fits_of c i (below_fact (entry_fits c) s.count (sym e ∙ q) i h)).0

  pub table_decides : s.count ≤ 1024 → s.stored ≤ 1024 → 32768 ≤ length c.floats
      → (b : Bool) → b ≡ every_below (entry_fits c) s.count → b ≡ true
      → (t : Bool) → t ≡ same_rows (store_rows s) (rows_played c.offsets c.ids c.codes s.count) → t ≡ well_formed_store s
  table_decides hc hs hf b e q t u =
      let fit = below_fact (entry_fits c) s.count (sym e ∙ q) in
      well-by t
      (λ v.
      record {
        count = hc;
        stored = hs;
        numbered = numbered_of fit;
        codes = λ i h. (fits_of c i (fit i h)).1;
        entries = entries_of_lem s.count fit;
        rows = same-rows (store_rows s) (rows_played c.offsets c.ids c.codes s.count) (sym u ∙ v) ∙ sym (played-log c s.count);
        floats = hf;
      })
      (λ f. u ∙ ap (λ rs. same_rows rs (rows_played c.offsets c.ids c.codes s.count)) (f.rows ∙ played-log c s.count)
      ∙ rows_same (rows_played c.offsets c.ids c.codes s.count))
