-- A store that was written back passes the test of a store again ('Who is turned down', 24): its codes are listed, and its log and its rows
-- are those of the call, which pass. Assumes nothing.
use Prim.Native.Nat.{ℕ, zero, suc, ◌+◌, ◌*◌, ◌≤◌, ◌<◌, min}
use mathlib.Core.Path.{◌≡◌, refl, sym, ap, subst, ◌∙◌}
use mathlib.Core.Bool.{Bool, true, false, cond}
use mathlib.Core.Logic.{◌⊎◌, inl, inr, ⊎_elim}
use mathlib.Core.List.{List, [], ◌∷◌}
use native.Mathlib.Omega.{arith}
use native.Mathlib.Nat.{eq-or-lt_of_le, min-le_left, min-le_right}
use lib.Dec.{eqb, leb}
use lib.ListN.{length, get_or, take, drop, set, length-set, length-drop}
use lib.Seq.{sets, length-sets, get_or-set_same, get_or-set_other}
use borrow.Author.Tests.{eqb-true, eq-eqb, le-leb}
use Rattle.spec.specs.Lists.{◌and◌, every}
use Rattle.spec.specs.Log.{Op, upsert, delete, Entry, Log, components}
use Rattle.spec.specs.Layout.Format.{bytes_of, concat_map, All}
use Rattle.spec.specs.Node.WellFormed.{numbered_from, well_formed_entry}
use Rattle.spec_laws.proofs.Lists.{and_true}
use Rattle.spec_laws.proofs.Log.Numbered.{numbered-test}
use Rattle.log_store.specs.View.{log_of}
use Rattle.log_store.specs.Table.{rows_of, play_rows}
use Rattle.log_store.specs.Store.{every_below, code_fits, same_rows, well_formed_store}
use Rattle.log_store.proofs.Bits.{every-at}
use Rattle.log_store.proofs.Columns.{log-length}
use Rattle.log_store.proofs.Facts.{facts, fact_below, rows_same}
use Rattle.log_store.proofs.Firsts.{firsts_at, firsts-length}
use Rattle.node_header.specs.declared.HeldRow.{HeldRow}
use Rattle.node_header.proofs.Lists.{by_case}
use Rattle.node_lent.specs.Lend.{LentStore, store_of}
use Rattle.image_store.specs.Image.{entry_at, log_at, rows_at, code_fits_at, well_formed_image}
use Rattle.image_store.specs.Read.{codes_in, columns_at}
use Rattle.image_store.specs.Write.{Fits, code_of, id_of, numbers_put, vector_put, entry_put, entries_put, log_put, rows_put}
use Rattle.image_store.proofs.Image.{short_of, rows_other}
use Rattle.image_store.proofs.Read.{byte_at}
use Rattle.image_store.proofs.WriteLaws.{other}
use Rattle.image_node.specs.Lent.{no_lent_store, begin_of, lent_store_at, store_put, Writable, StoreFits}
use Rattle.image_node.proofs.Back.{put-rows, put-log, few-rows, fits-drop}

-- the code of the entry in a place is one of the two
abbrev pub Listed : List ℕ → (base k : ℕ) → Type 0
Listed s base k = (get_or s (base + 24576 + k) 0 ≡ 1) ⊎ (get_or s (base + 24576 + k) 0 ≡ 2)

code_listed : (op : Op) → (code_of op ≡ 1) ⊎ (code_of op ≡ 2)
code_listed (upsert id xs) = inl refl
code_listed (delete id) = inr refl

same_listed : (s t : List ℕ) (base k : ℕ) → get_or t (base + 24576 + k) 0 ≡ get_or s (base + 24576 + k) 0 → Listed s base k → Listed t base k
same_listed s t base k e l = ⊎_elim (λ q. inl (e ∙ q)) (λ q. inr (e ∙ q)) l

-- ---- entries written

entry_length_lem : (s : List ℕ) (base i : ℕ) (e : Entry) → length (entry_put s base i e) ≡ length s
unfolding entry_put numbers_put
entry_length_lem s base i e = rw (length-set, length-set, length-sets, length-sets, length-sets, length-sets)

entry-code : (s : List ℕ) (base i : ℕ) (e : Entry) → base + 174080 ≤ length s → i < 1024 → get_or (entry_put s base i e) (base + 24576 + i) 0 ≡ code_of e.op
unfolding entry_put numbers_put
entry-code s base i e room small =
    let m₁ = vector_put s base i e.op in
    let m₂ = sets m₁ (base + i * 8) (bytes_of 8 e.epoch) in
    let m₃ = sets m₂ (base + 8192 + i * 8) (bytes_of 8 e.offset) in
    let m₄ = sets m₃ (base + 16384 + i * 8) (bytes_of 8 (id_of e.op)) in
    let long : length m₄ ≡ length s = rw (length-sets, length-sets, length-sets, length-sets) in
    get_or-set_other (set m₄ (base + 24576 + i) (code_of e.op)) (base + 25600 + i) (base + 24576 + i) (length (components e.op)) 0 (λ q. omega arith)
    ∙ get_or-set_same m₄ (base + 24576 + i) (code_of e.op) 0 (omega (arith, long))

codes_put : (es : Log) (s : List ℕ) (base i : ℕ) → base + 174080 ≤ length s → i + length es ≤ 1024 → All Fits es → ((k : ℕ) → k < i → Listed s base k)
    → (k : ℕ) → k < i + length es → Listed (entries_put s base i es) base k
unfolding entries_put
codes_put [] s base i room most fit f k h = f k (omega arith)
codes_put (e ∷ es) s base i room most fit f k h =
    let t = entry_put s base i e in
    let l = entry_length_lem s base i e in
    codes_put es t base (i + 1) (omega arith) (omega arith) fit.1
    (λ j p.
    ⊎_elim
    (λ (q : j ≡ i).
    let c = ap (λ (m : ℕ). get_or t (base + 24576 + m) 0) q ∙ entry-code s base i e room (omega arith) in
    ⊎_elim (λ z. inl (c ∙ z)) (λ z. inr (c ∙ z)) (code_listed e.op))
    (λ (lt : j < i).
    same_listed s t base j
    (other s base i e fit.0 (base + 24576 + j) (λ x. omega arith) (λ x. omega arith) (λ x. omega arith) (λ x. omega arith) (λ x. omega arith) (λ x. omega arith))
    (f j lt))
    (eq-or-lt_of_le {n = j} {m = i} (omega arith)))
    k (omega arith)

-- ---- a store that was read

pub read_listed : (s : List ℕ) (x : HeldRow) → well_formed_store (store_of (lent_store_at s x) x) ≡ true → (k : ℕ) → k < x.held.last → Listed s (begin_of x) k
unfolding lent_store_at columns_at
read_listed s x well k h =
    let f = facts (store_of (lent_store_at s x) x) well in
    let most = f.count in
    let c = get_or (codes_in s (begin_of x)) k 0 in
    let is : c ≡ get_or s (begin_of x + 24576 + k) 0 = byte_at s (begin_of x) (begin_of x + 24576) k (omega arith) in
    by_case (eqb c 1) (λ e. inl (sym is ∙ eqb-true c 1 e))
    (λ e. inr (sym is ∙ eqb-true c 2 (sym (ap (λ (b : Bool). cond b (leb (get_or (lent_store_at s x).columns.lengths k 0) 32) (eqb c 2)) e) ∙ f.codes k h)))

-- ---- the store after

module _ (s : List ℕ) (x y : HeldRow) (b : LentStore) (there : 1392640 ≤ length s) (w : Writable x y b) (f : StoreFits y b)
    (same : log_at s (begin_of x) (min x.held.last y.held.last) ≡ take (min x.held.last y.held.last) (log_of b.columns y.held.last))
    (listed : (k : ℕ) → k < x.held.last → Listed s (begin_of x) k) where
  abbrev t : List ℕ
  t = store_put s x y b

  abbrev base : ℕ
  base = begin_of x

  abbrev last : ℕ
  last = y.held.last

  abbrev after : Log
  after = log_of b.columns last

  is-log : log_at t base last ≡ after
  is-log = put-log s x y b there w f same

  formed : (i : ℕ) → i < last → well_formed_entry (entry_at t base i) ≡ true
  unfolding log_at
  formed i h =
      let d = entry_at t base 0 in
      ap well_formed_entry (sym (firsts_at (entry_at t base) last i d h))
      ∙ every-at well_formed_entry (log_at t base last) i d
      (subst (λ (l : Log). every well_formed_entry l ≡ true) (sym is-log) (facts (store_of b y) w.well).entries) (omega (arith, firsts-length (entry_at t base) last))

  listed_after : (k : ℕ) → k < last → Listed t base k
  unfolding store_put
  listed_after k h =
      let from = min x.held.last last in
      let least = min-le_left x.held.last last in
      let most = min-le_right x.held.last last in
      let few = (facts (store_of b y) w.well).count in
      let long = log-length b.columns last in
      let rest = length-drop from after in
      let slot = w.slot in
      same_listed (log_put s base from after) t base k
      (rows_other (log_put s base from after) base (rows_of b.keys b.places y.stored) (few-rows s x y b there w f) (base + 24576 + k) (inl (omega arith)))
      (codes_put (drop from after) s base from (omega arith) (omega arith) (fits-drop from after f.log) (λ j p. listed j (omega arith)) k (omega arith))

  code_fits_lem : (i : ℕ) → i < last → code_fits_at t base i ≡ true
  code_fits_lem i h =
      ⊎_elim
      (λ (q : get_or t (base + 24576 + i) 0 ≡ 1).
      ap (λ (c : ℕ). cond (eqb c 1) (leb (get_or t (base + 25600 + i) 0) 32) (eqb c 2)) q
      ∙ le-leb (get_or t (base + 25600 + i) 0) 32 (short_of t base i (formed i h) q))
      (λ (q : get_or t (base + 24576 + i) 0 ≡ 2).
      ap (λ (c : ℕ). cond (eqb c 1) (leb (get_or t (base + 25600 + i) 0) 32) (eqb c 2)) q)
      (listed_after i h)

  pub put-again : well_formed_image t base last y.stored ≡ true
  unfolding well_formed_image
  put-again =
      let g = facts (store_of b y) w.well in
      let e = sym is-log in
      and_true _ _ (le-leb last 1024 g.count)
      (and_true _ _ (le-leb y.stored 1024 g.stored)
      (and_true _ _ (subst (λ (l : Log). numbered_from 1 l ≡ true) e (numbered-test 0 after g.numbered))
      (and_true _ _ (fact_below (code_fits_at t base) last code_fits_lem)
      (and_true _ _ (subst (λ (l : Log). every well_formed_entry l ≡ true) e g.entries)
      (subst (λ (l : Log). same_rows (rows_at t base y.stored) (play_rows l) ≡ true) e
      (ap (λ r. same_rows r (play_rows after)) (put-rows s x y b there w f ∙ g.rows) ∙ rows_same (play_rows after)))))))
