-- A store that was written back is read again: its image has the log and the rows that the call left, and every other store the bytes
-- that it had. Assumes nothing.
use Prim.Native.Nat.{ℕ, zero, suc, ◌+◌, ◌*◌, ◌≤◌, ◌<◌, min}
use mathlib.Core.Path.{◌≡◌, refl, sym, ap, ◌∙◌}
use mathlib.Core.Bool.{true}
use mathlib.Core.Logic.{◌⊎◌, inl, inr, ⊎_elim}
use mathlib.Core.List.{List, [], ◌∷◌}
use native.Mathlib.Omega.{arith}
use native.Mathlib.Nat.{min-le_right}
use lib.ListN.{length, get_or, take, drop, length-set, length-drop}
use lib.Seq.{length-sets}
use Rattle.spec.specs.Log.{Log}
use Rattle.spec.specs.Layout.Format.{Bytes, All}
use Rattle.spec.specs.Node.WellFormed.{well_formed_entry}
use Rattle.log_store.specs.Table.{Row, rows_of}
use Rattle.log_store.specs.View.{entry_of, log_of}
use Rattle.log_store.proofs.Columns.{log-length}
use Rattle.log_store.proofs.Facts.{facts}
use Rattle.log_store.proofs.Firsts.{firsts_at, firsts_same}
use Rattle.log_store.proofs.Rows.{rows-length}
use Rattle.node_header.specs.declared.HeldRow.{HeldRow}
use Rattle.node_lent.specs.Lend.{LentStore, store_of}
use Rattle.image_store.specs.Image.{entry_at, log_at, rows_at}
use Rattle.image_store.specs.Write.{Fits, numbers_put, entry_put, entries_put, log_put, rows_put}
use Rattle.image_store.proofs.Image.{short_of, log-written, entries_other, rows_other, rows_written, log-same}
use Rattle.image_store.proofs.WriteLaws.{entry-same}
use Rattle.image_store.proofs.Stored.{Same, lt_or_ge}
use Rattle.image_node.specs.Lent.{begin_of, store_put, Writable, StoreFits}
use Rattle.image_node.proofs.Put.{writable_sent, writable_rows}

pub entries_length : (es : Log) (s : List ℕ) (base i : ℕ) → length (entries_put s base i es) ≡ length s
unfolding entries_put entry_put numbers_put
entries_length [] s base i = refl
entries_length (e ∷ es) s base i =
    entries_length es (entry_put s base i e) base (i + 1) ∙ rw (length-set, length-set, length-sets, length-sets, length-sets, length-sets)

pub fits-drop : (n : ℕ) (l : Log) → All Fits l → All Fits (drop n l)
fits-drop zero l f = f
fits-drop (suc n) [] f = tt
fits-drop (suc n) (x ∷ l) f = fits-drop n l f.1

module _ (s : List ℕ) (x y : HeldRow) (b : LentStore) (there : 1392640 ≤ length s) (w : Writable x y b) (f : StoreFits y b) where
  abbrev from : ℕ
  from = min x.held.last y.held.last

  abbrev after : Log
  after = log_of b.columns y.held.last

  abbrev rows : List Row
  rows = rows_of b.keys b.places y.stored

  -- the image with the entries, before the rows
  abbrev entered : List ℕ
  entered = log_put s (begin_of x) from after

  inside : begin_of x + 174080 ≤ length s
  inside = let slot = w.slot in omega arith

  rows_long : length rows ≡ y.stored
  rows_long = let r = writable_rows x y b w in rows-length b.keys b.places y.stored r.1 r.2

  pub few-rows : length rows ≤ 1024
  few-rows = omega (arith, rows_long, (writable_rows x y b w).0)

  few_entries : y.held.last ≤ 1024
  few_entries = (facts (store_of b y) w.well).count

  pub put-rows : rows_at (store_put s x y b) (begin_of x) y.stored ≡ rows
  unfolding store_put
  put-rows =
      ap (rows_at (rows_put entered (begin_of x) rows) (begin_of x)) (sym rows_long)
      ∙ rows_written entered (begin_of x) rows few-rows (omega (arith, inside, entries_length (drop from after) s (begin_of x) from)) f.rows

  -- ---- nothing else is written

  put_other : (j : ℕ) → (j < begin_of x) ⊎ (begin_of x + 174080 ≤ j) → get_or (store_put s x y b) j 0 ≡ get_or s j 0
  unfolding store_put
  put_other j h =
      rows_other entered (begin_of x) rows few-rows j (⊎_elim (λ (q : j < begin_of x). inl (omega arith)) (λ (q : begin_of x + 174080 ≤ j). inr q) h)
      ∙ entries_other (drop from after) s (begin_of x) from
      (let long = log-length b.columns y.held.last in
      let least = min-le_right x.held.last y.held.last in
      let most = few_entries in
      omega (arith, length-drop from after))
      (fits-drop from after f.log) j (⊎_elim (λ (q : j < begin_of x). inl q) (λ (q : begin_of x + 174080 ≤ j). inr (omega arith)) h)

  -- the bytes of every other slot stay
  pub put-beside : (i : ℕ) → (i ≡ x.slot → ⊥) → Same (store_put s x y b) s (i * 174080) 174080
  put-beside i d j p q =
      ⊎_elim (λ (h : i < x.slot). put_other j (inl (omega arith)))
      (λ (h : x.slot ≤ i). put_other j (inr (let g : x.slot < i = omega (arith, d) in omega arith))) (lt_or_ge i x.slot)

  -- ---- what was written is read

  module _ (same : log_at s (begin_of x) from ≡ take from after) where
    entered-log : log_at entered (begin_of x) y.held.last ≡ after
    entered-log =
        let long = log-length b.columns y.held.last in
        let most = few_entries in
        let least = min-le_right x.held.last y.held.last in
        ap (log_at entered (begin_of x)) (sym long)
        ∙ log-written after s (begin_of x) from inside (omega arith) (omega arith) f.log same

    entered-formed : (k : ℕ) → k < y.held.last → well_formed_entry (entry_at entered (begin_of x) k) ≡ true
    unfolding log_at log_of
    entered-formed k h =
        let d = entry_of b.columns 0 in
        ap well_formed_entry
        (sym (firsts_at (entry_at entered (begin_of x)) y.held.last k d h)
        ∙ ap (λ (l : Log). get_or l k d) entered-log
        ∙ firsts_at (entry_of b.columns) y.held.last k d h)
        ∙ (writable_sent x y b w).formed k h

    -- of an image whose first entries are those of the call's log: a call cuts a log or appends to it
    pub put-log : log_at (store_put s x y b) (begin_of x) y.held.last ≡ after
    unfolding store_put
    put-log =
        log-same (rows_put entered (begin_of x) rows) entered (begin_of x) y.held.last few_entries
        (λ j p q. rows_other entered (begin_of x) rows few-rows j (inl (omega arith)))
        (λ k h. short_of entered (begin_of x) k (entered-formed k h))
        ∙ entered-log

-- ---- a store whose bytes are the same is read as the same, well formed or not: no length of a byte reaches past it

pub slot-log : (s t : List ℕ) (base n : ℕ) → n ≤ 1024 → Bytes t → Same s t base 174080 → log_at s base n ≡ log_at t base n
unfolding log_at
slot-log s t base n most bytes h =
    firsts_same (entry_at s base) (entry_at t base) n
    (λ k lt.
    entry-same s t base k
    (λ j p q. h j (omega arith) (omega arith))
    (λ j p q. h j (omega arith) (omega arith))
    (λ j p q. h j (omega arith) (omega arith))
    (h (base + 24576 + k) (omega arith) (omega arith))
    (h (base + 25600 + k) (omega arith) (omega arith))
    (λ c j p q. let w = bytes (base + 25600 + k) in h j (omega arith) (omega arith)))
