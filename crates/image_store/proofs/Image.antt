-- The image after a write-back: its log and its rows are those that were written, and the other stores of the buffer are as they were.
-- Assumes nothing.
use Prim.Native.Nat.{ℕ, zero, suc, ◌+◌, ◌*◌, ◌≤◌, ◌<◌}
use mathlib.Core.Path.{◌≡◌, refl, sym, ap, ◌∙◌}
use mathlib.Core.Bool.{Bool, true, cond}
use mathlib.Core.Logic.{◌⊎◌, inl, inr, ⊎_elim}
use mathlib.Core.List.{List, [], ◌∷◌, ◌++◌, map, append_assoc, append-nil}
use native.Mathlib.Omega.{arith}
use native.Mathlib.Nat.{add-zero, eq-or-lt_of_le}
use borrow.Author.Tests.{eq-eqb, leb-true}
use lib.Dec.{eqb, leb}
use lib.ListN.{length, get_or, take, drop, length-set, length-map, length-drop, take-append-drop}
use lib.Seq.{sets, length-sets, get_or-take}
use Rattle.spec.specs.Lists.{◌and◌, every}
use Rattle.spec.specs.Log.{Entry, Log, upsert, delete}
use Rattle.spec.specs.Layout.Format.{bytes_of, number_at, concat_map, All}
use Rattle.spec.specs.Node.Wire.{floats_of}
use Rattle.spec.specs.Node.WellFormed.{component, well_formed_vector, well_formed_op, well_formed_entry}
use Rattle.spec_laws.proofs.Lists.{and_left, and_right}
use Rattle.wire_write.proofs.Writes.{length-words}
use Rattle.log_store.specs.View.{op_from}
use Rattle.log_store.specs.Table.{Row, rows_of, zipped}
use Rattle.log_store.proofs.Bits.{floats-length}
use Rattle.log_store.proofs.Firsts.{firsts_same, firsts-next, firsts_at}
use Rattle.image_store.specs.Image.{words, patterns, op_at, entry_at, log_at, rows_at}
use Rattle.image_store.specs.Write.{Fits, RowFits, numbers_put, entry_put, entries_put, log_put, rows_put}
use Rattle.image_store.proofs.Words.{words-length}
use Rattle.image_store.proofs.Stored.{sets-other, Same, words_same, words-stored, words_take, Below}
use Rattle.image_store.proofs.WriteLaws.{Short, entry-same, other, entry_kept, entry_new}

-- ---- of every item of a list

module _ {A : Type 0} (P : A → Type 0) where
  all_drop : (n : ℕ) (l : List A) → All P l → All P (drop n l)
  all_drop zero l f = f
  all_drop (suc n) [] f = tt
  all_drop (suc n) (x ∷ l) f = all_drop n l f.1

  all-at : (l : List A) (i : ℕ) (d : A) → All P l → i < length l → P (get_or l i d)
  all-at [] i d f h = absurd (omega arith)
  all-at (x ∷ l) zero d f h = f.0
  all-at (x ∷ l) (suc i) d f h = all-at l i d f.1 (omega arith)

  all_map : {B : Type 0} (g : A → B) (Q : B → Type 0) → ((x : A) → P x → Q (g x)) → (l : List A) → All P l → All Q (map g l)
  all_map g Q h [] f = tt
  all_map g Q h (x ∷ l) f = (h x f.0, all_map g Q h l f.1)

-- ---- sizes stay

entry_length_lem : (s : List ℕ) (base i : ℕ) (e : Entry) → length (entry_put s base i e) ≡ length s
unfolding entry_put numbers_put
entry_length_lem s base i e = rw (length-set, length-set, length-sets, length-sets, length-sets, length-sets)

-- ---- a well-formed entry lies within its stretch

pub short_of : (s : List ℕ) (base k : ℕ) → well_formed_entry (entry_at s base k) ≡ true → Short s base k
unfolding entry_at op_at op_from well_formed_vector
short_of s base k w q =
    let n = get_or s (base + 25600 + k) 0 in
    let v = floats_of (patterns s base k n) in
    let u : well_formed_op (cond (eqb (get_or s (base + 24576 + k) 0) 1) (upsert (number_at 8 s (base + 16384 + k * 8)) v) (delete (number_at 8 s (base + 16384 + k * 8)))) ≡ true = w in
    let x : leb 1 (length v) and (leb (length v) 32 and every component v) ≡ true =
    sym (ap (λ (b : Bool). well_formed_op (cond b (upsert (number_at 8 s (base + 16384 + k * 8)) v) (delete (number_at 8 s (base + 16384 + k * 8))))) (eq-eqb (get_or s (base + 24576 + k) 0) 1 q)) ∙ u in
    let y = leb-true (length v) 32 (and_left (leb (length v) 32) (every component v) (and_right (leb 1 (length v)) (leb (length v) 32 and every component v) x)) in
    omega (arith, floats-length (patterns s base k n), words-length 4 n s (base + 26624 + k * 128))

-- ---- entries written

log-put : (es : Log) (s : List ℕ) (base i : ℕ) → base + 174080 ≤ length s → i + length es ≤ 1024 → All Fits es
    → ((k : ℕ) → k < i → well_formed_entry (entry_at s base k) ≡ true)
    → log_at (entries_put s base i es) base (i + length es) ≡ log_at s base i ++ es
unfolding entries_put log_at
log-put [] s base i room most fit well = rw add-zero (sym (append-nil (log_at s base i)))
log-put (e ∷ es) s base i room most fit well =
    let t = entry_put s base i e in
    let l = entry_length_lem s base i e in
    let kept : (k : ℕ) → k < i → entry_at t base k ≡ entry_at s base k =
    λ k h. entry_kept s base i e fit.0 room (omega arith) k h (short_of s base k (well k h)) in
    let new : entry_at t base i ≡ e = entry_new s base i e fit.0 room (omega arith) in
    let next : log_at t base (i + 1) ≡ log_at s base i ++ (e ∷ []) =
    firsts-next (entry_at t base) i
    ∙ ap (λ (x : Log). x ++ (entry_at t base i ∷ [])) (firsts_same (entry_at t base) (entry_at s base) i kept)
    ∙ ap (λ (x : Entry). log_at s base i ++ (x ∷ [])) new in
    let q : i + suc (length es) ≡ i + 1 + length es = omega arith in
    ap (λ (n : ℕ). log_at (entries_put t base (i + 1) es) base n) q
    ∙ log-put es t base (i + 1) (omega arith) (omega arith) fit.1
    (λ k h.
    ⊎_elim
    (λ (z : k ≡ i). ap well_formed_entry (ap (entry_at t base) z ∙ new) ∙ fit.0.formed)
    (λ (lt : k < i). ap well_formed_entry (kept k lt) ∙ well k lt)
    (eq-or-lt_of_le {n = k} {m = i} (omega arith)))
    ∙ ap (λ (x : Log). x ++ es) next
    ∙ append_assoc (log_at s base i) (e ∷ []) es

-- an image whose log is the front of l, after the rest of l was written: its log is l
pub log-written : (l : Log) (s : List ℕ) (base from : ℕ) → base + 174080 ≤ length s → length l ≤ 1024 → from ≤ length l
    → All Fits l → log_at s base from ≡ take from l
    → log_at (log_put s base from l) base (length l) ≡ l
unfolding log_at
log-written l s base from room most h fit same =
    let n = length-drop from l in
    let q : from + length (drop from l) ≡ length l = omega arith in
    ap (log_at (log_put s base from l) base) (sym q)
    ∙ log-put (drop from l) s base from room (omega arith) (all_drop Fits from l fit)
    (λ k lt.
    ap well_formed_entry
    (sym (firsts_at (entry_at s base) from k (entry_at s base 0) lt)
    ∙ ap (λ (x : Log). get_or x k (entry_at s base 0)) same
    ∙ get_or-take from l k (entry_at s base 0) lt)
    ∙ (all-at Fits l k (entry_at s base 0) fit (omega arith)).formed)
    ∙ ap (λ (x : Log). x ++ drop from l) same
    ∙ take-append-drop from l

-- entries are written below the table, and within their store
pub entries_other : (es : Log) (s : List ℕ) (base i : ℕ) → i + length es ≤ 1024 → All Fits es → (j : ℕ) → (j < base) ⊎ (base + 157696 ≤ j)
    → get_or (entries_put s base i es) j 0 ≡ get_or s j 0
unfolding entries_put
entries_other [] s base i most fit j h = refl
entries_other (e ∷ es) s base i most fit j (inl h) =
    entries_other es (entry_put s base i e) base (i + 1) (omega arith) fit.1 j (inl h)
    ∙ other s base i e fit.0 j (λ x. omega arith) (λ x. omega arith) (λ x. omega arith) (λ x. omega arith) (λ x. omega arith) (λ x. omega arith)
entries_other (e ∷ es) s base i most fit j (inr h) =
    entries_other es (entry_put s base i e) base (i + 1) (omega arith) fit.1 j (inr h)
    ∙ other s base i e fit.0 j (λ x. omega arith) (λ x. omega arith) (λ x. omega arith) (λ x. omega arith) (λ x. omega arith) (λ x. omega arith)

-- ---- rows written

zipped-back : (rs : List Row) → zipped (map (λ r. r.id) rs) (map (λ r. r.offset) rs) ≡ rs
unfolding zipped
zipped-back [] = refl
zipped-back (r ∷ rs) = ap (λ (x : List Row). r ∷ x) (zipped-back rs)

module _ (s : List ℕ) (base : ℕ) (rs : List Row) (most : length rs ≤ 1024) where
  abbrev ids : List ℕ
  ids = map (λ r. r.id) rs

  abbrev offs : List ℕ
  offs = map (λ r. r.offset) rs

  ids_long : length (concat_map (bytes_of 8) ids) ≡ 8 * length rs
  ids_long = omega (arith, length-words 8 ids, length-map rs (λ r. r.id))

  offs_long : length (concat_map (bytes_of 8) offs) ≡ 8 * length rs
  offs_long = omega (arith, length-words 8 offs, length-map rs (λ r. r.offset))

  -- rows are written into the table, and nowhere else
  pub rows_other : (j : ℕ) → (j < base + 157696) ⊎ (base + 174080 ≤ j) → get_or (rows_put s base rs) j 0 ≡ get_or s j 0
  unfolding rows_put
  rows_other j (inl h) =
      sets-other (concat_map (bytes_of 8) offs) (sets s (base + 157696) (concat_map (bytes_of 8) ids)) (base + 165888) j (inl (omega arith))
      ∙ sets-other (concat_map (bytes_of 8) ids) s (base + 157696) j (inl h)
  rows_other j (inr h) =
      let a = ids_long in
      let b = offs_long in
      sets-other (concat_map (bytes_of 8) offs) (sets s (base + 157696) (concat_map (bytes_of 8) ids)) (base + 165888) j (inr (omega arith))
      ∙ sets-other (concat_map (bytes_of 8) ids) s (base + 157696) j (inr (omega arith))

  -- the rows of the image are then those
  pub rows_written : base + 174080 ≤ length s → All RowFits rs → rows_at (rows_put s base rs) base (length rs) ≡ rs
  unfolding rows_put rows_of
  rows_written room fit =
      let gi : All (Below 8) ids = all_map RowFits (λ r. r.id) (Below 8) (λ r f. f.id) rs fit in
      let go : All (Below 8) offs = all_map RowFits (λ r. r.offset) (Below 8) (λ r f. f.offset) rs fit in
      let n = length rs in
      let a = ids_long in
      let b = offs_long in
      let t = sets s (base + 157696) (concat_map (bytes_of 8) ids) in
      let u = sets t (base + 165888) (concat_map (bytes_of 8) offs) in
      let l : length t ≡ length s = length-sets s (base + 157696) (concat_map (bytes_of 8) ids) in
      let k : take n (words 8 1024 u (base + 157696)) ≡ ids =
      words_take 8 n 1024 u (base + 157696) most
      ∙ words_same u t 8 n (base + 157696) (λ j p q. sets-other (concat_map (bytes_of 8) offs) t (base + 165888) j (inl (omega arith)))
      ∙ ap (λ (m : ℕ). words 8 m t (base + 157696)) (sym (length-map rs (λ r. r.id)))
      ∙ words-stored 8 ids s (base + 157696) gi (omega arith) in
      let o : take n (words 8 1024 u (base + 165888)) ≡ offs =
      words_take 8 n 1024 u (base + 165888) most
      ∙ ap (λ (m : ℕ). words 8 m u (base + 165888)) (sym (length-map rs (λ r. r.offset)))
      ∙ words-stored 8 offs t (base + 165888) go (omega arith) in
      rw (k, o) (zipped-back rs)

-- ---- a store whose bytes are the same

pub log-same : (s t : List ℕ) (base n : ℕ) → n ≤ 1024 → Same s t base 157696 → ((k : ℕ) → k < n → Short t base k) → log_at s base n ≡ log_at t base n
unfolding log_at
log-same s t base n most h short =
    firsts_same (entry_at s base) (entry_at t base) n
    (λ k lt.
    entry-same s t base k
    (λ j p q. h j (omega arith) (omega arith))
    (λ j p q. h j (omega arith) (omega arith))
    (λ j p q. h j (omega arith) (omega arith))
    (h (base + 24576 + k) (omega arith) (omega arith))
    (h (base + 25600 + k) (omega arith) (omega arith))
    (λ c j p q. let w = short k lt c in h j (omega arith) (omega arith)))

pub table_same : (s t : List ℕ) (base n : ℕ) → Same s t (base + 157696) 16384 → rows_at s base n ≡ rows_at t base n
table_same s t base n h =
    rw (
      words_same s t 8 1024 (base + 157696) (λ j p q. h j p (omega arith)),
      words_same s t 8 1024 (base + 165888) (λ j p q. h j (omega arith) (omega arith)),
    )
