-- Laws of entries that are written: their components lie in the domain, and within their stretch. Assumes nothing.
use Prim.Native.Nat.{ℕ, zero, suc, ◌+◌, ◌-◌, ◌*◌, ◌≤◌, ◌<◌, ◌^◌}
use mathlib.Core.Path.{◌≡◌, refl, sym, ap, ◌∙◌, subst}
use mathlib.Core.Bool.{Bool, true, false, cond}
use mathlib.Core.List.{List, [], ◌∷◌, ◌++◌, map}
use native.Mathlib.Omega.{arith}
use native.Mathlib.Numerals.{add-one}
use lib.Dec.{eqb}
use lib.ListN.{length, set, get_or, take, drop, drop_of_length-le}
use lib.Seq.{sets, drop-cons}
use Rattle.spec.specs.Log.{Entry, upsert, delete, components}
use Rattle.spec.specs.Layout.Format.{bytes_of, concat_map, All}
use Rattle.log_store.specs.View.{Columns, firsts, stretch, op_of, entry_of, log_of}
use Rattle.log_store.specs.Table.{rows_of, zipped}
use Rattle.log_store.proofs.Columns.{log-length}
use Rattle.log_store.proofs.Firsts.{firsts_at}
use Rattle.node_send.specs.Sent.{Sendable}
use Rattle.image_store.specs.Write.{Fits, RowFits, code_of, id_of, numbers_put, vector_put, entry_put, entries_put, rows_put}

pub numbers_put_lem : (s : List ℕ) (base i e o d k m : ℕ)
    → set
    (set
    (sets
    (sets (sets s (base + i * 8) (bytes_of 8 e)) (base + 8192 + i * 8) (bytes_of 8 o))
    (base + 16384 + i * 8) (bytes_of 8 d))
    (base + 24576 + i) k)
    (base + 25600 + i) m
    ≡ numbers_put s base i e o d k m
unfolding numbers_put
numbers_put_lem s base i e o d k m = refl

-- ---- an entry by the columns that it comes from

module _ (c : Columns) (i : ℕ) where
  pub code_is : code_of (op_of c i) ≡ cond (eqb (get_or c.codes i 0) 1) 1 2
  unfolding op_of
  code_is = go (eqb (get_or c.codes i 0) 1)
    where
      go : (b : Bool) → code_of (cond b (upsert (get_or c.ids i 0) (stretch c i)) (delete (get_or c.ids i 0))) ≡ cond b 1 2
      go true = refl
      go false = refl

  pub id-is : id_of (op_of c i) ≡ get_or c.ids i 0
  unfolding op_of
  id-is = go (eqb (get_or c.codes i 0) 1)
    where
      go : (b : Bool) → id_of (cond b (upsert (get_or c.ids i 0) (stretch c i)) (delete (get_or c.ids i 0))) ≡ get_or c.ids i 0
      go true = refl
      go false = refl

  pub entry-put : (s : List ℕ) (base : ℕ)
      → numbers_put (vector_put s base i (op_of c i)) base i (get_or c.epochs i 0) (get_or c.offsets i 0) (get_or c.ids i 0)
      (cond (eqb (get_or c.codes i 0) 1) 1 2) (length (components (op_of c i)))
      ≡ entry_put s base i (entry_of c i)
  unfolding entry_put entry_of
  entry-put s base = rw (← code_is, ← id-is)

-- one entry more, and all
pub entries_on : (s : List ℕ) (base : ℕ) (c : Columns) (n i : ℕ) → i < n
    → entries_put (entry_put s base i (entry_of c i)) base (i + 1) (drop (i + 1) (log_of c n)) ≡ entries_put s base i (drop i (log_of c n))
unfolding entries_put log_of
entries_on s base c n i h =
    let l = log_of c n in
    let d : drop i l ≡ entry_of c i ∷ drop (i + 1) l =
    drop-cons l i (entry_of c i) (omega (arith, log-length c n))
    ∙ ap (λ (x : Entry). x ∷ drop (suc i) l) (firsts_at (entry_of c) n i (entry_of c i) h)
    ∙ ap (λ (k : ℕ). entry_of c i ∷ drop k l) (sym (add-one i)) in
    sym (ap (entries_put s base i) d)

pub entries_end : (s : List ℕ) (base : ℕ) (c : Columns) (n i : ℕ) → n ≤ i → s ≡ entries_put s base i (drop i (log_of c n))
unfolding entries_put
entries_end s base c n i h = sym (ap (entries_put s base i) (drop_of_length-le (log_of c n) {i = i} (omega (arith, log-length c n))))

-- ---- rows by the columns that they come from

pub row-ids : (n : ℕ) (ks ps : List ℕ) → n ≤ length ks → n ≤ length ps → map (λ r. r.id) (rows_of ks ps n) ≡ take n ks
unfolding rows_of zipped
row-ids zero ks ps h k = refl
row-ids (suc n) [] ps h k = absurd (omega arith)
row-ids (suc n) (x ∷ ks) [] h k = absurd (omega arith)
row-ids (suc n) (x ∷ ks) (y ∷ ps) h k = ap (λ (l : List ℕ). x ∷ l) (row-ids n ks ps (omega arith) (omega arith))

pub row-offsets : (n : ℕ) (ks ps : List ℕ) → n ≤ length ks → n ≤ length ps → map (λ r. r.offset) (rows_of ks ps n) ≡ take n ps
unfolding rows_of zipped
row-offsets zero ks ps h k = refl
row-offsets (suc n) [] ps h k = absurd (omega arith)
row-offsets (suc n) (x ∷ ks) [] h k = absurd (omega arith)
row-offsets (suc n) (x ∷ ks) (y ∷ ps) h k = ap (λ (l : List ℕ). y ∷ l) (row-offsets n ks ps (omega arith) (omega arith))

pub rows-put : (s : List ℕ) (base n : ℕ) (ks ps : List ℕ) → n ≤ length ks → n ≤ length ps
    → sets (sets s (base + 157696) (concat_map (bytes_of 8) (take n ks))) (base + 165888) (concat_map (bytes_of 8) (take n ps))
    ≡ rows_put s base (rows_of ks ps n)
unfolding rows_put
rows-put s base n ks ps h k = rw (row-ids n ks ps h k, row-offsets n ks ps h k)

-- ---- numbers of a u64 fit

all_snoc : {A : Type 0} (P : A → Type 0) (l : List A) (x : A) → All P l → P x → All P (l ++ (x ∷ []))
all_snoc P [] x f p = (p, tt)
all_snoc P (y ∷ l) x f p = (f.0, all_snoc P l x f.1 p)

abbrev pub U64s : List ℕ → Type 0
U64s l = (i : ℕ) → get_or l i 0 < 256 ^ 8

pub log-fits : (c : Columns) (n : ℕ) → Sendable c n → U64s c.epochs → U64s c.offsets → U64s c.ids → (m : ℕ) → m ≤ n → All Fits (log_of c m)
unfolding log_of firsts entry_of
log-fits c n s e o d zero h = tt
log-fits c n s e o d (suc m) h =
    all_snoc Fits (log_of c m) (entry_of c m) (log-fits c n s e o d m (omega arith))
    (record { epoch = e m; offset = o m; id = subst (λ (x : ℕ). x < 256 ^ 8) (sym (id-is c m)) (d m); formed = s.formed m (omega arith) })

pub rows_fit_lem : (n : ℕ) (ks ps : List ℕ) → U64s ks → U64s ps → All RowFits (rows_of ks ps n)
unfolding rows_of zipped
rows_fit_lem zero ks ps k p = tt
rows_fit_lem (suc n) [] ps k p = tt
rows_fit_lem (suc n) (x ∷ ks) [] k p = tt
rows_fit_lem (suc n) (x ∷ ks) (y ∷ ps) k p = (record { id = k 0; offset = p 0 }, rows_fit_lem n ks ps (λ i. k (suc i)) (λ i. p (suc i)))
