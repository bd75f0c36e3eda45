-- The numbers of a longer log and of its table fit their columns: what was written of them can be read. Assumes nothing.
use Prim.Native.Nat.{ℕ, zero, suc, ◌+◌, ◌*◌, ◌^◌, ◌<◌}
use mathlib.Core.Path.{◌≡◌, refl, sym, ap, ◌∙◌, subst}
use mathlib.Core.Bool.{Bool, true, false, cond}
use mathlib.Core.List.{List, [], ◌∷◌, ◌++◌}
use native.Mathlib.Omega.{arith}
use lib.Dec.{eqb, leb}
use lib.ListN.{get_or}
use Rattle.spec.specs.Lists.{every, put, filter}
use Rattle.spec.specs.Log.{Op, upsert, delete, Entry, Log}
use Rattle.spec.specs.Layout.Format.{Bytes, number_at, All}
use Rattle.spec.specs.Node.Wire.{floats_of}
use Rattle.spec.specs.Node.WellFormed.{numbered_from, well_formed_entry}
use Rattle.spec_laws.proofs.Lists.{and_left, and_right}
use Rattle.spec_laws.proofs.Wire.Bytes.{number-below}
use Rattle.log_store.specs.View.{firsts, op_from}
use Rattle.log_store.specs.Table.{Row, row_below, other_row, row_op, play_rows, play_rows_from}
use Rattle.log_store.specs.Store.{every_below}
use Rattle.log_store.proofs.Bits.{every-at}
use Rattle.log_store.proofs.Firsts.{firsts-length, firsts_at}
use Rattle.image_store.specs.Image.{patterns, op_at, entry_at, log_at, code_fits_at, well_formed_image}
use Rattle.image_store.specs.Write.{Fits, RowFits, id_of}
use Rattle.image_store_append.specs.Put.{longer}

all_snoc : {A : Type 0} (P : A → Type 0) (l : List A) (x : A) → All P l → P x → All P (l ++ (x ∷ []))
all_snoc P [] x f p = (p, tt)
all_snoc P (y ∷ l) x f p = (f.0, all_snoc P l x f.1 p)

all_firsts : {A : Type 0} (P : A → Type 0) (f : ℕ → A) (n : ℕ) → ((i : ℕ) → i < n → P (f i)) → All P (firsts f n)
unfolding firsts
all_firsts P f zero h = tt
all_firsts P f (suc n) h = all_snoc P (firsts f n) (f n) (all_firsts P f n (λ i k. h i (omega arith))) (h n (omega arith))

all-put : (r : Row) (l : List Row) → RowFits r → All RowFits l → All RowFits (put row_below r l)
unfolding put
all-put r [] p f = (p, tt)
all-put r (y ∷ ys) p f = go (row_below r y) (row_below y r) (all-put r ys p f.1)
  where
    go : (a b : Bool) → All RowFits (put row_below r ys) → All RowFits (cond a (r ∷ y ∷ ys) (cond b (y ∷ put row_below r ys) (r ∷ ys)))
    go true b i = (p, f)
    go false true i = (f.0, i)
    go false false i = (p, f.1)

all_filter : (q : Row → Bool) (l : List Row) → All RowFits l → All RowFits (filter q l)
unfolding filter
all_filter q [] f = tt
all_filter q (y ∷ ys) f = go (q y) (all_filter q ys f.1)
  where
    go : (a : Bool) → All RowFits (filter q ys) → All RowFits (cond a (y ∷ filter q ys) (filter q ys))
    go true i = (f.0, i)
    go false i = i

-- the table of entries that fit
op-rows : (rs : List Row) (op : Op) (o : ℕ) → id_of op < 256 ^ 8 → o < 256 ^ 8 → All RowFits rs → All RowFits (row_op rs op o)
unfolding row_op
op-rows rs (upsert id xs) o hi ho f = all-put (record { id = id; offset = o }) rs (record { id = hi; offset = ho }) f
op-rows rs (delete id) o hi ho f = all_filter (other_row id) rs f

from-rows : (rs : List Row) (l : Log) → All Fits l → All RowFits rs → All RowFits (play_rows_from rs l)
unfolding play_rows_from
from-rows rs [] f g = g
from-rows rs (e ∷ l) f g = from-rows (row_op rs e.op e.offset) l f.1 (op-rows rs e.op e.offset f.0.id f.0.offset g)

pub rows_fit_lem : (l : Log) → All Fits l → All RowFits (play_rows l)
unfolding play_rows
rows_fit_lem l f = from-rows [] l f tt

-- ---- the entries that the bytes are

id_of_lem : (code id : ℕ) (bits : List ℕ) → id_of (op_from code id bits) ≡ id
unfolding op_from
id_of_lem code id bits = go (eqb code 1)
  where
    go : (b : Bool) → id_of (cond b (upsert id (floats_of bits)) (delete id)) ≡ id
    go true = refl
    go false = refl

module _ (s : List ℕ) (base i : ℕ) (bytes : Bytes s) where
  epoch-below : (entry_at s base i).epoch < 256 ^ 8
  unfolding entry_at
  epoch-below = number-below 8 s (base + i * 8) bytes

  offset-below : (entry_at s base i).offset < 256 ^ 8
  unfolding entry_at
  offset-below = number-below 8 s (base + 8192 + i * 8) bytes

  id_below_lem : id_of (entry_at s base i).op < 256 ^ 8
  unfolding entry_at op_at
  id_below_lem =
      subst (λ (x : ℕ). x < 256 ^ 8)
      (sym (id_of_lem (get_or s (base + 24576 + i) 0) (number_at 8 s (base + 16384 + i * 8)) (patterns s base i (get_or s (base + 25600 + i) 0))))
      (number-below 8 s (base + 16384 + i * 8) bytes)

module _ (s : List ℕ) (base count stored : ℕ) (bytes : Bytes s) (well : well_formed_image s base count stored ≡ true) where
  every-formed : every well_formed_entry (log_at s base count) ≡ true
  unfolding well_formed_image
  every-formed =
      and_left (every well_formed_entry (log_at s base count)) _
      (and_right (every_below (code_fits_at s base) count) _
      (and_right (numbered_from 1 (log_at s base count)) _ (and_right (leb stored 1024) _ (and_right (leb count 1024) _ well))))

  entry-formed : (i : ℕ) → i < count → well_formed_entry (entry_at s base i) ≡ true
  unfolding log_at
  entry-formed i h =
      ap well_formed_entry (sym (firsts_at (entry_at s base) count i (entry_at s base i) h))
      ∙ every-at well_formed_entry (log_at s base count) i (entry_at s base i) every-formed (subst (λ (m : ℕ). i < m) (sym (firsts-length (entry_at s base) count)) h)

  entry-fits : (i : ℕ) → i < count → Fits (entry_at s base i)
  entry-fits i h = record {
    epoch = epoch-below s base i bytes;
    offset = offset-below s base i bytes;
    id = id_below_lem s base i bytes;
    formed = entry-formed i h;
  }

  pub longer-fits : (e : Entry) → Fits e → All Fits (longer s base count e)
  unfolding log_at
  longer-fits e f = all_snoc Fits (log_at s base count) e (all_firsts Fits (entry_at s base) count entry-fits) f
