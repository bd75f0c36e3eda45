-- The stores, before its Write and after. A list of 1,392,640 zeros is read by laws, one for all places: the
-- checker walks none of it. Assumes nothing.
use Prim.Native.Nat.{ℕ, ◌-◌, ◌<◌, ◌≤◌}
use native.Mathlib.Omega.{arith}
use mathlib.Core.Path.{◌≡◌, refl, sym, ap, subst, ◌∙◌}
use mathlib.Core.Bool.{true}
use mathlib.Core.List.{List, [], ◌∷◌}
use lib.Ieee.{Float, fits, to_bits, of_bits}
use lib.ListN.{length, take, drop, set, replicate}
use lib.Seq.{sets}
use borrow.Author.Tests.{le-leb}
use Rattle.spec.specs.Layout.Format.{Bytes, All, bytes_of}
use Rattle.spec.specs.Node.Wire.{float_of}
use Rattle.spec.specs.Log.{Entry, upsert}
use Rattle.spec_run.proofs.Cases.Opened.{opened}
use Rattle.log_store.specs.View as view
use Rattle.log_store.specs.Table as table
use Rattle.log_store.specs.Store as store
use Rattle.std.specs.Prelude.{Some}
use Rattle.image_store.specs.Image.{words, log_at}
use Rattle.image_store.specs.Read as read
use Rattle.image_store.specs.Write as write
use Rattle.node_lent.specs.Lend.{LentStore, lent_store}
use Rattle.image_node.specs.Lent.{no_lent_store, lent_store_at, lent_store_in, held_row_readable, lends_state, store_put, StorePuts}
use Rattle.thm_one_node.specs.Images.{stores, leased}
use Rattle.thm_one_node.proofs.Zeros.{zeros_long, zeros-bytes, dropped, taken, words_zero, set-bytes, sets-bytes}
use Rattle.thm_one_node.proofs.Map.{key}
use Rattle.thm_one_node.proofs.Headers.{kept, leads, read-leased, lent-leased}

-- ---- before

words-read : (at : ℕ) → words 8 1024 stores at ≡ replicate 1024 0
unfolding stores
words-read at = words_zero 8 1024 1392640 at

bytes_read : (at : ℕ) → 1024 ≤ 1392640 - at → take 1024 (drop at stores) ≡ replicate 1024 0
unfolding stores
bytes_read at h = ap (take 1024) (dropped 0 1392640 at) ∙ taken 0 (1392640 - at) 1024 h

pub stores_long : length stores ≡ 1392640
unfolding stores
stores_long = zeros_long 1392640

pub stores-room : 1392640 ≤ length stores
stores-room = omega (arith, stores_long)

-- no entry is read of none
pub nothing : log_at stores 0 0 ≡ []
unfolding log_at view.firsts
nothing = refl

abbrev zeros : List ℕ
zeros = replicate 1024 0

abbrev pub before : LentStore
before = lent_store zeros zeros zeros zeros zeros (replicate 32768 (float_of 0)) zeros zeros

pub kept_read : lent_store_at stores (kept 0 0) ≡ before
unfolding lent_store_at read.columns_at read.floats_read no_lent_store
kept_read = rw (words-read 0, words-read 8192, words-read 16384, bytes_read 24576 (omega arith), bytes_read 25600 (omega arith), words-read 157696, words-read 165888) refl

pub store-read : lent_store_in stores (leads (Some 100) 0 0) key ≡ before
unfolding opened
store-read = kept_read

pub lends : lends_state leased stores key ≡ true
unfolding opened lends_state held_row_readable read.all_readable store.every_below
lends = rw (lent-leased, read-leased, stores_long, le-leb 1392640 1392640 (omega arith)) refl

-- ---- after the Write of one Upsert: the id 41 at 1.0

abbrev pub one : Float
one = float_of 0x3f800000

abbrev pub entry : Entry
entry = record { epoch = 1; offset = 1; op = upsert 41 (one ∷ []) }

abbrev pub after : LentStore
after =
    lent_store (set zeros 0 1) (set zeros 0 1) (set zeros 0 41) (set zeros 0 1) (set zeros 0 1) (set (replicate 32768 (float_of 0)) 0 one)
    (set zeros 0 41) (set zeros 0 1)

abbrev pub row : table.Row
row = record { id = 41; offset = 1 }

pub log-after : view.log_of after.columns 1 ≡ entry ∷ []
unfolding view.log_of view.firsts view.entry_of view.op_of view.stretch
log-after = refl

pub rows-after : table.rows_of after.keys after.places 1 ≡ row ∷ []
unfolding table.rows_of table.zipped
rows-after = refl

-- the bytes after
unfoldable pub stored : List ℕ
stored = write.rows_put (write.entry_put stores 0 0 entry) 0 (row ∷ [])

pub is-put : stored ≡ store_put stores (kept 0 0) (kept 1 1) after
unfolding stored store_put write.entries_put
is-put = rw (log-after, rows-after) refl

pub puts : StorePuts stores stored (kept 0 0) (kept 1 1) after
unfolding opened fits
puts = record {
  image = is-put;
  fits = record {
    log = subst (All write.Fits) (sym log-after) (record { epoch = omega arith; offset = omega arith; id = omega arith; formed = refl }, tt);
    rows = subst (All write.RowFits) (sym rows-after) (record { id = omega arith; offset = omega arith }, tt);
  };
}

-- ---- they are bytes

pub stores-bytes : Bytes stores
unfolding stores
stores-bytes = zeros-bytes 1392640

abbrev Small : List ℕ → Type 0
Small l = All (λ (x : ℕ). x < 256) l

small_one : Small (bytes_of 4 0x3f800000)
small_one = (omega arith, (omega arith, (omega arith, (omega arith, tt))))

pub small : Small (bytes_of 8 1) × Small (bytes_of 8 41)
small = (
  (omega arith, (omega arith, (omega arith, (omega arith, (omega arith, (omega arith, (omega arith, (omega arith, tt)))))))),
  (omega arith, (omega arith, (omega arith, (omega arith, (omega arith, (omega arith, (omega arith, (omega arith, tt)))))))),
)

pub stored_bytes : Bytes stored
unfolding stored write.rows_put write.entry_put write.numbers_put to_bits of_bits
stored_bytes =
    let s₁ = sets stores 26624 (bytes_of 4 0x3f800000) in
    let s₂ = sets s₁ 0 (bytes_of 8 1) in
    let s₃ = sets s₂ 8192 (bytes_of 8 1) in
    let s₄ = sets s₃ 16384 (bytes_of 8 41) in
    let s₅ = set s₄ 24576 1 in
    let s₆ = set s₅ 25600 1 in
    let s₇ = sets s₆ 157696 (bytes_of 8 41) in
    let b₁ : Bytes s₁ = sets-bytes (bytes_of 4 0x3f800000) stores 26624 stores-bytes small_one in
    let b₂ : Bytes s₂ = sets-bytes (bytes_of 8 1) s₁ 0 b₁ small.0 in
    let b₃ : Bytes s₃ = sets-bytes (bytes_of 8 1) s₂ 8192 b₂ small.0 in
    let b₄ : Bytes s₄ = sets-bytes (bytes_of 8 41) s₃ 16384 b₃ small.1 in
    let b₅ : Bytes s₅ = set-bytes s₄ 24576 1 b₄ (omega arith) in
    let b₆ : Bytes s₆ = set-bytes s₅ 25600 1 b₅ (omega arith) in
    let b₇ : Bytes s₇ = sets-bytes (bytes_of 8 41) s₆ 157696 b₆ small.1 in
    sets-bytes (bytes_of 8 1) s₇ 165888 b₇ small.0
