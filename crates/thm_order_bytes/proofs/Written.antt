-- What a call writes of a store are bytes, in as many places as there were. Assumes nothing.
use Prim.Native.Nat.{ℕ, zero, suc, ◌+◌, ◌*◌, ◌<◌, min}
use mathlib.Core.Path.{◌≡◌}
use mathlib.Core.List.{List, [], ◌∷◌, ◌++◌, map}
use native.Mathlib.Omega.{arith}
use lib.ListN.{length, set, drop}
use lib.Seq.{sets, length-sets}
use Rattle.spec.specs.Log.{Op, upsert, delete, Entry, Log, components}
use Rattle.spec.specs.Layout.Format.{Bytes, All, bytes_of, concat_map}
use Rattle.spec.specs.Node.Wire.{bits_of}
use Rattle.node_header.specs.declared.HeldRow.{HeldRow}
use Rattle.node_lent.specs.Lend.{LentStore}
use Rattle.log_store.specs.View.{log_of}
use Rattle.log_store.specs.Table.{Row, rows_of}
use Rattle.image_store.specs.Write.{code_of, id_of, numbers_put, vector_put, entry_put, entries_put, rows_put}
use Rattle.image_node.specs.Lent.{begin_of, store_put}
use Rattle.image_node.proofs.Back.{entries_length}
use Rattle.thm_one_node.proofs.Zeros.{set-bytes, sets-bytes}

abbrev Small : List ℕ → Type 0
Small l = All (λ (x : ℕ). x < 256) l

small_bytes : (k v : ℕ) → Small (bytes_of k v)
small_bytes zero v = tt
small_bytes (suc k) v = (omega arith, small_bytes k _)

small_join : (l m : List ℕ) → Small l → Small m → Small (l ++ m)
small_join [] m p q = q
small_join (x ∷ l) m p q = (p.0, small_join l m p.1 q)

small_all : (k : ℕ) (l : List ℕ) → Small (concat_map (bytes_of k) l)
small_all k [] = tt
small_all k (x ∷ l) = small_join (bytes_of k x) (concat_map (bytes_of k) l) (small_bytes k x) (small_all k l)

code_small : (op : Op) → code_of op < 256
code_small (upsert id xs) = omega arith
code_small (delete id) = omega arith

entry-bytes : (s : List ℕ) (base i : ℕ) (e : Entry) → Bytes s → length (components e.op) < 256 → Bytes (entry_put s base i e)
unfolding entry_put numbers_put
entry-bytes s base i e b few =
    let s₁ = vector_put s base i e.op in
    let s₂ = sets s₁ (base + i * 8) (bytes_of 8 e.epoch) in
    let s₃ = sets s₂ (base + 8192 + i * 8) (bytes_of 8 e.offset) in
    let s₄ = sets s₃ (base + 16384 + i * 8) (bytes_of 8 (id_of e.op)) in
    let bits = map bits_of (components e.op) in
    let b₁ : Bytes s₁ = sets-bytes (concat_map (bytes_of 4) bits) s (base + 26624 + i * 128) b (small_all 4 bits) in
    let b₂ : Bytes s₂ = sets-bytes (bytes_of 8 e.epoch) s₁ (base + i * 8) b₁ (small_bytes 8 e.epoch) in
    let b₃ : Bytes s₃ = sets-bytes (bytes_of 8 e.offset) s₂ (base + 8192 + i * 8) b₂ (small_bytes 8 e.offset) in
    let b₄ : Bytes s₄ = sets-bytes (bytes_of 8 (id_of e.op)) s₃ (base + 16384 + i * 8) b₃ (small_bytes 8 (id_of e.op)) in
    set-bytes (set s₄ (base + 24576 + i) (code_of e.op)) (base + 25600 + i) (length (components e.op))
    (set-bytes s₄ (base + 24576 + i) (code_of e.op) b₄ (code_small e.op)) few

entries_bytes : (es : Log) (s : List ℕ) (base i : ℕ) → Bytes s → All (λ (e : Entry). length (components e.op) < 256) es → Bytes (entries_put s base i es)
unfolding entries_put
entries_bytes [] s base i b few = b
entries_bytes (e ∷ es) s base i b few = entries_bytes es (entry_put s base i e) base (i + 1) (entry-bytes s base i e b few.0) few.1

module _ (s : List ℕ) (x y : HeldRow) (l : LentStore) where
  abbrev from : ℕ
  from = min x.held.last y.held.last

  abbrev rows : List Row
  rows = rows_of l.keys l.places y.stored

  pub put_long : length (store_put s x y l) ≡ length s
  unfolding store_put rows_put
  put_long = rw (length-sets, length-sets) (entries_length (drop from (log_of l.columns y.held.last)) s (begin_of x) from)

  pub put-bytes : Bytes s → All (λ (e : Entry). length (components e.op) < 256) (drop from (log_of l.columns y.held.last)) → Bytes (store_put s x y l)
  unfolding store_put rows_put
  put-bytes b few =
      let s₁ = entries_put s (begin_of x) from (drop from (log_of l.columns y.held.last)) in
      let ids = map (λ (r : Row). r.id) rows in
      let offsets = map (λ (r : Row). r.offset) rows in
      let b₁ : Bytes s₁ = entries_bytes (drop from (log_of l.columns y.held.last)) s (begin_of x) from b few in
      sets-bytes (concat_map (bytes_of 8) offsets) (sets s₁ (begin_of x + 157696) (concat_map (bytes_of 8) ids)) (begin_of x + 165888)
      (sets-bytes (concat_map (bytes_of 8) ids) s₁ (begin_of x + 157696) b₁ (small_all 8 ids)) (small_all 8 offsets)
