-- The bytes that an append in place leaves are those that the present contracts give: `store_with` of the longer log, and `store_put` of any
-- columns that hold it. Assumes nothing.
use Prim.Native.Nat.{ℕ, ◌+◌, min}
use mathlib.Core.Path.{◌≡◌, sym, ap, ◌∙◌}
use mathlib.Core.List.{List, [], ◌∷◌}
use native.Mathlib.Omega.{arith}
use lib.ListN.{length, length-append}
use Rattle.spec.specs.Log.{Entry, Log}
use Rattle.log_store.specs.View.{log_of}
use Rattle.log_store.specs.Table.{rows_of, play_rows}
use Rattle.log_store.proofs.Firsts.{firsts-length}
use Rattle.node_header.specs.declared.HeldRow.{HeldRow}
use Rattle.node_lent.specs.Lend.{LentStore}
use Rattle.image_store.specs.Image.{entry_at, log_at}
use Rattle.image_store.specs.Write.{log_put, rows_put}
use Rattle.image_node.specs.Lent.{begin_of, store_put}
use Rattle.image_node.specs.State.{store_with}
use Rattle.image_store_append.specs.Put.{Appended, longer}

module _ (s t : List ℕ) (x : HeldRow) (e : Entry) (r : ℕ) (a : Appended s t (begin_of x) x.held.last e r) where
  abbrev l : Log
  l = longer s (begin_of x) x.held.last e

  long : length l ≡ x.held.last + 1
  unfolding log_at
  long = length-append (log_at s (begin_of x) x.held.last) (e ∷ []) ∙ ap (λ (n : ℕ). n + 1) (firsts-length (entry_at s (begin_of x)) x.held.last)

  -- `StoreAfter.bytes`
  pub with-longer : t ≡ store_with s x l
  unfolding store_with
  with-longer =
      let q : x.held.last ≡ min x.held.last (length l) = omega (arith, long) in
      a.image ∙ ap (λ (n : ℕ). rows_put (log_put s (begin_of x) n l) (begin_of x) (play_rows l)) q

  -- `stores_put`: y the shard after, b columns that hold the longer log and its rows
  pub put-longer : (y : HeldRow) (b : LentStore) → y.held.last ≡ x.held.last + 1 → log_of b.columns y.held.last ≡ l
      → rows_of b.keys b.places y.stored ≡ play_rows l → t ≡ store_put s x y b
  unfolding store_put
  put-longer y b h e w =
      let q : x.held.last ≡ min x.held.last y.held.last = omega arith in
      a.image
      ∙ ap (λ (n : ℕ). rows_put (log_put s (begin_of x) n l) (begin_of x) (play_rows l)) q
      ∙ ap (λ (m : Log). rows_put (log_put s (begin_of x) (min x.held.last y.held.last) m) (begin_of x) (play_rows l)) (sym e)
      ∙ ap (rows_put (log_put s (begin_of x) (min x.held.last y.held.last) (log_of b.columns y.held.last)) (begin_of x)) (sym w)
