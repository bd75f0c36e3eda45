-- Laws of a shard that is put back after a call on it: what is put back unchanged leaves the header, and its store is well formed with what
-- the header says. Its slot: Slots. Assumes nothing.
use Prim.Native.Nat.{ℕ, ◌≤◌}
use mathlib.Core.Path.{◌≡◌, sym, ap, subst, ◌∙◌}
use mathlib.Core.Bool.{true}
use native.Mathlib.Omega.{arith}
use lib.Dec.{ltb}
use lib.ListN.{get_or, set}
use lib.Seq.{get_or-set_same, set-get_or}
use borrow.Author.Tests.{le-ltb}
use Rattle.spec.specs.Keys.{Key}
use Rattle.spec_laws.proofs.Lists.{not_both}
use Rattle.node_shard.specs.declared.Held.{Held}
use Rattle.log_store.specs.Store.{Store, Sized, well_formed_store}
use Rattle.node_header.specs.declared.HeldRow.{HeldRow}
use Rattle.node_header.specs.declared.Node.{Node}
use Rattle.node_header.specs.View.{no_held_row, with_held_rows}
use Rattle.node_lent.specs.Lend.{LentStore, store_in, store_of, place_of, Found, held_row_with, with_store, Whole}

-- the columns of a store
abbrev pub lent_store_of : Store → LentStore
lent_store_of s = record { columns = s.columns; keys = s.keys; places = s.places }

-- ---- a shard that is put back as it was

pub put_same : (n : Node) (at : ℕ) (h : Held) (stored : ℕ) → h ≡ (get_or n.held at no_held_row).held → stored ≡ (get_or n.held at no_held_row).stored
    → with_store n at h stored ≡ n
put_same n at h stored e q =
    let x = get_or n.held at no_held_row in
    ap (λ (y : Held). with_store n at y stored) e
    ∙ ap (λ (i : ℕ). with_store n at x.held i) q
    ∙ ap (with_held_rows n) (set-get_or n.held at no_held_row)

-- ---- its store, after

pub whole-put : (n : Node) (k : Key) (a b : LentStore) (at : ℕ) → Found n k a at → (h : Held) (stored : ℕ)
    → Sized (store_in b h.last stored) → well_formed_store (store_in b h.last stored) ≡ true
    → (p : Node) → p ≡ with_store n at h stored → Whole n p b k
whole-put n k a b at g h stored sized well p q e =
    let y = held_row_with (get_or n.held at no_held_row) h stored in
    let inside = g.inside in
    let under = g.under in
    let row : get_or p.held (place_of n k) no_held_row ≡ y =
    ap (λ (x : Node). get_or x.held (place_of n k) no_held_row) q
    ∙ ap (λ (i : ℕ). get_or (set n.held at y) i no_held_row) (sym g.is)
    ∙ get_or-set_same n.held at y no_held_row (omega arith) in
    (subst (λ (x : HeldRow). Sized (store_of b x)) (sym row) sized, subst (λ (x : HeldRow). well_formed_store (store_of b x) ≡ true) (sym row) well)

-- a shard that is not held has none
pub whole-gone : (n p : Node) (b : LentStore) (k : Key) → n.count ≤ place_of n k → Whole n p b k
whole-gone n p b k gone e = not_both (ltb (place_of n k) n.count) e (le-ltb _ _ gone)
