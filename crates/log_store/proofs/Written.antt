-- The columns with one entry more: their log has that entry more, and there is room as before. Assumes nothing.
use Prim.Native.Nat.{ℕ, ◌+◌, ◌*◌, ◌≤◌, ◌<◌}
use mathlib.Core.Path.{◌≡◌, refl, sym, ap, ◌∙◌, subst}
use mathlib.Core.Bool.{Bool, true, false, cond}
use mathlib.Core.List.{List, [], ◌∷◌, ◌++◌}
use mathlib.Core.Logic.{⊎_elim, ◌≢◌}
use native.Mathlib.Nat.{eq-or-lt_of_le}
use native.Mathlib.Omega.{arith}
use lib.Dec.{eqb}
use lib.Ieee.{Float}
use borrow.Author.Tests.{eqb-true}
use lib.ListN.{length, take, drop, get_or, length-append, length-drop, length-set, take-append-drop}
use lib.Seq.{drop-append-le, take-append-le, length-take-le, drop_at, take_at, get_or-set_other, get_or-set_same}
use Rattle.spec.specs.Node.Wire.{floats_of}
use Rattle.spec.specs.Log.{Op, upsert, delete}
use Rattle.log_store.specs.View.{Columns, stretch, op_of, entry_of, log_of, Room, op_from, written}
use Rattle.log_store.proofs.Firsts.{firsts_same, firsts-next}
use Rattle.log_store.proofs.Bits.{floats-length}

-- a part that lies below a place does not see what follows there
module _ {ℓ} {A : Type ℓ} where
  part-front : (p q : List A) (a k : ℕ) → a + k ≤ length p → take k (drop a (p ++ q)) ≡ take k (drop a p)
  part-front p q a k h =
      rw (drop-append-le a p q (omega arith), take-append-le k (drop a p) q (rw (length-drop a p) (omega arith)))

  pub part-kept : (f r : List A) (s a k : ℕ) → a + k ≤ s → s ≤ length f → take k (drop a (take s f ++ r)) ≡ take k (drop a f)
  part-kept f r s a k h le =
      part-front (take s f) r a k (rw (length-take-le s f le) h)
      ∙ sym
      (subst (λ (g : List A). take k (drop a g) ≡ take k (drop a (take s f))) (take-append-drop s f)
      (part-front (take s f) (drop s f) a k (rw (length-take-le s f le) h)))

  pub part-new : (f v r : List A) (s : ℕ) → s ≤ length f → take (length v) (drop s (take s f ++ (v ++ r))) ≡ v
  part-new f v r s le = rw (drop_at (take s f) (v ++ r) s (length-take-le s f le), take_at v r (length v) refl)

-- the operation of a place, by its code
op_same : (b : Bool) (i : ℕ) (xs ys : List Float) → (b ≡ true → xs ≡ ys) → cond b (upsert i xs) (delete i) ≡ cond b (upsert i ys) (delete i)
op_same true i xs ys f = ap (upsert i) (f refl)
op_same false i xs ys f = refl

module _ (c : Columns) (n epoch code id : ℕ) (bits : List ℕ) (room : Room c n) (free : n < 1024) (fit : length bits ≤ 32) where
  abbrev after : Columns
  after = written c n epoch code id bits

  short-at : (i : ℕ) → i < n → eqb (get_or c.codes i 0) 1 ≡ true → get_or c.lengths i 0 ≤ 32
  short-at i h q = room.short i h (eqb-true (get_or c.codes i 0) 1 q)

  kept : (i : ℕ) → i < n → entry_of after i ≡ entry_of c i
  unfolding entry_of op_of stretch written
  kept i h =
      let ne : i ≢ n = λ q. omega arith in
      rw (
        get_or-set_other c.epochs n i epoch 0 ne,
        get_or-set_other c.offsets n i (n + 1) 0 ne,
        get_or-set_other c.codes n i code 0 ne,
        get_or-set_other c.ids n i id 0 ne,
        get_or-set_other c.lengths n i (length bits) 0 ne,
      )
      (ap (λ (op : Op). record { epoch = get_or c.epochs i 0; offset = get_or c.offsets i 0; op = op })
      (op_same (eqb (get_or c.codes i 0) 1) (get_or c.ids i 0)
      (take (get_or c.lengths i 0) (drop (i * 32) (take (n * 32) c.floats ++ (floats_of bits ++ drop (n * 32 + length bits) c.floats))))
      (take (get_or c.lengths i 0) (drop (i * 32) c.floats))
      (λ q.
      let s = short-at i h q in
      part-kept c.floats (floats_of bits ++ drop (n * 32 + length bits) c.floats) (n * 32) (i * 32) (get_or c.lengths i 0)
      (omega arith) (omega (arith, room.floats)))))

  new : entry_of after n ≡ record { epoch = epoch; offset = n + 1; op = op_from code id bits }
  unfolding entry_of op_of stretch written op_from
  new =
      rw (
        get_or-set_same c.epochs n epoch 0 (omega (arith, room.epochs)),
        get_or-set_same c.offsets n (n + 1) 0 (omega (arith, room.offsets)),
        get_or-set_same c.codes n code 0 (omega (arith, room.codes)),
        get_or-set_same c.ids n id 0 (omega (arith, room.ids)),
        get_or-set_same c.lengths n (length bits) 0 (omega (arith, room.lengths)),
        ← floats-length bits,
        part-new c.floats (floats_of bits) (drop (n * 32 + length (floats_of bits)) c.floats) (n * 32) (omega (arith, room.floats)),
      )

  pub written-log : log_of after (n + 1) ≡ log_of c n ++ (record { epoch = epoch; offset = n + 1; op = op_from code id bits } ∷ [])
  unfolding log_of
  written-log = firsts-next (entry_of after) n ∙ rw (firsts_same (entry_of after) (entry_of c) n kept, new)

  pub written-floats : length after.floats ≡ length c.floats
  unfolding written
  written-floats =
      let f = room.floats in
      length-append (take (n * 32) c.floats) (floats_of bits ++ drop (n * 32 + length bits) c.floats)
      ∙ omega (
        arith,
        length-take-le (n * 32) c.floats (omega arith),
        length-append (floats_of bits) (drop (n * 32 + length bits) c.floats),
        floats-length bits,
        length-drop (n * 32 + length bits) c.floats,
      )

  pub written-short : (i : ℕ) → i < n + 1 → get_or after.codes i 0 ≡ 1 → get_or after.lengths i 0 ≤ 32
  unfolding written
  written-short i h =
      ⊎_elim
      (λ (q : i ≡ n). rw (q, get_or-set_same c.lengths n (length bits) 0 (omega (arith, room.lengths))) (λ e. fit))
      (λ (lt : i < n).
      let ne : i ≢ n = λ q. omega arith in
      rw (get_or-set_other c.codes n i code 0 ne, get_or-set_other c.lengths n i (length bits) 0 ne) (room.short i lt))
      (eq-or-lt_of_le {n = i} {m = n} (omega arith))

  pub written-room : Room after (n + 1)
  unfolding written
  written-room = record {
    count = omega arith;
    epochs = length-set c.epochs n epoch ∙ room.epochs;
    offsets = length-set c.offsets n (n + 1) ∙ room.offsets;
    ids = length-set c.ids n id ∙ room.ids;
    codes = length-set c.codes n code ∙ room.codes;
    lengths = length-set c.lengths n (length bits) ∙ room.lengths;
    floats = subst (λ (m : ℕ). 32768 ≤ m) (sym written-floats) room.floats;
    short = written-short;
  }
