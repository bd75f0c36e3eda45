use native.Mathlib.Omega.{arith}
use mathlib.Core.Path.{◌≡◌, refl, subst}
use Prim.Native.Nat.{ℕ}
use Rattle.log_store.specs.Table.{Tabled, rows_played}
use Rattle.log_store.proofs.Rebuilt.{rebuilt_zero, rebuilt-rise, rebuilt-on}
use Rattle.image_store.specs.Read.{codes_in}
use Rattle.image_store_check.specs.Test.{offsets_in, ids_in}
use Rattle.image_store_table.proofs.Table.{row-set, row-dropped}
use Rattle.image_store_table.proofs.played.Goals as goal
use Rattle.image_store_table.proofs.played.Goals.{then-stores-codes-eq1, else-stores-codes-eq1}

pub loop-i-init : goal.loop-i-init
loop-i-init c = (refl, refl, refl, omega arith, omega arith, rebuilt_zero _ _ _ _ _)

pub overflow_mul-i : goal.overflow_mul-i
overflow_mul-i c = let p = c.requires.0 in let l = c.loop-i-test.true in omega arith

pub overflow_add-ids-in-loop-i : goal.overflow_add-ids-in-loop-i
overflow_add-ids-in-loop-i c =
    let p = c.requires.0 in let q = c.requires.1 in let l = c.loop-i-test.true in let e = c.loop-i.invariant.1 in omega arith

pub get8-id-requires : goal.get8-id-requires
get8-id-requires c =
    let p = c.requires.0 in let q = c.requires.1 in let l = c.loop-i-test.true in let e = c.loop-i.invariant.1 in omega arith

pub overflow_add-codes-in-loop-i : goal.overflow_add-codes-in-loop-i
overflow_add-codes-in-loop-i c =
    let p = c.requires.0 in let q = c.requires.1 in let l = c.loop-i-test.true in let e = c.loop-i.invariant.2 in omega arith

pub bounds-stores-codes : goal.bounds-stores-codes
bounds-stores-codes c =
    let p = c.requires.0 in let q = c.requires.1 in let l = c.loop-i-test.true in let e = c.loop-i.invariant.2 in omega arith

pub overflow_mul-i-then-stores-codes-eq1 : goal.overflow_mul-i-then-stores-codes-eq1
overflow_mul-i-then-stores-codes-eq1 c = let p = c.requires.0 in let l = c.loop-i-test.true in omega arith

pub overflow_add-offsets-then-stores-codes-eq1 : goal.overflow_add-offsets-then-stores-codes-eq1
overflow_add-offsets-then-stores-codes-eq1 c =
    let p = c.requires.0 in let q = c.requires.1 in let l = c.loop-i-test.true in let e = c.loop-i.invariant.0 in omega arith

pub get8-offset-requires : goal.get8-offset-requires
get8-offset-requires c =
    let p = c.requires.0 in let q = c.requires.1 in let l = c.loop-i-test.true in let e = c.loop-i.invariant.0 in omega arith

pub set_row-n-requires : goal.set_row-n-requires
set_row-n-requires c =
    let p = c.requires.0 in let l = c.loop-i-test.true in let t = c.loop-i.invariant.5 in let f = c.loop-i.invariant.4 in let a = c.requires.2 in let b = c.requires.3 in
    (omega (arith, t.keys), omega (arith, t.places))

pub drop_row-n-requires : goal.drop_row-n-requires
drop_row-n-requires c =
    let p = c.requires.0 in let l = c.loop-i-test.true in let t = c.loop-i.invariant.5 in let f = c.loop-i.invariant.4 in let a = c.requires.2 in let b = c.requires.3 in
    (omega (arith, t.keys), omega (arith, t.places), rebuilt-rise _ _ _ _ _ _ _ _ _ t)

pub loop-i-preserved : goal.loop-i-preserved
loop-i-preserved c =
    let a = c.args in let l = c.loop-i in let t = l.invariant.5 in let lt = c.loop-i-test.true in let p = c.requires.0 in let s = a.stores.now in elim c.if-stores-codes-eq1.branch [
      | then-stores-codes-eq1 w ↦
          let r = rebuilt-on (offsets_in s a.base) (ids_in s a.base) (codes_in s a.base) _ _ _ _ _ l.i t _ _ _ l.invariant.4
          (row-set s a.base l.i (omega arith) _ _ _ _ _ _ _ _ _ _ _ l.invariant.0 l.invariant.1 l.invariant.2 c.get8-id.ensures w.get8-offset.ensures w.if-stores-codes-eq1.true w.set_row-n.ensures) in
          rw (w.keys-is, w.places-is, w.n-is) (l.invariant.0, l.invariant.1, l.invariant.2, omega arith, r.0, r.1)
      | else-stores-codes-eq1 w ↦
          let r = rebuilt-on (offsets_in s a.base) (ids_in s a.base) (codes_in s a.base) _ _ _ _ _ l.i t _ _ _ l.invariant.4
          (row-dropped s a.base l.i (omega arith) _ _ _ _ _ _ _ _ _ l.invariant.1 l.invariant.2 c.get8-id.ensures w.if-stores-codes-eq1.false w.drop_row-n.ensures) in
          rw (w.keys-is, w.places-is, w.n-is) (l.invariant.0, l.invariant.1, l.invariant.2, omega arith, r.0, r.1)
    ]

pub shape_of-keys : goal.shape_of-keys
shape_of-keys c = c.loop-i.invariant.5.keys

pub shape_of-places : goal.shape_of-places
shape_of-places c = c.loop-i.invariant.5.places

pub returns : goal.returns
returns c =
    let a = c.args in let l = c.loop-i in let s = a.stores.now in let z = c.loop-i-test.false in let h = l.invariant.3 in
    let e : l.i ≡ a.count = omega arith in
    subst (λ (k : ℕ). Tabled k a.keys.now a.places.now l.keys l.places l.n (rows_played (offsets_in s a.base) (ids_in s a.base) (codes_in s a.base) k)) e l.invariant.5
