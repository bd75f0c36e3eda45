use native.Mathlib.Omega.{arith}
use mathlib.Core.Path.{refl}
use Rattle.log_store.proofs.Aligning.{kept_zero, kept_on, kept_stop, kept-end}
use Rattle.log_domain.specs.Parts.{table_in}
use Rattle.image_store_align.proofs.Pairs.{agrees_at}
use Rattle.image_store_align.proofs.kept.Goals as goal

pub loop-i-init : goal.loop-i-init
loop-i-init c = (refl, omega arith, kept_zero _ _ _ _ _)

pub overflow_mul-i : goal.overflow_mul-i
overflow_mul-i c = let p = c.requires.0 in let l = c.loop-i-test.true in omega arith

pub overflow_add-base : goal.overflow_add-base
overflow_add-base c = let p = c.requires.0 in let q = c.requires.1 in let l = c.loop-i-test.true in omega arith

pub get8-epoch-requires : goal.get8-epoch-requires
get8-epoch-requires c = let p = c.requires.0 in let q = c.requires.1 in let l = c.loop-i-test.true in omega arith

pub overflow_mul-i-in-loop-i : goal.overflow_mul-i-in-loop-i
overflow_mul-i-in-loop-i c = let p = c.requires.0 in let l = c.loop-i-test.true in omega arith

pub overflow_add-offsets-in-loop-i : goal.overflow_add-offsets-in-loop-i
overflow_add-offsets-in-loop-i c =
    let p = c.requires.0 in let q = c.requires.1 in let l = c.loop-i-test.true in let e = c.loop-i.invariant.0 in omega arith

pub get8-offset-requires : goal.get8-offset-requires
get8-offset-requires c =
    let p = c.requires.0 in let q = c.requires.1 in let l = c.loop-i-test.true in let e = c.loop-i.invariant.0 in omega arith

pub agrees-requires : goal.agrees-requires
agrees-requires c = c.requires.2

pub returns-then-not-agrees : goal.returns-then-not-agrees
returns-then-not-agrees c =
    let a = c.args in let l = c.loop-i in let lt = c.loop-i-test.true in let p = c.requires.0 in
    let g = agrees_at a.stores.now a.base _ l.i l.invariant.0 (omega arith) a.end (table_in a.message.now a.table) _ _ c.get8-epoch.ensures c.get8-offset.ensures _ c.agrees.ensures in
    kept_stop _ _ _ _ _ _ l.invariant.2 _ g (c.if-not-agrees.true) lt

pub loop-i-preserved : goal.loop-i-preserved
loop-i-preserved c =
    let a = c.args in let l = c.loop-i in let lt = c.loop-i-test.true in let p = c.requires.0 in
    let g = agrees_at a.stores.now a.base _ l.i l.invariant.0 (omega arith) a.end (table_in a.message.now a.table) _ _ c.get8-epoch.ensures c.get8-offset.ensures _ c.agrees.ensures in
    (l.invariant.0, omega arith, kept_on _ _ _ _ _ _ l.invariant.2 _ g (c.if-not-agrees.false) lt)

pub returns : goal.returns
returns c =
    let z = c.loop-i-test.false in let h = c.loop-i.invariant.1 in kept-end _ _ _ _ _ _ c.loop-i.invariant.2 (omega arith)
