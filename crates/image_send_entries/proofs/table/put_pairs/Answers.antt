use borrow.Author.Rules.{rules}
use native.Mathlib.Omega.{arith}
use mathlib.Core.Path.{refl, sym, ◌∙◌, ap}
use mathlib.Core.List.{List}
use lib.ListN.{length}
use lib.Seq.{sets}
use Rattle.image_send_entries.specs.Store.{pairs_bytes}
use Rattle.spec.specs.Log.{End}
use Rattle.image_send_entries.proofs.Runs.{pairs-none, pairs-same, pairs_next, pair-at}
use Rattle.image_send_entries.proofs.table.put_pairs.Goals as goal
use Rattle.image_send_entries.proofs.table.put_pairs.Goals.{then-ends_run, else-ends_run}

pub loop-i-init : goal.loop-i-init
loop-i-init c = (omega arith, refl, refl, refl)

pub ends_run-requires : goal.ends_run-requires
ends_run-requires c = (c.loop-i-test.true, c.requires.0, c.requires.1)

pub overflow_mul-i : goal.overflow_mul-i
overflow_mul-i c = let p = c.requires.0 in let t = c.loop-i-test.true in omega arith

pub overflow_add-base : goal.overflow_add-base
overflow_add-base c =
    let p = c.requires.0 in let r = c.requires.1 in let f = c.ranges in let t = c.loop-i-test.true in search rules

pub get8-epoch-requires : goal.get8-epoch-requires
get8-epoch-requires c = let p = c.requires.0 in let r = c.requires.1 in let t = c.loop-i-test.true in omega arith

pub overflow_mul-i-then-ends_run : goal.overflow_mul-i-then-ends_run
overflow_mul-i-then-ends_run c = let p = c.requires.0 in let t = c.loop-i-test.true in omega arith

pub overflow_add-base-then-ends_run-2 : goal.overflow_add-base-then-ends_run-2
overflow_add-base-then-ends_run-2 c =
    let p = c.requires.0 in let r = c.requires.1 in let f = c.ranges in let t = c.loop-i-test.true in search rules

pub get8-offset-requires : goal.get8-offset-requires
get8-offset-requires c = let p = c.requires.0 in let r = c.requires.1 in let t = c.loop-i-test.true in omega arith

pub put8-requires : goal.put8-requires
put8-requires c =
    let a = c.args in let l = c.loop-i in let t = c.loop-i-test.true in let n = l.invariant.1 in let w = l.invariant.2 in let q = c.requires.2 in let z = ap length (pairs_next a.s.now a.base a.n l.i t c.ends_run.result c.ends_run.ensures c.if-ends_run.true) in omega arith

pub overflow_add-p : goal.overflow_add-p
overflow_add-p c =
    let a = c.args in let l = c.loop-i in let t = c.loop-i-test.true in let n = l.invariant.1 in let w = l.invariant.2 in let q = c.requires.2 in let f = c.ranges in let g = c.well_formed in let z = ap length (pairs_next a.s.now a.base a.n l.i t c.ends_run.result c.ends_run.ensures c.if-ends_run.true) in search rules

pub put8-requires-then-ends_run : goal.put8-requires-then-ends_run
put8-requires-then-ends_run c =
    let a = c.args in let l = c.loop-i in let t = c.loop-i-test.true in let n = l.invariant.1 in let k = c.put8.auto.out in let w = l.invariant.2 in let q = c.requires.2 in let z = ap length (pairs_next a.s.now a.base a.n l.i t c.ends_run.result c.ends_run.ensures c.if-ends_run.true) in omega arith

pub overflow_add-p-then-ends_run : goal.overflow_add-p-then-ends_run
overflow_add-p-then-ends_run c =
    let a = c.args in let l = c.loop-i in let t = c.loop-i-test.true in let n = l.invariant.1 in let w = l.invariant.2 in let q = c.requires.2 in let f = c.ranges in let g = c.well_formed in let z = ap length (pairs_next a.s.now a.base a.n l.i t c.ends_run.result c.ends_run.ensures c.if-ends_run.true) in search rules

pub loop-i-preserved : goal.loop-i-preserved
loop-i-preserved c =
    let a = c.args in let l = c.loop-i in let t = c.loop-i-test.true in let w = l.invariant.2 in elim c.if-ends_run.branch [
      | then-ends_run u ↦
          let e = pairs_next a.s.now a.base a.n l.i t c.ends_run.result c.ends_run.ensures u.if-ends_run.true in let z = ap length e in rw (u.out-is, u.p-is) (
            omega arith,
            u.put8-then-ends_run.auto.out ∙ u.put8.auto.out ∙ l.invariant.1,
            omega arith,
            (rw (u.put8-then-ends_run.ensures, u.put8.ensures, u.get8-epoch.ensures, u.get8-offset.ensures) (pair-at a.s.now a.base a.n l.i l.out l.p)) ∙ ap (λ (u : List End). sets l.out l.p (pairs_bytes u)) (sym e) ∙ l.invariant.3,
          )
      | else-ends_run u ↦
          let e = pairs-same a.s.now a.base a.n l.i t c.ends_run.result c.ends_run.ensures u.if-ends_run.false in let z = ap length e in
          rw (u.out-is, u.p-is) (omega arith, l.invariant.1, omega arith, ap (λ (u : List End). sets l.out l.p (pairs_bytes u)) (sym e) ∙ l.invariant.3)
    ]

pub shape_of-out : goal.shape_of-out
shape_of-out c = c.loop-i.invariant.1

pub returns : goal.returns
returns c =
    let a = c.args in let l = c.loop-i in let t = c.loop-i-test.false in sym (ap (λ (u : List End). sets l.out l.p (pairs_bytes u)) (pairs-none a.s.now a.base a.n l.i t)) ∙ l.invariant.3
