use native.Mathlib.Omega.{arith}
use mathlib.Core.Path.{◌≡◌, sym, ◌∙◌, subst}
use Prim.Native.Nat.{ℕ, ◌+◌, ◌-◌}
use lib.ListN.{get_or, set, length-set}
use Rattle.log_check.specs.Conditions.{Marked}
use Rattle.log_check.proofs.Walking.{unmarked, mark_on, fit_on, rows_stop, rows_end}
use Rattle.image_store.specs.Image.{keys_in, places_in}
use Rattle.image_store.specs.Read.{codes_in}
use Rattle.image_store_check.specs.Test.{ids_in}
use Rattle.image_store_check.proofs.EntryLaws.{word_in}
use Rattle.image_store_check.proofs.rows.mark_rows.Goals as goal

pub loop-j-init : goal.loop-j-init
loop-j-init c =
    (omega arith, c.requires.3, unmarked (places_in c.args.s.now c.args.base) c.args.marks.now c.requires.4, λ j h. absurd (omega arith))

pub row_fits-requires : goal.row_fits-requires
row_fits-requires c = let p = c.requires.1 in let t = c.loop-j-test.true in (omega arith, c.requires.0, c.requires.2)

pub returns-then-not-row_fits : goal.returns-then-not-row_fits
returns-then-not-row_fits c =
    let a = c.args in let s = a.s.now in let l = c.loop-j in rows_stop (ids_in s a.base) (codes_in s a.base) (keys_in s a.base) (places_in s a.base) a.count l.marks l.j a.stored _ c.loop-j-test.true l.invariant.1 l.invariant.2 c.row_fits.ensures (c.if-not-row_fits.true)

pub get8-requires : goal.get8-requires
get8-requires c = let p = c.requires.1 in let q = c.requires.2 in let t = c.loop-j-test.true in omega arith

pub overflow_sub-i : goal.overflow_sub-i
overflow_sub-i c =
    let a = c.args in let t = c.loop-j-test.true in let m = c.requires.1 in let r = (c.row_fits.ensures.yes (c.if-not-row_fits.false)).names.starts in let e : get_or (places_in a.s.now a.base) c.loop-j.j 0 ≡ c.get8.result = word_in a.s.now a.base (a.base + 165888) c.loop-j.j (omega arith) ∙ sym c.get8.ensures in omega arith

pub bounds-marks-i : goal.bounds-marks-i
bounds-marks-i c =
    let a = c.args in let t = c.loop-j-test.true in let m = c.requires.1 in let r = (c.row_fits.ensures.yes (c.if-not-row_fits.false)).names in let s = r.starts in let w = r.ends in let e : get_or (places_in a.s.now a.base) c.loop-j.j 0 ≡ c.get8.result = word_in a.s.now a.base (a.base + 165888) c.loop-j.j (omega arith) ∙ sym c.get8.ensures in omega (arith, c.requires.0, c.loop-j.invariant.1)

pub loop-j-preserved : goal.loop-j-preserved
loop-j-preserved c =
    let a = c.args in let s = a.s.now in let l = c.loop-j in let t = c.loop-j-test.true in let m = c.requires.1 in
    let r = c.row_fits.ensures.yes (c.if-not-row_fits.false) in
    let e : get_or (places_in s a.base) l.j 0 ≡ c.get8.result = word_in s a.base (a.base + 165888) l.j (omega arith) ∙ sym c.get8.ensures in (
      omega arith,
      length-set l.marks (c.get8.result - 1) 1 ∙ l.invariant.1,
      subst (λ (p : ℕ). Marked (places_in s a.base) (set l.marks (p - 1) 1) (l.j + 1)) e
          (mark_on (ids_in s a.base) (codes_in s a.base) (keys_in s a.base) (places_in s a.base) a.count l.marks l.j r l.invariant.2),
      fit_on (ids_in s a.base) (codes_in s a.base) (keys_in s a.base) (places_in s a.base) a.count l.j l.invariant.3 r,
    )

pub returns : goal.returns
returns c =
    let a = c.args in let s = a.s.now in let l = c.loop-j in rows_end (ids_in s a.base) (codes_in s a.base) (keys_in s a.base) (places_in s a.base) a.count l.marks l.j a.stored (omega arith) l.invariant.1 l.invariant.2 l.invariant.3
