use Prim.Native.Nat.{ℕ, ◌<◌}
use mathlib.Core.Path.{◌≡◌, sym, ap, ◌∙◌}
use mathlib.Core.Bool.{true, false}
use native.Mathlib.Omega.{arith}
use lib.Dec.{leb}
use lib.ListN.{length, drop, get_or}
use borrow.Author.Tests.{lt-leb, le-leb}
use Rattle.spec.specs.Lists.{◌and◌}
use Rattle.spec.specs.Layout.Format.{in_range}
use lib.Seq.{drop-length}
use Rattle.spec_laws.proofs.Wire.Tests.{and_true, and_false}
use Rattle.wire_put.specs.Fields.{text_fits}
use Rattle.wire_put.proofs.Writes.{range_step}
use Rattle.wire_put.proofs.fit.text_fits.Goals as goal

pub returns-then-c-v : goal.returns-then-c-v
unfolding text_fits ◌and◌
returns-then-c-v c = rw (lt-leb _ _ c.if-c-v.true)

pub returns-then-b-lt32 : goal.returns-then-b-lt32
unfolding text_fits
returns-then-b-lt32 c =
    let l = c.loop-x in
    let a = c.args in
    let h : l.x-index < length a.v.now = omega arith in
    let low : leb 0x20 (get_or a.v.now l.x-index 0) ≡ false = lt-leb _ _ c.if-b-lt32.true in
    sym (rw (le-leb _ _ l.invariant.0) (and_true _ ∙ l.invariant.1 ∙ range_step a.v.now l.x-index h ∙ (rw low (and_false _))))

pub returns-then-b-gt126 : goal.returns-then-b-gt126
unfolding text_fits
returns-then-b-gt126 c =
    let l = c.loop-x in
    let a = c.args in
    let h : l.x-index < length a.v.now = omega arith in
    let from : leb 0x20 (get_or a.v.now l.x-index 0) ≡ true = le-leb _ _ c.if-b-lt32.false in
    let high : leb (get_or a.v.now l.x-index 0) 0x7E ≡ false = lt-leb _ _ c.if-b-gt126.true in
    sym (rw (le-leb _ _ l.invariant.0) (and_true _ ∙ l.invariant.1 ∙ range_step a.v.now l.x-index h ∙ (rw (from, high) (and_true _ ∙ and_false _))))

pub loop-x-preserved : goal.loop-x-preserved
loop-x-preserved c =
    let l = c.loop-x in
    let a = c.args in
    let h : l.x-index < length a.v.now = omega arith in
    let from : leb 0x20 (get_or a.v.now l.x-index 0) ≡ true = le-leb _ _ c.if-b-lt32.false in
    let upto : leb (get_or a.v.now l.x-index 0) 0x7E ≡ true = le-leb _ _ c.if-b-gt126.false in
    (l.invariant.0, l.invariant.1 ∙ range_step a.v.now l.x-index h ∙ (rw (from, upto) (and_true _ ∙ and_true _)))

pub returns : goal.returns
unfolding text_fits
returns c =
    let l = c.loop-x in
    let a = c.args in
    let z : l.x-index ≡ length a.v.now = omega arith in
    let e : in_range 0x20 0x7E (drop l.x-index a.v.now) ≡ true = ap (λ (i : ℕ). in_range 0x20 0x7E (drop i a.v.now)) z ∙ (rw drop-length) in
    sym (rw (le-leb _ _ l.invariant.0) (and_true _ ∙ l.invariant.1 ∙ e))
