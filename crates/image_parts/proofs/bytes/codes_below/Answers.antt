use native.Mathlib.Omega.{arith}
use mathlib.Core.Path.{sym, ◌∙◌}
use Prim.Native.Nat.{◌+◌, ◌*◌, ◌≤◌, ◌<◌}
use native.Mathlib.Nat.{add-zero, mul-zero, sub-zero}
use Rattle.spec.specs.Layout.Format.{number_at}
use Rattle.image_parts.proofs.Images.{codes_on, codes_stop, codes_end, row_room}
use Rattle.image_parts.proofs.bytes.codes_below.Goals as goal

pub loop-i-init : goal.loop-i-init
loop-i-init c = (omega arith, rw (sub-zero, mul-zero, add-zero))

pub overflow_mul-w : goal.overflow_mul-w
overflow_mul-w c = let r = row_room c.args.w c.loop-i.i c.args.n c.loop-i-test.true in omega arith

pub overflow_add-at : goal.overflow_add-at
overflow_add-at c = let r = row_room c.args.w c.loop-i.i c.args.n c.loop-i-test.true in omega arith

pub get4-requires : goal.get4-requires
get4-requires c = let r = row_room c.args.w c.loop-i.i c.args.n c.loop-i-test.true in omega arith

pub returns-then-limit-get4 : goal.returns-then-limit-get4
returns-then-limit-get4 c =
    let l = c.loop-i in
    let a = c.args in
    let h : l.i < a.n = omega arith in
    let k : a.limit ≤ number_at 4 a.s.now (a.at + a.w * l.i) = omega arith in
    sym (codes_stop a.limit a.w a.s.now a.n l.i a.at h k) ∙ l.invariant.1

pub loop-i-preserved : goal.loop-i-preserved
loop-i-preserved c =
    let l = c.loop-i in
    let a = c.args in
    let h : l.i < a.n = omega arith in
    let k : number_at 4 a.s.now (a.at + a.w * l.i) < a.limit = omega arith in
    (omega arith, codes_on a.limit a.w a.s.now a.n l.i a.at h k ∙ l.invariant.1)

pub returns : goal.returns
returns c =
    let l = c.loop-i in
    let a = c.args in
    let h : a.n ≤ l.i = omega arith in
    sym (codes_end a.limit a.w a.s.now a.n l.i (a.at + a.w * l.i) h) ∙ l.invariant.1
