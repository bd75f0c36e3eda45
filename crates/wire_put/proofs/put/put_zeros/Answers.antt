use Prim.Native.Nat.{ℕ, ◌+◌, ◌-◌}
use mathlib.Core.Path.{◌≡◌, ap, ◌∙◌}
use native.Mathlib.Omega.{arith}
use lib.ListN.{length, replicate, length-replicate}
use borrow.Rule.Slice.PartMut.{mid_len}
use Rattle.wire_put.proofs.Writes.{put-stored}
use Rattle.wire_put.proofs.put.put_zeros.Goals as goal

pub returns : goal.returns
returns c =
    let a = c.args in
    let n : length (replicate {A = ℕ} a.n 0) ≡ a.n = length-replicate a.n 0 in
    let k : a.at + a.n - a.at ≡ a.n = omega arith in
    put-stored a.out.now (replicate a.n 0) _ a.at _
    (c.fill.ensures.after (λ y h. h) ∙ ap (λ (m : ℕ). replicate m 0) (mid_len a.at (a.at + a.n) a.out.now c.requires ∙ k)) (omega arith) (omega arith)
