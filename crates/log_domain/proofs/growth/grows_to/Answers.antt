use mathlib.Core.Path.{sym, ap, ◌∙◌}
use Prim.Native.Nat.{ℕ, ◌+◌, ◌-◌}
use native.Mathlib.Omega.{arith}
use Rattle.wire_read.specs.Shown.{part}
use Rattle.log_domain.specs.Parts.{entries_in}
use Rattle.log_domain.proofs.InMessage.{entries_start, entries_all, entries_first, entries_rest}
use Rattle.log_domain.proofs.GrowthLaws.{grown, grown-on, grown-end, grows, after-most}
use Rattle.log_domain.proofs.growth.grows_to.Goals as goal

pub loop-i-init : goal.loop-i-init
loop-i-init c =
    let a = c.args in (omega arith, entries_start a.s.now a.p c.requires.0, omega arith, ap (grown a.count) (entries_all a.s.now a.p))

pub entry_at-e-requires : goal.entry_at-e-requires
entry_at-e-requires c =
    let l = c.loop-i in entries_first c.args.s.now c.args.p.len l.at l.i c.loop-i-test.true l.invariant.1

pub after-last-requires : goal.after-last-requires
after-last-requires c = omega (arith, c.loop-i.invariant.2, c.requires.0.0, c.requires.1, c.loop-i-test.true)

pub loop-i-preserved : goal.loop-i-preserved
loop-i-preserved c =
    let l = c.loop-i in
    let b = c.args.s.now in
    let n = c.args.p.len in
    let t = c.loop-i-test.true in
    let m = after-most l.last c.entry_at-e.result.offset.0 in (
      omega arith,
      entries_rest b n l.at l.i t l.invariant.1 _ c.entry_at-e.ensures,
      omega (arith, c.after-last.ensures, l.invariant.2, m),
      ap (λ (k : ℕ). grown k (entries_in b (part c.entry_at-e.result.next (n - (l.i + 1))))) c.after-last.ensures ∙ sym (grown-on b n l.at l.i t l.invariant.1 _ c.entry_at-e.ensures l.last) ∙ l.invariant.3,
    )

pub returns : goal.returns
returns c =
    let l = c.loop-i in
    let b = c.args.s.now in
    grows (entries_in b c.args.p) c.args.count l.last (sym l.invariant.3 ∙ grown-end b c.args.p.len l.at l.i c.loop-i-test.false l.last)
