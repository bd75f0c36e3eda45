use Prim.Native.Nat.{◌+◌}
use mathlib.Core.Path.{sym, ◌∙◌}
use Rattle.spec.specs.Layout.Format.{code, ◌▸◌}
use Rattle.spec.specs.Layout.Parts.{u64, vector_f}
use Rattle.wire_shape.proofs.Skips.{pair-next, pair_bad, either_end, either_first, either_second, code-first, code_other}
use Rattle.wire_shape.proofs.skip_op.Goals as goal

pub returns-then-s-at : goal.returns-then-s-at
returns-then-s-at c = either_end 1 (u64 ▸ vector_f) (code 2 ▸ u64) c.args.s.now c.args.at c.if-s-at.true

pub returns-in_err-p : goal.returns-in_err-p
returns-in_err-p c =
    let a = c.args in
    c.from_residual.ensures
    ∙ pair_bad u64 vector_f a.s.now (a.at + 1) (sym c.skip_word.ensures ∙ c.in_err-p.was)
    ∙ either_first 1 (u64 ▸ vector_f) (code 2 ▸ u64) a.s.now a.at c.if-s-at.false c.if-t-eq1.true

pub returns-then-t-eq1 : goal.returns-then-t-eq1
returns-then-t-eq1 c =
    let a = c.args in
    c.skip_run.ensures
    ∙ pair-next u64 vector_f a.s.now (a.at + 1) _ (sym c.skip_word.ensures ∙ c.in_ok-p.was)
    ∙ either_first 1 (u64 ▸ vector_f) (code 2 ▸ u64) a.s.now a.at c.if-s-at.false c.if-t-eq1.true

pub returns-then-t-eq2 : goal.returns-then-t-eq2
returns-then-t-eq2 c =
    let a = c.args in
    c.skip_word-then-t-eq2.ensures
    ∙ code-first 2 u64 a.s.now a.at c.if-s-at.false c.if-t-eq2.true
    ∙ either_second 1 (u64 ▸ vector_f) (code 2 ▸ u64) a.s.now a.at c.if-s-at.false c.if-t-eq1.false

pub returns : goal.returns
returns c =
    let a = c.args in
    code_other 2 u64 a.s.now a.at c.if-t-eq2.false
    ∙ either_second 1 (u64 ▸ vector_f) (code 2 ▸ u64) a.s.now a.at c.if-s-at.false c.if-t-eq1.false
