use mathlib.Core.Path.{sym, ◌∙◌}
use native.Mathlib.Omega.{arith}
use lib.ListN.{get_or}
use borrow.Author.Tests.{lt-leb}
use Rattle.wire_shape.proofs.Skips.{no_1, no_2, text-end, text_no, text-ok}
use Rattle.wire_shape.proofs.skip_text.Goals as goal

pub returns-then-s-at : goal.returns-then-s-at
returns-then-s-at c = text-end c.args.c c.args.k c.args.s.now c.args.at (omega arith)

pub returns-then-s-at-2 : goal.returns-then-s-at-2
returns-then-s-at-2 c = text-end c.args.c c.args.k c.args.s.now c.args.at (omega arith)

pub returns-then-s-at-3 : goal.returns-then-s-at-3
returns-then-s-at-3 c = text-end c.args.c c.args.k c.args.s.now c.args.at (omega arith)

pub returns-then-c-n : goal.returns-then-c-n
returns-then-c-n c =
    let a = c.args in
    text_no a.c a.k a.s.now a.at (no_2 _ _ (no_1 _ _ (lt-leb (get_or a.s.now a.at 0) a.c (omega arith))))

pub returns-then-within-2 : goal.returns-then-within-2
returns-then-within-2 c =
    let a = c.args in
    text-ok a.c a.k a.s.now a.at (omega arith) c.if-c-n.false (sym c.within.ensures ∙ c.if-within.true) (sym c.within-then-within.ensures ∙ c.if-within-2.true)

pub returns-else-within-2 : goal.returns-else-within-2
returns-else-within-2 c =
    let a = c.args in
    text_no a.c a.k a.s.now a.at (no_2 _ _ (no_2 _ _ (no_2 _ _ (sym c.within-then-within.ensures ∙ c.if-within-2.false))))

pub returns-else-within : goal.returns-else-within
returns-else-within c =
    let a = c.args in
    text_no a.c a.k a.s.now a.at (no_2 _ _ (no_2 _ _ (no_1 _ _ (sym c.within.ensures ∙ c.if-within.false))))
