use Rattle.node_refused.specs.Count.{bumped}
use native.Mathlib.Omega.{arith}
use mathlib.Core.Path.{◌∙◌, ap}
use Rattle.calls_client_out.proofs.CountLaws.{count-done, count-short, count-more}
use Rattle.calls_client_out.proofs.count.count_call.Goals as goal

pub returns-then-number-eq0 : goal.returns-then-number-eq0
returns-then-number-eq0 c = count-done _ _ c.if-number-eq0.true

pub returns-then-refused-lt4 : goal.returns-then-refused-lt4
returns-then-refused-lt4 c = count-short _ _ c.if-number-eq0.false c.if-refused-lt4.true

pub returns : goal.returns
returns c =
    c.put4.ensures ∙ count-more _ _ c.if-number-eq0.false (omega arith) _ (c.one_more.ensures ∙ ap bumped c.get4-before.ensures)
