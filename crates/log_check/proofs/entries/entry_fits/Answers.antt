use native.Mathlib.Omega.{arith}
use mathlib.Core.Path.{sym, ◌∙◌}
use Rattle.log_check.proofs.Fitting.{no_offset, a_delete, no_code, too_short, too_long, by_domain}
use Rattle.log_check.proofs.entries.entry_fits.Goals as goal

pub returns-then-offsets-i : goal.returns-then-offsets-i
returns-then-offsets-i c = λ es is. no_offset _ _ c.if-offsets-i.true

pub returns-then-codes-i-eq2 : goal.returns-then-codes-i-eq2
returns-then-codes-i-eq2 c = λ es is. a_delete _ _ c.if-offsets-i.false c.if-codes-i-eq2.true

pub returns-then-codes-i-ne1 : goal.returns-then-codes-i-ne1
returns-then-codes-i-ne1 c = λ es is. no_code _ _ c.if-codes-i-eq2.false c.if-codes-i-ne1.true

pub returns-then-n-eq0 : goal.returns-then-n-eq0
returns-then-n-eq0 c = λ es is. too_short _ _ c.if-codes-i-ne1.false (sym c.wide-n.ensures.0 ∙ c.if-n-eq0.true)

pub returns-then-n-gt32 : goal.returns-then-n-gt32
returns-then-n-gt32 c = λ es is. too_long _ _ c.if-codes-i-ne1.false (omega (arith, c.wide-n.ensures.0, c.if-n-gt32.true))

pub returns : goal.returns
returns c =
    let p = c.requires in
    λ es is. by_domain _ _ c.if-codes-i-ne1.false c.wide-n.result _ p.0 p.4 c.if-offsets-i.false c.wide-n.ensures.0 c.if-n-eq0.false c.if-n-gt32.false c.all_in_domain.ensures
