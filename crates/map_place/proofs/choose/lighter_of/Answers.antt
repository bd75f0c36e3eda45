use mathlib.Core.Path.{sym, ◌∙◌}
use Rattle.map_place.proofs.choose.lighter_of.Goals as goal

pub returns-in_default : goal.returns-in_default
returns-in_default c = rw c.in_default.is

pub returns-then-is_lighter : goal.returns-then-is_lighter
returns-then-is_lighter c = let e = sym c.is_lighter.ensures ∙ c.if-is_lighter.true in rw (c.in-Some.is, e)

pub returns : goal.returns
returns c = let e = sym c.is_lighter.ensures ∙ c.if-is_lighter.false in rw (c.in-Some.is, e)
