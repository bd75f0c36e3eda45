use native.Mathlib.Omega.{arith}
use mathlib.Core.Path.{sym, ◌∙◌}
use Rattle.log_check.proofs.Fitting.{entries_on, entries_stop, entries_end}
use Rattle.log_check.specs.Entries.{entry_fits}
use Rattle.log_check.proofs.entries.each_fits.Goals as goal

pub loop-i-init : goal.loop-i-init
loop-i-init c = (omega arith, λ es is j h. absurd (omega arith))

pub entry_fits-requires : goal.entry_fits-requires
entry_fits-requires c = let p = c.requires in (omega (arith, p.0, c.loop-i-test.true), p.1, p.2, p.3, p.4)

pub returns-then-not-entry_fits : goal.returns-then-not-entry_fits
returns-then-not-entry_fits c =
    λ es is. entries_stop _ _ c.loop-i.i c.loop-i-test.true (sym (c.entry_fits.ensures es is) ∙ c.if-not-entry_fits.true)

pub loop-i-preserved : goal.loop-i-preserved
loop-i-preserved c = (
  omega arith,
  λ es is. entries_on (entry_fits _) c.loop-i.i (c.loop-i.invariant.1 es is) (sym (c.entry_fits.ensures es is) ∙ c.if-not-entry_fits.false),
)

pub returns : goal.returns
returns c = λ es is. entries_end _ c.loop-i.i _ (omega arith) (c.loop-i.invariant.1 es is)
