use mathlib.Core.Path.{sym, ap}
use Rattle.log_calls.specs.Calls.{outcome_as}
use Rattle.log_calls.proofs.arrives.answer_of.Goals as goal

pub returns-in-Through : goal.returns-in-Through
returns-in-Through c = ap outcome_as (sym c.in-Through.is)

pub returns-in-Gap : goal.returns-in-Gap
returns-in-Gap c = ap outcome_as (sym c.in-Gap.is)

pub returns-in-Stale : goal.returns-in-Stale
returns-in-Stale c = ap outcome_as (sym c.in-Stale.is)

pub returns-in-Full : goal.returns-in-Full
returns-in-Full c = ap outcome_as (sym c.in-Full.is)
