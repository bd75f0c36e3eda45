use mathlib.Core.Path.{sym, ◌∙◌, ap}
use Rattle.map_tables.specs.Names.{view_key}
use Rattle.map_tables.specs.View.{answer_in}
use Rattle.map_tables.specs.declared.Outcome.{Outcome}
use Rattle.map_tables.specs.declared.Refusal.{Refusal}
use Rattle.std.specs.Prelude.{Result}
use Rattle.std.specs.Prelude.{Ok}
use Rattle.calls_apply.specs.Settles.{takes_effect}
use Rattle.calls_apply.proofs.tell.takes_effect.Goals as goal

pub returns-in-Applied : goal.returns-in-Applied
returns-in-Applied c =
    sym (ap (λ (x : Result Outcome Refusal). takes_effect (answer_in x (view_key c.args.verdict.key))) (c.in-Ok.is ∙ ap Ok c.in-Applied.is))

pub returns-in-Rejected : goal.returns-in-Rejected
returns-in-Rejected c =
    sym (ap (λ (x : Result Outcome Refusal). takes_effect (answer_in x (view_key c.args.verdict.key))) (c.in-Ok.is ∙ ap Ok c.in-Rejected.is))

pub returns-in-Err : goal.returns-in-Err
returns-in-Err c = sym (ap (λ (x : Result Outcome Refusal). takes_effect (answer_in x (view_key c.args.verdict.key))) c.in-Err.is)
