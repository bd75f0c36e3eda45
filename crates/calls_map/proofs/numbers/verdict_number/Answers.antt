use mathlib.Core.Path.{sym, ap, ◌∙◌}
use Rattle.spec.specs.Map.Calls.{reason_number}
use Rattle.map_tables.specs.Names.{view_key}
use Rattle.map_tables.specs.View.{answer_in}
use Rattle.map_tables.specs.declared.Outcome.{Outcome}
use Rattle.map_tables.specs.declared.Refusal.{Refusal}
use Rattle.std.specs.Prelude.{Result}
use Rattle.image_parts.specs.declared.Coded.{Coded}
use Rattle.calls_map.proofs.NumberLaws.{code-number}
use Rattle.calls_map.proofs.numbers.verdict_number.Goals as goal

pub returns-in-Ok : goal.returns-in-Ok
returns-in-Ok c =
    ap (λ (x : Coded). x.code) c.outcome_coded.ensures
    ∙ code-number c.in-Ok.o (view_key c.args.v.key)
    ∙ sym (ap (λ (x : Result Outcome Refusal). reason_number (answer_in x (view_key c.args.v.key))) c.in-Ok.is)

pub returns-in-Err : goal.returns-in-Err
returns-in-Err c =
    c.refusal_number.ensures
    ∙ sym (ap (λ (x : Result Outcome Refusal). reason_number (answer_in x (view_key c.args.v.key))) c.in-Err.is)
