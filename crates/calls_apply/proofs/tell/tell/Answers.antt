use mathlib.Core.Path.{refl, subst}
use Rattle.map_tables.specs.Names.{view_key}
use Rattle.map_tables.specs.View.{answer_in}
use Rattle.map_tables.specs.declared.Outcome.{Outcome}
use Rattle.map_tables.specs.declared.Refusal.{Refusal}
use Rattle.std.specs.Prelude.{Result}
use Rattle.calls_apply.specs.Settles.{Room}
use Rattle.calls_apply.proofs.RememberLaws.{noted_as}
use Rattle.calls_apply.proofs.tell.tell.Goals as goal

pub remember-requires : goal.remember-requires
remember-requires c =
    (c.requires.0, subst (λ (x : Result Outcome Refusal). Room c.args.map.now c.args.client c.args.seq (answer_in x (view_key c.args.verdict.key))) c.in-Ok.is c.requires.1)

pub returns-in-Ok : goal.returns-in-Ok
returns-in-Ok c =
    (c.verdict_number-number.ensures, noted_as c.args.map.now _ c.args.client c.args.seq (view_key c.args.verdict.key) _ _ c.args.version c.in-Ok.is c.remember.ensures)

pub returns-in-Err : goal.returns-in-Err
returns-in-Err c =
    (c.verdict_number-number.ensures, noted_as c.args.map.now _ c.args.client c.args.seq (view_key c.args.verdict.key) _ _ c.args.version c.in-Err.is refl)
