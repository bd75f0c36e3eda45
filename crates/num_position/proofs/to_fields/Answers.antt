use mathlib.Core.Path.{◌≡◌, sym, ◌∙◌, ap}
use Rattle.std.proofs.lemmas.Result.{err_from_is_err_and}
use Rattle.std.specs.Prelude.{Option, Err}
use Rattle.std.specs.Option.{ok_or}
use Rattle.spec_position.specs.Positions.{turned}
use Rattle.num_position.specs.Answers.{fielded}
use Rattle.num_position.specs.declared.signed.Sizes.{Sizes}
use Rattle.num_position.specs.declared.Refusal.{Refusal}
use Rattle.num_position.specs.declared.Refusal.TheVariants.{OutOfRange}
use Rattle.num_position.proofs.Sizes.{not_fielded, no_thousandth_lem, fielded_as}
use Rattle.num_position.proofs.to_fields.Goals as goal

pub returns-in_err-sizes : goal.returns-in_err-sizes
returns-in_err-sizes c =
    let p = err_from_is_err_and c.from_residual.result c.from_residual.ensures.1 in
    let none = c.in_err-sizes.ensures.ok_part in
    let said = c.in_err-sizes.ensures.value ∙ ap (λ (o : Option Sizes). ok_or o OutOfRange) none in
    let which : c.in_err-sizes.field-0.0 ≡ OutOfRange = cc in
    rw (p.1, p.2) (ap (λ (e : Refusal). fielded (Err e)) which ∙ not_fielded _ (sym c.sizes_of.ensures ∙ none))

pub returns-then-sizes-ne0 : goal.returns-then-sizes-ne0
returns-then-sizes-ne0 c = no_thousandth_lem _ _ (sym c.sizes_of.ensures ∙ c.in_ok-sizes.ensures.ok_part) c.if-sizes-ne0.true

pub returns : goal.returns
returns c =
    ap turned c.fields_of.ensures ∙ fielded_as _ _ (sym c.sizes_of.ensures ∙ c.in_ok-sizes.ensures.ok_part) c.if-sizes-ne0.false
