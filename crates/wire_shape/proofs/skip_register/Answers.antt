use mathlib.Core.Path.{sym, ◌∙◌}
use Rattle.spec.specs.Layout.Format.{◌▸◌}
use Rattle.spec.specs.Layout.Parts.{u64, address_f}
use Rattle.wire_shape.proofs.Skips.{pair-next, pair_bad}
use Rattle.wire_shape.proofs.skip_register.Goals as goal

pub returns-in_err-p : goal.returns-in_err-p
returns-in_err-p c =
    let a = c.args in
    c.from_residual.ensures ∙ pair_bad u64 (address_f ▸ u64) a.s.now a.at (sym c.skip_word.ensures ∙ c.in_err-p.was)

pub returns : goal.returns
returns c =
    let a = c.args in
    c.skip_text.ensures ∙ pair-next u64 (address_f ▸ u64) a.s.now a.at _ (sym c.skip_word.ensures ∙ c.in_ok-p.was)
