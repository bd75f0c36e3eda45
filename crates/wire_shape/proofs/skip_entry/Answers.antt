use mathlib.Core.Path.{sym, ◌∙◌}
use Rattle.spec.specs.Layout.Format.{word, ◌▸◌}
use Rattle.spec.specs.Layout.Parts.{op_f, entry_f}
use Rattle.wire_shape.proofs.Skips.{pair-next, pair_bad, same-skip, same_words_then}
use Rattle.wire_shape.proofs.skip_entry.Goals as goal

pub returns-in_err-p : goal.returns-in_err-p
returns-in_err-p c =
    let a = c.args in
    c.from_residual.ensures
    ∙ pair_bad (word 16) op_f a.s.now a.at (sym c.skip_word.ensures ∙ c.in_err-p.was)
    ∙ sym (same-skip entry_f (word 16 ▸ op_f) (same_words_then 8 8 op_f) a.s.now a.at)

pub returns : goal.returns
returns c =
    let a = c.args in
    c.skip_op.ensures
    ∙ pair-next (word 16) op_f a.s.now a.at _ (sym c.skip_word.ensures ∙ c.in_ok-p.was)
    ∙ sym (same-skip entry_f (word 16 ▸ op_f) (same_words_then 8 8 op_f) a.s.now a.at)
