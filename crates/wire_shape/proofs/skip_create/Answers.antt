use mathlib.Core.Path.{sym, ◌∙◌}
use Rattle.spec.specs.Layout.Format.{word, below, text, ◌▸◌}
use Rattle.spec.specs.Layout.Parts.{placement_f}
use Rattle.spec.specs.Layout.Request.{create_f}
use Rattle.wire_shape.proofs.Skips.{pair-next, pair_bad, same-skip}
use Rattle.wire_shape.proofs.Commands.{same_create}
use Rattle.wire_shape.proofs.skip_create.Goals as goal

pub returns-in_err-p : goal.returns-in_err-p
returns-in_err-p c =
    let a = c.args in
    c.from_residual.ensures
    ∙ pair_bad (text 32 ▸ word 4) (below 2 ▸ (word 8 ▸ placement_f)) a.s.now a.at (sym c.skip_text.ensures ∙ c.in_err-p.was)
    ∙ sym (same-skip create_f ((text 32 ▸ word 4) ▸ (below 2 ▸ (word 8 ▸ placement_f))) same_create a.s.now a.at)

pub returns-in_err-q : goal.returns-in_err-q
returns-in_err-q c =
    let a = c.args in
    c.from_residual-in_err-q.ensures
    ∙ pair_bad (below 2) (word 8 ▸ placement_f) a.s.now _ (sym c.skip_below.ensures ∙ c.in_err-q.was)
    ∙ pair-next (text 32 ▸ word 4) (below 2 ▸ (word 8 ▸ placement_f)) a.s.now a.at _ (sym c.skip_text.ensures ∙ c.in_ok-p.was)
    ∙ sym (same-skip create_f ((text 32 ▸ word 4) ▸ (below 2 ▸ (word 8 ▸ placement_f))) same_create a.s.now a.at)

pub returns-in_err-t : goal.returns-in_err-t
returns-in_err-t c =
    let a = c.args in
    c.from_residual-in_err-t.ensures
    ∙ pair_bad (word 8) placement_f a.s.now _ (sym c.skip_word.ensures ∙ c.in_err-t.was)
    ∙ pair-next (below 2) (word 8 ▸ placement_f) a.s.now _ _ (sym c.skip_below.ensures ∙ c.in_ok-q.was)
    ∙ pair-next (text 32 ▸ word 4) (below 2 ▸ (word 8 ▸ placement_f)) a.s.now a.at _ (sym c.skip_text.ensures ∙ c.in_ok-p.was)
    ∙ sym (same-skip create_f ((text 32 ▸ word 4) ▸ (below 2 ▸ (word 8 ▸ placement_f))) same_create a.s.now a.at)

pub returns : goal.returns
returns c =
    let a = c.args in
    c.skip_lists.ensures
    ∙ pair-next (word 8) placement_f a.s.now _ _ (sym c.skip_word.ensures ∙ c.in_ok-t.was)
    ∙ pair-next (below 2) (word 8 ▸ placement_f) a.s.now _ _ (sym c.skip_below.ensures ∙ c.in_ok-q.was)
    ∙ pair-next (text 32 ▸ word 4) (below 2 ▸ (word 8 ▸ placement_f)) a.s.now a.at _ (sym c.skip_text.ensures ∙ c.in_ok-p.was)
    ∙ sym (same-skip create_f ((text 32 ▸ word 4) ▸ (below 2 ▸ (word 8 ▸ placement_f))) same_create a.s.now a.at)
