use mathlib.Core.Path.{refl, sym, ◌∙◌}
use mathlib.Core.Bool.{true, false}
use Rattle.spec_laws.proofs.Lists.{not_both}
use Rattle.calls_parts.proofs.AnswerLaws.{number_unput}
use Rattle.calls_apply_words.proofs.tell.Goals as goal

pub returns-then-not-put_number : goal.returns-then-not-put_number
returns-then-not-put_number c =
    let f = sym c.put_number.ensures.0 ∙ c.if-not-put_number.true in record { room = sym f; told = λ e. not_both false e refl; kept = λ _. (refl, c.put_number.ensures.1 ∙ number_unput c.args.answer.now c.args.words.len f) }

pub put_text-requires : goal.put_text-requires
put_text-requires c = c.requires

pub returns : goal.returns
returns c =
    record { room = sym (c.if-not-put_number.false) ∙ c.put_number.ensures.0; told = λ _. (c.put_text.ensures, c.put_number.ensures.1); kept = λ e. not_both true refl e }
