use mathlib.Core.Path.{sym, ◌∙◌, ap}
use Rattle.spec_words.specs.Words.{text_of}
use Rattle.map_tables.specs.Names.{view_key}
use Rattle.map_tables.specs.View.{answer_in}
use Rattle.map_tables.specs.declared.Outcome.{Outcome}
use Rattle.map_tables.specs.declared.Refusal.{Refusal}
use Rattle.std.specs.Prelude.{Result}
use Rattle.std.specs.Prelude.{Ok}
use Rattle.map_words.proofs.PartLaws.{puts_as, none-put}
use Rattle.map_words.proofs.put_answer.Goals as goal

pub returns-in-Applied : goal.returns-in-Applied
unfolding text_of
returns-in-Applied c =
    puts_as (sym (ap (λ (q : Result Outcome Refusal). text_of (answer_in q (view_key c.args.v.key))) (c.in-Ok.is ∙ ap Ok c.in-Applied.is))) none-put

pub returns-in-Rejected : goal.returns-in-Rejected
unfolding text_of
returns-in-Rejected c =
    puts_as (sym (ap (λ (q : Result Outcome Refusal). text_of (answer_in q (view_key c.args.v.key))) (c.in-Ok.is ∙ ap Ok c.in-Rejected.is))) c.put_rejection.ensures

pub returns-in-Err : goal.returns-in-Err
unfolding text_of
returns-in-Err c =
    puts_as (sym (ap (λ (q : Result Outcome Refusal). text_of (answer_in q (view_key c.args.v.key))) c.in-Err.is)) none-put
