use mathlib.Core.Path.{sym, ◌∙◌}
use Rattle.std.proofs.lemmas.Result.{err_from_is_err_and}
use Rattle.calls_join.proofs.Calls.{is_undecodable, is_out_of_order, is_other_shard, few_of}
use Rattle.calls_join.proofs.Counted.{stood, not_stood}
use Rattle.calls_join.proofs.checks.check.Goals as goal

pub returns-in_err-n : goal.returns-in_err-n
returns-in_err-n c =
    let p = err_from_is_err_and c.from_residual.result c.from_residual.ensures.1 in
    let u = not_stood _ _ _ c.count_answers.ensures (sym c.ok_or.ensures.value ∙ c.in_err-n.was) in
    rw (p.1, p.2, u.1) (is_undecodable _ _ _ u.0)

pub returns-then-not-all_sound : goal.returns-then-not-all_sound
returns-then-not-all_sound c =
    is_out_of_order _ _ _ _ (stood _ _ _ c.count_answers.ensures (sym c.ok_or.ensures.value ∙ c.in_ok-n.was)) (sym c.all_sound.ensures ∙ c.if-not-all_sound.true)

pub returns-then-not-all_owned : goal.returns-then-not-all_owned
returns-then-not-all_owned c =
    is_other_shard _ _ _ _ (stood _ _ _ c.count_answers.ensures (sym c.ok_or.ensures.value ∙ c.in_ok-n.was)) (sym c.all_sound.ensures ∙ c.if-not-all_sound.false) (sym c.all_owned.ensures ∙ c.if-not-all_owned.true)

pub total-requires : goal.total-requires
total-requires c =
    (stood _ _ _ c.count_answers.ensures (sym c.ok_or.ensures.value ∙ c.in_ok-n.was), few_of _ _ (sym c.all_sound.ensures ∙ c.if-not-all_sound.false))
