use native.Mathlib.Omega.{arith}
use mathlib.Core.Path.{sym, ◌∙◌}
use Rattle.log_search.proofs.Answered.{least_both}
use Rattle.calls_search.proofs.HitLaws.{ended-short, ended_uncounted, ended-found}
use Rattle.calls_search.proofs.hits.put_found.Goals as goal

pub returns-then-room_of-n : goal.returns-then-room_of-n
returns-then-room_of-n c =
    let a = c.args in ended-short a.hits.now a.answer.now a.h.items a.h.count _ c.room_of.ensures c.if-room_of-n.true

pub returns-then-not-put_number : goal.returns-then-not-put_number
returns-then-not-put_number c =
    let a = c.args in ended_uncounted a.hits.now a.answer.now a.h.items a.h.count _ c.room_of.ensures c.if-room_of-n.false (sym c.put_number.ensures.0 ∙ c.if-not-put_number.true) _ c.put_number.ensures.1

pub put_hits-requires : goal.put_hits-requires
put_hits-requires c =
    let a = c.args in let p = c.requires in let r = least_both _ _ _ c.room_of.ensures in let t = c.if-room_of-n.false in (omega (arith, r.1), p.0, p.1)

pub returns : goal.returns
returns c =
    let a = c.args in ended-found a.hits.now a.answer.now a.h.items a.h.count _ c.room_of.ensures c.if-room_of-n.false (sym c.put_number.ensures.0 ∙ c.if-not-put_number.false) _ _ c.put_hits.ensures c.put_number.ensures.1
