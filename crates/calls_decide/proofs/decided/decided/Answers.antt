use native.Mathlib.Omega.{arith}
use mathlib.Core.Path.{sym}
use Rattle.calls_decide.proofs.DecidedLaws.{decides_now, decides_told, keeps_as, full-keeps, new-fresh}
use Rattle.calls_decide.proofs.decided.decided.Goals as goal

pub get8-count-requires : goal.get8-count-requires
get8-count-requires c = let l = c.requires.few.long in omega arith

pub session_place-place-requires : goal.session_place-place-requires
session_place-place-requires c =
    let l = c.requires.few.long in let f = c.requires.few.sessions in let e = c.get8-count.ensures in (l, omega arith, sym e)

pub of_known-requires : goal.of_known-requires
of_known-requires c =
    let e = c.get8-count.ensures in let h = c.if-place-count.true in record { ready = c.requires; found = c.session_place-place.ensures; inside = omega arith }

pub returns-then-place-count : goal.returns-then-place-count
returns-then-place-count c = c.of_known.ensures

pub returns-then-count-ge64 : goal.returns-then-count-ge64
returns-then-count-ge64 c =
    let e = c.get8-count.ensures in let h = c.if-place-count.false in let g = c.if-count-ge64.true in decides_told c.args.map.now c.args.r c.refused-verdict.result (keeps_as c.args.map.now c.args.r _ _ c.refused-verdict.ensures (full-keeps c.args.map.now c.args.r (c.requires) c.session_place-place.result c.session_place-place.ensures (omega arith) (omega arith)))

pub own_answer-verdict-requires : goal.own_answer-verdict-requires
own_answer-verdict-requires c =
    let e = c.get8-count.ensures in let h = c.if-place-count.false in let g = c.if-count-ge64.false in new-fresh c.args.map.now c.args.r (c.requires) c.session_place-place.result c.session_place-place.ensures (omega arith) (omega arith)

pub returns : goal.returns
returns c =
    let e = c.get8-count.ensures in let h = c.if-place-count.false in let g = c.if-count-ge64.false in decides_now c.args.map.now c.args.r (new-fresh c.args.map.now c.args.r (c.requires) c.session_place-place.result c.session_place-place.ensures (omega arith) (omega arith)) c.own_answer-verdict.result c.own_answer-verdict.ensures
