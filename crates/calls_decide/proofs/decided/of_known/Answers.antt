use borrow.Author.Rules.{rules}
use native.Mathlib.Omega.{arith}
use mathlib.Core.Path.{◌∙◌, ap}
use Rattle.map_tables.specs.View.{view_session}
use Rattle.std.specs.Prelude.{Ok}
use Rattle.map_tables.specs.declared.SessionRow.{SessionRow}
use Rattle.calls_decide.proofs.DecidedLaws.{decides_now, decides_told, keeps_as, older_keeps, equal_keeps, next-fresh}
use Rattle.spec.specs.Map.Tables as tables
use Rattle.calls_decide.proofs.decided.of_known.Goals as goal

pub overflow_mul-place : goal.overflow_mul-place
overflow_mul-place c = let f = c.requires.ready.few.sessions in let i = c.requires.inside in search rules

pub overflow_add-place : goal.overflow_add-place
overflow_add-place c = let f = c.requires.ready.few.sessions in let i = c.requires.inside in search rules

pub session_at-row-requires : goal.session_at-row-requires
session_at-row-requires c =
    let l = c.requires.ready.few.long in let f = c.requires.ready.few.sessions in let i = c.requires.inside in omega arith

pub returns-then-r-row : goal.returns-then-r-row
returns-then-r-row c =
    let e = ap (λ (x : SessionRow). x.seq) c.session_at-row.ensures in let h = c.if-r-row.true in decides_told c.args.map.now c.args.r c.rejected-verdict.result (keeps_as c.args.map.now c.args.r _ _ c.rejected-verdict.ensures (older_keeps c.args.map.now c.args.r c.args.place (c.requires) (omega arith)))

pub returns-then-r-row-2 : goal.returns-then-r-row-2
returns-then-r-row-2 c =
    let e = ap (λ (x : SessionRow). x.seq) c.session_at-row.ensures in let h = c.if-r-row-2.true in decides_told c.args.map.now c.args.r (record { answer = Ok c.session_at-row.result.outcome; key = c.session_at-row.result.key }) (keeps_as c.args.map.now c.args.r _ _ (ap (λ (x : SessionRow). tables.outcome (view_session x).outcome) c.session_at-row.ensures) (equal_keeps c.args.map.now c.args.r c.args.place (c.requires) (h ∙ e)))

pub own_answer-verdict-requires : goal.own_answer-verdict-requires
own_answer-verdict-requires c =
    let e = ap (λ (x : SessionRow). x.seq) c.session_at-row.ensures in let h = c.if-r-row.false in let g = c.if-r-row-2.false in next-fresh c.args.map.now c.args.r c.args.place (c.requires) (omega (arith, g))

pub returns : goal.returns
returns c =
    let e = ap (λ (x : SessionRow). x.seq) c.session_at-row.ensures in let h = c.if-r-row.false in let g = c.if-r-row-2.false in decides_now c.args.map.now c.args.r (next-fresh c.args.map.now c.args.r c.args.place (c.requires) (omega (arith, g))) c.own_answer-verdict.result c.own_answer-verdict.ensures
