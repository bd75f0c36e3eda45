use borrow.Author.Rules.{rules}
use native.Mathlib.Omega.{arith}
use mathlib.Core.Path.{sym, subst}
use borrow.Author.Tests.{eq-eqb, ne_eqb}
use Rattle.spec.specs.Map.Apply.{change_answer}
use Rattle.map_tables.specs.Counted.{Sized}
use Rattle.calls_decide.proofs.Places.{shard-none, shard_some, shard-sized}
use Rattle.calls_decide.proofs.answers.answer_at.Goals as goal

pub returns-then-count-hit : goal.returns-then-count-hit
unfolding change_answer
returns-then-count-hit c =
    rw (shard-none c.args.map.now c.args.count c.args.hit c.args.key (c.requires) c.if-count-hit.true) c.rejected.ensures

pub overflow_mul-hit : goal.overflow_mul-hit
overflow_mul-hit c =
    let f = c.requires.counted.count in let q = c.requires.count in let lt = c.if-count-hit.false in search rules

pub overflow_add-hit : goal.overflow_add-hit
overflow_add-hit c =
    let f = c.requires.counted.count in let q = c.requires.count in let lt = c.if-count-hit.false in search rules

pub shard_at-row-requires : goal.shard_at-row-requires
shard_at-row-requires c =
    let l = c.requires.few.long in let f = c.requires.counted.count in let q = c.requires.count in let lt = c.if-count-hit.false in omega arith

pub returns-then-own-epoch : goal.returns-then-own-epoch
unfolding change_answer
returns-then-own-epoch c =
    let q = c.shard_at-row.ensures in rw (shard_some c.args.map.now c.args.count c.args.hit c.args.key (c.requires) c.if-count-hit.false, sym c.shard_at-row.ensures, ne_eqb _ _ c.if-own-epoch.true) c.rejected-then-own-epoch.ensures

pub decide_change-requires : goal.decide_change-requires
decide_change-requires c =
    subst Sized (sym c.shard_at-row.ensures) (shard-sized c.args.map.now c.args.count c.args.hit c.args.key (c.requires) c.if-count-hit.false)

pub returns : goal.returns
unfolding change_answer
returns c =
    rw (shard_some c.args.map.now c.args.count c.args.hit c.args.key (c.requires) c.if-count-hit.false, sym c.shard_at-row.ensures, eq-eqb _ _ c.if-own-epoch.false) c.decide_change.ensures
