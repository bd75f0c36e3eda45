use Rattle.calls_apply.proofs.SettledLaws.{answers-now}
use Rattle.calls_apply.proofs.settled.carry_out.Goals as goal

pub taken-requires : goal.taken-requires
taken-requires c =
    let fr = c.requires.1.fresh c.if-d.true in (fr, answers-now c.args.map.now c.args.r fr c.args.d.verdict c.requires.1.answer)

pub returns-then-d : goal.returns-then-d
returns-then-d c = c.taken.ensures

pub repeated-requires : goal.repeated-requires
repeated-requires c = c.requires.0.few

pub returns : goal.returns
returns c = c.repeated.ensures c.args.r c.requires.0 (c.requires.1.told c.if-d.false)
