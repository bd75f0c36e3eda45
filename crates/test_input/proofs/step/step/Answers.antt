use native.Mathlib.Omega.{arith}
use Rattle.test_input.proofs.StepLaws.{room_after, stepped}
use Rattle.calls_apply.proofs.Call.{ready}
use Rattle.test_input.proofs.step.step.Goals as goal

pub settle-number-requires : goal.settle-number-requires
settle-number-requires c = ready c.args.map.now c.args.r c.requires.0.lent c.requires.0.formed c.requires.1

pub get8-version-requires : goal.get8-version-requires
get8-version-requires c =
    let h = room_after c.args.map.now c.settle-number.new.map c.args.r c.settle-number.result c.requires.0 c.settle-number.ensures in omega arith

pub returns : goal.returns
returns c =
    stepped c.args.map.now c.settle-number.new.map c.args.r c.settle-number.result c.requires.0 c.settle-number.ensures c.get8-version.result c.line_of.result c.get8-version.ensures c.line_of.ensures
