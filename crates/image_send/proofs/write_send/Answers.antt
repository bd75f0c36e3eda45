use native.Mathlib.Omega.{arith}
use mathlib.Core.Path.{sym, subst}
use mathlib.Core.Option.{Option}
use Rattle.spec.specs.Node.Worker.{Message}
use Rattle.node_send.specs.Requested.{Requested}
use Rattle.image_send.proofs.Requests.{sends_alone, sends-copied}
use Rattle.image_send.proofs.write_send.Goals as goal

pub overflow_sub-i : goal.overflow_sub-i
overflow_sub-i c = let p = c.requires.1 in omega arith

pub get8-own-requires : goal.get8-own-requires
get8-own-requires c =
    let r = c.requires.0.stands in let m = c.requires.0.sendable.room.count in let p = c.requires.2 in let q = c.requires.4 in omega arith

pub write_lone-requires : goal.write_lone-requires
write_lone-requires c =
    let p = c.requires.1 in let o = c.requires.2 in let q = c.requires.4 in (c.requires.0, omega arith, c.requires.5)

pub shape_of-out-then-both : goal.shape_of-out-then-both
shape_of-out-then-both c = c.write_lone.auto.out

pub write_copy-requires : goal.write_copy-requires
write_copy-requires c =
    let p = c.requires.1 in let o = c.requires.2 in let m = c.requires.3 in let q = c.requires.4 in (c.requires.0, omega arith, omega arith, omega arith, c.requires.5)

pub shape_of-out : goal.shape_of-out
shape_of-out c = c.write_copy.auto.out

pub returns-then-both : goal.returns-then-both
returns-then-both c =
    let a = c.args in
    subst (λ (o : Option Message). Requested o a.out.now c.write_lone.new.out c.write_lone.result)
    (sym (sends_alone a.s.now a.base a.count c.requires.0 a.name.now a.shard a.epoch c.requires.5 a.first a.n c.requires.1 c.requires.2 c.requires.4 c.get8-own.result c.get8-own.ensures c.both.result c.both.ensures c.if-both.true)) c.write_lone.ensures

pub returns : goal.returns
returns c =
    let a = c.args in
    subst (λ (o : Option Message). Requested o a.out.now c.write_copy.new.out c.write_copy.result)
    (sym (sends-copied a.s.now a.base a.count c.requires.0 a.name.now a.shard a.epoch c.requires.5 a.first a.n c.requires.1 c.requires.2 c.requires.4 c.get8-own.result c.get8-own.ensures c.both.result c.both.ensures c.if-both.false)) c.write_copy.ensures
