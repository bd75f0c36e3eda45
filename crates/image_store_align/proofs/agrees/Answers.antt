use native.Mathlib.Omega.{arith}
use mathlib.Core.Path.{◌≡◌, refl, sym, ◌∙◌, ap}
use Prim.Native.Nat.{◌≤◌}
use Rattle.log_domain.specs.Parts.{table_in}
use Rattle.image_store_align.proofs.Pairs.{passed_none, passed_on, found, none_found, agrees_past, agrees_in, agrees-none}
use mathlib.Core.Option.{some}
use Rattle.spec.specs.Log.{epoch_at}
use Rattle.image_store_align.proofs.agrees.Goals as goal

pub returns-then-end-offset : goal.returns-then-end-offset
returns-then-end-offset c =
    let a = c.args in agrees_past a.end (table_in a.message.now a.table) a.epoch a.offset c.if-end-offset.true

pub loop-i-init : goal.loop-i-init
loop-i-init c = let a = c.args in (refl, omega arith, passed_none a.message.now a.table a.offset)

pub end_at-pair-requires : goal.end_at-pair-requires
end_at-pair-requires c = let p = c.requires.1 in let e = c.loop-i.invariant.0 in let l = c.loop-i-test.true in omega arith

pub returns-then-offset-pair : goal.returns-then-offset-pair
returns-then-offset-pair c =
    let a = c.args in let l = c.loop-i in let i = l.i in let e = l.invariant.0 in let lt = c.loop-i-test.true in let r = c.end_at-pair in
    let h : a.offset ≤ r.result.end.0 = c.if-offset-pair.true in
    let o : epoch_at (table_in a.message.now a.table) a.offset ≡ some r.result.epoch.0 = found a.message.now a.table a.offset i (omega arith) l.invariant.2 (omega (arith, r.ensures.end)) ∙ ap some (sym r.ensures.epoch) in
    agrees_in a.end (table_in a.message.now a.table) a.epoch a.offset c.if-end-offset.false r.result.epoch.0 o

pub loop-i-preserved : goal.loop-i-preserved
loop-i-preserved c =
    let a = c.args in let l = c.loop-i in let i = l.i in let e = l.invariant.0 in let lt = c.loop-i-test.true in let r = c.end_at-pair in
    let h = c.if-offset-pair.false in
    (e, omega arith, passed_on a.message.now a.table a.offset i (omega arith) l.invariant.2 (omega (arith, r.ensures.end)))

pub returns : goal.returns
returns c =
    let a = c.args in let l = c.loop-i in let e = l.invariant.0 in let z = c.loop-i-test.false in
    agrees-none a.end (table_in a.message.now a.table) a.epoch a.offset c.if-end-offset.false (none_found a.message.now a.table a.offset l.i (omega arith) l.invariant.2)
