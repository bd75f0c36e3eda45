use borrow.Author.Rules.{rules}
use native.Mathlib.Omega.{arith}
use mathlib.Core.Path.{refl, sym, subst}
use mathlib.Core.List.{List, map}
use Prim.Native.Nat.{◌<◌}
use borrow.Author.Tests.{not-true, not-false}
use Rattle.spec.specs.Map.Calls.{Line}
use Rattle.test_lines.specs.Words.{view_line}
use Rattle.map_request.proofs.Rows.{copied_on}
use Rattle.test_input.specs.Stream.{map_in}
use Rattle.test_input.proofs.Going.{Going, starts, ended, not_there, stepped-on}
use Rattle.test_input.proofs.drain.drain.Goals as goal

pub loop-read-init : goal.loop-read-init
loop-read-init c =
    (c.requires.0, omega arith, omega arith, c.requires.1, refl, starts c.args.s.now (map_in c.args.map.now), refl)

pub returns-then-not-read : goal.returns-then-not-read
returns-then-not-read c =
    let l = c.loop-read in let a = c.args in let r = c.request_at-read in
    let e = ended a.s.now (map_in a.map.now) (map_in l.map) _ l.at l.invariant.5 (not_there a.s.now l.at r.result r.ensures ((not-true _ c.if-not-read.true))) in
    record { intact = l.invariant.0; count = omega (arith, l.invariant.1, l.invariant.2, l.invariant.3); lines = e.lines; map = e.map; place = e.place; inside = l.invariant.1 }

pub step-l-requires : goal.step-l-requires
step-l-requires c = (c.loop-read.invariant.0, c.request_at-read.ensures.within ((not-false _ c.if-not-read.false)))

pub offset_bounds-items-n : goal.offset_bounds-items-n
offset_bounds-items-n c =
    let l = c.loop-read in let h : l.n < 328 = omega (arith, l.invariant.1, l.invariant.2, l.invariant.3) in search rules

pub bounds-items-n : goal.bounds-items-n
bounds-items-n c =
    let l = c.loop-read in let h : l.n < 328 = omega (arith, l.invariant.1, l.invariant.2, l.invariant.3) in search rules

pub overflow_add-n : goal.overflow_add-n
overflow_add-n c =
    let l = c.loop-read in let h : l.n < 328 = omega (arith, l.invariant.1, l.invariant.2, l.invariant.3) in search rules

pub loop-read-smaller : goal.loop-read-smaller
loop-read-smaller c =
    let found = (not-false _ c.if-not-read.false) in let r = c.request_at-read in omega (arith, r.ensures.passes found, r.ensures.inside found)

pub loop-read-preserved : goal.loop-read-preserved
loop-read-preserved c =
    let found = (not-false _ c.if-not-read.false) in let l = c.loop-read in let a = c.args in let r = c.request_at-read in let d = c.step-l in
    let h : l.n < 328 = omega (arith, l.invariant.1, l.invariant.2, l.invariant.3) in
    let g = stepped-on a.s.now l.at r.result r.ensures (map_in a.map.now) l.map d.new.map _ d.result found l.invariant.5 d.ensures in
    (d.ensures.intact, r.ensures.inside found, omega (arith, r.ensures.passes found, l.invariant.2), l.invariant.3, search rules, subst (λ (ls : List Line). Going a.s.now (map_in a.map.now) (map_in d.new.map) r.result.next ls) (sym (copied_on view_line l.items l.n d.result (omega (arith, h, l.invariant.4)))) g, search rules)
