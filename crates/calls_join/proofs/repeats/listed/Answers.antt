use native.Mathlib.Omega.{arith}
use mathlib.Core.Path.{sym, ◌∙◌}
use Prim.Native.Nat.{◌-◌}
use Rattle.calls_join.proofs.Buckets.{reaches_none, reaches_on}
use Rattle.calls_join.proofs.repeats.listed.Goals as goal

pub loop-c-init : goal.loop-c-init
loop-c-init c = (c.requires.2, λ i r e. r)

pub returns-then-get8-id : goal.returns-then-get8-id
returns-then-get8-id c =
    let loop = c.loop-c in (
      loop.c - 1,
      (
        (let l = loop.invariant.0 in
            let t = c.loop-c-test.true in omega arith),
        sym c.get8.ensures ∙ c.if-get8-id.true,
      ),
    )

pub overflow_cast-c : goal.overflow_cast-c
overflow_cast-c c = omega (arith, c.type_inv.next (c.loop-c.c - 1))

pub loop-c-preserved : goal.loop-c-preserved
loop-c-preserved c =
    let args = c.args in
    let loop = c.loop-c in
    let loop-test = c.loop-c-test in
    let l = loop.invariant.0 in
    let t = loop-test.true in
    let f = c.requires.3 (loop.c - 1) (omega arith) in
    (omega arith, λ i r e. reaches_on args.s.now args.p args.id args.next.now loop.c i loop-test.true (λ q. c.if-get8-id.false (c.get8.ensures ∙ q)) e (loop.invariant.1 i r e))

pub returns : goal.returns
returns c =
    let loop = c.loop-c in
    λ i r e. reaches_none c.args.next.now loop.c i (omega arith) (loop.invariant.1 i r e)
