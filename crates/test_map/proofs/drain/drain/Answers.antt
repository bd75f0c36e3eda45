use borrow.Author.Tests.{not-false}
use borrow.Author.Rules.{rules}
use native.Mathlib.Omega.{arith}
use mathlib.Core.Path.{refl}
use borrow.Author.Tests.{not-false}
use Rattle.test_map.proofs.drain.drain.Goals as goal

pub loop-read-init : goal.loop-read-init
loop-read-init c = (c.requires, omega arith, refl)

pub returns-then-not-read : goal.returns-then-not-read
returns-then-not-read c = c.loop-read.invariant.0

pub slice_bounds-says-count : goal.slice_bounds-says-count
slice_bounds-says-count c =
    let found = not-false _ c.if-not-read.false in let h = c.request_at-read.ensures.passes found in omega arith

pub slice_bounds-says-start : goal.slice_bounds-says-start
slice_bounds-says-start c =
    let found = not-false _ c.if-not-read.false in let h = c.request_at-read.ensures.passes found in let k = c.request_at-read.ensures.inside found in search rules

pub slice_bounds-says-end : goal.slice_bounds-says-end
slice_bounds-says-end c =
    let found = not-false _ c.if-not-read.false in let h = c.request_at-read.ensures.passes found in let k = c.request_at-read.ensures.inside found in search rules

pub says-requires : goal.says-requires
says-requires c = c.loop-read.invariant.0

pub loop-read-smaller : goal.loop-read-smaller
loop-read-smaller c =
    let found = not-false _ c.if-not-read.false in let h = c.request_at-read.ensures.passes found in let k = c.request_at-read.ensures.inside found in omega arith

pub loop-read-preserved : goal.loop-read-preserved
loop-read-preserved c =
    let found = not-false _ c.if-not-read.false in (c.says.ensures, c.request_at-read.ensures.inside found, search rules)
