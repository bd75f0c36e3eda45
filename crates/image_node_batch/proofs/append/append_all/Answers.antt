use borrow.Author.Rules.{rules}
use native.Mathlib.Omega.{arith}
use mathlib.Core.Path.{◌∙◌, ap}
use Rattle.spec.specs.Lists.{every}
use Rattle.spec.specs.Node.Wire.{entry_in_domain}
use Rattle.log_domain.proofs.InMessage.{entries_start, entries_all, entries_first, entry-op, entries_rest, domain_first, domain_rest}
use Rattle.image_node_batch.proofs.Grown.{at-most}
use Rattle.image_node_batch.proofs.Batch.{begun_in, gone_in, free_in_lem, turn_in}
use Rattle.image_node_batch.proofs.append.append_all.Goals as goal

pub overflow_mul-base : goal.overflow_mul-base
overflow_mul-base c = let p = c.requires.0 in search rules

pub loop-i-init : goal.loop-i-init
loop-i-init c =
    let a = c.args in (omega arith, entries_start a.s.now a.p c.requires.3, ap (every entry_in_domain) (entries_all a.s.now a.p) ∙ c.requires.4, λ i. omega (arith, c.type_inv.out i), begun_in a.out.now a.slot a.count a.stored a.s.now a.p c.requires.2)

pub entry_at-e-requires : goal.entry_at-e-requires
entry_at-e-requires c =
    let l = c.loop-i in entries_first c.args.s.now c.args.p.len l.at l.i c.loop-i-test.true l.invariant.1

pub append_next-t-requires : goal.append_next-t-requires
append_next-t-requires c =
    let a = c.args in let l = c.loop-i in let g = l.invariant.4 in let p = c.requires.0 in let q = c.requires.1 in let e = g.long in let t = c.loop-i-test.true in (
      (at-most l.out a.slot l.c l.k g.well).0,
      omega arith,
      g.well,
      entry-op a.s.now a.p.len l.at l.i t l.invariant.1 _ c.entry_at-e.ensures,
      domain_first a.s.now a.p.len l.at l.i t l.invariant.1 _ c.entry_at-e.ensures l.invariant.2,
      free_in_lem a.out.now a.slot a.count a.stored a.s.now _ a.p.len l.at l.i l.out l.c l.k g t l.invariant.1 _ c.entry_at-e.ensures c.requires.5,
    )

pub loop-i-preserved : goal.loop-i-preserved
loop-i-preserved c =
    let a = c.args in let l = c.loop-i in let g = l.invariant.4 in let t = c.loop-i-test.true in (
      omega arith,
      entries_rest a.s.now a.p.len l.at l.i t l.invariant.1 _ c.entry_at-e.ensures,
      domain_rest a.s.now a.p.len l.at l.i t l.invariant.1 _ c.entry_at-e.ensures l.invariant.2,
      λ i. omega (arith, c.slice_known-in-loop-i-1.given i),
      turn_in a.out.now a.slot a.count a.stored a.s.now _ a.p.len l.at l.i l.out l.c l.k g t l.invariant.1 _ c.entry_at-e.ensures c.requires.5 _ c.append_next-t.result c.requires.0 c.requires.1 l.invariant.3 l.invariant.2 c.append_next-t.auto.out c.append_next-t.ensures,
    )

pub shape_of-out : goal.shape_of-out
shape_of-out c = c.loop-i.invariant.4.long

pub returns : goal.returns
returns c =
    let a = c.args in let l = c.loop-i in gone_in a.out.now a.slot a.count a.stored a.s.now _ a.p.len l.at l.i l.out l.c l.k l.invariant.4 c.loop-i-test.false
