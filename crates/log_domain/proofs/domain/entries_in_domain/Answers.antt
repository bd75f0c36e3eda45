use mathlib.Core.Path.{sym, ap, ◌∙◌}
use native.Mathlib.Omega.{arith}
use Rattle.spec.specs.Lists.{every}
use Rattle.spec.specs.Node.Wire.{entry_in_domain}
use Rattle.log_domain.proofs.InMessage.{entries_start, entries_all, entries_first, entry-op, entries_rest, domain_stop, domain_on, domain_end}
use Rattle.log_domain.proofs.domain.entries_in_domain.Goals as goal

pub loop-i-init : goal.loop-i-init
loop-i-init c =
    let a = c.args in (omega arith, entries_start a.s.now a.p c.requires, ap (every entry_in_domain) (entries_all a.s.now a.p))

pub entry_at-e-requires : goal.entry_at-e-requires
entry_at-e-requires c =
    let l = c.loop-i in entries_first c.args.s.now c.args.p.len l.at l.i c.loop-i-test.true l.invariant.1

pub op_in_domain-requires : goal.op_in_domain-requires
op_in_domain-requires c =
    let l = c.loop-i in entry-op c.args.s.now c.args.p.len l.at l.i c.loop-i-test.true l.invariant.1 _ c.entry_at-e.ensures

pub returns-then-not-op_in_domain : goal.returns-then-not-op_in_domain
returns-then-not-op_in_domain c =
    let l = c.loop-i in
    sym (domain_stop c.args.s.now c.args.p.len l.at l.i c.loop-i-test.true l.invariant.1 _ c.entry_at-e.ensures (sym c.op_in_domain.ensures ∙ c.if-not-op_in_domain.true)) ∙ l.invariant.2

pub loop-i-preserved : goal.loop-i-preserved
loop-i-preserved c =
    let l = c.loop-i in
    let b = c.args.s.now in
    let n = c.args.p.len in
    let t = c.loop-i-test.true in
    (omega arith, entries_rest b n l.at l.i t l.invariant.1 _ c.entry_at-e.ensures, sym (domain_on b n l.at l.i t l.invariant.1 _ c.entry_at-e.ensures (sym c.op_in_domain.ensures ∙ c.if-not-op_in_domain.false)) ∙ l.invariant.2)

pub returns : goal.returns
returns c =
    let l = c.loop-i in domain_end c.args.s.now c.args.p.len l.at l.i c.loop-i-test.false ∙ l.invariant.2
