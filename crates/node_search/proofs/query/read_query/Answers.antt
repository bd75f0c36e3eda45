use native.Mathlib.Omega.{arith}
use mathlib.Core.Path.{refl, sym, ◌∙◌}
use Prim.Native.Nat.{◌<◌}
use lib.ListN.{length-set}
use Rattle.spec.specs.Nearest.Order.{bits_in_domain}
use Rattle.log_store.proofs.Bits.{domain_number}
use Rattle.log_arrive.specs.Parts.{bits_in}
use Rattle.log_arrive.proofs.InMessage.{bits-length, bits_item}
use Rattle.log_arrive.proofs.OpLaws.{bit_in}
use Rattle.node_search.proofs.QueryLaws.{query-out, query-on, query-write, query-all}
use Rattle.node_search.proofs.query.read_query.Goals as goal

pub loop-i-init : goal.loop-i-init
loop-i-init c = (refl, omega arith, c.requires.1, refl, refl)

pub component-b-requires : goal.component-b-requires
component-b-requires c = omega (arith, c.requires.0.2, c.loop-i.invariant.0, c.loop-i-test.true)

pub shape_of-out-then-not-bits_in_domain : goal.shape_of-out-then-not-bits_in_domain
shape_of-out-then-not-bits_in_domain c = c.loop-i.invariant.2 ∙ sym c.requires.1

pub returns-then-not-bits_in_domain : goal.returns-then-not-bits_in_domain
returns-then-not-bits_in_domain c =
    let a = c.args in
    let l = c.loop-i in
    let h : l.i < a.v.len = omega (arith, l.invariant.0, c.loop-i-test.true) in
    query-out (bits_in a.s.now a.v) a.v.len (bits-length a.s.now a.v) l.out l.invariant.2 l.i l.invariant.3 h (bit_in a.s.now a.v l.i h _ _ c.component-b.ensures c.bits_in_domain.ensures ∙ c.if-not-bits_in_domain.true)

pub float_from_bits-out : goal.float_from_bits-out
float_from_bits-out c = domain_number _ (sym c.bits_in_domain.ensures ∙ c.if-not-bits_in_domain.false)

pub offset_bounds-out-i : goal.offset_bounds-out-i
offset_bounds-out-i c = omega (arith, c.requires.0.1, c.loop-i.invariant.0, c.loop-i.invariant.2, c.loop-i-test.true)

pub bounds-out-i : goal.bounds-out-i
bounds-out-i c = omega (arith, c.requires.0.1, c.loop-i.invariant.0, c.loop-i.invariant.2, c.loop-i-test.true)

pub loop-i-preserved : goal.loop-i-preserved
loop-i-preserved c =
    let a = c.args in
    let l = c.loop-i in
    let h : l.i < a.v.len = omega (arith, l.invariant.0, c.loop-i-test.true) in
    let q = c.component-b.ensures in
    (l.invariant.0, omega arith, simp length-set l.invariant.2, query-on (bits_in a.s.now a.v) a.v.len (bits-length a.s.now a.v) l.out l.invariant.2 l.i l.invariant.3 h (bit_in a.s.now a.v l.i h _ _ q c.bits_in_domain.ensures ∙ c.if-not-bits_in_domain.false), query-write (bits_in a.s.now a.v) a.v.len (bits-length a.s.now a.v) l.out l.invariant.2 l.i l.invariant.3 l.invariant.4 h c.requires.0.1 _ (bits_item a.s.now a.v l.i h ∙ sym q))

pub shape_of-out : goal.shape_of-out
shape_of-out c = c.loop-i.invariant.2 ∙ sym c.requires.1

pub returns : goal.returns
returns c =
    let a = c.args in
    let l = c.loop-i in
    query-all (bits_in a.s.now a.v) a.v.len (bits-length a.s.now a.v) l.out l.invariant.2 l.i l.invariant.3 l.invariant.4 (omega (arith, l.invariant.0, c.loop-i-test.false))
