use mathlib.Core.Path.{refl, sym, ◌∙◌}
use native.Mathlib.Omega.{arith}
use lib.Seq.{length-take-le}
use Rattle.log_arrive.proofs.Stores.{arrives_stale, arrives-full, arrives-read}
use Rattle.log_arrive.proofs.store.store_under.Goals as goal

pub returns-then-epoch-own : goal.returns-then-epoch-own
returns-then-epoch-own c = let p = c.requires in arrives_stale _ _ _ _ p.0 p.1 _ refl c.if-epoch-own.true

pub returns-then-is_over : goal.returns-then-is_over
returns-then-is_over c =
    let p = c.requires in arrives-full _ _ _ _ p.0 p.1 c.if-epoch-own.false (sym c.is_over.ensures ∙ c.if-is_over.true)

pub read_op-o-requires : goal.read_op-o-requires
read_op-o-requires c = (c.requires.2, refl)

pub slice_bounds-column-end : goal.slice_bounds-column-end
slice_bounds-column-end c = omega (arith, c.read_op-o.ensures.short, c.read_op-o.ensures.column)

pub slice_bounds-store-end : goal.slice_bounds-store-end
slice_bounds-store-end c = sym (length-take-le _ _ (omega (arith, c.read_op-o.ensures.short, c.read_op-o.ensures.column)))

pub store-requires : goal.store-requires
store-requires c = let p = c.requires in (p.0, p.1, c.read_op-o.ensures.storable p.3)

pub returns : goal.returns
returns c =
    let p = c.requires in arrives-read _ _ _ _ _ _ _ _ p.0 p.1 c.if-epoch-own.false (sym c.is_over.ensures ∙ c.if-is_over.false) _ c.read_op-o.ensures.op c.store.ensures
