use mathlib.Core.Path.{refl, sym, ap, ◌∙◌}
use native.Mathlib.Omega.{arith}
use Rattle.spec.specs.Lists.{every}
use Rattle.spec.specs.Node.Wire.{entry_in_domain}
use Rattle.log_domain.proofs.InMessage.{entries_start, entries_all, entries_first, entry-op, entries_rest, domain_first, domain_rest}
use Rattle.log_arrive.proofs.Batch.{on_begin, on_turn, on-done}
use Rattle.log_arrive.proofs.copy.store_all.Goals as goal

pub loop-i-init : goal.loop-i-init
loop-i-init c =
    let a = c.args in let p = c.requires in (omega arith, entries_start a.s.now a.p p.2, ap (every entry_in_domain) (entries_all a.s.now a.p) ∙ p.3, refl, on_begin a.own.0 a.s.now a.p _ p.0 p.1)

pub entry_at-e-requires : goal.entry_at-e-requires
entry_at-e-requires c =
    let l = c.loop-i in entries_first c.args.s.now c.args.p.len l.at l.i c.loop-i-test.true l.invariant.1

pub store_under-t-requires : goal.store_under-t-requires
store_under-t-requires c =
    let l = c.loop-i in
    let b = c.args.s.now in
    let n = c.args.p.len in
    let t = c.loop-i-test.true in
    (l.invariant.4.sized, l.invariant.4.well, entry-op b n l.at l.i t l.invariant.1 _ c.entry_at-e.ensures, domain_first b n l.at l.i t l.invariant.1 _ c.entry_at-e.ensures l.invariant.2)

pub loop-i-preserved : goal.loop-i-preserved
loop-i-preserved c =
    let l = c.loop-i in
    let a = c.args in
    let p = c.requires in
    let b = a.s.now in
    let n = a.p.len in
    let t = c.loop-i-test.true in
    let e = c.entry_at-e.ensures in (
      omega arith,
      entries_rest b n l.at l.i t l.invariant.1 _ e,
      domain_rest b n l.at l.i t l.invariant.1 _ e l.invariant.2,
      c.store_under-t.auto.floats ∙ l.invariant.3,
      on_turn a.own.0 b _ _ n l.at l.i p.4 t l.invariant.1 _ e _ _ _ l.invariant.4 c.store_under-t.ensures,
    )

pub shape_of-epochs : goal.shape_of-epochs
shape_of-epochs c = c.loop-i.invariant.4.sized.epochs ∙ sym c.requires.0.epochs

pub shape_of-offsets : goal.shape_of-offsets
shape_of-offsets c = c.loop-i.invariant.4.sized.offsets ∙ sym c.requires.0.offsets

pub shape_of-ids : goal.shape_of-ids
shape_of-ids c = c.loop-i.invariant.4.sized.ids ∙ sym c.requires.0.ids

pub shape_of-codes : goal.shape_of-codes
shape_of-codes c = c.loop-i.invariant.4.sized.codes ∙ sym c.requires.0.codes

pub shape_of-lengths : goal.shape_of-lengths
shape_of-lengths c = c.loop-i.invariant.4.sized.lengths ∙ sym c.requires.0.lengths

pub shape_of-floats : goal.shape_of-floats
shape_of-floats c = c.loop-i.invariant.3

pub shape_of-keys : goal.shape_of-keys
shape_of-keys c = c.loop-i.invariant.4.sized.keys ∙ sym c.requires.0.keys

pub shape_of-places : goal.shape_of-places
shape_of-places c = c.loop-i.invariant.4.sized.places ∙ sym c.requires.0.places

pub returns : goal.returns
returns c =
    let l = c.loop-i in on-done c.args.own.0 c.args.s.now _ _ c.args.p.len l.at l.i _ c.loop-i-test.false l.invariant.4
