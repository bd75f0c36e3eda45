use native.Mathlib.Omega.{arith}
use mathlib.Core.Path.{sym, ◌∙◌}
use Rattle.log_store.proofs.Facts.{facts}
use Rattle.log_calls.proofs.FitLaws.{fits-sized, fits-well}
use Rattle.node_log_reads.proofs.EndLaws.{ends_malformed, ends-short, ends-told}
use Rattle.node_log_reads.proofs.ends.epoch_ends.Goals as goal

pub returns-then-not-lent_fits : goal.returns-then-not-lent_fits
returns-then-not-lent_fits c = ends_malformed _ _ _ (sym c.lent_fits.ensures ∙ c.if-not-lent_fits.true)

pub epoch_ends-n-requires : goal.epoch_ends-n-requires
epoch_ends-n-requires c =
    let f = sym c.lent_fits.ensures ∙ c.if-not-lent_fits.false in
    let z = fits-sized _ f in
    let w = facts _ (fits-well _ f) in
    (omega (arith, z.epochs, w.count), omega (arith, z.offsets, w.count), omega (arith, w.count), omega (arith, w.count))

pub returns-then-froms-n : goal.returns-then-froms-n
returns-then-froms-n c =
    let a = c.args in
    let f = sym c.lent_fits.ensures ∙ c.if-not-lent_fits.false in
    let e = c.epoch_ends-n.ensures in
    let w = facts _ (fits-well _ f) in
    ends-short _ _ _ f _ _ _ (omega (arith, w.count, e.0)) (omega (arith, w.count, e.0)) (e.1 a.ids.now a.codes.now a.lengths.now a.floats.now) (omega arith)

pub returns-then-ends-n : goal.returns-then-ends-n
returns-then-ends-n c =
    let a = c.args in
    let f = sym c.lent_fits.ensures ∙ c.if-not-lent_fits.false in
    let e = c.epoch_ends-n.ensures in
    let w = facts _ (fits-well _ f) in
    ends-short _ _ _ f _ _ _ (omega (arith, w.count, e.0)) (omega (arith, w.count, e.0)) (e.1 a.ids.now a.codes.now a.lengths.now a.floats.now) (omega arith)

pub copy_first-requires : goal.copy_first-requires
copy_first-requires c =
    let w = facts _ (fits-well _ (sym c.lent_fits.ensures ∙ c.if-not-lent_fits.false)) in
    (omega arith, omega (arith, w.count, c.epoch_ends-n.ensures.0))

pub copy_first-requires-2 : goal.copy_first-requires-2
copy_first-requires-2 c =
    let w = facts _ (fits-well _ (sym c.lent_fits.ensures ∙ c.if-not-lent_fits.false)) in
    (omega arith, omega (arith, w.count, c.epoch_ends-n.ensures.0))

pub returns : goal.returns
returns c =
    let a = c.args in
    let f = sym c.lent_fits.ensures ∙ c.if-not-lent_fits.false in
    let e = c.epoch_ends-n.ensures in
    let w = facts _ (fits-well _ f) in
    ends-told _ _ _ f _ _ _ (omega (arith, w.count, e.0)) (omega (arith, w.count, e.0)) (e.1 a.ids.now a.codes.now a.lengths.now a.floats.now)
    (omega arith) (omega arith) _ _ c.copy_first.ensures c.copy_first-2.ensures
