use native.Mathlib.Omega.{arith}
use Rattle.log_store.specs.Store.{lent}
use Rattle.log_store.specs.View.{columns}
use Rattle.log_check.proofs.Fitting.{not_well, entries_fail, offsets_of, table_decides}
use Rattle.log_check.proofs.well_formed.Goals as goal

pub returns-then-count-gt1024 : goal.returns-then-count-gt1024
returns-then-count-gt1024 c = not_well _ (λ f. omega (arith, f.count, c.if-count-gt1024.true))

pub returns-then-stored-gt1024 : goal.returns-then-stored-gt1024
returns-then-stored-gt1024 c = not_well _ (λ f. omega (arith, f.stored, c.if-stored-gt1024.true))

pub returns-then-floats-lt32768 : goal.returns-then-floats-lt32768
returns-then-floats-lt32768 c = not_well _ (λ f. omega (arith, f.floats, c.if-floats-lt32768.true))

pub entries_fit-requires : goal.entries_fit-requires
entries_fit-requires c =
    let z = c.requires in (c.if-count-gt1024.false, z.offsets, z.codes, z.lengths, c.if-floats-lt32768.false)

pub returns-then-not-entries_fit : goal.returns-then-not-entries_fit
returns-then-not-entries_fit c =
    let a = c.args in entries_fail (lent (columns a.epochs.now a.offsets.now a.ids.now a.codes.now a.lengths.now a.floats.now) a.keys.now a.places.now a.count a.stored) _ (c.entries_fit.ensures a.epochs.now a.ids.now) (c.if-not-entries_fit.true)

pub table_played-requires : goal.table_played-requires
table_played-requires c =
    let z = c.requires in
    let a = c.args in (
      c.if-count-gt1024.false,
      c.if-stored-gt1024.false,
      z.ids,
      z.codes,
      z.keys,
      z.places,
      offsets_of
          (lent (columns a.epochs.now a.offsets.now a.ids.now a.codes.now a.lengths.now a.floats.now) a.keys.now a.places.now a.count a.stored)
          _ (c.entries_fit.ensures a.epochs.now a.ids.now) (c.if-not-entries_fit.false),
    )

pub returns : goal.returns
returns c =
    let a = c.args in
    table_decides (lent (columns a.epochs.now a.offsets.now a.ids.now a.codes.now a.lengths.now a.floats.now) a.keys.now a.places.now a.count a.stored) c.if-count-gt1024.false c.if-stored-gt1024.false c.if-floats-lt32768.false _ (c.entries_fit.ensures a.epochs.now a.ids.now)
    (c.if-not-entries_fit.false) _ c.table_played.ensures
