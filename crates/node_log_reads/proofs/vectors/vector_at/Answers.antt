use native.Mathlib.Omega.{arith}
use mathlib.Core.Path.{sym, ◌∙◌}
use Rattle.log_store.proofs.Facts.{facts}
use Rattle.log_store.proofs.Tabled.{here}
use Rattle.log_calls.proofs.FitLaws.{fits-sized, fits-well}
use Rattle.node_log_reads.proofs.VectorLaws.{stands_malformed, stands_at_lem, stands_missing}
use Rattle.node_log_reads.proofs.vectors.vector_at.Goals as goal

pub returns-then-not-lent_fits : goal.returns-then-not-lent_fits
returns-then-not-lent_fits c = stands_malformed _ _ (sym c.lent_fits.ensures ∙ c.if-not-lent_fits.true)

pub place-at-requires : goal.place-at-requires
place-at-requires c =
    let f = sym c.lent_fits.ensures ∙ c.if-not-lent_fits.false in
    let w = facts _ (fits-well _ f) in
    omega (arith, (fits-sized _ f).keys, w.stored)

pub is_at-requires : goal.is_at-requires
is_at-requires c =
    let f = sym c.lent_fits.ensures ∙ c.if-not-lent_fits.false in
    let w = facts _ (fits-well _ f) in
    omega (arith, (fits-sized _ f).keys, w.stored)

pub offset_bounds-places-at : goal.offset_bounds-places-at
offset_bounds-places-at c =
    let f = sym c.lent_fits.ensures ∙ c.if-not-lent_fits.false in
    let w = facts _ (fits-well _ f) in
    let a = c.args in
    let h = here c.place-at.result a.stored _ a.id c.is_at.result c.is_at.ensures c.if-is_at.true in
    omega (arith, h.0, (fits-sized _ f).places, w.stored)

pub bounds-places-at : goal.bounds-places-at
bounds-places-at c =
    let f = sym c.lent_fits.ensures ∙ c.if-not-lent_fits.false in
    let w = facts _ (fits-well _ f) in
    let a = c.args in
    let h = here c.place-at.result a.stored _ a.id c.is_at.result c.is_at.ensures c.if-is_at.true in
    omega (arith, h.0, (fits-sized _ f).places, w.stored)

pub returns-then-is_at : goal.returns-then-is_at
returns-then-is_at c =
    stands_at_lem _ _ (sym c.lent_fits.ensures ∙ c.if-not-lent_fits.false) _ c.place-at.ensures.0 _ c.is_at.ensures
    c.if-is_at.true

pub returns : goal.returns
returns c =
    stands_missing _ _ (sym c.lent_fits.ensures ∙ c.if-not-lent_fits.false) _ c.place-at.ensures.0 _ c.is_at.ensures
    c.if-is_at.false
