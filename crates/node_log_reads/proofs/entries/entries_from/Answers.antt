use native.Mathlib.Omega.{arith}
use mathlib.Core.Path.{sym, ◌∙◌}
use Rattle.log_calls.proofs.FitLaws.{fits-sized, fits-well}
use Rattle.node_send.proofs.Entry.{sendable}
use Rattle.node_log_reads.proofs.EntryLaws.{name-short, from_unnamed, from_malformed, from-many, from-written}
use Rattle.node_log_reads.proofs.entries.entries_from.Goals as goal

pub returns-then-not-text_fits : goal.returns-then-not-text_fits
returns-then-not-text_fits c = from_unnamed _ _ _ _ _ _ _ (sym c.text_fits.ensures ∙ c.if-not-text_fits.true)

pub returns-then-not-lent_fits : goal.returns-then-not-lent_fits
returns-then-not-lent_fits c =
    from_malformed _ _ _ _ _ _ _ (sym c.text_fits.ensures ∙ c.if-not-text_fits.false)
    (sym c.lent_fits.ensures ∙ c.if-not-lent_fits.true)

pub returns-then-n-gt256 : goal.returns-then-n-gt256
returns-then-n-gt256 c =
    from-many _ _ _ _ _ _ _ (sym c.text_fits.ensures ∙ c.if-not-text_fits.false)
    (sym c.lent_fits.ensures ∙ c.if-not-lent_fits.false) _ _ c.place_of-from.ensures c.up_to-n.ensures (omega arith)

pub entries_from-requires : goal.entries_from-requires
entries_from-requires c =
    let f = sym c.lent_fits.ensures ∙ c.if-not-lent_fits.false in
    (sendable _ (fits-sized _ f) (fits-well _ f), omega arith, name-short _ (sym c.text_fits.ensures ∙ c.if-not-text_fits.false))

pub returns : goal.returns
returns c =
    from-written _ _ _ _ _ _ _ (sym c.text_fits.ensures ∙ c.if-not-text_fits.false)
    (sym c.lent_fits.ensures ∙ c.if-not-lent_fits.false) _ _ c.place_of-from.ensures c.up_to-n.ensures (omega arith) _ _ c.entries_from.ensures
