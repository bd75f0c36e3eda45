use Rattle.std.proofs.Common.{sym, ◌∙◌}
use Rattle.image_map_loads.proofs.Rows.{lent_long}
use Rattle.test_place.proofs.counts.walked.Goals as goal

pub is_formed-requires : goal.is_formed-requires
is_formed-requires c = lent_long c.args.map.now (sym c.is_lent.ensures ∙ c.if-not-is_lent.false)

pub key_named-key-requires : goal.key_named-key-requires
key_named-key-requires c = sym c.text_fits.ensures ∙ c.if-not-text_fits.false

pub walk-w-requires : goal.walk-w-requires
walk-w-requires c =
    record { lent = sym c.is_lent.ensures ∙ c.if-not-is_lent.false; formed = sym c.is_formed.ensures ∙ c.if-not-is_formed.false }
