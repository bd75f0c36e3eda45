use mathlib.Core.Path.{refl, sym, ◌∙◌, ap}
use Rattle.image_map_loads.proofs.Rows.{lent_long}
use Rattle.spec.specs.Keys.{Key}
use Rattle.calls_count.specs.Calls.{spec_given}
use Rattle.calls_count.proofs.AnswerLaws.{unnamed, broken, unlent, lent}
use Rattle.calls_count.proofs.count_placements.Goals as goal

pub returns-then-not-text_fits : goal.returns-then-not-text_fits
returns-then-not-text_fits c =
    unnamed c.args.map.now c.args.name.now (spec_given c.args.dimension c.args.shards c.args.replication) c.args.ids.now c.args.lists c.args.nodes c.args.counts.now (sym c.text_fits.ensures ∙ c.if-not-text_fits.true)

pub returns-then-ids-ne0 : goal.returns-then-ids-ne0
returns-then-ids-ne0 c =
    broken c.args.map.now c.args.name.now (spec_given c.args.dimension c.args.shards c.args.replication) c.args.ids.now c.args.lists c.args.nodes c.args.counts.now (sym c.text_fits.ensures ∙ c.if-not-text_fits.false) c.if-ids-ne0.true

pub returns-then-not-is_lent : goal.returns-then-not-is_lent
returns-then-not-is_lent c =
    unlent c.args.map.now c.args.name.now (spec_given c.args.dimension c.args.shards c.args.replication) c.args.ids.now c.args.lists c.args.nodes c.args.counts.now (sym c.text_fits.ensures ∙ c.if-not-text_fits.false) c.if-ids-ne0.false (sym c.is_lent.ensures ∙ c.if-not-is_lent.true)

pub key_named-key-requires : goal.key_named-key-requires
key_named-key-requires c = (sym c.text_fits.ensures ∙ c.if-not-text_fits.false)

pub count_placements-counted-requires : goal.count_placements-counted-requires
count_placements-counted-requires c = lent_long c.args.map.now (sym c.is_lent.ensures ∙ c.if-not-is_lent.false)

pub returns : goal.returns
returns c =
    lent c.args.map.now c.args.name.now (spec_given c.args.dimension c.args.shards c.args.replication) c.args.ids.now c.args.lists c.args.nodes c.args.counts.now (sym c.text_fits.ensures ∙ c.if-not-text_fits.false) c.if-ids-ne0.false c.key_named-key.result.collection _ c.load_ids-set.result _ _ _ (sym c.is_lent.ensures ∙ c.if-not-is_lent.false) (ap (λ (k : Key). k.collection) c.key_named-key.ensures) refl c.load_ids-set.ensures c.count_placements-counted.ensures c.answer_counts.ensures
