use mathlib.Core.Path.{sym, ◌∙◌}
use Rattle.map_place.specs.Answers.{replaced_of}
use Rattle.calls_map.proofs.Places.{replace_unnamed, replace_unlent, replace_malformed, replace-lent}
use Rattle.image_map_loads.proofs.Rows.{lent_long, used_of}
use Rattle.calls_place.proofs.replacement.Goals as goal

pub returns-then-not-text_fits : goal.returns-then-not-text_fits
returns-then-not-text_fits c =
    replace_unnamed c.args.map.now c.args.name.now c.args.shard c.args.answer.now (sym c.text_fits.ensures ∙ c.if-not-text_fits.true)

pub returns-then-not-is_lent : goal.returns-then-not-is_lent
returns-then-not-is_lent c =
    replace_unlent c.args.map.now c.args.name.now c.args.shard c.args.answer.now (sym c.text_fits.ensures ∙ c.if-not-text_fits.false) (sym c.is_lent.ensures ∙ c.if-not-is_lent.true)

pub key_named-key-requires : goal.key_named-key-requires
key_named-key-requires c = sym c.text_fits.ensures ∙ c.if-not-text_fits.false

pub is_formed-requires : goal.is_formed-requires
is_formed-requires c = lent_long c.args.map.now (sym c.is_lent.ensures ∙ c.if-not-is_lent.false)

pub returns-then-not-is_formed : goal.returns-then-not-is_formed
returns-then-not-is_formed c =
    replace_malformed c.args.map.now c.args.name.now c.args.shard c.args.answer.now (sym c.text_fits.ensures ∙ c.if-not-text_fits.false) c.key_named-key.result (sym c.is_lent.ensures ∙ c.if-not-is_lent.false) c.key_named-key.ensures (sym c.is_formed.ensures ∙ c.if-not-is_formed.true)

pub replacement_of-found-requires : goal.replacement_of-found-requires
replacement_of-found-requires c =
    let w = sym c.is_formed.ensures ∙ c.if-not-is_formed.false in (used_of c.args.map.now (sym c.is_lent.ensures ∙ c.if-not-is_lent.false) w, w)

pub returns : goal.returns
returns c =
    replace-lent c.args.map.now c.args.name.now c.args.shard c.args.answer.now (sym c.text_fits.ensures ∙ c.if-not-text_fits.false) c.key_named-key.result (replaced_of c.replacement_of-found.result) _ _ (sym c.is_lent.ensures ∙ c.if-not-is_lent.false) c.key_named-key.ensures c.replacement_of-found.ensures c.answer_node.ensures
