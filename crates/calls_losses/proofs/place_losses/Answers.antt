use native.Mathlib.Omega.{arith}
use mathlib.Core.Path.{sym, ◌∙◌, ap}
use mathlib.Core.List.{[]}
use Rattle.spec.specs.Keys.{Key}
use Rattle.spec_losses.specs.Losses.{lost, losses_of}
use Rattle.map_tables.specs.View.{view_map, view_spec}
use Rattle.image_map.specs.Image.{map_at}
use Rattle.image_map_loads.proofs.Rows.{lent_long, used_of}
use Rattle.calls_losses.proofs.Calls.{loses_unnamed, loses_unlent, loses_malformed, loses_lent, no_collection_lem, its_collection, few}
use Rattle.calls_losses.proofs.place_losses.Goals as goal

pub returns-then-not-text_fits : goal.returns-then-not-text_fits
returns-then-not-text_fits c =
    loses_unnamed c.args.map.now c.args.name.now c.args.list.now c.args.answer.now (sym c.text_fits.ensures ∙ c.if-not-text_fits.true)

pub returns-then-not-is_lent : goal.returns-then-not-is_lent
returns-then-not-is_lent c =
    loses_unlent c.args.map.now c.args.name.now c.args.list.now c.args.answer.now (sym c.text_fits.ensures ∙ c.if-not-text_fits.false) (sym c.is_lent.ensures ∙ c.if-not-is_lent.true)

pub is_formed-requires : goal.is_formed-requires
is_formed-requires c = lent_long c.args.map.now (sym c.is_lent.ensures ∙ c.if-not-is_lent.false)

pub returns-then-not-is_formed : goal.returns-then-not-is_formed
returns-then-not-is_formed c =
    loses_malformed c.args.map.now c.args.name.now c.args.list.now c.args.answer.now (sym c.text_fits.ensures ∙ c.if-not-text_fits.false) (sym c.is_lent.ensures ∙ c.if-not-is_lent.false) (sym c.is_formed.ensures ∙ c.if-not-is_formed.true)

pub key_named-key-requires : goal.key_named-key-requires
key_named-key-requires c = sym c.text_fits.ensures ∙ c.if-not-text_fits.false

pub get8-count-requires : goal.get8-count-requires
get8-count-requires c = let l = lent_long c.args.map.now (sym c.is_lent.ensures ∙ c.if-not-is_lent.false) in omega arith

pub collection_place-at-requires : goal.collection_place-at-requires
collection_place-at-requires c =
    let k = few c.args.map.now (sym c.is_formed.ensures ∙ c.if-not-is_formed.false) in let e = c.get8-count.ensures in
    (lent_long c.args.map.now (sym c.is_lent.ensures ∙ c.if-not-is_lent.false), omega arith, sym e)

pub returns-then-count-at : goal.returns-then-count-at
returns-then-count-at c =
    let a = c.args in let w = sym c.is_formed.ensures ∙ c.if-not-is_formed.false in let e = c.get8-count.ensures in let past = c.if-count-at.true in
    loses_lent a.map.now a.name.now a.list.now a.answer.now (sym c.text_fits.ensures ∙ c.if-not-text_fits.false) (lost []) _ _ _ (sym c.is_lent.ensures ∙ c.if-not-is_lent.false)
    (no_collection_lem a.map.now w a.name.now c.key_named-key.result.collection (ap (λ (x : Key). x.collection) c.key_named-key.ensures) c.collection_place-at.result c.collection_place-at.ensures (omega arith))
    c.answer_none.ensures

pub overflow_mul-at : goal.overflow_mul-at
overflow_mul-at c =
    let k = few c.args.map.now (sym c.is_formed.ensures ∙ c.if-not-is_formed.false) in let e = c.get8-count.ensures in let lt = c.if-count-at.false in omega arith

pub overflow_add-at : goal.overflow_add-at
overflow_add-at c =
    let k = few c.args.map.now (sym c.is_formed.ensures ∙ c.if-not-is_formed.false) in let e = c.get8-count.ensures in let lt = c.if-count-at.false in omega arith

pub collection_at-row-requires : goal.collection_at-row-requires
collection_at-row-requires c =
    let k = few c.args.map.now (sym c.is_formed.ensures ∙ c.if-not-is_formed.false) in let e = c.get8-count.ensures in let lt = c.if-count-at.false in let l = lent_long c.args.map.now (sym c.is_lent.ensures ∙ c.if-not-is_lent.false) in omega arith

pub answer_losses-requires : goal.answer_losses-requires
answer_losses-requires c =
    let w = sym c.is_formed.ensures ∙ c.if-not-is_formed.false in (used_of c.args.map.now (sym c.is_lent.ensures ∙ c.if-not-is_lent.false) w, w)

pub returns : goal.returns
returns c =
    let a = c.args in let w = sym c.is_formed.ensures ∙ c.if-not-is_formed.false in let e = c.get8-count.ensures in let lt = c.if-count-at.false in
    loses_lent a.map.now a.name.now a.list.now a.answer.now (sym c.text_fits.ensures ∙ c.if-not-text_fits.false) (lost (losses_of (view_map (map_at a.map.now)) (view_spec c.collection_at-row.result.spec))) _ _ _ (sym c.is_lent.ensures ∙ c.if-not-is_lent.false)
    (its_collection a.map.now w a.name.now c.key_named-key.result.collection (ap (λ (x : Key). x.collection) c.key_named-key.ensures) c.collection_place-at.result c.collection_place-at.ensures c.collection_at-row.result (omega arith) c.collection_at-row.ensures)
    c.answer_losses.ensures
