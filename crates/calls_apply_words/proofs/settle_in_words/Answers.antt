use mathlib.Core.Bool.{true, false}
use Rattle.calls_apply_words.proofs.Words.{as_told, short_way, refused_way, no_room_way, told_way}
use Rattle.calls_apply_words.proofs.settle_in_words.Goals as goal

pub decided-d-requires : goal.decided-d-requires
decided-d-requires c = c.requires

pub returns-then-text-words : goal.returns-then-text-words
returns-then-text-words c =
    short_way c.args.map.now c.args.r c.args.text.now c.args.answer.now c.decided-d.result.verdict c.text_of-words.result c.decided-d.ensures.answer c.text_of-words.ensures c.if-text-words.true

pub returns-then-number-gt16 : goal.returns-then-number-gt16
returns-then-number-gt16 c =
    refused_way c.args.map.now c.args.r c.args.text.now c.args.answer.now c.decided-d.result.verdict c.text_of-words.result c.decided-d.ensures.answer c.text_of-words.ensures c.if-text-words.false c.verdict_number-number.result c.verdict_number-number.ensures c.if-number-gt16.true

pub tell-requires : goal.tell-requires
tell-requires c = (c.text_of-words.ensures.within, c.if-text-words.false)

pub returns-then-not-tell : goal.returns-then-not-tell
returns-then-not-tell c =
    no_room_way c.args.map.now c.args.r c.args.text.now c.args.answer.now c.decided-d.result.verdict c.text_of-words.result c.decided-d.ensures.answer c.text_of-words.ensures c.if-text-words.false c.verdict_number-number.result c.verdict_number-number.ensures c.if-number-gt16.false _ _ (as_told (c.if-not-tell.true) c.tell.ensures)

pub carry_out-requires : goal.carry_out-requires
carry_out-requires c = (c.requires, c.decided-d.ensures)

pub returns : goal.returns
returns c =
    told_way c.args.map.now c.args.r c.args.text.now c.args.answer.now c.decided-d.result.verdict c.text_of-words.result c.decided-d.ensures.answer c.text_of-words.ensures c.if-text-words.false c.verdict_number-number.result c.verdict_number-number.ensures c.if-number-gt16.false _ _ _ _ (as_told (c.if-not-tell.false) c.tell.ensures) c.carry_out.ensures
