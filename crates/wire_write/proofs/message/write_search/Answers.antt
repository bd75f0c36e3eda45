use mathlib.Core.Path.{sym, ◌∙◌}
use native.Mathlib.Omega.{arith}
use lib.ListN.{length}
use lib.Seq.{sets}
use Rattle.spec.specs.Lists.{◌and◌}
use Rattle.spec.specs.Layout.Format.{◌▸◌}
use Rattle.spec.specs.Layout.Parts.{u32, vector_f}
use Rattle.spec_laws.proofs.Wire.Tests.{and_intro}
use Rattle.wire_write.specs.Written.{text_fits, count_fits, search_given}
use Rattle.wire_write.proofs.Writes.{length-words, unfit, short, wrote, text-short, head_bytes, message-length, message-put, no_first, no_second, fits_count, search_put}
use Rattle.spec.specs.Layout.Message.{encode_search}
use Rattle.wire_write.proofs.message.write_search.Goals as goal

pub returns-then-not-text_fits : goal.returns-then-not-text_fits
returns-then-not-text_fits c =
    unfit (encode_search (search_given c.args.name.now c.args.shard c.args.epoch c.args.k c.args.bits.now)) c.args.out.now ((text_fits 32 c.args.name.now) and count_fits 1 32 (length c.args.bits.now)) (no_first _ _ (sym c.text_fits.ensures ∙ c.if-not-text_fits.true))

pub returns-then-not-count_fits : goal.returns-then-not-count_fits
returns-then-not-count_fits c =
    unfit (encode_search (search_given c.args.name.now c.args.shard c.args.epoch c.args.k c.args.bits.now)) c.args.out.now ((text_fits 32 c.args.name.now) and count_fits 1 32 (length c.args.bits.now)) (no_second _ _ (sym c.count_fits.ensures ∙ c.if-not-count_fits.true))

pub returns-then-out-size : goal.returns-then-out-size
unfolding encode_search
returns-then-out-size c =
    short (encode_search (search_given c.args.name.now c.args.shard c.args.epoch c.args.k c.args.bits.now)) c.args.out.now ((text_fits 32 c.args.name.now) and count_fits 1 32 (length c.args.bits.now)) (and_intro (sym c.text_fits.ensures ∙ c.if-not-text_fits.false) (sym c.count_fits.ensures ∙ c.if-not-count_fits.false)) (omega (arith, message-length 0x24 c.args.name.now c.args.shard c.args.epoch.0 (u32 ▸ vector_f) ((c.args.k, c.args.bits.now)) (text-short 32 c.args.name.now (sym c.text_fits.ensures ∙ c.if-not-text_fits.false)), length-words 4 c.args.bits.now))

pub put_head-requires : goal.put_head-requires
put_head-requires c = (omega arith, (text-short 32 c.args.name.now (sym c.text_fits.ensures ∙ c.if-not-text_fits.false)))

pub overflow_cast-n : goal.overflow_cast-n
overflow_cast-n c =
    omega (arith, fits_count 1 32 (length c.args.bits.now) (sym c.count_fits.ensures ∙ c.if-not-count_fits.false))

pub put_words4-requires : goal.put_words4-requires
put_words4-requires c =
    (omega (arith, fits_count 1 32 (length c.args.bits.now) (sym c.count_fits.ensures ∙ c.if-not-count_fits.false)), omega (arith, fits_count 1 32 (length c.args.bits.now) (sym c.count_fits.ensures ∙ c.if-not-count_fits.false)))

pub returns : goal.returns
unfolding encode_search
returns c =
    wrote (encode_search (search_given c.args.name.now c.args.shard c.args.epoch c.args.k c.args.bits.now)) c.args.out.now ((text_fits 32 c.args.name.now) and count_fits 1 32 (length c.args.bits.now)) _ _ (and_intro (sym c.text_fits.ensures ∙ c.if-not-text_fits.false) (sym c.count_fits.ensures ∙ c.if-not-count_fits.false)) (omega (arith, message-length 0x24 c.args.name.now c.args.shard c.args.epoch.0 (u32 ▸ vector_f) ((c.args.k, c.args.bits.now)) (text-short 32 c.args.name.now (sym c.text_fits.ensures ∙ c.if-not-text_fits.false)), length-words 4 c.args.bits.now)) (omega (arith, message-length 0x24 c.args.name.now c.args.shard c.args.epoch.0 (u32 ▸ vector_f) ((c.args.k, c.args.bits.now)) (text-short 32 c.args.name.now (sym c.text_fits.ensures ∙ c.if-not-text_fits.false)), length-words 4 c.args.bits.now))
    (c.put_words4.ensures ∙ (rw (c.put_byte.ensures, c.put4.ensures, c.put_head.ensures) (search_put (sets c.args.out.now 0 (head_bytes 0x24 c.args.name.now c.args.shard c.args.epoch.0)) c.args.k c.args.bits.now (fits_count 1 32 (length c.args.bits.now) (sym c.count_fits.ensures ∙ c.if-not-count_fits.false)) ∙ message-put 0x24 c.args.name.now c.args.shard c.args.epoch.0 (u32 ▸ vector_f) ((c.args.k, c.args.bits.now)) c.args.out.now (text-short 32 c.args.name.now (sym c.text_fits.ensures ∙ c.if-not-text_fits.false)))))
