use mathlib.Core.Path.{sym, ◌∙◌}
use native.Mathlib.Omega.{arith}
use lib.Seq.{sets}
use Rattle.spec.specs.Lists.{◌and◌}
use Rattle.spec.specs.Layout.Parts.{entries_f, entry_value}
use Rattle.spec_laws.proofs.Wire.Tests.{and_intro}
use Rattle.wire_write.specs.Written.{text_fits, count_fits}
use Rattle.wire_write.proofs.Writes.{unfit, short, wrote, text-short, fits_count, head_bytes, message-length, message-put, no_first, no_second}
use mathlib.Core.List.{map}
use Rattle.spec.specs.Layout.Message.{encode_copy_shard}
use Rattle.wire_put.specs.Rows.{rows_fit, rows_given, long_enough, copy_given}
use Rattle.wire_put.proofs.Rows.{long, copy_put, copy_length, long_bits}
use Rattle.wire_write.proofs.copy.write_copy_shard.Goals as goal

pub returns-then-not-text_fits : goal.returns-then-not-text_fits
returns-then-not-text_fits c =
    unfit (encode_copy_shard (copy_given c.args.epochs.now c.args.offsets.now c.args.codes.now c.args.ids.now c.args.lens.now c.args.bits.now c.args.name.now c.args.shard c.args.epoch c.args.n)) c.args.out.now (text_fits 32 c.args.name.now and (count_fits 0 256 c.args.n and (long_enough c.args.epochs.now c.args.offsets.now c.args.codes.now c.args.ids.now c.args.lens.now c.args.bits.now c.args.n and rows_fit c.args.codes.now c.args.lens.now c.args.n 0))) (no_first _ _ (sym c.text_fits.ensures ∙ c.if-not-text_fits.true))

pub returns-then-not-count_fits : goal.returns-then-not-count_fits
returns-then-not-count_fits c =
    unfit (encode_copy_shard (copy_given c.args.epochs.now c.args.offsets.now c.args.codes.now c.args.ids.now c.args.lens.now c.args.bits.now c.args.name.now c.args.shard c.args.epoch c.args.n)) c.args.out.now (text_fits 32 c.args.name.now and (count_fits 0 256 c.args.n and (long_enough c.args.epochs.now c.args.offsets.now c.args.codes.now c.args.ids.now c.args.lens.now c.args.bits.now c.args.n and rows_fit c.args.codes.now c.args.lens.now c.args.n 0))) (no_second _ _ (no_first _ _ (sym c.count_fits.ensures ∙ c.if-not-count_fits.true)))

pub long_enough-requires : goal.long_enough-requires
long_enough-requires c = fits_count 0 256 c.args.n (sym c.count_fits.ensures ∙ c.if-not-count_fits.false)

pub returns-then-not-long_enough : goal.returns-then-not-long_enough
returns-then-not-long_enough c =
    unfit (encode_copy_shard (copy_given c.args.epochs.now c.args.offsets.now c.args.codes.now c.args.ids.now c.args.lens.now c.args.bits.now c.args.name.now c.args.shard c.args.epoch c.args.n)) c.args.out.now (text_fits 32 c.args.name.now and (count_fits 0 256 c.args.n and (long_enough c.args.epochs.now c.args.offsets.now c.args.codes.now c.args.ids.now c.args.lens.now c.args.bits.now c.args.n and rows_fit c.args.codes.now c.args.lens.now c.args.n 0))) (no_second _ _ (no_second _ _ (no_first _ _ (sym c.long_enough.ensures ∙ c.if-not-long_enough.true))))

pub rows_fit-requires : goal.rows_fit-requires
rows_fit-requires c =
    let g = long c.args.epochs.now c.args.offsets.now c.args.codes.now c.args.ids.now c.args.lens.now c.args.bits.now c.args.n (sym c.long_enough.ensures ∙ c.if-not-long_enough.false) in
    (g.codes, g.lens)

pub returns-then-not-rows_fit : goal.returns-then-not-rows_fit
returns-then-not-rows_fit c =
    unfit (encode_copy_shard (copy_given c.args.epochs.now c.args.offsets.now c.args.codes.now c.args.ids.now c.args.lens.now c.args.bits.now c.args.name.now c.args.shard c.args.epoch c.args.n)) c.args.out.now (text_fits 32 c.args.name.now and (count_fits 0 256 c.args.n and (long_enough c.args.epochs.now c.args.offsets.now c.args.codes.now c.args.ids.now c.args.lens.now c.args.bits.now c.args.n and rows_fit c.args.codes.now c.args.lens.now c.args.n 0))) (no_second _ _ (no_second _ _ (no_second _ _ (sym c.rows_fit.ensures ∙ c.if-not-rows_fit.true))))

pub rows_size-rows-requires : goal.rows_size-rows-requires
rows_size-rows-requires c =
    let g = long c.args.epochs.now c.args.offsets.now c.args.codes.now c.args.ids.now c.args.lens.now c.args.bits.now c.args.n (sym c.long_enough.ensures ∙ c.if-not-long_enough.false) in
    (g.codes, g.lens, fits_count 0 256 c.args.n (sym c.count_fits.ensures ∙ c.if-not-count_fits.false), (sym c.rows_fit.ensures ∙ c.if-not-rows_fit.false))

pub returns-then-out-lt48 : goal.returns-then-out-lt48
unfolding encode_copy_shard
returns-then-out-lt48 c =
    short (encode_copy_shard (copy_given c.args.epochs.now c.args.offsets.now c.args.codes.now c.args.ids.now c.args.lens.now c.args.bits.now c.args.name.now c.args.shard c.args.epoch c.args.n)) c.args.out.now (text_fits 32 c.args.name.now and (count_fits 0 256 c.args.n and (long_enough c.args.epochs.now c.args.offsets.now c.args.codes.now c.args.ids.now c.args.lens.now c.args.bits.now c.args.n and rows_fit c.args.codes.now c.args.lens.now c.args.n 0))) (and_intro (sym c.text_fits.ensures ∙ c.if-not-text_fits.false) (and_intro (sym c.count_fits.ensures ∙ c.if-not-count_fits.false) (and_intro (sym c.long_enough.ensures ∙ c.if-not-long_enough.false) (sym c.rows_fit.ensures ∙ c.if-not-rows_fit.false)))) (omega (arith, message-length 0x22 c.args.name.now c.args.shard c.args.epoch.0 entries_f (map entry_value (rows_given c.args.epochs.now c.args.offsets.now c.args.codes.now c.args.ids.now c.args.lens.now c.args.bits.now c.args.n 0)) (text-short 32 c.args.name.now (sym c.text_fits.ensures ∙ c.if-not-text_fits.false)), copy_length c.args.epochs.now c.args.offsets.now c.args.codes.now c.args.ids.now c.args.lens.now c.args.bits.now c.args.n (sym c.rows_fit.ensures ∙ c.if-not-rows_fit.false) (long_bits c.args.epochs.now c.args.offsets.now c.args.codes.now c.args.ids.now c.args.lens.now c.args.bits.now c.args.n (sym c.long_enough.ensures ∙ c.if-not-long_enough.false))))

pub returns-then-out-rows : goal.returns-then-out-rows
unfolding encode_copy_shard
returns-then-out-rows c =
    short (encode_copy_shard (copy_given c.args.epochs.now c.args.offsets.now c.args.codes.now c.args.ids.now c.args.lens.now c.args.bits.now c.args.name.now c.args.shard c.args.epoch c.args.n)) c.args.out.now (text_fits 32 c.args.name.now and (count_fits 0 256 c.args.n and (long_enough c.args.epochs.now c.args.offsets.now c.args.codes.now c.args.ids.now c.args.lens.now c.args.bits.now c.args.n and rows_fit c.args.codes.now c.args.lens.now c.args.n 0))) (and_intro (sym c.text_fits.ensures ∙ c.if-not-text_fits.false) (and_intro (sym c.count_fits.ensures ∙ c.if-not-count_fits.false) (and_intro (sym c.long_enough.ensures ∙ c.if-not-long_enough.false) (sym c.rows_fit.ensures ∙ c.if-not-rows_fit.false)))) (omega (arith, message-length 0x22 c.args.name.now c.args.shard c.args.epoch.0 entries_f (map entry_value (rows_given c.args.epochs.now c.args.offsets.now c.args.codes.now c.args.ids.now c.args.lens.now c.args.bits.now c.args.n 0)) (text-short 32 c.args.name.now (sym c.text_fits.ensures ∙ c.if-not-text_fits.false)), copy_length c.args.epochs.now c.args.offsets.now c.args.codes.now c.args.ids.now c.args.lens.now c.args.bits.now c.args.n (sym c.rows_fit.ensures ∙ c.if-not-rows_fit.false) (long_bits c.args.epochs.now c.args.offsets.now c.args.codes.now c.args.ids.now c.args.lens.now c.args.bits.now c.args.n (sym c.long_enough.ensures ∙ c.if-not-long_enough.false)), c.rows_size-rows.ensures))

pub put_head-requires : goal.put_head-requires
put_head-requires c = (omega arith, (text-short 32 c.args.name.now (sym c.text_fits.ensures ∙ c.if-not-text_fits.false)))

pub overflow_cast-n : goal.overflow_cast-n
overflow_cast-n c = omega (arith, fits_count 0 256 c.args.n (sym c.count_fits.ensures ∙ c.if-not-count_fits.false))

pub put_rows-requires : goal.put_rows-requires
put_rows-requires c =
    (omega (arith, c.rows_size-rows.ensures), (sym c.long_enough.ensures ∙ c.if-not-long_enough.false), (sym c.rows_fit.ensures ∙ c.if-not-rows_fit.false), fits_count 0 256 c.args.n (sym c.count_fits.ensures ∙ c.if-not-count_fits.false))

pub returns : goal.returns
unfolding encode_copy_shard
returns c =
    wrote (encode_copy_shard (copy_given c.args.epochs.now c.args.offsets.now c.args.codes.now c.args.ids.now c.args.lens.now c.args.bits.now c.args.name.now c.args.shard c.args.epoch c.args.n)) c.args.out.now (text_fits 32 c.args.name.now and (count_fits 0 256 c.args.n and (long_enough c.args.epochs.now c.args.offsets.now c.args.codes.now c.args.ids.now c.args.lens.now c.args.bits.now c.args.n and rows_fit c.args.codes.now c.args.lens.now c.args.n 0))) _ _ (and_intro (sym c.text_fits.ensures ∙ c.if-not-text_fits.false) (and_intro (sym c.count_fits.ensures ∙ c.if-not-count_fits.false) (and_intro (sym c.long_enough.ensures ∙ c.if-not-long_enough.false) (sym c.rows_fit.ensures ∙ c.if-not-rows_fit.false)))) (omega (arith, message-length 0x22 c.args.name.now c.args.shard c.args.epoch.0 entries_f (map entry_value (rows_given c.args.epochs.now c.args.offsets.now c.args.codes.now c.args.ids.now c.args.lens.now c.args.bits.now c.args.n 0)) (text-short 32 c.args.name.now (sym c.text_fits.ensures ∙ c.if-not-text_fits.false)), copy_length c.args.epochs.now c.args.offsets.now c.args.codes.now c.args.ids.now c.args.lens.now c.args.bits.now c.args.n (sym c.rows_fit.ensures ∙ c.if-not-rows_fit.false) (long_bits c.args.epochs.now c.args.offsets.now c.args.codes.now c.args.ids.now c.args.lens.now c.args.bits.now c.args.n (sym c.long_enough.ensures ∙ c.if-not-long_enough.false)), c.rows_size-rows.ensures)) (omega (arith, message-length 0x22 c.args.name.now c.args.shard c.args.epoch.0 entries_f (map entry_value (rows_given c.args.epochs.now c.args.offsets.now c.args.codes.now c.args.ids.now c.args.lens.now c.args.bits.now c.args.n 0)) (text-short 32 c.args.name.now (sym c.text_fits.ensures ∙ c.if-not-text_fits.false)), copy_length c.args.epochs.now c.args.offsets.now c.args.codes.now c.args.ids.now c.args.lens.now c.args.bits.now c.args.n (sym c.rows_fit.ensures ∙ c.if-not-rows_fit.false) (long_bits c.args.epochs.now c.args.offsets.now c.args.codes.now c.args.ids.now c.args.lens.now c.args.bits.now c.args.n (sym c.long_enough.ensures ∙ c.if-not-long_enough.false)), c.rows_size-rows.ensures))
    (c.put_rows.ensures ∙ (rw (c.put2.ensures, c.put_head.ensures) (copy_put c.args.epochs.now c.args.offsets.now c.args.codes.now c.args.ids.now c.args.lens.now c.args.bits.now (sets c.args.out.now 0 (head_bytes 0x22 c.args.name.now c.args.shard c.args.epoch.0)) c.args.n ∙ message-put 0x22 c.args.name.now c.args.shard c.args.epoch.0 entries_f (map entry_value (rows_given c.args.epochs.now c.args.offsets.now c.args.codes.now c.args.ids.now c.args.lens.now c.args.bits.now c.args.n 0)) c.args.out.now (text-short 32 c.args.name.now (sym c.text_fits.ensures ∙ c.if-not-text_fits.false)))))
