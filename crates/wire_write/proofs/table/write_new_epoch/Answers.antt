use mathlib.Core.Path.{sym, ◌∙◌}
use native.Mathlib.Omega.{arith}
use lib.ListN.{length}
use lib.Seq.{sets}
use lib.Dec.{eqb}
use borrow.Author.Tests.{eq-eqb, ne_eqb}
use Rattle.spec.specs.Lists.{◌and◌}
use Rattle.spec.specs.Layout.Format.{◌▸◌}
use Rattle.spec.specs.Layout.Parts.{u64, metric_f, table_f, metric_code, end_value}
use Rattle.spec_laws.proofs.Wire.Tests.{and_intro}
use Rattle.wire_write.specs.Written.{text_fits, count_fits}
use Rattle.wire_write.proofs.Writes.{unfit, short, wrote, text-short, fits_count, head_bytes, message-length, message-put, no_first, no_second}
use Rattle.spec.specs.Layout.Message.{encode_new_epoch}
use Rattle.wire_put.specs.Tables.{ends_given, new_epoch_given}
use Rattle.wire_put.proofs.Pairs.{new_epoch_put, new_epoch_length}
use mathlib.Core.List.{map}
use Rattle.wire_write.proofs.table.write_new_epoch.Goals as goal

pub returns-then-not-text_fits : goal.returns-then-not-text_fits
returns-then-not-text_fits c =
    unfit (encode_new_epoch (new_epoch_given c.args.name.now c.args.shard c.args.epoch c.args.end c.args.epochs.now c.args.ends.now c.args.metric)) c.args.out.now (text_fits 32 c.args.name.now and (eqb (length c.args.epochs.now) (length c.args.ends.now) and count_fits 0 1024 (length c.args.epochs.now))) (no_first _ _ (sym c.text_fits.ensures ∙ c.if-not-text_fits.true))

pub returns-then-n-ends : goal.returns-then-n-ends
returns-then-n-ends c =
    unfit (encode_new_epoch (new_epoch_given c.args.name.now c.args.shard c.args.epoch c.args.end c.args.epochs.now c.args.ends.now c.args.metric)) c.args.out.now (text_fits 32 c.args.name.now and (eqb (length c.args.epochs.now) (length c.args.ends.now) and count_fits 0 1024 (length c.args.epochs.now))) (no_second _ _ (no_first _ _ (ne_eqb _ _ c.if-n-ends.true)))

pub returns-then-not-count_fits : goal.returns-then-not-count_fits
returns-then-not-count_fits c =
    unfit (encode_new_epoch (new_epoch_given c.args.name.now c.args.shard c.args.epoch c.args.end c.args.epochs.now c.args.ends.now c.args.metric)) c.args.out.now (text_fits 32 c.args.name.now and (eqb (length c.args.epochs.now) (length c.args.ends.now) and count_fits 0 1024 (length c.args.epochs.now))) (no_second _ _ (no_second _ _ (sym c.count_fits.ensures ∙ c.if-not-count_fits.true)))

pub overflow_add-size : goal.overflow_add-size
overflow_add-size c =
    omega (arith, fits_count 0 1024 (length c.args.epochs.now) (sym c.count_fits.ensures ∙ c.if-not-count_fits.false))

pub returns-then-out-size : goal.returns-then-out-size
unfolding encode_new_epoch
returns-then-out-size c =
    short (encode_new_epoch (new_epoch_given c.args.name.now c.args.shard c.args.epoch c.args.end c.args.epochs.now c.args.ends.now c.args.metric)) c.args.out.now (text_fits 32 c.args.name.now and (eqb (length c.args.epochs.now) (length c.args.ends.now) and count_fits 0 1024 (length c.args.epochs.now))) (and_intro (sym c.text_fits.ensures ∙ c.if-not-text_fits.false) (and_intro (eq-eqb _ _ c.if-n-ends.false) (sym c.count_fits.ensures ∙ c.if-not-count_fits.false))) (omega (arith, message-length 0x21 c.args.name.now c.args.shard c.args.epoch.0 (u64 ▸ (table_f ▸ metric_f)) (c.args.end.0, (map end_value (ends_given c.args.epochs.now c.args.ends.now), metric_code c.args.metric)) (text-short 32 c.args.name.now (sym c.text_fits.ensures ∙ c.if-not-text_fits.false)), new_epoch_length c.args.end.0 c.args.epochs.now c.args.ends.now (metric_code c.args.metric) c.if-n-ends.false))

pub put_head-requires : goal.put_head-requires
put_head-requires c = (omega arith, (text-short 32 c.args.name.now (sym c.text_fits.ensures ∙ c.if-not-text_fits.false)))

pub overflow_cast-n : goal.overflow_cast-n
overflow_cast-n c =
    omega (arith, fits_count 0 1024 (length c.args.epochs.now) (sym c.count_fits.ensures ∙ c.if-not-count_fits.false))

pub put_ends-requires : goal.put_ends-requires
put_ends-requires c =
    (omega arith, c.if-n-ends.false, fits_count 0 1024 (length c.args.epochs.now) (sym c.count_fits.ensures ∙ c.if-not-count_fits.false))

pub returns : goal.returns
unfolding encode_new_epoch
returns c =
    wrote (encode_new_epoch (new_epoch_given c.args.name.now c.args.shard c.args.epoch c.args.end c.args.epochs.now c.args.ends.now c.args.metric)) c.args.out.now (text_fits 32 c.args.name.now and (eqb (length c.args.epochs.now) (length c.args.ends.now) and count_fits 0 1024 (length c.args.epochs.now))) _ _ (and_intro (sym c.text_fits.ensures ∙ c.if-not-text_fits.false) (and_intro (eq-eqb _ _ c.if-n-ends.false) (sym c.count_fits.ensures ∙ c.if-not-count_fits.false))) (omega (arith, message-length 0x21 c.args.name.now c.args.shard c.args.epoch.0 (u64 ▸ (table_f ▸ metric_f)) (c.args.end.0, (map end_value (ends_given c.args.epochs.now c.args.ends.now), metric_code c.args.metric)) (text-short 32 c.args.name.now (sym c.text_fits.ensures ∙ c.if-not-text_fits.false)), new_epoch_length c.args.end.0 c.args.epochs.now c.args.ends.now (metric_code c.args.metric) c.if-n-ends.false)) (omega (arith, message-length 0x21 c.args.name.now c.args.shard c.args.epoch.0 (u64 ▸ (table_f ▸ metric_f)) (c.args.end.0, (map end_value (ends_given c.args.epochs.now c.args.ends.now), metric_code c.args.metric)) (text-short 32 c.args.name.now (sym c.text_fits.ensures ∙ c.if-not-text_fits.false)), new_epoch_length c.args.end.0 c.args.epochs.now c.args.ends.now (metric_code c.args.metric) c.if-n-ends.false))
    (c.put_byte.ensures ∙ (rw (c.put_ends.ensures, c.put2.ensures, c.put8.ensures, c.put_head.ensures, c.metric_code.ensures) (new_epoch_put (sets c.args.out.now 0 (head_bytes 0x21 c.args.name.now c.args.shard c.args.epoch.0)) c.args.end.0 c.args.epochs.now c.args.ends.now (metric_code c.args.metric) c.if-n-ends.false ∙ message-put 0x21 c.args.name.now c.args.shard c.args.epoch.0 (u64 ▸ (table_f ▸ metric_f)) (c.args.end.0, (map end_value (ends_given c.args.epochs.now c.args.ends.now), metric_code c.args.metric)) c.args.out.now (text-short 32 c.args.name.now (sym c.text_fits.ensures ∙ c.if-not-text_fits.false)))))
