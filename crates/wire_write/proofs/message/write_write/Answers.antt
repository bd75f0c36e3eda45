use mathlib.Core.Path.{sym, ◌∙◌}
use native.Mathlib.Omega.{arith}
use lib.ListN.{length}
use Rattle.spec.specs.Lists.{◌and◌}
use Rattle.spec.specs.Layout.Parts.{op_f, op_value}
use Rattle.spec_laws.proofs.Wire.Tests.{and_intro}
use Rattle.wire_write.specs.Written.{text_fits, op_fits, wire_of, write_given}
use Rattle.wire_write.proofs.Writes.{unfit, short, wrote, text-short, op-size, message-length, message-put, no_first, no_second}
use Rattle.spec.specs.Layout.Message.{encode_write}
use Rattle.wire_write.proofs.message.write_write.Goals as goal

pub returns-then-not-text_fits : goal.returns-then-not-text_fits
returns-then-not-text_fits c =
    unfit (encode_write (write_given c.args.name.now c.args.shard c.args.epoch (wire_of c.args.upsert c.args.id c.args.bits.now))) c.args.out.now ((text_fits 32 c.args.name.now) and op_fits c.args.upsert (length c.args.bits.now)) (no_first _ _ (sym c.text_fits.ensures ∙ c.if-not-text_fits.true))

pub returns-then-not-op_fits : goal.returns-then-not-op_fits
returns-then-not-op_fits c =
    unfit (encode_write (write_given c.args.name.now c.args.shard c.args.epoch (wire_of c.args.upsert c.args.id c.args.bits.now))) c.args.out.now ((text_fits 32 c.args.name.now) and op_fits c.args.upsert (length c.args.bits.now)) (no_second _ _ (sym c.op_fits.ensures ∙ c.if-not-op_fits.true))

pub returns-then-out-size : goal.returns-then-out-size
unfolding encode_write
returns-then-out-size c =
    short (encode_write (write_given c.args.name.now c.args.shard c.args.epoch (wire_of c.args.upsert c.args.id c.args.bits.now))) c.args.out.now ((text_fits 32 c.args.name.now) and op_fits c.args.upsert (length c.args.bits.now)) (and_intro (sym c.text_fits.ensures ∙ c.if-not-text_fits.false) (sym c.op_fits.ensures ∙ c.if-not-op_fits.false)) (omega (arith, message-length 0x23 c.args.name.now c.args.shard c.args.epoch.0 (op_f) (op_value (wire_of c.args.upsert c.args.id c.args.bits.now)) (text-short 32 c.args.name.now (sym c.text_fits.ensures ∙ c.if-not-text_fits.false)), op-size c.args.upsert c.args.id c.args.bits.now, c.op_size-size.ensures))

pub put_head-requires : goal.put_head-requires
put_head-requires c = (omega arith, (text-short 32 c.args.name.now (sym c.text_fits.ensures ∙ c.if-not-text_fits.false)))

pub put_op-requires : goal.put_op-requires
put_op-requires c =
    (omega (arith, op-size c.args.upsert c.args.id c.args.bits.now, c.op_size-size.ensures), (sym c.op_fits.ensures ∙ c.if-not-op_fits.false))

pub returns : goal.returns
unfolding encode_write
returns c =
    wrote (encode_write (write_given c.args.name.now c.args.shard c.args.epoch (wire_of c.args.upsert c.args.id c.args.bits.now))) c.args.out.now ((text_fits 32 c.args.name.now) and op_fits c.args.upsert (length c.args.bits.now)) _ _ (and_intro (sym c.text_fits.ensures ∙ c.if-not-text_fits.false) (sym c.op_fits.ensures ∙ c.if-not-op_fits.false)) (omega (arith, message-length 0x23 c.args.name.now c.args.shard c.args.epoch.0 (op_f) (op_value (wire_of c.args.upsert c.args.id c.args.bits.now)) (text-short 32 c.args.name.now (sym c.text_fits.ensures ∙ c.if-not-text_fits.false)), op-size c.args.upsert c.args.id c.args.bits.now, c.op_size-size.ensures)) (omega (arith, message-length 0x23 c.args.name.now c.args.shard c.args.epoch.0 (op_f) (op_value (wire_of c.args.upsert c.args.id c.args.bits.now)) (text-short 32 c.args.name.now (sym c.text_fits.ensures ∙ c.if-not-text_fits.false)), op-size c.args.upsert c.args.id c.args.bits.now, c.op_size-size.ensures))
    (c.put_op.ensures ∙ (rw c.put_head.ensures (message-put 0x23 c.args.name.now c.args.shard c.args.epoch.0 (op_f) (op_value (wire_of c.args.upsert c.args.id c.args.bits.now)) c.args.out.now (text-short 32 c.args.name.now (sym c.text_fits.ensures ∙ c.if-not-text_fits.false)))))
