use mathlib.Core.Path.{refl, sym, ◌∙◌}
use native.Mathlib.Omega.{arith}
use lib.ListN.{length}
use lib.Seq.{sets}
use Rattle.spec.specs.Lists.{◌and◌}
use Rattle.spec.specs.Layout.Format.{◌▸◌, bytes_of}
use Rattle.spec.specs.Layout.Parts.{u64, op_f, op_value}
use Rattle.spec_laws.proofs.Wire.Tests.{and_intro}
use Rattle.wire_write.specs.Written.{text_fits, op_fits, wire_of, op_bytes, replicate_given}
use Rattle.wire_write.proofs.Writes.{sets_then, unfit, short, wrote, text-short, op-size, head_bytes, message-length, message-put, no_first, no_second}
use Rattle.spec.specs.Layout.Message.{encode_replicate}
use Rattle.wire_write.proofs.message.write_replicate.Goals as goal

pub returns-then-not-text_fits : goal.returns-then-not-text_fits
returns-then-not-text_fits c =
    unfit (encode_replicate (replicate_given c.args.name.now c.args.shard c.args.epoch c.args.offset (wire_of c.args.upsert c.args.id c.args.bits.now))) c.args.out.now ((text_fits 32 c.args.name.now) and op_fits c.args.upsert (length c.args.bits.now)) (no_first _ _ (sym c.text_fits.ensures ∙ c.if-not-text_fits.true))

pub returns-then-not-op_fits : goal.returns-then-not-op_fits
returns-then-not-op_fits c =
    unfit (encode_replicate (replicate_given c.args.name.now c.args.shard c.args.epoch c.args.offset (wire_of c.args.upsert c.args.id c.args.bits.now))) c.args.out.now ((text_fits 32 c.args.name.now) and op_fits c.args.upsert (length c.args.bits.now)) (no_second _ _ (sym c.op_fits.ensures ∙ c.if-not-op_fits.true))

pub returns-then-out-size : goal.returns-then-out-size
unfolding encode_replicate
returns-then-out-size c =
    short (encode_replicate (replicate_given c.args.name.now c.args.shard c.args.epoch c.args.offset (wire_of c.args.upsert c.args.id c.args.bits.now))) c.args.out.now ((text_fits 32 c.args.name.now) and op_fits c.args.upsert (length c.args.bits.now)) (and_intro (sym c.text_fits.ensures ∙ c.if-not-text_fits.false) (sym c.op_fits.ensures ∙ c.if-not-op_fits.false)) (omega (arith, message-length 0x20 c.args.name.now c.args.shard c.args.epoch.0 (u64 ▸ op_f) ((c.args.offset.0, op_value (wire_of c.args.upsert c.args.id c.args.bits.now))) (text-short 32 c.args.name.now (sym c.text_fits.ensures ∙ c.if-not-text_fits.false)), op-size c.args.upsert c.args.id c.args.bits.now, c.op_size-size.ensures))

pub put_head-requires : goal.put_head-requires
put_head-requires c = (omega arith, (text-short 32 c.args.name.now (sym c.text_fits.ensures ∙ c.if-not-text_fits.false)))

pub put_op-requires : goal.put_op-requires
put_op-requires c =
    (omega (arith, op-size c.args.upsert c.args.id c.args.bits.now, c.op_size-size.ensures), (sym c.op_fits.ensures ∙ c.if-not-op_fits.false))

pub returns : goal.returns
unfolding encode_replicate
returns c =
    wrote (encode_replicate (replicate_given c.args.name.now c.args.shard c.args.epoch c.args.offset (wire_of c.args.upsert c.args.id c.args.bits.now))) c.args.out.now ((text_fits 32 c.args.name.now) and op_fits c.args.upsert (length c.args.bits.now)) _ _ (and_intro (sym c.text_fits.ensures ∙ c.if-not-text_fits.false) (sym c.op_fits.ensures ∙ c.if-not-op_fits.false)) (omega (arith, message-length 0x20 c.args.name.now c.args.shard c.args.epoch.0 (u64 ▸ op_f) ((c.args.offset.0, op_value (wire_of c.args.upsert c.args.id c.args.bits.now))) (text-short 32 c.args.name.now (sym c.text_fits.ensures ∙ c.if-not-text_fits.false)), op-size c.args.upsert c.args.id c.args.bits.now, c.op_size-size.ensures)) (omega (arith, message-length 0x20 c.args.name.now c.args.shard c.args.epoch.0 (u64 ▸ op_f) ((c.args.offset.0, op_value (wire_of c.args.upsert c.args.id c.args.bits.now))) (text-short 32 c.args.name.now (sym c.text_fits.ensures ∙ c.if-not-text_fits.false)), op-size c.args.upsert c.args.id c.args.bits.now, c.op_size-size.ensures))
    (c.put_op.ensures ∙ (rw (c.put8.ensures, c.put_head.ensures) (sets_then (sets c.args.out.now 0 (head_bytes 0x20 c.args.name.now c.args.shard c.args.epoch.0)) 46 54 (bytes_of 8 c.args.offset.0) (op_bytes c.args.upsert c.args.id c.args.bits.now) refl ∙ message-put 0x20 c.args.name.now c.args.shard c.args.epoch.0 (u64 ▸ op_f) ((c.args.offset.0, op_value (wire_of c.args.upsert c.args.id c.args.bits.now))) c.args.out.now (text-short 32 c.args.name.now (sym c.text_fits.ensures ∙ c.if-not-text_fits.false)))))
