use Rattle.std.proofs.Common.{length, sym, ◌∙◌, arith, leb-true}
use Rattle.spec.specs.Layout.Format.{word, below, text, ◌▸◌, many}
use Rattle.spec.specs.Layout.Parts.{u64, key_f, metric_f, table_f}
use Rattle.spec_laws.proofs.Wire.Tests.{and_left, and_right}
use Rattle.wire_shape.proofs.Skips.{below-there, skip-next, pair-next, pair_bad, same-words, same-many}
use Rattle.wire_read.proofs.Messages.{head_bad, rest_bad, rest-left, rest_all, key-there, epoch-there, rest-there, same_new_epoch, new_epoch_not, new_epoch_is}
use Rattle.wire_read.proofs.kinds.read_new_epoch.Goals as goal

pub returns-in_err-skip_text : goal.returns-in_err-skip_text
returns-in_err-skip_text c =
    c.from_residual.ensures ∙ new_epoch_not c.args.s.now (head_bad 0x21 (key_f ▸ (u64 ▸ (u64 ▸ (table_f ▸ metric_f)))) (text 32 ▸ word 20) (many 2 0 1024 (word 16) ▸ below 2) same_new_epoch c.args.s.now (omega arith) c.requires (sym c.skip_text.ensures ∙ c.in_err-skip_text.was))

pub returns-in_err-after : goal.returns-in_err-after
returns-in_err-after c =
    c.from_residual-in_err-after.ensures ∙ new_epoch_not c.args.s.now (rest_bad 0x21 (key_f ▸ (u64 ▸ (u64 ▸ (table_f ▸ metric_f)))) (text 32 ▸ word 20) (many 2 0 1024 (word 16) ▸ below 2) same_new_epoch c.args.s.now (omega arith) c.requires _ (sym c.skip_text.ensures ∙ c.in_ok-skip_text.was) (sym (pair_bad (many 2 0 1024 (word 16)) (below 2) c.args.s.now 54 (sym c.skip_long_run.ensures ∙ c.in_err-after.was))))

pub returns-in_err-end : goal.returns-in_err-end
returns-in_err-end c =
    c.from_residual-in_err-end.ensures ∙ new_epoch_not c.args.s.now (rest_bad 0x21 (key_f ▸ (u64 ▸ (u64 ▸ (table_f ▸ metric_f)))) (text 32 ▸ word 20) (many 2 0 1024 (word 16) ▸ below 2) same_new_epoch c.args.s.now (omega arith) c.requires _ (sym c.skip_text.ensures ∙ c.in_ok-skip_text.was) (sym (pair-next (many 2 0 1024 (word 16)) (below 2) c.args.s.now 54 _ (sym c.skip_long_run.ensures ∙ c.in_ok-after.was)) ∙ sym c.skip_below.ensures ∙ c.in_err-end.was))

pub returns-then-end-s : goal.returns-then-end-s
returns-then-end-s c =
    new_epoch_not c.args.s.now (rest-left 0x21 (key_f ▸ (u64 ▸ (u64 ▸ (table_f ▸ metric_f)))) (text 32 ▸ word 20) (many 2 0 1024 (word 16) ▸ below 2) same_new_epoch c.args.s.now (omega arith) c.requires _ (sym c.skip_text.ensures ∙ c.in_ok-skip_text.was) _ (sym (pair-next (many 2 0 1024 (word 16)) (below 2) c.args.s.now 54 _ (sym c.skip_long_run.ensures ∙ c.in_ok-after.was)) ∙ sym c.skip_below.ensures ∙ c.in_ok-end.was) c.if-end-s.true)

pub key_at-key-requires : goal.key_at-key-requires
key_at-key-requires c =
    let w = rest_all 0x21 (key_f ▸ (u64 ▸ (u64 ▸ (table_f ▸ metric_f)))) (text 32 ▸ word 20) (many 2 0 1024 (word 16) ▸ below 2) same_new_epoch c.args.s.now (omega arith) c.requires _ (sym c.skip_text.ensures ∙ c.in_ok-skip_text.was) _ (sym (pair-next (many 2 0 1024 (word 16)) (below 2) c.args.s.now 54 _ (sym c.skip_long_run.ensures ∙ c.in_ok-after.was)) ∙ sym c.skip_below.ensures ∙ c.in_ok-end.was) c.if-end-s.false in
    key-there 0x21 (u64 ▸ (table_f ▸ metric_f)) c.args.s.now w

pub get8-requires : goal.get8-requires
get8-requires c =
    let w = rest_all 0x21 (key_f ▸ (u64 ▸ (u64 ▸ (table_f ▸ metric_f)))) (text 32 ▸ word 20) (many 2 0 1024 (word 16) ▸ below 2) same_new_epoch c.args.s.now (omega arith) c.requires _ (sym c.skip_text.ensures ∙ c.in_ok-skip_text.was) _ (sym (pair-next (many 2 0 1024 (word 16)) (below 2) c.args.s.now 54 _ (sym c.skip_long_run.ensures ∙ c.in_ok-after.was)) ∙ sym c.skip_below.ensures ∙ c.in_ok-end.was) c.if-end-s.false in
    let h = epoch-there 0x21 (u64 ▸ (table_f ▸ metric_f)) c.args.s.now w in omega arith

pub get8-requires-2 : goal.get8-requires-2
get8-requires-2 c =
    let w = rest_all 0x21 (key_f ▸ (u64 ▸ (u64 ▸ (table_f ▸ metric_f)))) (text 32 ▸ word 20) (many 2 0 1024 (word 16) ▸ below 2) same_new_epoch c.args.s.now (omega arith) c.requires _ (sym c.skip_text.ensures ∙ c.in_ok-skip_text.was) _ (sym (pair-next (many 2 0 1024 (word 16)) (below 2) c.args.s.now 54 _ (sym c.skip_long_run.ensures ∙ c.in_ok-after.was)) ∙ sym c.skip_below.ensures ∙ c.in_ok-end.was) c.if-end-s.false in
    let h = leb-true 54 (length c.args.s.now) (and_left _ _ (rest-there 0x21 (u64 ▸ (table_f ▸ metric_f)) c.args.s.now w)) in omega arith

pub get2-count-requires : goal.get2-count-requires
get2-count-requires c =
    let w = rest_all 0x21 (key_f ▸ (u64 ▸ (u64 ▸ (table_f ▸ metric_f)))) (text 32 ▸ word 20) (many 2 0 1024 (word 16) ▸ below 2) same_new_epoch c.args.s.now (omega arith) c.requires _ (sym c.skip_text.ensures ∙ c.in_ok-skip_text.was) _ (sym (pair-next (many 2 0 1024 (word 16)) (below 2) c.args.s.now 54 _ (sym c.skip_long_run.ensures ∙ c.in_ok-after.was)) ∙ sym c.skip_below.ensures ∙ c.in_ok-end.was) c.if-end-s.false in
    let h = leb-true 56 (length c.args.s.now) (and_left _ _ (and_left _ _ (and_right _ _ (rest-there 0x21 (u64 ▸ (table_f ▸ metric_f)) c.args.s.now w)))) in omega arith

pub metric_at-metric-requires : goal.metric_at-metric-requires
metric_at-metric-requires c = omega (arith, below-there 2 c.args.s.now _ _ (sym c.skip_below.ensures ∙ c.in_ok-end.was))

pub returns : goal.returns
returns c =
    let w = rest_all 0x21 (key_f ▸ (u64 ▸ (u64 ▸ (table_f ▸ metric_f)))) (text 32 ▸ word 20) (many 2 0 1024 (word 16) ▸ below 2) same_new_epoch c.args.s.now (omega arith) c.requires _ (sym c.skip_text.ensures ∙ c.in_ok-skip_text.was) _ (sym (pair-next (many 2 0 1024 (word 16)) (below 2) c.args.s.now 54 _ (sym c.skip_long_run.ensures ∙ c.in_ok-after.was)) ∙ sym c.skip_below.ensures ∙ c.in_ok-end.was) c.if-end-s.false in
    let h = skip-next (many 2 0 1024 (word 16)) c.args.s.now 54 _ (sym c.skip_long_run.ensures ∙ c.in_ok-after.was) in
    let e = (same-many 2 0 1024 (u64 ▸ u64) (word 16) (same-words 8 8) c.args.s.now 54).1 ∙ h.1 in
    (rw (c.key_at-key.ensures, c.get8.ensures, c.get8-2.ensures, c.get2-count.ensures, c.metric_at-metric.ensures) (new_epoch_is c.args.s.now _ w e))
