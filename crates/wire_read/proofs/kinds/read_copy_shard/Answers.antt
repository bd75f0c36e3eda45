use Rattle.std.proofs.Common.{length, sym, ◌∙◌, arith, leb-true}
use Rattle.spec.specs.Layout.Format.{word, text, ◌▸◌}
use Rattle.spec.specs.Layout.Parts.{u64, key_f, entries_f}
use Rattle.spec_laws.proofs.Wire.Tests.{and_left}
use Rattle.wire_read.proofs.Messages.{head_bad, rest_bad, rest-left, rest_all, key-there, epoch-there, rest-there, same_copy, copy_not, copy_is}
use Rattle.wire_read.proofs.kinds.read_copy_shard.Goals as goal

pub returns-in_err-skip_text : goal.returns-in_err-skip_text
returns-in_err-skip_text c =
    c.from_residual.ensures ∙ copy_not c.args.s.now (head_bad 0x22 (key_f ▸ (u64 ▸ entries_f)) (text 32 ▸ word 12) (entries_f) same_copy c.args.s.now (omega arith) c.requires (sym c.skip_text.ensures ∙ c.in_err-skip_text.was))

pub returns-in_err-end : goal.returns-in_err-end
returns-in_err-end c =
    c.from_residual-in_err-end.ensures ∙ copy_not c.args.s.now (rest_bad 0x22 (key_f ▸ (u64 ▸ entries_f)) (text 32 ▸ word 12) (entries_f) same_copy c.args.s.now (omega arith) c.requires _ (sym c.skip_text.ensures ∙ c.in_ok-skip_text.was) (sym c.skip_entries.ensures ∙ c.in_err-end.was))

pub returns-then-end-s : goal.returns-then-end-s
returns-then-end-s c =
    copy_not c.args.s.now (rest-left 0x22 (key_f ▸ (u64 ▸ entries_f)) (text 32 ▸ word 12) (entries_f) same_copy c.args.s.now (omega arith) c.requires _ (sym c.skip_text.ensures ∙ c.in_ok-skip_text.was) _ (sym c.skip_entries.ensures ∙ c.in_ok-end.was) c.if-end-s.true)

pub key_at-key-requires : goal.key_at-key-requires
key_at-key-requires c =
    let w = rest_all 0x22 (key_f ▸ (u64 ▸ entries_f)) (text 32 ▸ word 12) (entries_f) same_copy c.args.s.now (omega arith) c.requires _ (sym c.skip_text.ensures ∙ c.in_ok-skip_text.was) _ (sym c.skip_entries.ensures ∙ c.in_ok-end.was) c.if-end-s.false in
    key-there 0x22 (entries_f) c.args.s.now w

pub get8-requires : goal.get8-requires
get8-requires c =
    let w = rest_all 0x22 (key_f ▸ (u64 ▸ entries_f)) (text 32 ▸ word 12) (entries_f) same_copy c.args.s.now (omega arith) c.requires _ (sym c.skip_text.ensures ∙ c.in_ok-skip_text.was) _ (sym c.skip_entries.ensures ∙ c.in_ok-end.was) c.if-end-s.false in
    let h = epoch-there 0x22 (entries_f) c.args.s.now w in omega arith

pub get2-count-requires : goal.get2-count-requires
get2-count-requires c =
    let w = rest_all 0x22 (key_f ▸ (u64 ▸ entries_f)) (text 32 ▸ word 12) (entries_f) same_copy c.args.s.now (omega arith) c.requires _ (sym c.skip_text.ensures ∙ c.in_ok-skip_text.was) _ (sym c.skip_entries.ensures ∙ c.in_ok-end.was) c.if-end-s.false in
    let h = leb-true 48 (length c.args.s.now) (and_left _ _ (rest-there 0x22 (entries_f) c.args.s.now w)) in omega arith

pub returns : goal.returns
returns c =
    let w = rest_all 0x22 (key_f ▸ (u64 ▸ entries_f)) (text 32 ▸ word 12) (entries_f) same_copy c.args.s.now (omega arith) c.requires _ (sym c.skip_text.ensures ∙ c.in_ok-skip_text.was) _ (sym c.skip_entries.ensures ∙ c.in_ok-end.was) c.if-end-s.false in
    (rw (c.key_at-key.ensures, c.get8.ensures, c.get2-count.ensures) (copy_is c.args.s.now w))
