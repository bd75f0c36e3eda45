use Prim.Native.Nat.{◌+◌}
use mathlib.Core.Path.{sym, ◌∙◌}
use Rattle.spec.specs.Layout.Format.{word, text, ◌▸◌}
use Rattle.spec.specs.Layout.Parts.{u64, name_f}
use Rattle.spec.specs.Layout.Request.{add_f, ownership_f}
use Rattle.wire_shape.proofs.Skips.{same-skip, same-words, text_alone}
use Rattle.wire_shape.proofs.Commands.{same_ownership, same_add, command_end, command_10, command_11, command_12, command_13, command_14, command_15, command_16, command_17, command_18, command_19, command_none}
use Rattle.wire_shape.proofs.skip_command.Goals as goal

pub returns-then-s-at : goal.returns-then-s-at
returns-then-s-at c = command_end c.args.s.now c.args.at c.if-s-at.true

pub returns-in-16 : goal.returns-in-16
returns-in-16 c =
    let a = c.args in
    c.skip_create.ensures ∙ command_10 a.s.now a.at c.if-s-at.false c.in-16.is

pub returns-in-17 : goal.returns-in-17
returns-in-17 c =
    let a = c.args in
    c.skip_text.ensures ∙ same-skip (text 32 ▸ word 0) name_f (text_alone 32) a.s.now (a.at + 1) ∙ command_11 a.s.now a.at c.if-s-at.false c.in-17.is

pub returns-in-18 : goal.returns-in-18
returns-in-18 c =
    let a = c.args in
    c.skip_register.ensures ∙ command_12 a.s.now a.at c.if-s-at.false c.in-18.is

pub returns-in-19 : goal.returns-in-19
returns-in-19 c =
    let a = c.args in
    c.skip_word.ensures ∙ sym (same-skip (u64 ▸ u64) (word 16) (same-words 8 8) a.s.now (a.at + 1)) ∙ command_13 a.s.now a.at c.if-s-at.false c.in-19.is

pub returns-in-20 : goal.returns-in-20
returns-in-20 c =
    let a = c.args in
    c.skip_text-in-20.ensures ∙ sym (same-skip add_f (text 32 ▸ word 28) same_add a.s.now (a.at + 1)) ∙ command_14 a.s.now a.at c.if-s-at.false c.in-20.is

pub returns-in-21 : goal.returns-in-21
returns-in-21 c =
    let a = c.args in
    c.skip_text-in-21.ensures ∙ sym (same-skip ownership_f (text 32 ▸ word 20) same_ownership a.s.now (a.at + 1)) ∙ command_15 a.s.now a.at c.if-s-at.false c.in-21.is

pub returns-in-22 : goal.returns-in-22
returns-in-22 c =
    let a = c.args in
    c.skip_text-in-22.ensures ∙ sym (same-skip ownership_f (text 32 ▸ word 20) same_ownership a.s.now (a.at + 1)) ∙ command_16 a.s.now a.at c.if-s-at.false c.in-22.is

pub returns-in-23 : goal.returns-in-23
returns-in-23 c =
    let a = c.args in
    c.skip_text-in-23.ensures ∙ sym (same-skip ownership_f (text 32 ▸ word 20) same_ownership a.s.now (a.at + 1)) ∙ command_17 a.s.now a.at c.if-s-at.false c.in-23.is

pub returns-in-24 : goal.returns-in-24
returns-in-24 c =
    let a = c.args in
    c.skip_text-in-24.ensures ∙ sym (same-skip ownership_f (text 32 ▸ word 20) same_ownership a.s.now (a.at + 1)) ∙ command_18 a.s.now a.at c.if-s-at.false c.in-24.is

pub returns-in-25 : goal.returns-in-25
returns-in-25 c =
    let a = c.args in
    c.skip_long_run.ensures ∙ command_19 a.s.now a.at c.if-s-at.false c.in-25.is

pub returns-in_default : goal.returns-in_default
returns-in_default c =
    let a = c.args in
    let r = c.in_default.in_default-own.rest in
    command_none a.s.now a.at c.if-s-at.false r.0.0.0.0.0.0.0.0.0.1 r.0.0.0.0.0.0.0.0.1 r.0.0.0.0.0.0.0.1 r.0.0.0.0.0.0.1 r.0.0.0.0.0.1 r.0.0.0.0.1 r.0.0.0.1 r.0.0.1 r.0.1 r.1
