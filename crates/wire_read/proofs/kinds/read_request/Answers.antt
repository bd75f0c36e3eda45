use Rattle.std.proofs.Common.{◌+◌, ◌≤◌, length, sym, ◌∙◌, arith, leb-true}
use Rattle.spec.specs.Layout.Format.{word}
use Rattle.spec.specs.Layout.Request.{command_f}
use Rattle.wire_shape.proofs.Skips.{skip-next}
use Rattle.wire_read.proofs.Messages.{request_no, request-is, request_chain, request-short, request-end, request-other}
use Rattle.wire_read.proofs.kinds.read_request.Goals as goal

pub returns-then-s-at : goal.returns-then-s-at
returns-then-s-at c = request_no c.args.s.now c.args.at (sym (request-end c.args.s.now c.args.at c.if-s-at.true))

pub returns-then-s-at-ne1 : goal.returns-then-s-at-ne1
returns-then-s-at-ne1 c = request_no c.args.s.now c.args.at (sym (request-other c.args.s.now c.args.at c.if-s-at-ne1.true))

pub returns-in_err-skip_word : goal.returns-in_err-skip_word
returns-in_err-skip_word c =
    c.from_residual.ensures ∙ request_no c.args.s.now c.args.at (sym (request-short c.args.s.now c.args.at c.if-s-at.false c.if-s-at-ne1.false (sym c.skip_word.ensures ∙ c.in_err-skip_word.was)))

pub returns-in_err-end : goal.returns-in_err-end
returns-in_err-end c =
    c.from_residual-in_err-end.ensures ∙ request_no c.args.s.now c.args.at (sym (request_chain c.args.s.now c.args.at _ c.if-s-at.false c.if-s-at-ne1.false (sym c.skip_word.ensures ∙ c.in_ok-skip_word.was)) ∙ sym c.skip_command.ensures ∙ c.in_err-end.was)

pub get8-index-requires : goal.get8-index-requires
get8-index-requires c =
    let h = skip-next (word 24) c.args.s.now (c.args.at + 1) _ (sym c.skip_word.ensures ∙ c.in_ok-skip_word.was) in
    let l : c.args.at + 1 + 24 ≤ length c.args.s.now = leb-true _ _ h.0 in
    omega arith

pub get8-client-requires : goal.get8-client-requires
get8-client-requires c =
    let h = skip-next (word 24) c.args.s.now (c.args.at + 1) _ (sym c.skip_word.ensures ∙ c.in_ok-skip_word.was) in
    let l : c.args.at + 1 + 24 ≤ length c.args.s.now = leb-true _ _ h.0 in
    omega arith

pub get8-seq-requires : goal.get8-seq-requires
get8-seq-requires c =
    let h = skip-next (word 24) c.args.s.now (c.args.at + 1) _ (sym c.skip_word.ensures ∙ c.in_ok-skip_word.was) in
    let l : c.args.at + 1 + 24 ≤ length c.args.s.now = leb-true _ _ h.0 in
    omega arith

pub command_at-command-requires : goal.command_at-command-requires
command_at-command-requires c = (skip-next command_f c.args.s.now _ _ (sym c.skip_command.ensures ∙ c.in_ok-end.was)).0

pub returns : goal.returns
returns c =
    (rw (c.get8-index.ensures, c.get8-client.ensures, c.get8-seq.ensures, c.command_at-command.ensures) (request-is c.args.s.now c.args.at _ (sym (request_chain c.args.s.now c.args.at _ c.if-s-at.false c.if-s-at-ne1.false (sym c.skip_word.ensures ∙ c.in_ok-skip_word.was)) ∙ sym c.skip_command.ensures ∙ c.in_ok-end.was)))
