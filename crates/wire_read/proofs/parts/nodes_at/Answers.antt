use Rattle.std.proofs.Common.{◌+◌, sym, ap, ◌∙◌, arith}
use Rattle.spec.specs.Layout.Parts.{u64}
use Rattle.wire_read.specs.Shown.{part}
use Rattle.wire_read.proofs.Places.{count-length, list-room}
use Rattle.wire_read.proofs.parts.nodes_at.Goals as goal

pub text_at-requires : goal.text_at-requires
text_at-requires c = omega (arith, list-room c.args.s.now c.args.at 0 8 u64 c.requires)

pub returns : goal.returns
returns c = c.text_at.ensures ∙ ap (part (c.args.at + 1)) (sym (count-length 0 8 u64 c.args.s.now c.args.at))
