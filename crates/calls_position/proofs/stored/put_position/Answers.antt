use mathlib.Core.Path.{◌∙◌}
use Rattle.calls_position.proofs.Pattern.{pattern_read}
use Rattle.calls_position.proofs.Bytes.{position_put}
use Rattle.calls_position.proofs.stored.put_position.Goals as goal

pub returns : goal.returns
returns c =
    c.put_words8.ensures
    ∙ position_put _ _ _ _
    (c.pattern.ensures ∙ pattern_read c.args.p.ra (record { sfits = c.struct_told-1.given.0.1 }))
    (c.pattern-2.ensures ∙ pattern_read c.args.p.dec (record { sfits = c.struct_told-2-1.given.1.0.1 }))
