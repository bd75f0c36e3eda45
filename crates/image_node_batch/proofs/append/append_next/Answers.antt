use mathlib.Core.Path.{refl}
use Rattle.image_node_batch.proofs.append.append_next.Goals as goal

pub returns-then-offset-next : goal.returns-then-offset-next
returns-then-offset-next c = record { next = λ h. absurd (c.if-offset-next.true h); other = λ h. (refl, refl, refl) }

pub append_op-rows-requires : goal.append_op-rows-requires
append_op-rows-requires c = (c.requires.5 c.if-offset-next.false, c.requires.1, c.requires.2, c.requires.3, c.requires.4)

pub returns : goal.returns
returns c =
    record { next = λ h. (refl, c.append_op-rows.ensures); other = λ h. absurd (h c.if-offset-next.false) }
