use Rattle.log_store.proofs.Aligning.{agrees_past, agrees-by}
use Rattle.log_store.proofs.align.agrees.Goals as goal

pub returns-then-end-offset : goal.returns-then-end-offset
returns-then-end-offset c = agrees_past _ _ _ c.requires.0 c.requires.1 _ _ _ c.if-end-offset.true

pub returns : goal.returns
returns c =
    agrees-by _ _ _ c.requires.0 c.requires.1 _ _ _ _ _ c.place-at.ensures.0 c.if-end-offset.false c.is_at.ensures
