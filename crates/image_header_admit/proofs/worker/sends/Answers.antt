use mathlib.Core.Path.{refl}
use borrow.Author.Tests.{le-leb, lt-leb}
use Rattle.image_header_admit.proofs.worker.sends.Goals as goal

pub returns-then-last-acked : goal.returns-then-last-acked
returns-then-last-acked c = rw (le-leb _ _ c.if-last-acked.true) refl

pub returns : goal.returns
returns c = rw (lt-leb _ _ c.if-last-acked.false, c.min.ensures) refl
