use mathlib.Core.Path.{refl}
use Rattle.calls_epoch.proofs.held.kept_of.Goals as goal

pub returns-then-epoch-own : goal.returns-then-epoch-own
returns-then-epoch-own c = record { same = λ e. refl; other = λ d. absurd (d c.if-epoch-own.true) }

pub kept-requires : goal.kept-requires
kept-requires c = (c.requires.0, c.requires.1, c.requires.2)

pub returns : goal.returns
returns c = record { same = λ e. absurd (c.if-epoch-own.false e); other = λ d. c.kept.ensures }
