use borrow.Author.Tests.{le-leb, lt-leb}
use mathlib.Core.Path.{◌≡◌, refl}
use mathlib.Core.Bool.{Bool, true, false, not}
use lib.Dec.{leb}
use Rattle.spec.specs.Lists.{◌and◌}
use Rattle.spec.specs.Node.Ack.{joins}
use Rattle.node_acks.proofs.joining.Goals as goal
use Rattle.node_acks.proofs.joining.Goals.{then-last-n, else-last-n}

and_assoc : (a b d : Bool) → (a and b and d) ≡ ((a and b) and d)
unfolding ◌and◌
and_assoc true b d = refl
and_assoc false b d = refl

pub returns-then-not-p : goal.returns-then-not-p
unfolding joins ◌and◌
returns-then-not-p c =
    let p = c.args.p in
    let up = leb c.args.last c.acked_through-n.result in
    let out : c.if-last-n.value ≡ (up and not p.member) = elim c.if-last-n.branch [ then-last-n w ↦ rw (w.value-is, le-leb _ _ w.if-last-n.true) refl | else-last-n w ↦ rw (w.value-is, lt-leb _ _ w.if-last-n.false) refl ] in
    rw (← c.acked_through-n.ensures, and_assoc up (not p.member) (not p.proposing), ← out, c.if-not-p.true) refl

pub returns-else-not-p : goal.returns-else-not-p
unfolding joins ◌and◌
returns-else-not-p c =
    let p = c.args.p in
    let up = leb c.args.last c.acked_through-n.result in
    let out : c.if-last-n.value ≡ (up and not p.member) = elim c.if-last-n.branch [ then-last-n w ↦ rw (w.value-is, le-leb _ _ w.if-last-n.true) refl | else-last-n w ↦ rw (w.value-is, lt-leb _ _ w.if-last-n.false) refl ] in
    rw (← c.acked_through-n.ensures, and_assoc up (not p.member) (not p.proposing), ← out, c.if-not-p.false) refl
