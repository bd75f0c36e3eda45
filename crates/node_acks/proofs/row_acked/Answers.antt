use mathlib.Core.Path.{◌≡◌, refl}
use mathlib.Core.Bool.{not}
use lib.Dec.{leb}
use Rattle.spec.specs.Lists.{◌and◌, ◌or◌}
use Rattle.spec.specs.Node.Ack.{ack_row}
use Rattle.node_acks.proofs.row_acked.Goals as goal
use Rattle.node_acks.proofs.row_acked.Goals.{then-p, else-p, then-p-2, else-p-2, then-p-3, else-p-3}

pub returns-then-p-4 : goal.returns-then-p-4
unfolding ack_row ◌and◌ ◌or◌
returns-then-p-4 c =
    let p = c.args.p in
    let aligned : c.if-p.q ≡ (p.aligned or c.args.aligned) = elim c.if-p.branch [ then-p w ↦ rw (w.q-is, w.if-p.true) refl | else-p w ↦ rw (w.q-is, w.if-p.false) refl ] in
    let behind : c.if-p-2.q ≡ (p.behind and not (leb c.args.last c.acked_through-n.result)) = elim c.if-p-2.branch [ then-p-2 w ↦ rw (w.q-is, w.if-p-2.true) refl | else-p-2 w ↦ rw (w.q-is, w.if-p-2.false) refl ] in
    let proposing : c.if-p-3.q ≡ (p.proposing or c.joining-join.result) = elim c.if-p-3.branch [ then-p-3 w ↦ rw (w.q-is, w.if-p-3.true) refl | else-p-3 w ↦ rw (w.q-is, w.if-p-3.false) refl ] in
    let member : p.member ≡ (p.member or c.joining-join.result) = rw c.if-p-4.true refl in
    cc

pub returns-else-p-4 : goal.returns-else-p-4
unfolding ack_row ◌and◌ ◌or◌
returns-else-p-4 c =
    let p = c.args.p in
    let aligned : c.if-p.q ≡ (p.aligned or c.args.aligned) = elim c.if-p.branch [ then-p w ↦ rw (w.q-is, w.if-p.true) refl | else-p w ↦ rw (w.q-is, w.if-p.false) refl ] in
    let behind : c.if-p-2.q ≡ (p.behind and not (leb c.args.last c.acked_through-n.result)) = elim c.if-p-2.branch [ then-p-2 w ↦ rw (w.q-is, w.if-p-2.true) refl | else-p-2 w ↦ rw (w.q-is, w.if-p-2.false) refl ] in
    let proposing : c.if-p-3.q ≡ (p.proposing or c.joining-join.result) = elim c.if-p-3.branch [ then-p-3 w ↦ rw (w.q-is, w.if-p-3.true) refl | else-p-3 w ↦ rw (w.q-is, w.if-p-3.false) refl ] in
    let member : c.joining-join.result ≡ (p.member or c.joining-join.result) = rw c.if-p-4.false refl in
    cc
