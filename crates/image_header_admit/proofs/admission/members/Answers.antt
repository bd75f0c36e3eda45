use native.Mathlib.Omega.{arith}
use mathlib.Core.Path.{◌≡◌, refl, sym, ◌∙◌, ap}
use Prim.Native.Nat.{ℕ}
use lib.ListN.{length, take}
use Rattle.spec.specs.Lists.{filter}
use Rattle.spec.specs.Node.Client.{is_member}
use Rattle.node_admit.proofs.AdmissionLaws.{filter-on, filter_past}
use Rattle.image_header_row.specs.Rows.{no_peer, peers_at}
use Rattle.image_header_check.proofs.Rows.{peers_long, peer-row}
use Rattle.image_header_admit.proofs.admission.members.Goals as goal
use Rattle.image_header_admit.proofs.admission.members.Goals.{then-p, else-p}

pub loop-i-init : goal.loop-i-init
unfolding filter
loop-i-init c = (omega arith, omega arith, refl)

pub loop-i-preserved : goal.loop-i-preserved
loop-i-preserved c =
    let a = c.args in let l = c.loop-i in let s = a.s.now in let k = c.requires.1 in let g = peers_long s a.at in let lt = c.loop-i-test.true in
    let r = ap is_member (peer-row s a.at l.i no_peer (omega arith) ∙ sym c.peer_at-p.ensures) in
    elim c.if-p.branch [
      | then-p w ↦ rw w.n-is (omega arith, omega (arith, l.invariant.1), filter-on is_member (peers_at s a.at) l.i l.n no_peer l.invariant.2 (r ∙ w.if-p.true) (omega arith))
      | else-p w ↦ rw w.n-is (omega arith, omega (arith, l.invariant.1), filter_past is_member (peers_at s a.at) l.i l.n no_peer l.invariant.2 (r ∙ w.if-p.false) (omega arith))
    ]

pub returns : goal.returns
returns c =
    let a = c.args in let l = c.loop-i in let k = c.requires.1 in let w = l.invariant.0 in let t = c.loop-i-test.false in
    let e : l.i ≡ a.count = omega arith in
    (l.invariant.2 ∙ ap (λ (j : ℕ). length (filter is_member (take j (peers_at a.s.now a.at)))) e, omega (arith, l.invariant.1))
