use native.Mathlib.Omega.{arith}
use Rattle.log_check.proofs.Walking.{agrees-found, agrees-none}
use Rattle.log_check.proofs.settled.agrees.Goals as goal

pub returns-then-stored-at : goal.returns-then-stored-at
returns-then-stored-at c =
    let a = c.args in
    agrees-none a.ids.now a.codes.now a.keys.now a.places.now a.stored a.i c.requires.6 c.seek-at.result c.seek-at.ensures (λ h. absurd (omega (arith, c.if-stored-at.true)))

pub returns-then-keys-at : goal.returns-then-keys-at
returns-then-keys-at c =
    let a = c.args in
    agrees-none a.ids.now a.codes.now a.keys.now a.places.now a.stored a.i c.requires.6 c.seek-at.result c.seek-at.ensures (λ h. c.if-keys-at.true)

pub returns : goal.returns
returns c =
    let a = c.args in
    agrees-found a.ids.now a.codes.now a.keys.now a.places.now a.stored a.i c.requires.6 c.seek-at.result c.if-stored-at.false c.if-keys-at.false
