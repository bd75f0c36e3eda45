-- What every call on a header's image says first: refused with 21 or 24, or called. Assumes nothing.
use Prim.Native.Nat.{ℕ}
use mathlib.Core.Path.{◌≡◌}
use mathlib.Core.Bool.{Bool}
use Rattle.spec.specs.Refusals.{Refusal, undecodable, malformed, number_of}
use Rattle.node_header.proofs.Lists.{by_case}
use Rattle.calls_header.specs.Asked.{Asked}

pub asked : {P Same Called : Type 0} (unread lent : Bool) (r : ℕ) → Asked unread lent r Same Called
    → ((why : Refusal) → r ≡ number_of why → Same → P) → (Called → P) → P
asked unread lent r d away goes =
    by_case unread (λ e. away undecodable (d.undecodable e).0 (d.undecodable e).1)
    (λ e. by_case lent (λ l. goes (d.called e l)) (λ l. away malformed (d.malformed e l).0 (d.malformed e l).1))
