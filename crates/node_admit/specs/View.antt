-- How a lease's end is read, and what a grant promises. Definitions only.
use Rattle.std.specs.Prelude.{ℕ, ◌≡◌}
use Rattle.std.proofs.Math.Option.{Option, none, some}
use Rattle.spec.specs.Node.Held.{Node}
use Rattle.spec.specs.Node.Lease as leases
use Rattle.std.specs.declared.option.Option as option
use Rattle.std.specs.Prelude.{None, Some}

abbrev pub view_expiry : option.Option ℕ → Option ℕ
view_expiry None = none
view_expiry (Some t) = some t

abbrev pub with_expiry : Node → Option ℕ → Node
with_expiry n e = record { id = n.id; incarnation = n.incarnation; expiry = e; version = n.version; held = n.held }

-- of any node with that incarnation and that expiry, the grant changes the expiry alone
abbrev pub Grants : (own : ℕ) → option.Option ℕ → (incarnation sent lease : ℕ) → option.Option ℕ → Type 0
Grants own e i sent lease r =
    (n : Node) → n.incarnation ≡ own → n.expiry ≡ view_expiry e → with_expiry n (view_expiry r) ≡ leases.grant n i sent lease
