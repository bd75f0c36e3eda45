-- Paper 01, 'The node' (node.rs, heartbeats): the lease. Definitions only.
use Rattle.std.specs.Prelude.{ℕ, ◌+◌, max, Bool, false, cond, eqb, ltb}
use Rattle.std.proofs.Math.Option.{Option, none, some}
use Rattle.spec.specs.Refusals.{Refusal}
use Rattle.spec.specs.Node.Held.{Node}

-- a grant is taken note of, or refused (21, 24)
pub data GrantAnswer : Type 0 where
  granted : GrantAnswer
  grant_refused : Refusal → GrantAnswer

-- 'The node': a grant raises the expiry, and none lowers it
unfoldable pub raised : Option ℕ → ℕ → ℕ
raised none e = e
raised (some d) e = max d e

-- 'The node': a grant for the current incarnation raises expiry to sent + lease; one for another does nothing
unfoldable pub grant : Node → (incarnation sent lease : ℕ) → Node
grant n i sent lease =
    cond (eqb i n.incarnation)
    (record {
      id = n.id;
      incarnation = n.incarnation;
      expiry = some (raised n.expiry (sent + lease));
      version = n.version;
      held = n.held;
    })
    n

-- 'The node': before the expiry; without a lease never
abbrev pub before : Option ℕ → ℕ → Bool
before none now = false
before (some e) now = ltb now e

-- 'The node': a lease holds while now < expiry
unfoldable pub leased : Node → ℕ → Bool
leased n now = before n.expiry now
