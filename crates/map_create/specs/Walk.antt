-- How the walk over a placement ends, as the code says it. Definitions only.
use Rattle.spec.specs.declared.DataNodeId.{DataNodeId}
use Rattle.std.specs.Prelude.{ℕ}
use Rattle.std.proofs.Math.Option.{Option, none, some}
use Rattle.std.specs.declared.option.Option as option
use Rattle.std.specs.Prelude.{None, Some}

-- no node, or the one that is not alive
abbrev pub walked_of : Option ℕ → option.Option DataNodeId
walked_of none = None
walked_of (some n) = Some (record { 0 = n })
