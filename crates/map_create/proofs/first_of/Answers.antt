use native.Mathlib.Omega.{arith}
use mathlib.Core.Path.{sym, ◌∙◌, ap}
use Prim.Native.Nat.{◌<◌}
use lib.ListN.{length}
use Rattle.spec.specs.declared.DataNodeId.{DataNodeId}
use Rattle.map_tables.proofs.Defaults.{no_id}
use mathlib.Core.Option.{some}
use Rattle.spec_laws.proofs.Lists.{nth-none, nth_get_d}
use Rattle.map_tables.specs.View.{view_list}
use Rattle.map_create.proofs.List.{list-row}
use Rattle.map_create.proofs.first_of.Goals as goal

pub returns-then-n-eq0 : goal.returns-then-n-eq0
returns-then-n-eq0 c = sym (nth-none (view_list c.args.list) 0 (omega (arith, c.list_size-n.ensures.0, c.if-n-eq0.true)))

pub returns : goal.returns
returns c =
    let h : 0 < length (view_list c.args.list) = omega (arith, c.list_size-n.ensures.0, c.if-n-eq0.false) in
    sym (nth_get_d (view_list c.args.list) 0 0 h ∙ ap some (list-row (λ (n : DataNodeId). n.0) c.args.list.nodes c.args.list.count 0 no_id h))
