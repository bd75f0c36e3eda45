use mathlib.Core.Path.{◌∙◌}
use Rattle.std.specs.Prelude.{Some, None}
use Rattle.node_log_reads.proofs.VectorLaws.{vector-ok, vector-err}
use Rattle.node_log_reads.proofs.vectors.vector.Goals as goal

pub returns : goal.returns
returns c =
    let a = c.args in
    c.components.ensures a.epochs.now a.offsets.now a.ids.now ∙ vector-ok _ _ _ c.vector_at-standing.ensures _ (Some c.in-Some.offset) c.in-Ok.is c.in-Some.is

pub returns-in_default : goal.returns-in_default
returns-in_default c = vector-err _ _ _ c.vector_at-standing.ensures c.in_default.field-0 c.in_default.is

pub returns-in_default-found : goal.returns-in_default-found
returns-in_default-found c = vector-ok _ _ _ c.vector_at-standing.ensures _ None c.in-Ok.is c.in_default-found.is
