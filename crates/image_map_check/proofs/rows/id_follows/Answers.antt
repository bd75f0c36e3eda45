use mathlib.Core.Path.{sym, ◌∙◌}
use lib.ListN.{take}
use borrow.Author.Tests.{lt-ltb, le-ltb}
use Rattle.spec.specs.Map.Change.{id_below, holds}
use Rattle.spec.specs.declared.DataNodeId.{DataNodeId}
use Rattle.image_parts.specs.Parts.{replicas_at}
use Rattle.image_parts.specs.Codes.{id_of}
use Rattle.map_check.proofs.Rows.{first-row, low-row, risen_row}
use Rattle.image_map_check.proofs.rows.id_follows.Goals as goal

pub returns-then-i-eq0 : goal.returns-then-i-eq0
returns-then-i-eq0 c =
    c.is_held.ensures ∙ sym (first-row id_below (λ (d : DataNodeId). holds d.0 (take c.args.held (replicas_at c.args.s.now c.args.at))) c.args.i (id_of c.args.before) (id_of c.args.id) c.if-i-eq0.true)

pub returns-then-id-before : goal.returns-then-id-before
returns-then-id-before c =
    sym (low-row id_below (λ (d : DataNodeId). holds d.0 (take c.args.held (replicas_at c.args.s.now c.args.at))) c.args.i (id_of c.args.before) (id_of c.args.id) c.if-i-eq0.false (le-ltb _ _ c.if-id-before.true))

pub returns : goal.returns
returns c =
    c.is_held-2.ensures ∙ sym (risen_row id_below (λ (d : DataNodeId). holds d.0 (take c.args.held (replicas_at c.args.s.now c.args.at))) c.args.i (id_of c.args.before) (id_of c.args.id) c.if-i-eq0.false (lt-ltb _ _ c.if-id-before.false))
