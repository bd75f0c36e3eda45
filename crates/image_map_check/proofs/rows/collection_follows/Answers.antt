use native.Mathlib.Omega.{arith}
use mathlib.Core.Path.{sym, ◌∙◌, ap}
use Rattle.image_map_check.proofs.RowLaws.{collection_over, collection-first, collection-after, name-under}
use Rattle.spec.specs.Keys.{name_below}
use Rattle.map_tables.specs.Names.{view_name}
use Rattle.map_tables.specs.declared.Name.{Name}
use Rattle.image_parts.specs.Parts.{name_at}
use Rattle.image_map_check.proofs.rows.collection_follows.Goals as goal

pub returns-then-get8-gt32 : goal.returns-then-get8-gt32
returns-then-get8-gt32 c =
    let e = c.get8.ensures in let t = c.if-get8-gt32.true in collection_over c.args.s.now c.args.i c.args.before c.args.at (omega arith)

pub returns-then-i-eq0 : goal.returns-then-i-eq0
returns-then-i-eq0 c =
    let e = c.get8.ensures in let t = c.if-get8-gt32.false in collection-first c.args.s.now c.args.i c.args.before c.args.at (omega arith) c.if-i-eq0.true

pub returns : goal.returns
returns c =
    let e = c.get8.ensures in let t = c.if-get8-gt32.false in collection-after c.args.s.now c.args.i c.args.before c.args.at (omega arith) c.if-i-eq0.false _
    (c.name_below.ensures ∙ ap (λ (x : Name). name_below (view_name x) (view_name c.name_at-b.result)) c.name_at-a.ensures ∙ ap (λ (x : Name). name_below (view_name (name_at c.args.s.now c.args.before)) (view_name x)) c.name_at-b.ensures ∙ sym (name-under c.args.s.now c.args.before c.args.at))
