use mathlib.Core.Path.{sym}
use Rattle.map_place.specs.Read.{view_load}
use Rattle.map_place.proofs.Choosing.{fewer, more, level}
use Rattle.map_place.proofs.choose.is_lighter.Goals as goal

pub returns-then-a-b : goal.returns-then-a-b
returns-then-a-b c = sym (fewer (view_load c.args.a) (view_load c.args.b) c.if-a-b.true)

pub returns-then-b-a : goal.returns-then-b-a
returns-then-b-a c = sym (more (view_load c.args.a) (view_load c.args.b) c.if-b-a.true)

pub returns : goal.returns
returns c = sym (level (view_load c.args.a) (view_load c.args.b) c.if-a-b.false c.if-b-a.false)
