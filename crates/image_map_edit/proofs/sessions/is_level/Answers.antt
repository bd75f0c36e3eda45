use native.Mathlib.Omega.{arith}
use mathlib.Core.Path.{◌∙◌, ap}
use Prim.Native.Nat.{◌+◌, ◌*◌}
use lib.Dec.{ltb}
use borrow.Author.Tests.{lt-ltb, le-ltb}
use Rattle.spec.specs.Layout.Format.{number_at}
use Rattle.map_tables.specs.View.{view_session}
use Rattle.image_map_row.specs.Rows.{session_at}
use Rattle.image_map_check.proofs.RowLaws.{client_is}
use mathlib.Core.Bool.{true, false}
use Rattle.image_map_edit.proofs.Tables.{level_past, level-is}
use Rattle.image_map_edit.proofs.sessions.is_level.Goals as goal

pub returns-then-count-place : goal.returns-then-count-place
returns-then-count-place c =
    level_past c.args.place c.args.count (ltb c.args.client (view_session (session_at c.args.s.now (21416 + 80 * c.args.place))).client) c.if-count-place.true

pub get8-requires : goal.get8-requires
get8-requires c = let a = c.requires.0 in let b = c.requires.1 in let h = c.if-count-place.false in omega arith

pub returns-then-client-get8 : goal.returns-then-client-get8
returns-then-client-get8 c =
    let h = c.if-client-get8.true in let g = c.get8.ensures in level-is c.args.place c.args.count (ltb c.args.client (view_session (session_at c.args.s.now (21416 + 80 * c.args.place))).client) c.if-count-place.false true (ap (ltb c.args.client) (client_is c.args.s.now (21416 + 80 * c.args.place)) ∙ lt-ltb c.args.client (number_at 8 c.args.s.now (21416 + 80 * c.args.place)) (omega arith))

pub returns : goal.returns
returns c =
    let h = c.if-client-get8.false in let g = c.get8.ensures in level-is c.args.place c.args.count (ltb c.args.client (view_session (session_at c.args.s.now (21416 + 80 * c.args.place))).client) c.if-count-place.false false (ap (ltb c.args.client) (client_is c.args.s.now (21416 + 80 * c.args.place)) ∙ le-ltb c.args.client (number_at 8 c.args.s.now (21416 + 80 * c.args.place)) (omega arith))
