use native.Mathlib.Omega.{arith}
use borrow.Author.Rules.{rules}
use mathlib.Core.Path.{ap, ◌∙◌, ◌≡◌}
use Prim.Native.Nat.{ℕ, ◌*◌, ◌+◌}
use mathlib.Core.Bool.{false, true}
use Rattle.spec.specs.Layout.Format.{number_at}
use Rattle.map_tables.specs.View.{view_session}
use Rattle.image_map_row.specs.Rows.{session_at}
use Rattle.image_map.specs.Image.{no_session}
use Rattle.image_map_check.proofs.RowLaws.{client_is, led_first}
use lib.Dec.{ltb}
use Rattle.spec.specs.Map.Tables as tables
use Rattle.image_map_check.proofs.room.session_room.Goals as goal

pub returns : goal.returns
returns c =
    let e = c.requires.2 in let k = c.requires.1 in let w = c.first_passing.ensures.within in
    led_first 64 80 21416 (session_at c.args.s.now) no_session (number_at 8 c.args.s.now 32) view_session (λ (y : tables.Session). ltb y.client c.args.client) (omega arith) c.first_passing.result (omega arith)
    (λ i lt. let b = c.first_passing.ensures.before i lt in let z : ltb (number_at 8 c.args.s.now (21416 + 80 * i)) c.args.client ≡ true = search rules in ap (λ (x : ℕ). ltb x c.args.client) (client_is c.args.s.now (21416 + 80 * i)) ∙ z)
    (λ lt. let b = c.first_passing.ensures.found (omega arith) in let z : ltb (number_at 8 c.args.s.now (21416 + 80 * c.first_passing.result)) c.args.client ≡ false = search rules in ap (λ (x : ℕ). ltb x c.args.client) (client_is c.args.s.now (21416 + 80 * c.first_passing.result)) ∙ z)
