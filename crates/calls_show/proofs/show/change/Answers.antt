use borrow.Author.Rules.{rules}
use native.Mathlib.Omega.{arith}
use mathlib.Core.Path.{◌≡◌, sym, ◌∙◌}
use Prim.Native.Nat.{◌*◌}
use lib.ListN.{length}
use lib.Seq.{length-take-le}
use Rattle.calls_show.proofs.Change.{change-full, change-short, change_unanswered, change-put, rows_open}
use Rattle.calls_show.proofs.show.change.Goals as goal

pub make_rows-requires : goal.make_rows-requires
make_rows-requires c = (c.requires.0, c.requires.1, c.requires.2.long, c.requires.2.tables, search rules, search rules)

pub returns-in_default : goal.returns-in_default
returns-in_default c =
    let a = c.args in change-full a.header.now a.map.now c.requires.1 _ c.in_default.ensures a.starts.now a.answer.now

pub returns-then-starts-size : goal.returns-then-starts-size
returns-then-starts-size c =
    let a = c.args in change-short a.header.now a.map.now _ _ a.count c.requires.0 c.requires.1 c.requires.2 c.in-Ok.made c.in-Ok.ensures a.starts.now a.answer.now c.if-starts-size.true

pub returns-then-not-put_number : goal.returns-then-not-put_number
returns-then-not-put_number c =
    let a = c.args in change_unanswered a.header.now a.map.now _ _ a.count c.requires.0 c.requires.1 c.requires.2 c.in-Ok.made c.in-Ok.ensures a.starts.now a.answer.now _ c.if-starts-size.false c.put_number.ensures.1 (sym c.put_number.ensures.0 ∙ c.if-not-put_number.true)

pub put_rows-requires : goal.put_rows-requires
put_rows-requires c =
    let a = c.args in
    let l : length c.make_rows.new.rows ≡ 10240 = c.make_rows.auto.rows in
    let m = c.in-Ok.ensures.walks.few in
    (c.requires.0.0, m, omega arith, rows_open a.header.now a.map.now _ _ a.count c.requires.0 c.requires.1 c.requires.2 c.in-Ok.made c.in-Ok.ensures)

pub returns : goal.returns
returns c =
    let a = c.args in change-put a.header.now a.map.now _ _ a.count c.requires.0 c.requires.1 c.requires.2 c.in-Ok.made c.in-Ok.ensures a.starts.now a.answer.now _ c.if-starts-size.false c.put_number.ensures.1 (sym c.put_number.ensures.0 ∙ c.if-not-put_number.false) _ _ _ c.get8-version.ensures c.put_bytes.ensures c.put_rows.ensures
