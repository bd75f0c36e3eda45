use native.Mathlib.Omega.{arith}
use mathlib.Core.Path.{refl}
use Rattle.log_check.proofs.Walking.{blank, rows-refused, all-answered}
use Rattle.log_check.proofs.settled.table_played.Goals as goal

pub mark_rows-requires : goal.mark_rows-requires
mark_rows-requires c = let p = c.requires in (p.0, p.1, p.2, p.3, p.4, p.5, refl, blank 1024)

pub returns-then-not-mark_rows : goal.returns-then-not-mark_rows
returns-then-not-mark_rows c =
    let a = c.args in
    let p = c.requires in
    rows-refused a.offsets.now a.ids.now a.codes.now a.keys.now a.places.now a.count a.stored (omega (arith, p.1, p.4)) (omega (arith, p.1, p.5)) p.6 _ _ c.mark_rows.ensures (c.if-not-mark_rows.true)

pub all_settled-requires : goal.all_settled-requires
all_settled-requires c =
    let p = c.requires in
    let t = c.mark_rows.ensures in (
      record {
        count = p.0;
        stored = p.1;
        ids = p.2;
        codes = p.3;
        keys = p.4;
        places = p.5;
        size = t.size;
        rows = t.answer.yes (c.if-not-mark_rows.false);
        marked = t.marked;
      },
      refl,
      refl,
    )

pub returns : goal.returns
returns c =
    let a = c.args in
    let p = c.requires in
    all-answered a.offsets.now a.ids.now a.codes.now a.keys.now a.places.now a.count a.stored (omega (arith, p.1, p.4)) (omega (arith, p.1, p.5)) p.6 c.all_settled.result (c.mark_rows.ensures.answer.yes (c.if-not-mark_rows.false)) c.all_settled.ensures
