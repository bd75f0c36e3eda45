use native.Mathlib.Omega.{arith}
use mathlib.Core.Path.{refl}
use Prim.Native.Nat.{◌+◌}
use Rattle.log_check.proofs.Walking.{blank, rows-refused, all-answered}
use Rattle.image_store.specs.Image.{keys_in, places_in}
use Rattle.image_store.specs.Read.{codes_in}
use Rattle.image_store.proofs.Words.{words-length}
use Rattle.image_store.proofs.Reading.{bytes-length}
use Rattle.image_store_check.specs.Test.{offsets_in, ids_in}
use Rattle.image_store_check.proofs.settled.played_by_marks.Goals as goal

pub mark_rows-requires : goal.mark_rows-requires
mark_rows-requires c = (c.requires.0, c.requires.1, c.requires.2, refl, blank 1024)

pub returns-then-not-mark_rows : goal.returns-then-not-mark_rows
returns-then-not-mark_rows c =
    let a = c.args in let s = a.s.now in let m = c.requires.1 in let lk = words-length 8 1024 s (a.base + 157696) in let lp = words-length 8 1024 s (a.base + 165888) in
    rows-refused (offsets_in s a.base) (ids_in s a.base) (codes_in s a.base) (keys_in s a.base) (places_in s a.base) a.count a.stored (omega arith) (omega arith) c.requires.3 _ _ c.mark_rows.ensures (c.if-not-mark_rows.true)

pub all_settled-requires : goal.all_settled-requires
all_settled-requires c =
    let a = c.args in let s = a.s.now in let t = c.mark_rows.ensures in let w = c.requires.2 in (
      record {
        count = c.requires.0;
        stored = c.requires.1;
        ids = words-length 8 1024 s (a.base + 16384);
        codes = bytes-length s (a.base + 24576) (omega arith);
        keys = words-length 8 1024 s (a.base + 157696);
        places = words-length 8 1024 s (a.base + 165888);
        size = t.size;
        rows = t.answer.yes (c.if-not-mark_rows.false);
        marked = t.marked;
      },
      c.requires.2,
      refl,
      refl,
    )

pub returns : goal.returns
returns c =
    let a = c.args in let s = a.s.now in let m = c.requires.1 in let lk = words-length 8 1024 s (a.base + 157696) in let lp = words-length 8 1024 s (a.base + 165888) in
    all-answered (offsets_in s a.base) (ids_in s a.base) (codes_in s a.base) (keys_in s a.base) (places_in s a.base) a.count a.stored (omega arith) (omega arith) c.requires.3 c.all_settled.result (c.mark_rows.ensures.answer.yes (c.if-not-mark_rows.false)) c.all_settled.ensures
