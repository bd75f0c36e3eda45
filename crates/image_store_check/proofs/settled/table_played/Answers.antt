use native.Mathlib.Omega.{arith}
use Prim.Native.Nat.{◌+◌}
use Rattle.image_store.specs.Image.{keys_in, places_in}
use Rattle.image_store.specs.Read.{codes_in}
use Rattle.image_store.proofs.Words.{words-length}
use Rattle.image_store_check.specs.Test.{offsets_in, ids_in}
use Rattle.image_store_check.proofs.Table.{whole-answered}
use Rattle.image_store_check.proofs.settled.table_played.Goals as goal

pub returns : goal.returns
returns c =
    let a = c.args in let s = a.s.now in let m = c.requires.1 in let lk = words-length 8 1024 s (a.base + 157696) in let lp = words-length 8 1024 s (a.base + 165888) in
    whole-answered (offsets_in s a.base) (ids_in s a.base) (codes_in s a.base) (keys_in s a.base) (places_in s a.base) a.count a.stored (omega arith) (omega arith) c.requires.3 c.if-stored-count.false c.rows_fit.result c.rows_fit.ensures
