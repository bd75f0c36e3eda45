use native.Mathlib.Omega.{arith}
use Rattle.image_store.proofs.Writing.{rows-put, rows_fit_lem}
use native.Mathlib.Nat.{sub-zero}
use Rattle.image_store.proofs.write.write_table.Goals as goal

pub returns : goal.returns
returns c =
    let a = c.args in
    record {
      image = (rw (c.put_words8-2.ensures, c.put_words8.ensures, sub-zero) (rows-put a.image.now a.base a.stored a.keys.now a.places.now (omega arith) (omega arith)));
      fits = rows_fit_lem a.stored a.keys.now a.places.now (λ i. omega (arith, c.type_inv.keys i)) (λ i. omega (arith, c.type_inv.places i));
    }
