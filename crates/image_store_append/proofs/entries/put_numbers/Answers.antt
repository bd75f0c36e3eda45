use Rattle.image_store.proofs.Writing.{numbers_put_lem}
use Rattle.image_store_append.proofs.entries.put_numbers.Goals as goal

pub returns : goal.returns
returns c =
    let a = c.args in rw (c.put_byte-2.ensures, c.put_byte.ensures, c.put8-3.ensures, c.put8-2.ensures, c.put8.ensures) (numbers_put_lem a.out.now a.base a.i a.epoch a.offset a.id a.code a.len)
