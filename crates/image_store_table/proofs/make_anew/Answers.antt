use borrow.Author.Rules.{rules}
use native.Mathlib.Omega.{arith}
use Rattle.image_store_table.proofs.Table.{made}
use Rattle.image_store_table.proofs.make_anew.Goals as goal

pub played-n-requires : goal.played-n-requires
played-n-requires c = (c.requires.0, c.requires.1, search rules, search rules)

pub write_table-requires : goal.write_table-requires
write_table-requires c =
    let d = c.played-n.ensures in let r = c.requires.1 in (omega (arith, d.fits), omega (arith, d.fits, d.keys), omega (arith, d.also, d.places), omega arith)

pub returns : goal.returns
returns c = made c.args.stores.now _ c.args.base _ _ _ _ _ _ _ c.played-n.ensures c.write_table.ensures
