use borrow.Author.Rules.{rules}
use native.Mathlib.Omega.{arith}
use mathlib.Core.Path.{◌≡◌, sym, ap}
use lib.ListN.{length}
use lib.Seq.{length-take-le}
use Rattle.map_words.proofs.PartLaws.{puts_as, first_of}
use Rattle.map_words.proofs.parts.put_name.Goals as goal

pub slice_bounds-bytes-end : goal.slice_bounds-bytes-end
slice_bounds-bytes-end c = let h : length c.args.name.bytes ≡ 32 = search rules in omega (arith, c.name_size-n.ensures.1)

pub slice_bounds-put_words-end : goal.slice_bounds-put_words-end
slice_bounds-put_words-end c =
    let h : length c.args.name.bytes ≡ 32 = search rules in sym (length-take-le _ _ (omega (arith, c.name_size-n.ensures.1)))

pub put_words-requires : goal.put_words-requires
put_words-requires c =
    let n = c.args.name in
    omega (arith, ap length (first_of c.name_size-n.result n.len n.bytes c.name_size-n.ensures.0), c.requires)

pub returns : goal.returns
returns c =
    let n = c.args.name in puts_as (first_of c.name_size-n.result n.len n.bytes c.name_size-n.ensures.0) c.put_words.ensures
