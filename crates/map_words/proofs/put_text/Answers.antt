use borrow.Author.Rules.{rules}
use native.Mathlib.Omega.{arith}
use mathlib.Core.Path.{◌≡◌, sym}
use lib.ListN.{length}
use lib.Seq.{length-take-le}
use Rattle.map_words.proofs.put_text.Goals as goal

pub slice_bounds-bytes-end : goal.slice_bounds-bytes-end
slice_bounds-bytes-end c = let h : length c.args.t.bytes ≡ 108 = search rules in omega (arith, c.requires.0)

pub slice_bounds-put_bytes-end : goal.slice_bounds-put_bytes-end
slice_bounds-put_bytes-end c =
    let h : length c.args.t.bytes ≡ 108 = search rules in sym (length-take-le _ _ (omega (arith, c.requires.0)))

pub put_bytes-requires : goal.put_bytes-requires
put_bytes-requires c =
    let h : length c.args.t.bytes ≡ 108 = search rules in omega (arith, length-take-le c.args.t.len c.args.t.bytes (omega (arith, c.requires.0)), c.requires.1)
