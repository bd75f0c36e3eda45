use borrow.Author.Rules.{rules}
use mathlib.Core.Path.{◌≡◌, sym, ◌∙◌}
use lib.ListN.{length}
use Rattle.image_parts.proofs.Images.{length-used}
use Rattle.image_parts.proofs.tidy.tidy_name.Goals as goal

pub returns : goal.returns
returns c =
    let n = c.args.n in
    let k : length n.bytes ≡ 32 = search rules in
    rw (c.padded-bytes.ensures, c.in_use-len.ensures.0 ∙ sym (length-used 32 n.len n.bytes k))
