use borrow.Author.Rules.{rules}
use mathlib.Core.Path.{◌≡◌, sym, ◌∙◌}
use lib.ListN.{length}
use Rattle.image_parts.proofs.Images.{length-used}
use Rattle.image_parts.proofs.tidy.tidy_address.Goals as goal

pub returns : goal.returns
returns c =
    let a = c.args.a in
    let k : length a.bytes ≡ 64 = search rules in
    rw (c.padded-bytes.ensures, c.in_use-len.ensures.0 ∙ sym (length-used 64 a.len a.bytes k))
