use borrow.Author.Rules.{rules}
use native.Mathlib.Omega.{arith}
use mathlib.Core.Path.{◌≡◌}
use lib.ListN.{length}
use Rattle.image_parts.specs.Parts.{name_bytes}
use Rattle.image_parts.proofs.Images.{stored-then, stored-word, stored_bytes}
use Rattle.image_parts.proofs.keys.put_name.Goals as goal

pub put_bytes-requires : goal.put_bytes-requires
put_bytes-requires c = let h : length c.args.n.bytes ≡ 32 = search rules in omega arith

pub returns : goal.returns
unfolding name_bytes
returns c =
    let a = c.args in
    let h : length a.n.bytes ≡ 32 = search rules in
    stored-then (stored-word 8 a.n.len c.put8.ensures) (stored_bytes 32 a.n.bytes c.put_bytes.ensures h)
