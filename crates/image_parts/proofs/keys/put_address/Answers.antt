use borrow.Author.Rules.{rules}
use native.Mathlib.Omega.{arith}
use mathlib.Core.Path.{◌≡◌}
use lib.ListN.{length}
use Rattle.image_parts.specs.Parts.{address_bytes}
use Rattle.image_parts.proofs.Images.{stored-then, stored-word, stored_bytes}
use Rattle.image_parts.proofs.keys.put_address.Goals as goal

pub put_bytes-requires : goal.put_bytes-requires
put_bytes-requires c = let h : length c.args.a.bytes ≡ 64 = search rules in omega arith

pub returns : goal.returns
unfolding address_bytes
returns c =
    let a = c.args in
    let h : length a.a.bytes ≡ 64 = search rules in
    stored-then (stored-word 8 a.a.len c.put8.ensures) (stored_bytes 64 a.a.bytes c.put_bytes.ensures h)
