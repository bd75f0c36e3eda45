use borrow.Author.Rules.{rules}
use native.Mathlib.Omega.{arith}
use mathlib.Core.Path.{◌≡◌, ◌∙◌, ap}
use lib.ListN.{length}
use Rattle.map_words.proofs.PartLaws.{puts_as, rest_of}
use Rattle.map_words.proofs.parts.put_number.Goals as goal

pub slice_bounds-put_words-end : goal.slice_bounds-put_words-end
slice_bounds-put_words-end c = let h : length c.digits-d.result.bytes ≡ 20 = search rules in omega arith

pub put_words-requires : goal.put_words-requires
put_words-requires c =
    let d = c.digits-d.result in
    let h : length d.bytes ≡ 20 = search rules in
    let e = rest_of 20 d.from d.bytes h ∙ c.digits-d.ensures.digits in
    omega (arith, ap length e, c.requires)

pub returns : goal.returns
returns c =
    let d = c.digits-d.result in
    let h : length d.bytes ≡ 20 = search rules in
    puts_as (rest_of 20 d.from d.bytes h ∙ c.digits-d.ensures.digits) c.put_words.ensures
