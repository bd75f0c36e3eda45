use borrow.Author.Rules.{rules}
use mathlib.Core.Path.{◌≡◌, sym, ◌∙◌}
use lib.ListN.{length}
use Rattle.map_tables.proofs.Tables.{of_field}
use Rattle.image_parts.proofs.Images.{length-used}
use Rattle.image_map_form.proofs.tidy.tidy_holders.Goals as goal

pub returns : goal.returns
returns c =
    let h = c.args.h in
    let k : length h.items ≡ 8 = search (rules, of_field) in
    rw (c.tidy_replicas-items.ensures, c.in_use-count.ensures.0 ∙ sym (length-used 8 h.count h.items k))
