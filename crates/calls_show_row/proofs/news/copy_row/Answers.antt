use native.Mathlib.Omega.{arith}
use mathlib.Core.Path.{refl, ◌∙◌, ap}
use mathlib.Core.List.{List}
use Prim.Native.Nat.{ℕ, ◌+◌}
use Rattle.calls_show_row.proofs.NewsLaws.{copied}
use Rattle.image_header_row.specs.Rows.{held_row_at}
use Rattle.calls_show_row.proofs.news.copy_row.Goals as goal

pub returns : goal.returns
returns c =
    let a = c.args in let p = c.requires.1 in ap (λ (l : List ℕ). held_row_at l 0) c.put_bytes.ensures ∙ copied a.out.now a.s.now a.at (a.at + 1280) c.requires.0 refl (omega arith)
