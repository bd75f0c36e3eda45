use native.Mathlib.Omega.{arith}
use mathlib.Core.Path.{◌∙◌}
use Rattle.map_words.proofs.PartLaws.{first-put}
use Rattle.map_words.proofs.text_of.Goals as goal

pub returns : goal.returns
returns c =
    record { bytes = first-put c.put_answer-len.ensures; length = c.put_answer-len.ensures.place ∙ omega arith; within = c.put_answer-len.ensures.within }
