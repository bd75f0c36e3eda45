use native.Mathlib.Omega.{arith}
use Rattle.image_map_loads.proofs.Rows.{lent_long}
use Rattle.test_map.proofs.Stays.{stays}
use Rattle.test_map.proofs.says.says.Goals as goal

pub get8-version-requires : goal.get8-version-requires
get8-version-requires c =
    let i = stays _ _ _ _ _ _ _ _ c.requires c.apply_words-number.ensures in let h = lent_long _ i.lent in omega arith

pub returns : goal.returns
returns c = stays _ _ _ _ _ _ _ _ c.requires c.apply_words-number.ensures
