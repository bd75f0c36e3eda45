-- Paper 01, 'Who is turned down', Apply: the map of the cases is the one that its requests make, and every row holds, computed by the
-- checker. Assumes nothing.
use mathlib.Core.Path.{◌≡◌, refl}
use mathlib.Core.List.{List, map}
use Rattle.spec.specs.Limits.{max_u64}
use Rattle.spec.specs.Refusals.{not_in_sync, last_epoch}
use Rattle.spec.specs.Map.Tables.{empty_map, refused}
use Rattle.spec.specs.Map.Change.{promote, decide_change, accepts, rejects}
use Rattle.spec.specs.Map.Apply.{Applied, apply}
use Rattle.spec.specs.NearMisses.{after}
use Rattle.spec.specs.Cases.Commands.{Row, built, base, creating, of_nodes, lacking, changing, again, at_epoch}
use Rattle.spec.proofs.Opened.{opened}

pub built_is_base : after empty_map built ≡ base
unfolding opened
built_is_base = refl

-- what the map answers, and what the table says
abbrev answered : List Row → List Applied
answered rows = map (λ r. apply base r.asked) rows

abbrev expected : List Row → List Applied
expected rows = map (λ r. r.expected) rows

pub creating-holds : answered creating ≡ expected creating
unfolding opened
creating-holds = refl

pub of_nodes_holds : answered of_nodes ≡ expected of_nodes
unfolding opened
of_nodes_holds = refl

pub lacking-holds : answered lacking ≡ expected lacking
unfolding opened
lacking-holds = refl

pub changing-holds : answered changing ≡ expected changing
unfolding opened
changing-holds = refl

pub again-holds : answered again ≡ expected again
unfolding opened
again-holds = refl

-- 25 at 2^64 − 1 and not one below; 14 comes first
pub last-epoch : decide_change (at_epoch max_u64) (promote 1) ≡ refused last_epoch
unfolding opened
last-epoch = refl

pub one_below : decide_change (at_epoch 18446744073709551614) (promote 1) ≡ accepts
unfolding opened
one_below = refl

pub out_of_sync_first : decide_change (at_epoch max_u64) (promote 2) ≡ rejects (not_in_sync 2)
unfolding opened
out_of_sync_first = refl
