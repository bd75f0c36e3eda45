-- Paper 01, 'Who is broken down', 24: every row of the table holds, computed by the checker. Assumes nothing.
use mathlib.Core.Path.{◌≡◌, refl}
use mathlib.Core.Bool.{Bool}
use mathlib.Core.List.{List, map}
use lib.Ieee as ieee
use Rattle.spec.specs.Map.WellFormed.{well_formed_map}
use Rattle.spec.specs.Node.WellFormed.{well_formed_header, well_formed_log}
use Rattle.spec.specs.Cases.Numbers.{rejections}
use Rattle.spec.specs.Cases.Malformed.{Row, counts, orders, in_sync, remembering, reasons, operands, headers, logs}
use Rattle.spec.proofs.Opened.{opened}

abbrev said : {A : Type 0} → (A → Bool) → List (Row A) → List Bool
said formed rows = map (λ r. formed r.lent) rows

abbrev expected : {A : Type 0} → List (Row A) → List Bool
expected rows = map (λ r. r.well) rows

pub counts_hold : said well_formed_map counts ≡ expected counts
unfolding opened
counts_hold = refl

pub orders_hold : said well_formed_map orders ≡ expected orders
unfolding opened
orders_hold = refl

pub in_sync_holds : said well_formed_map in_sync ≡ expected in_sync
unfolding opened
in_sync_holds = refl

-- a remembered 1 is no outcome that a map can have
pub reasons_hold : map (λ why. well_formed_map (remembering why)) rejections ≡ reasons
unfolding opened
reasons_hold = refl

pub operands_hold : said well_formed_map operands ≡ expected operands
unfolding opened
operands_hold = refl

pub headers_hold : said well_formed_header headers ≡ expected headers
unfolding opened
headers_hold = refl

pub logs_hold : said well_formed_log logs ≡ expected logs
unfolding opened ieee.fits
logs_hold = refl
