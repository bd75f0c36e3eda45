-- The list of losses as bytes (docs/IMAGES.md): a row is the node and a code, 8 bytes each, and for code 0 the lists, as place lays them.
-- Definitions only.
use Rattle.std.specs.Prelude.{ℕ, ◌≤◌, ◌≡◌, List, [], ◌++◌, length}
use Rattle.std.proofs.lemmas.List.Edits.{sets}
use Rattle.spec.specs.Layout.Format.{bytes_of, concat_map}
use Rattle.spec.specs.Map.Place.{Placed, nowhere, placed_on, not_placed}
use Rattle.spec_losses.specs.Losses.{Loss}
use Rattle.image_map_losses.specs.Codes.{code_of}
use Rattle.map_tables.specs.View.{view_spec}
use Rattle.map_tables.specs.declared.Spec.{Spec}
use Rattle.map_place.specs.Answers.{PlaceAnswer, placed_of}
use Rattle.map_place.specs.Read.{view_loads}
use Rattle.map_place.specs.declared.Loads.{Loads}
use Rattle.image_map_losses.specs.Left.{losses_on}
use Rattle.calls_map.specs.Places.{lists_bytes}
use Rattle.calls_losses.specs.declared.Put.{Put}

-- what follows a code: lists after 0, otherwise nothing
abbrev pub lists_after : Placed → List ℕ
lists_after nowhere = []
lists_after (placed_on ls) = lists_bytes ls
lists_after (not_placed why) = []

unfoldable pub loss_bytes : Loss → List ℕ
loss_bytes x = (bytes_of 8 x.node ++ bytes_of 8 (code_of x.then)) ++ lists_after x.then

abbrev pub losses_bytes : List Loss → List ℕ
losses_bytes xs = concat_map loss_bytes xs

-- a node with the code's answer
abbrev pub loss_as : ℕ → PlaceAnswer → Loss
loss_as n a = record { node = n; then = placed_of a }

-- one row stored, and its size
pub record PutsRow (n : ℕ) (a : PlaceAnswer) (s t : List ℕ) (at r : ℕ) : Type 0 where
  pub bytes : t ≡ sets s at (loss_bytes (loss_as n a))
  pub size : r ≡ length (loss_bytes (loss_as n a))
  pub most : r ≤ 1040

-- all rows stored from the start on, how many there are, and their size
pub record PutsLosses (loads : Loads) (spec : Spec) (s t : List ℕ) (r : Put) : Type 0 where
  pub bytes : t ≡ sets s 0 (losses_bytes (losses_on (view_spec spec) (view_loads loads)))
  pub rows : r.rows ≡ length (losses_on (view_spec spec) (view_loads loads))
  pub size : r.size ≡ length (losses_bytes (losses_on (view_spec spec) (view_loads loads)))
  pub most : r.size ≤ 33280
