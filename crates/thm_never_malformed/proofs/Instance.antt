-- A list of calls that the checker follows, and the theorem put to it: node 1 is made in zeroed memory, shown a map, granted a lease, takes a
-- Write and acknowledges it, each call with its contract kept on images of the code's own sizes (crate `thm_one_node`). So the theorem is of lists of
-- calls that there are. Assumes nothing.
use mathlib.Core.Path.{◌≡◌, refl}
use mathlib.Core.Bool.{true}
use mathlib.Core.List.{List, [], ◌∷◌}
use Rattle.spec.specs.Layout.Format.{Bytes, All}
use Rattle.spec_laws.proofs.Lists.{and_true}
use Rattle.spec_run.proofs.Cases.Opened.{opened}
use Rattle.thm_run.proofs.Simulation.Client.{are_bytes}
use Rattle.map_check.specs.Lent.{well_formed_lent}
use Rattle.image_map.specs.Image.{map_at, map_lent}
use Rattle.thm_one_node.specs.Images.{map_bytes, unused, new, shown, leased, written, stores, room, offset, count}
use Rattle.thm_one_node.proofs.Map.{map-lent, tested}
use Rattle.thm_one_node.proofs.New.{is-new}
use Rattle.thm_one_node.proofs.Shown.{shows}
use Rattle.thm_one_node.proofs.Grant.{grants}
use Rattle.thm_one_node.proofs.Columns.{stored, stores-room}
use Rattle.thm_one_node.proofs.Write.{bytes}
use Rattle.thm_one_node.proofs.WriteImages.{writes_images}
use Rattle.thm_one_node.proofs.Wait.{waits}
use Rattle.thm_never_malformed.specs.Intact.{Intact}
use Rattle.thm_never_malformed.specs.Calls.{show_map, grant, write, wait, beside_formed, Called, Answered, Calls, NotMalformed}
use Rattle.thm_never_malformed.proofs.Intact.{never_malformed}

-- each call with what it is lent beside the two images, and the number that it answers
abbrev show_call : Answered
show_call = record { call = show_map map_bytes [] room 0; number = 0 }

abbrev grant-call : Answered
grant-call = record { call = grant 4 0 100; number = 0 }

abbrev write-call : Answered
write-call = record { call = write bytes room count 5 1; number = 0 }

abbrev waiting_call : Answered
waiting_call = record { call = wait (0x73 ∷ []) [] room 0 1 1 6 10; number = 0 }

abbrev calls : List Answered
calls = show_call ∷ grant-call ∷ write-call ∷ waiting_call ∷ []

message-bytes : Bytes bytes
unfolding opened bytes
message-bytes = are_bytes bytes refl

pub calls-made : Calls calls new stores written stored
unfolding Called Calls
calls-made = (
  shown,
  stores,
  ([], room, shows, refl),
  (
    leased,
    stores,
    (grants, refl),
    (written, stored, (offset, count, message-bytes, writes_images), (written, stored, ([], room, waits, refl), (refl, refl))),
  ),
)

-- what is lent beside the images is well formed, so that the theorem speaks of every call
pub beside : All (λ (a : Answered). beside_formed a.call ≡ true) calls
beside = (and_true (map_lent map_bytes) (well_formed_lent (map_at map_bytes)) map-lent tested, (refl, (refl, (refl, tt))))

-- the theorem, put to it
pub kept : All NotMalformed calls × Intact written stored
kept = never_malformed unused new stores written stored 1 4 calls is-new stores-room calls-made
