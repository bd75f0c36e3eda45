-- The wait for the Write: the header, which it leaves, satisfies the contract of `catalogue_wait`, which answers 0, done, and names no peer.
-- Assumes nothing.
use native.Mathlib.Omega.{arith}
use mathlib.Core.Path.{◌≡◌, refl}
use mathlib.Core.Bool.{true}
use mathlib.Core.List.{[], ◌∷◌}
use lib.ListN.{replicate}
use Rattle.spec.specs.declared.DataNodeId.{DataNodeId}
use Rattle.spec_run.proofs.Cases.Opened.{opened}
use Rattle.node_shard.specs.declared.WaitAnswer.TheVariants as W
use Rattle.std.specs.Prelude.{Some}
use Rattle.node_header.specs.declared.NodeWaited.{NodeWaited}
use Rattle.node_header.specs.Answers.{WaitsNode}
use Rattle.node_header.specs.Formed.{lent_node, slots_fit, counts_fit}
use Rattle.node_header.specs.Slots.{Keeps}
use Rattle.image_header_row.specs.Rows as rows
use Rattle.image_header_row.specs.Tidy as tidy
use Rattle.image_parts.specs.Canon as canon
use Rattle.image_header.specs.declared.Lent.{Lent}
use Rattle.image_header.specs.Image.{lent_header, header_put}
use Rattle.image_header.specs.Becomes.{HeaderWrites}
use Rattle.image_header.proofs.Becomes.{writes_long}
use Rattle.wire_write.specs.Written.{text_fits}
use Rattle.calls_parts.specs.Answer.{number_put}
use Rattle.calls_header.specs.Waits.{id_bytes, RowsPut, WaitPut, Waits}
use Rattle.calls_header.proofs.Asked.{asked-called}
use Rattle.image_header.proofs.Image.{lent_long}
use Rattle.calls_header.proofs.Calls.{waits_image}
use Rattle.calls_header.proofs.Waits.{all-put, waited_as}
use Rattle.thm_one_node.specs.Images.{header, written, room}
use Rattle.thm_one_node.proofs.Map.{key}
use Rattle.thm_one_node.proofs.Headers.{node, leads, read-written, lent_written}
use Rattle.thm_one_node.proofs.Fits.{node-fits}

-- ---- the header stays as it was, written over itself

put-waited : written ≡ header_put written (leads (Some 100) 1 1)
unfolding header header_put rows.held_row_bytes tidy.tidy_held_row tidy.tidy_held canon.padded
put-waited = refl

header-waited : HeaderWrites written written (leads (Some 100) 1 1)
header-waited =
    writes_long written (leads (Some 100) 1 1) written (lent_long written lent_written)
    (node-fits (Some 100) 1 1 (omega arith) (omega arith) (omega arith)) put-waited

-- ---- the call

abbrev waited : NodeWaited
waited = record { answer = W.Done; shrink = record { items = replicate 32 (node 0); count = 0 }; node = leads (Some 100) 1 1 }

done : WaitsNode (leads (Some 100) 1 1) key 1 1 6 10 waited
unfolding opened lent_node slots_fit counts_fit
done = λ s. rw (s.long 0 1) refl

keeps : Keeps (leads (Some 100) 1 1) (leads (Some 100) 1 1)
keeps = record { fits = λ e. e; slots_are = refl }

-- ---- the buffers: no peer, and that there is none

none-put : room ≡ number_put room 0
unfolding number_put
none-put = refl

rows-put : RowsPut id_bytes 8 0 written written [] [] room room [] (leads (Some 100) 1 1) 0
rows-put =
    all-put {A = DataNodeId} id_bytes 8 0 written [] room [] (leads (Some 100) 1 1) (omega arith) room 0 none-put refl
    header-waited.image header-waited.becomes refl refl

put : WaitPut written written [] [] room room waited 0
put = waited_as written [] room waited W.Done refl rows-put.buffers (λ e r. header-waited.becomes)

abbrev read : Lent
read = record { found = true; node = leads (Some 100) 1 1 }

is_read_lem : read ≡ lent_header written
is_read_lem = rw (lent_written, read-written)

pub waits : Waits written written [] [] room room (0x73 ∷ []) 0 1 1 6 10 0
unfolding opened text_fits
waits =
    asked-called refl lent_written
    (waits_image written read is_read_lem refl (0x73 ∷ []) 0 key refl written [] [] room room 1 1 6 10 0 waited done keeps put)
