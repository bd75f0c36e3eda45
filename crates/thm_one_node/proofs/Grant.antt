-- The lease grant: the headers before and after satisfy the contract of `catalogue_grant`, which answers 0. Assumes nothing.
use native.Mathlib.Omega.{arith}
use mathlib.Core.Path.{◌≡◌, refl}
use mathlib.Core.Bool.{true}
use Rattle.spec_run.proofs.Cases.Opened.{opened}
use Rattle.std.specs.Prelude.{None, Some}
use Rattle.node_header.specs.declared.NodeGranted.{NodeGranted}
use Rattle.node_header.specs.declared.GrantAnswer.TheVariants as G
use Rattle.node_header.specs.Answers.{GrantsNode}
use Rattle.node_header.specs.Arrays.{arrays_fit}
use Rattle.node_header.specs.Formed.{lent_node, slots_fit, counts_fit}
use Rattle.node_header.specs.Slots.{Keeps}
use Rattle.image_parts.specs.Canon as canon
use Rattle.image_header_row.specs.Rows as rows
use Rattle.image_header_row.specs.Tidy as tidy
use Rattle.image_header.specs.declared.Lent.{Lent}
use Rattle.image_header.specs.Image.{header_put, lent_header}
use Rattle.image_header.specs.Becomes.{HeaderWrites}
use Rattle.image_header.proofs.Becomes.{writes_long}
use Rattle.calls_header.specs.Grants.{Grants}
use Rattle.calls_header.proofs.Asked.{asked-called}
use Rattle.image_header.proofs.Image.{lent_long}
use Rattle.calls_header.proofs.Calls.{grants_image}
use Rattle.thm_one_node.specs.Images.{header, shown, leased}
use Rattle.thm_one_node.proofs.Headers.{leads, read-shown, lent-shown}
use Rattle.thm_one_node.proofs.Fits.{node-fits}

-- ---- the call, on what the bytes are read into

abbrev granted : NodeGranted
granted = record { answer = G.Granted; node = leads (Some 100) 0 0 }

grants_node : GrantsNode (leads None 0 0) 4 0 100 granted
unfolding opened lent_node slots_fit counts_fit
grants_node = λ s. rw (s.long 0 0) refl

keeps : Keeps (leads None 0 0) (leads (Some 100) 0 0)
unfolding opened arrays_fit slots_fit counts_fit
keeps = record { fits = λ e. refl; slots_are = refl }

-- ---- the buffers

abbrev read : Lent
read = record { found = true; node = leads None 0 0 }

is_read_lem : read ≡ lent_header shown
is_read_lem = rw (lent-shown, read-shown)

put-leased : leased ≡ header_put shown (leads (Some 100) 0 0)
unfolding header header_put rows.held_row_bytes tidy.tidy_held_row tidy.tidy_held canon.padded
put-leased = refl

header-leased : HeaderWrites shown leased (leads (Some 100) 0 0)
header-leased =
    writes_long shown (leads (Some 100) 0 0) leased (lent_long shown lent-shown) (node-fits (Some 100) 0 0 (omega arith) (omega arith) (omega arith)) put-leased

pub grants : Grants shown leased 4 0 100 0
unfolding opened
grants =
    asked-called refl lent-shown
    (grants_image shown read is_read_lem refl leased 4 0 100 0 granted grants_node keeps G.Granted refl refl
    header-leased.image (λ e. header-leased.becomes))
