-- Each header of the run written over the one before it; so each lends a header. Assumes nothing.
use native.Mathlib.Omega.{arith}
use mathlib.Core.Path.{◌≡◌, refl}
use mathlib.Core.Bool.{true, false}
use Rattle.spec_run.proofs.Cases.Opened.{opened}
use Rattle.std.specs.Prelude.{None, Some}
use Rattle.image_parts.specs.Canon as canon
use Rattle.image_header_row.specs.Rows as rows
use Rattle.image_header_row.specs.Tidy as tidy
use Rattle.image_header.specs.Image.{header_lent, header_put}
use Rattle.image_header.specs.Becomes.{HeaderWrites}
use Rattle.image_header.proofs.Becomes.{writes_long}
use Rattle.image_header.proofs.Image.{lent_long}
use Rattle.thm_one_node.specs.Images.{new}
use Rattle.thm_one_node.proofs.Headers as one
use Rattle.thm_two_nodes.specs.Images.{free, new_second, first, second, shown, leased, written, aligned, acked, shown_second, adopted, holding}
use Rattle.thm_two_nodes.proofs.Headers.{leads, follows, lent-new}
use Rattle.thm_two_nodes.proofs.Fits.{leads-fits, follows-fits}

-- ---- node 1

put-shown : shown ≡ header_put new (leads None 0 0 0 false)
unfolding opened new free first header_put rows.held_row_bytes tidy.tidy_held_row tidy.tidy_held canon.padded
put-shown = refl

pub header-shown : HeaderWrites new shown (leads None 0 0 0 false)
header-shown =
    writes_long new (leads None 0 0 0 false) shown (lent_long new one.lent-new)
    (leads-fits None 0 0 0 false (omega arith) (omega arith) (omega arith) (omega arith)) put-shown

pub lent-shown : header_lent shown ≡ true
lent-shown = (header-shown.becomes (lent_long new one.lent-new)).lent

put-leased : leased ≡ header_put shown (leads (Some 100) 0 0 0 false)
unfolding opened first header_put rows.held_row_bytes tidy.tidy_held_row tidy.tidy_held canon.padded
put-leased = refl

pub header-leased : HeaderWrites shown leased (leads (Some 100) 0 0 0 false)
header-leased =
    writes_long shown (leads (Some 100) 0 0 0 false) leased (lent_long shown lent-shown)
    (leads-fits (Some 100) 0 0 0 false (omega arith) (omega arith) (omega arith) (omega arith)) put-leased

pub lent-leased : header_lent leased ≡ true
lent-leased = (header-leased.becomes (lent_long shown lent-shown)).lent

put_written : written ≡ header_put leased (leads (Some 100) 1 1 0 false)
unfolding opened first header_put rows.held_row_bytes tidy.tidy_held_row tidy.tidy_held canon.padded
put_written = refl

pub header-written : HeaderWrites leased written (leads (Some 100) 1 1 0 false)
header-written =
    writes_long leased (leads (Some 100) 1 1 0 false) written (lent_long leased lent-leased)
    (leads-fits (Some 100) 1 1 0 false (omega arith) (omega arith) (omega arith) (omega arith)) put_written

pub lent_written : header_lent written ≡ true
lent_written = (header-written.becomes (lent_long leased lent-leased)).lent

put-aligned : aligned ≡ header_put written (leads (Some 100) 1 1 0 true)
unfolding opened first header_put rows.held_row_bytes tidy.tidy_held_row tidy.tidy_held canon.padded
put-aligned = refl

pub header-aligned : HeaderWrites written aligned (leads (Some 100) 1 1 0 true)
header-aligned =
    writes_long written (leads (Some 100) 1 1 0 true) aligned (lent_long written lent_written)
    (leads-fits (Some 100) 1 1 0 true (omega arith) (omega arith) (omega arith) (omega arith)) put-aligned

pub lent-aligned : header_lent aligned ≡ true
lent-aligned = (header-aligned.becomes (lent_long written lent_written)).lent

put-acked : acked ≡ header_put aligned (leads (Some 100) 1 1 1 true)
unfolding opened first header_put rows.held_row_bytes tidy.tidy_held_row tidy.tidy_held canon.padded
put-acked = refl

pub header-acked : HeaderWrites aligned acked (leads (Some 100) 1 1 1 true)
header-acked =
    writes_long aligned (leads (Some 100) 1 1 1 true) acked (lent_long aligned lent-aligned)
    (leads-fits (Some 100) 1 1 1 true (omega arith) (omega arith) (omega arith) (omega arith)) put-acked

pub lent-acked : header_lent acked ≡ true
lent-acked = (header-acked.becomes (lent_long aligned lent-aligned)).lent

-- a wait leaves it as it was
put-waited : acked ≡ header_put acked (leads (Some 100) 1 1 1 true)
unfolding opened first header_put rows.held_row_bytes tidy.tidy_held_row tidy.tidy_held canon.padded
put-waited = refl

pub header-waited : HeaderWrites acked acked (leads (Some 100) 1 1 1 true)
header-waited =
    writes_long acked (leads (Some 100) 1 1 1 true) acked (lent_long acked lent-acked)
    (leads-fits (Some 100) 1 1 1 true (omega arith) (omega arith) (omega arith) (omega arith)) put-waited

-- ---- node 2

put_second : shown_second ≡ header_put new_second (follows 0 0 0)
unfolding opened new_second second header_put rows.held_row_bytes tidy.tidy_held_row tidy.tidy_held canon.padded
put_second = refl

pub header-second : HeaderWrites new_second shown_second (follows 0 0 0)
header-second =
    writes_long new_second (follows 0 0 0) shown_second (lent_long new_second lent-new)
    (follows-fits 0 0 0 (omega arith) (omega arith) (omega arith)) put_second

pub lent-second : header_lent shown_second ≡ true
lent-second = (header-second.becomes (lent_long new_second lent-new)).lent

put-adopted : adopted ≡ header_put shown_second (follows 1 0 0)
unfolding opened second header_put rows.held_row_bytes tidy.tidy_held_row tidy.tidy_held canon.padded
put-adopted = refl

pub header-adopted : HeaderWrites shown_second adopted (follows 1 0 0)
header-adopted =
    writes_long shown_second (follows 1 0 0) adopted (lent_long shown_second lent-second)
    (follows-fits 1 0 0 (omega arith) (omega arith) (omega arith)) put-adopted

pub lent-adopted : header_lent adopted ≡ true
lent-adopted = (header-adopted.becomes (lent_long shown_second lent-second)).lent

put-holding : holding ≡ header_put adopted (follows 1 1 1)
unfolding opened second header_put rows.held_row_bytes tidy.tidy_held_row tidy.tidy_held canon.padded
put-holding = refl

pub header-holding : HeaderWrites adopted holding (follows 1 1 1)
header-holding =
    writes_long adopted (follows 1 1 1) holding (lent_long adopted lent-adopted)
    (follows-fits 1 1 1 (omega arith) (omega arith) (omega arith)) put-holding

pub lent-holding : header_lent holding ≡ true
lent-holding = (header-holding.becomes (lent_long adopted lent-adopted)).lent

-- the late alignment leaves it as it was
put-kept : holding ≡ header_put holding (follows 1 1 1)
unfolding opened second header_put rows.held_row_bytes tidy.tidy_held_row tidy.tidy_held canon.padded
put-kept = refl

pub header-kept : HeaderWrites holding holding (follows 1 1 1)
header-kept =
    writes_long holding (follows 1 1 1) holding (lent_long holding lent-holding)
    (follows-fits 1 1 1 (omega arith) (omega arith) (omega arith)) put-kept
