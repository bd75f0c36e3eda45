use Rattle.std.specs.Prelude.{ℕ}
use mathlib.Core.Path.{◌≡◌, ◌∙◌, ap}
use Rattle.spec.specs.Layout.Format.{number_at}
use Rattle.spec.specs.Node.Lease.{before}
use Rattle.node_admit.specs.View.{view_expiry}
use Rattle.std.specs.Prelude.{Option}
use Rattle.image_header_row.specs.Rows.{expiry_of}
use Rattle.image_header.specs.Image.{node_at}
use Rattle.image_header_admit.proofs.admission.is_leased.Goals as goal

pub returns : goal.returns
unfolding node_at
returns c =
    let s = c.args.s.now in
    let x : c.expiry_of-e.result ≡ expiry_of (number_at 4 s 36) (number_at 8 s 40) = c.expiry_of-e.ensures ∙ (rw (c.get4.ensures, c.get8.ensures)) in
    c.leased.ensures ∙ ap (λ (e : Option ℕ). before (view_expiry e) c.args.clock) x
