use mathlib.Core.Path.{refl, sym, ◌∙◌}
use mathlib.Core.Bool.{true, false}
use Rattle.spec_laws.proofs.Lists.{not_both}
use Rattle.image_header_row.specs.Rows.{held_row_at}
use Rattle.image_show.proofs.RowLaws.{quiet_led, quiet_left}
use Rattle.image_show.proofs.row.row_quiet.Goals as goal

pub holds_as-requires : goal.holds_as-requires
holds_as-requires c = (c.requires.0, c.requires.2.held)

pub returns-then-not-holds_as : goal.returns-then-not-holds_as
returns-then-not-holds_as c = λ e. not_both false e refl

pub led_on-requires : goal.led_on-requires
led_on-requires c = c.requires

pub returns-then-is_leader : goal.returns-then-is_leader
returns-then-is_leader c =
    λ e. quiet_led (held_row_at c.args.s.now c.args.at).held c.args.me c.args.row (c.holds_as.ensures (c.if-not-holds_as.false)) c.leader_of-leader.result c.leader_of-leader.ensures (sym c.is_leader.ensures ∙ c.if-is_leader.true) (c.led_on.ensures e)

pub left_on-requires : goal.left_on-requires
left_on-requires c = c.requires.0

pub returns : goal.returns
returns c =
    λ e. quiet_left (held_row_at c.args.s.now c.args.at).held c.args.me c.args.row (c.holds_as.ensures (c.if-not-holds_as.false)) c.leader_of-leader.result c.leader_of-leader.ensures (sym c.is_leader.ensures ∙ c.if-is_leader.false) (c.left_on.ensures e)
