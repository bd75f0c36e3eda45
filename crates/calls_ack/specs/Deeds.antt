-- What a deed leaves of a shard whose i-th peer replied, and what is answered. Definitions only.
use Rattle.std.specs.Prelude.{ℕ, cond, get_or, set}
use Rattle.spec.specs.Node.Ack.{joins, ack_row, unaligned}
use Rattle.node_shard.specs.declared.Held.{Held}
use Rattle.node_shard.specs.declared.Deed.{Deed}
use Rattle.node_shard.specs.declared.Deed.TheVariants as D
use Rattle.node_shard.specs.declared.AckAnswer.{AckAnswer}
use Rattle.node_shard.specs.declared.AckAnswer.TheVariants as A
use Rattle.node_shard.specs.View.{no_peer, with_rows}
use Rattle.image_header_set.specs.Row.{stepped_down}

unfoldable pub deed_held : Deed → ℕ → Held → Held
deed_held D.Nothing i h = h
deed_held D.StepDown i h = stepped_down h
deed_held D.Unalign i h = with_rows h (set h.peers i (unaligned (get_or h.peers i no_peer)))
deed_held (D.Record t a) i h = with_rows h (set h.peers i (ack_row h.last t a (get_or h.peers i no_peer)))

unfoldable pub deed_answer : Deed → ℕ → Held → AckAnswer
deed_answer D.Nothing i h = A.Noted
deed_answer D.StepDown i h = A.Noted
deed_answer D.Unalign i h = A.Noted
deed_answer (D.Record t a) i h = cond (joins h.last t a (get_or h.peers i no_peer)) A.Expand A.Noted
