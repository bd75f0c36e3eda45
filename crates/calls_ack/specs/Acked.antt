-- An ack in place: what is asked, and the ack at the shard. Definitions only.
use Rattle.std.specs.Prelude.{ℕ, true, false, ◌≡◌, List, get_or}
use Rattle.spec.specs.Layout.Message.{decode_reply}
use Rattle.spec.specs.Node.Ack.{bad_reply}
use Rattle.node_shard.specs.declared.Acked.{Acked}
use Rattle.node_shard.specs.declared.Sent.{Sent}
use Rattle.node_shard.specs.declared.Reply.{Reply}
use Rattle.node_shard.specs.Acks.{reply_of, AcksHeld}
use Rattle.node_header.specs.View.{no_held_row, with_shard}
use Rattle.node_header.specs.Arrays.{Trims}
use Rattle.std.specs.Prelude.{Option}
use Rattle.std.specs.Prelude.{None, Some}
use Rattle.node_hear.specs.Hears.{heard_of}
use Rattle.image_header.specs.Image.{node_at}
use Rattle.calls_header.specs.Asked.{After}
use Rattle.calls_header.specs.Acks.{unread_ack, ack_number, is_acked}

-- internal: the reply that an ack is asked with, or nothing where that is 21
pub record Heeds (name : List ℕ) (step : ℕ) (reply : List ℕ) (r : Option Reply) : Type 0 where
  pub none : r ≡ None → unread_ack name step reply ≡ true
  pub some : (a : Reply) → r ≡ Some a
      → (unread_ack name step reply ≡ false) × (heard_of (decode_reply reply) ≡ Some a) × (bad_reply (reply_of a) ≡ false)

-- internal: the ack at the shard at place `at`
pub record AcksAt (s t : List ℕ) (at epoch peer : ℕ) (step : Sent) (reply : Reply) (r : ℕ) : Type 0 where
  pub acked : Acked
  pub held : AcksHeld (get_or (node_at s).held at no_held_row).held epoch peer step reply acked
  pub trims : Trims acked.held acked.held
  pub after : After s t (with_shard (node_at s) at acked.held) (is_acked acked.answer) (ack_number acked.answer) r
