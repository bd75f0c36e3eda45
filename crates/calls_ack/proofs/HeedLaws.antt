-- The reply that an ack is asked with. Assumes nothing.
use Prim.Native.Nat.{ℕ}
use mathlib.Core.Bool.{true, false}
use mathlib.Core.Path.{◌≡◌, refl, sym, ap, subst, ◌∙◌}
use mathlib.Core.List.{List}
use native.Mathlib.Omega.{arith}
use Rattle.spec.specs.Layout.Message.{decode_reply}
use Rattle.spec.specs.Node.Ack.{bad_reply}
use Rattle.node_shard.specs.declared.Reply.{Reply}
use Rattle.node_shard.specs.Acks.{reply_of}
use Rattle.std.specs.Prelude.{Option}
use Rattle.std.specs.Prelude.{None, Some}
use Rattle.node_hear.specs.Hears.{heard_of}
use Rattle.calls_header.specs.Acks.{unread_ack}
use Rattle.calls_ack.specs.Acked.{Heeds}

abbrev heard_code : Option Reply → ℕ
heard_code None = 0
heard_code (Some a) = 1

abbrev reply_in : Reply → Option Reply → Reply
reply_in d None = d
reply_in d (Some a) = a

module _ (name : List ℕ) (step : ℕ) (reply : List ℕ) where
  pub heeds_none : unread_ack name step reply ≡ true → Heeds name step reply None
  heeds_none u = record { none = λ e. u; some = λ a e. absurd (let z : ◌≡◌ {A = ℕ} 0 1 = ap heard_code e in omega arith) }

  pub heeds_some : (a : Reply) → unread_ack name step reply ≡ false → heard_of (decode_reply reply) ≡ Some a → bad_reply (reply_of a) ≡ false
      → Heeds name step reply (Some a)
  heeds_some a u h g = record {
    none = λ e. absurd (let z : ◌≡◌ {A = ℕ} 1 0 = ap heard_code e in omega arith);
    some = λ b e. let q : a ≡ b = ap (reply_in a) e in (u, h ∙ e, ap (λ (r : Reply). bad_reply (reply_of r)) (sym q) ∙ g);
  }
