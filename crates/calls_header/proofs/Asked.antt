-- Laws of what every call is asked with. Assumes nothing.
use Prim.Native.Nat.{ℕ}
use mathlib.Core.Bool.{Bool, true, false, not}
use mathlib.Core.Path.{◌≡◌, refl, sym, ◌∙◌}
use mathlib.Core.List.{List}
use lib.Dec.{ltb}
use borrow.Author.Tests.{not-false}
use Rattle.spec.specs.Lists.{◌or◌}
use Rattle.spec.specs.Limits.{max_name, max_time}
use Rattle.spec.specs.Node.Calls.{late_time}
use Rattle.spec_laws.proofs.Wire.Tests.{false_not_true}
use Rattle.wire_write.specs.Written.{text_fits}
use Rattle.calls_header.specs.Asked.{unread_name, Asked}
use Rattle.calls_header.specs.Acks.{unread_reply, unread_ack}
use Rattle.calls_header.specs.Outcomes.{unread_outcome}
use Rattle.calls_header.specs.Waits.{unread_wait}

-- ---- 21, 24, and neither

module _ {unread lent : Bool} {r : ℕ} {Same Called : Type 0} where
  pub asked-unread : unread ≡ true → r ≡ 21 → Same → Asked unread lent r Same Called
  asked-unread u a b = record {
    undecodable = λ e. (a, b);
    malformed = λ e l. absurd (false_not_true (sym e ∙ u));
    called = λ e l. absurd (false_not_true (sym e ∙ u));
  }

  pub asked_malformed : unread ≡ false → lent ≡ false → r ≡ 24 → Same → Asked unread lent r Same Called
  asked_malformed u h a b = record {
    undecodable = λ e. absurd (false_not_true (sym u ∙ e));
    malformed = λ e l. (a, b);
    called = λ e l. absurd (false_not_true (sym h ∙ l));
  }

  pub asked-called : unread ≡ false → lent ≡ true → Called → Asked unread lent r Same Called
  asked-called u h d = record {
    undecodable = λ e. absurd (false_not_true (sym u ∙ e));
    malformed = λ e l. absurd (false_not_true (sym l ∙ h));
    called = λ e l. d;
  }

-- ---- times and names

pub late-first : (a b : ℕ) → ltb max_time a ≡ true → true ≡ (late_time a or late_time b)
unfolding ◌or◌
late-first a b e = rw e

pub late-second : (a b : ℕ) → ltb max_time a ≡ false → ltb max_time b ≡ (late_time a or late_time b)
unfolding ◌or◌
late-second a b e = rw e

pub first_fails : (a b : Bool) → (a or b) ≡ false → a ≡ false
unfolding ◌or◌
first_fails true b e = e
first_fails false b e = refl

pub second_fails : (a b : Bool) → (a or b) ≡ false → b ≡ false
unfolding ◌or◌
second_fails true b e = absurd (false_not_true (sym e))
second_fails false b e = e

pub name-fits : (name : List ℕ) (rest : Bool) → unread_name name rest ≡ false → text_fits max_name name ≡ true
name-fits name rest e = not-false _ (first_fails (not (text_fits max_name name)) rest e)

-- ---- what is not readable

module _ (name : List ℕ) (now timeout : ℕ) where
  pub wait_unnamed : not (text_fits max_name name) ≡ true → true ≡ unread_wait name now timeout
  unfolding ◌or◌
  wait_unnamed e = rw e

  pub wait_named : not (text_fits max_name name) ≡ false → (late_time now or late_time timeout) ≡ unread_wait name now timeout
  unfolding ◌or◌
  wait_named e = rw e

module _ (name : List ℕ) (command applied : ℕ) where
  pub outcome_unnamed : not (text_fits max_name name) ≡ true → true ≡ unread_outcome name command applied
  unfolding ◌or◌
  outcome_unnamed e = rw e

  module _ (named : not (text_fits max_name name) ≡ false) where
    pub outcome_unended : ltb 1 applied ≡ true → true ≡ unread_outcome name command applied
    unfolding ◌or◌
    outcome_unended e = rw named (rw e)

    module _ (ended : ltb 1 applied ≡ false) where
      pub outcome-under : ltb command 0x17 ≡ true → true ≡ unread_outcome name command applied
      unfolding ◌or◌
      outcome-under e = rw named (rw ended (rw e))

      pub outcome_over : ltb command 0x17 ≡ false → ltb 0x18 command ≡ unread_outcome name command applied
      unfolding ◌or◌
      outcome_over e = rw named (rw ended (rw e))

module _ (name : List ℕ) (step : ℕ) (reply : List ℕ) where
  pub ack_unnamed : not (text_fits max_name name) ≡ true → true ≡ unread_ack name step reply
  unfolding ◌or◌
  ack_unnamed e = rw e

  module _ (named : not (text_fits max_name name) ≡ false) where
    pub ack_under : ltb step 2 ≡ true → true ≡ unread_ack name step reply
    unfolding ◌or◌
    ack_under e = rw named (rw e)

    module _ (low : ltb step 2 ≡ false) where
      pub ack_over : ltb 4 step ≡ true → true ≡ unread_ack name step reply
      unfolding ◌or◌
      ack_over e = rw named (rw low (rw e))

      pub ack_step : ltb 4 step ≡ false → unread_reply reply ≡ unread_ack name step reply
      unfolding ◌or◌
      ack_step e = rw named (rw low (rw e))
