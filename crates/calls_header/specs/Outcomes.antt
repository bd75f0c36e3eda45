-- What the outcome of a proposal over a header's image promises: 21 and 24 as every call, then the contract of the outcome on the header that
-- the bytes are read as, its number, and every byte after. Definitions only.
use Rattle.std.specs.Prelude.{ℕ, Bool, true, false, cond, ◌≡◌, List, eqb, ltb}
use Rattle.spec.specs.Lists.{◌or◌}
use Rattle.spec.specs.Node.Held as held
use Rattle.spec.specs.Node.Shards.{Result}
use Rattle.spec.specs.Node.Ack as ack
use Rattle.spec.specs.Node.Calls as calls
use Rattle.node_shard.specs.declared.OutcomeAnswer.{OutcomeAnswer}
use Rattle.node_shard.specs.declared.OutcomeAnswer.TheVariants as O
use Rattle.node_header.specs.declared.Proposal.{Proposal}
use Rattle.node_header.specs.declared.Proposal.TheVariants as P
use Rattle.node_header.specs.declared.NodeSettled.{NodeSettled}
use Rattle.node_header.specs.View.{Stores, view_node}
use Rattle.node_header.specs.Formed.{lent_node}
use Rattle.node_header.specs.Slots.{Keeps}
use Rattle.node_header.specs.Answers.{proposal_of, OutcomesNode}
use Rattle.wire_write.specs.Written.{key_given}
use Rattle.image_header.specs.Image.{header_lent, node_at}
use Rattle.calls_header.specs.Asked.{unread_name, Asked, image_after}
use Rattle.calls_header.specs.Leaves.{LeavesSlots, Stays, StaysFormed}

-- the commands' codes as in a request: 17 Shrink, 18 Expand (hexadecimal)
abbrev pub proposal_at : ℕ → Proposal
proposal_at command = cond (eqb command 0x17) P.Shrink P.Grow

-- no name, no code of these commands, or neither 0 nor 1
abbrev pub unread_outcome : List ℕ → (command applied : ℕ) → Bool
unread_outcome name command applied = unread_name name (ltb 1 applied or ltb command 0x17 or ltb 0x18 command)

abbrev pub outcome_number : OutcomeAnswer → ℕ
outcome_number O.Noted = 0
outcome_number (O.Refused k) = k

abbrev pub is_settled : OutcomeAnswer → Bool
is_settled O.Noted = true
is_settled (O.Refused k) = false

-- the specification's outcome, on the header that the bytes are read as
abbrev pub settled : (s name : List ℕ) → (shard epoch peer command applied : ℕ) → Stores → Result ack.OutcomeAnswer held.Node
settled s name shard epoch peer command applied st =
    calls.outcome_with (lent_node st (node_at s)) (view_node st (node_at s)) (key_given name shard) epoch peer (proposal_of (proposal_at command)) (eqb applied 1)

-- the image holds s before and t after
pub record OutcomesImage (s t name : List ℕ) (shard epoch peer command applied r : ℕ) : Type 0 where
  pub after : NodeSettled
  pub call : OutcomesNode (node_at s) (key_given name shard) epoch peer (proposal_at command) (eqb applied 1) after
  pub keeps : Keeps (node_at s) after.node
  pub answer : r ≡ outcome_number after.answer
  pub image : t ≡ image_after (is_settled after.answer) s after.node
  pub leaves : is_settled after.answer ≡ true → LeavesSlots s t (λ st. (settled s name shard epoch peer command applied st).after)
  pub stays : is_settled after.answer ≡ false → Stays s t (λ st. (settled s name shard epoch peer command applied st).after)
  pub formed : StaysFormed s t (λ st. (settled s name shard epoch peer command applied st).after)

abbrev pub Outcomes : (s t name : List ℕ) → (shard epoch peer command applied r : ℕ) → Type 0
Outcomes s t name shard epoch peer command applied r =
    Asked (unread_outcome name command applied) (header_lent s) r (t ≡ s) (OutcomesImage s t name shard epoch peer command applied r)
