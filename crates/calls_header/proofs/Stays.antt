-- A call that is refused leaves the specification's node as it was, and the image. Assumes nothing.
use Prim.Native.Nat.{ℕ}
use mathlib.Core.Bool.{Bool, true, false}
use mathlib.Core.Path.{◌≡◌, refl, sym, ap, ◌∙◌}
use mathlib.Core.List.{List}
use lib.Dec.{eqb}
use Rattle.spec.specs.Lists.{◌and◌}
use Rattle.spec.specs.Refusals.{Refusal}
use Rattle.spec.specs.Node.Held as held
use Rattle.spec.specs.Node.Lease as leases
use Rattle.spec.specs.Node.Client as client
use Rattle.spec.specs.Node.Ack as ack
use Rattle.spec.specs.Node.Shown as show
use Rattle.spec.specs.declared.DataNodeId.{DataNodeId}
use Rattle.spec_laws.proofs.Lists.{not_both}
use Rattle.spec_laws.proofs.Node.Refusals.{grant-refused, wait_refused_lem, ack_refused_lem, outcome-refused, shown-refused}
use Rattle.node_shard.specs.declared.WaitAnswer.{WaitAnswer}
use Rattle.node_shard.specs.declared.WaitAnswer.TheVariants as W
use Rattle.node_shard.specs.Answers.{wait_word, outcome_word}
use Rattle.node_shard.specs.Acks.{ack_word, sent_of}
use Rattle.map_tables.specs.View.{view_map}
use Rattle.map_check.specs.Lent.{well_formed_lent}
use Rattle.node_header.specs.declared.Node.{Node}
use Rattle.node_header.specs.View.{Stores, view_node}
use Rattle.node_header.specs.Formed.{lent_node}
use Rattle.node_header.specs.Answers.{grant_word, proposal_of}
use Rattle.node_show.specs.declared.ShownAnswer.{ShownAnswer}
use Rattle.node_show.specs.declared.ShownAnswer.TheVariants as S
use Rattle.node_show.specs.Shows.{shown_word}
use Rattle.image_header.specs.Image.{node_at}
use Rattle.image_map.specs.Image.{map_at}
use Rattle.wire_write.specs.Written.{key_given}
use Rattle.calls_header.specs.Asked.{image_after}
use Rattle.calls_header.specs.Leaves.{Stays}
use Rattle.calls_header.specs.Grants.{is_granted, granted}
use Rattle.calls_header.specs.Acks.{sent_at, is_acked, acked}
use Rattle.calls_header.specs.Outcomes.{proposal_at, is_settled, settled}
use Rattle.calls_header.specs.Waits.{wait_said, is_waited, waited}
use Rattle.calls_header.specs.Shows.{show_said, is_shown, shown_call}

pub stays_of : (s t : List ℕ) → t ≡ s → (after : Stores → held.Node) → ((st : Stores) → after st ≡ view_node st (node_at s)) → Stays s t after
stays_of s t e after same = record { bytes = e; read = λ st. ap (λ (u : List ℕ). view_node st (node_at u)) e ∙ sym (same st) }

-- what was not done is not written
pub unwritten : (s t : List ℕ) (n : Node) (done : Bool) → t ≡ image_after done s n → done ≡ false → t ≡ s
unwritten s t n done e d = e ∙ ap (λ (b : Bool). image_after b s n) d

-- ---- an answer that is told as a refusal is one, and then the node is as it was

grant_off : (a : leases.GrantAnswer) → is_granted (grant_word a) ≡ false → (r : Refusal) × (a ≡ leases.grant_refused r)
grant_off leases.granted e = not_both true refl e
grant_off (leases.grant_refused r) e = (r, refl)

wait_off : (a : client.WaitAnswer) → is_waited (wait_word a) ≡ false → (r : Refusal) × (a ≡ client.wait_refused r)
wait_off (client.done l) e = not_both true refl e
wait_off (client.waiting l) e = not_both true refl e
wait_off (client.wait_refused r) e = (r, refl)

ack_off : (a : ack.AckAnswer) → is_acked (ack_word a) ≡ false → (r : Refusal) × (a ≡ ack.ack_refused r)
ack_off ack.noted e = not_both true refl e
ack_off ack.expand e = not_both true refl e
ack_off (ack.ack_refused r) e = (r, refl)

outcome_off : (a : ack.OutcomeAnswer) → is_settled (outcome_word a) ≡ false → (r : Refusal) × (a ≡ ack.outcome_refused r)
outcome_off ack.settled e = not_both true refl e
outcome_off (ack.outcome_refused r) e = (r, refl)

shown_off : (a : show.ShownAnswer) → is_shown (shown_word a) ≡ false → (r : Refusal) × (a ≡ show.shown_refused r)
shown_off (show.shown l) e = not_both true refl e
shown_off (show.shown_refused r) e = (r, refl)

module _ (s : List ℕ) (st : Stores) where
  abbrev before : held.Node
  before = view_node st (node_at s)

  pub grant_stays : (i sent lease : ℕ) → is_granted (grant_word (granted s i sent lease st).answer) ≡ false → (granted s i sent lease st).after ≡ before
  grant_stays i sent lease e =
      let of = grant_off (granted s i sent lease st).answer e in
      grant-refused of.0 (lent_node st (node_at s)) before i sent lease of.1

  module _ (name : List ℕ) (shard epoch : ℕ) where
    pub wait_stays : (offset now timeout : ℕ) → is_waited (wait_word (waited s name shard epoch offset now timeout st).answer) ≡ false
        → (waited s name shard epoch offset now timeout st).after ≡ before
    wait_stays offset now timeout e =
        let of = wait_off (waited s name shard epoch offset now timeout st).answer e in
        wait_refused_lem of.0 (lent_node st (node_at s)) before now timeout (key_given name shard) epoch offset of.1

    pub ack_stays : (reply : List ℕ) (peer step : ℕ) → is_acked (ack_word (acked s name reply shard epoch peer step st).answer) ≡ false
        → (acked s name reply shard epoch peer step st).after ≡ before
    ack_stays reply peer step e =
        let of = ack_off (acked s name reply shard epoch peer step st).answer e in
        ack_refused_lem of.0 (lent_node st (node_at s)) before (key_given name shard) epoch peer (sent_of (sent_at step)) reply of.1

    pub outcome_stays : (peer command applied : ℕ) → is_settled (outcome_word (settled s name shard epoch peer command applied st).answer) ≡ false
        → (settled s name shard epoch peer command applied st).after ≡ before
    outcome_stays peer command applied e =
        let of = outcome_off (settled s name shard epoch peer command applied st).answer e in
        outcome-refused of.0 (lent_node st (node_at s)) before (key_given name shard) epoch peer (proposal_of (proposal_at command)) (eqb applied 1) of.1

  pub shown_stays : (m : List ℕ) (fresh : ℕ) → is_shown (shown_word (shown_call s m fresh st).answer) ≡ false → (shown_call s m fresh st).after ≡ before
  shown_stays m fresh e =
      let of = shown_off (shown_call s m fresh st).answer e in
      shown-refused of.0 (lent_node st (node_at s) and well_formed_lent (map_at m)) before fresh (view_map (map_at m)) of.1

-- ---- and the header's bytes are left

pub wait_unwritten : (w : WaitAnswer) (s p a : List ℕ) (l : List DataNodeId) (n : Node) → is_waited w ≡ false → (wait_said w s p a l n).header ≡ s
wait_unwritten W.Done s p a l n e = not_both true refl e
wait_unwritten W.Waiting s p a l n e = not_both true refl e
wait_unwritten (W.NotPrimary own) s p a l n e = refl
wait_unwritten (W.Refused k) s p a l n e = refl

pub show_unwritten : (w : ShownAnswer) (s p a : List ℕ) (l : List show.Worker) (n : Node) → is_shown w ≡ false → (show_said w s p a l n).header ≡ s
show_unwritten S.Shown s p a l n e = not_both true refl e
show_unwritten (S.Refused k) s p a l n e = refl
