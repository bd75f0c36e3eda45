-- One law for each way a call answers. Assumes nothing.
use Prim.Native.Nat.{ℕ}
use mathlib.Core.Path.{◌≡◌, refl, sym, ap, ◌∙◌}
use native.Mathlib.Omega.{arith}
use mathlib.Core.Bool.{Bool, true, false}
use mathlib.Core.List.{List}
use mathlib.Core.Option.{Option, none, some}
use Rattle.spec.specs.Lists.{◌and◌}
use Rattle.spec.specs.Keys.{Key}
use Rattle.spec.specs.Refusals.{Refusal}
use Rattle.spec.specs.Layout.Message as message
use Rattle.spec.specs.Node.Ack as ack
use Rattle.spec.specs.Node.Shown as show
use Rattle.spec.specs.Node.Calls as calls
use Rattle.spec_laws.proofs.Node.Refusals.{shown-refused, ack_refused_lem}
use Rattle.spec.specs.declared.Epoch.{Epoch}
use Rattle.spec.specs.declared.Offset.{Offset}
use Rattle.map_tables.specs.declared.ShardMap.{ShardMap}
use Rattle.map_tables.specs.View.{view_map}
use Rattle.map_check.specs.Lent.{well_formed_lent}
use Rattle.wire_read.specs.Shown.{reply_shown, message_of}
use Rattle.wire_read.specs.declared.Message.{Message}
use Rattle.wire_read.specs.declared.Message.TheVariants as M
use Rattle.wire_read.proofs.Decoded.{Decoded, reply-answered}
use Rattle.node_shard.specs.declared.Reply.{Reply}
use Rattle.node_shard.specs.declared.Reply.TheVariants as R
use Rattle.node_shard.specs.declared.Sent.{Sent}
use Rattle.node_shard.specs.declared.AckAnswer.{AckAnswer}
use Rattle.node_shard.specs.declared.AckAnswer.TheVariants as A
use Rattle.node_shard.specs.Acks.{reply_of, sent_of, ack_word}
use Rattle.node_header.specs.declared.Node.{Node}
use Rattle.node_header.specs.declared.NodeAcked.{NodeAcked}
use Rattle.node_header.specs.View.{Stores, view_node}
use Rattle.node_header.specs.Formed.{lent_node}
use Rattle.node_header.specs.Answers.{Answered, AcksNode}
use Rattle.node_header.proofs.Formed.{header-apart}
use Rattle.node_show.specs.declared.Start.{Start}
use Rattle.node_show.specs.declared.NodeShown.{NodeShown}
use Rattle.node_show.specs.declared.ShownAnswer.{ShownAnswer}
use Rattle.node_show.specs.declared.ShownAnswer.TheVariants as S
use Rattle.node_show.specs.Shows.{view_starts, shown_word, ShownAnswered, shown_answered, ShowsMap}
use Rattle.node_show.proofs.Shown.{slots_are_same}
use Rattle.std.specs.declared.option.Option as option
use Rattle.std.specs.Prelude.{None, Some}
use Rattle.node_hear.specs.Hears.{HearsMap, heard_of, HearsReply}

-- ---- map shown

and_on : (a b : Bool) → b ≡ true → a and b ≡ a
unfolding ◌and◌
and_on true b e = e
and_on false b e = refl

and_off : (a b : Bool) → b ≡ false → a and b ≡ false
unfolding ◌and◌
and_off true b e = e
and_off false b e = refl

shown_code : ShownAnswer → ℕ
shown_code S.Shown = 0
shown_code (S.Refused k) = 1

-- an answer told as a refusal is one
shown_refused_as : (a : show.ShownAnswer) (k : ℕ) → shown_word a ≡ S.Refused k → (r : Refusal) × (a ≡ show.shown_refused r)
unfolding shown_code
shown_refused_as (show.shown_refused r) k e = (r, refl)
shown_refused_as (show.shown l) k e = absurd (let z : ◌≡◌ {A = ℕ} 0 1 = ap shown_code e in omega arith)

module _ (n : Node) (m : ShardMap) (fresh : ℕ) where
  pub map-formed : well_formed_lent m ≡ true → (r : NodeShown) → ShowsMap n m fresh r → HearsMap n m fresh r
  map-formed w r e = record {
    same = λ s.
        e.same s
        ∙ ap (λ (b : Bool). shown_answered (calls.shown_with b (view_node s n) fresh (view_map m))) (sym (and_on (lent_node s n) (well_formed_lent m) w));
    slots = e.slots;
    slots_are = e.slots_are;
    stays = e.stays;
  }

  pub map_malformed : well_formed_lent m ≡ false → (free : List Start)
      → HearsMap n m fresh (record { answer = S.Refused 24; starts = free; count = 0; node = n })
  map_malformed w free = record {
    same = λ s. unfold calls.shown_with view_starts in rw (and_off (lent_node s n) (well_formed_lent m) w);
    slots = λ e. header-apart n e;
    slots_are = λ e. slots_are_same n e;
    stays = λ e. refl;
  }

  -- 23 or 24: the node after is the node before
  pub map-refused : (r : NodeShown) → HearsMap n m fresh r → (k : ℕ) → r.answer ≡ S.Refused k → (s : Stores) → view_node s r.node ≡ view_node s n
  map-refused r e k h s =
      let x = calls.shown_with (lent_node s n and well_formed_lent m) (view_node s n) fresh (view_map m) in
      let said = ap (λ (t : ShownAnswered). t.answer) (sym (e.same s)) ∙ h in
      let of = shown_refused_as x.answer k said in
      ap (λ (t : ShownAnswered). t.node) (e.same s)
      ∙ shown-refused of.0 (lent_node s n and well_formed_lent m) (view_node s n) fresh (view_map m) of.1

-- ---- ack

-- what was heard, of a message
abbrev heard_in : Message → option.Option Reply
heard_in M.Undecodable = None
heard_in (M.Request p) = None
heard_in (M.Replicate p) = None
heard_in (M.NewEpoch p) = None
heard_in (M.CopyShard p) = None
heard_in (M.Write p) = None
heard_in (M.Search p) = None
heard_in (M.Stored n) = Some (R.Stored n.0)
heard_in (M.Gap n) = Some (R.Gap n.0)
heard_in (M.StaleEpoch n) = Some (R.Stale n.0)
heard_in (M.Adopted n) = Some (R.Adopted n.0)

heard_in_lem : (r : message.Reply) → heard_of (some r) ≡ heard_in (reply_shown r)
heard_in_lem (message.reply_stored n) = refl
heard_in_lem (message.reply_gap n) = refl
heard_in_lem (message.reply_stale n) = refl
heard_in_lem (message.reply_adopted n) = refl

-- a message that shows a reply is heard as that reply
pub reply-heard : (o : Option message.Reply) (m : Message) → Decoded reply_shown o m → heard_of o ≡ heard_in m
reply-heard o m d = ap heard_of d.decoded ∙ heard_in_lem d.read ∙ ap heard_in d.shown

-- bytes that show no reply are none
module _ (s : List ℕ) (a : (n : Offset) → message_of s ≡ M.Stored n → ⊥) (b : (n : Offset) → message_of s ≡ M.Gap n → ⊥)
    (c : (n : Epoch) → message_of s ≡ M.StaleEpoch n → ⊥) (d : (n : Offset) → message_of s ≡ M.Adopted n → ⊥) where
  unheard : (o : Option message.Reply) → message.decode_reply s ≡ o → heard_of o ≡ None
  unheard none e = refl
  unheard (some (message.reply_stored n)) e = absurd (a _ (reply-answered s _ e))
  unheard (some (message.reply_gap n)) e = absurd (b _ (reply-answered s _ e))
  unheard (some (message.reply_stale n)) e = absurd (c _ (reply-answered s _ e))
  unheard (some (message.reply_adopted n)) e = absurd (d _ (reply-answered s _ e))

  pub reply_unheard : heard_of (message.decode_reply s) ≡ None
  reply_unheard = unheard (message.decode_reply s) refl

-- the reply that was heard
abbrev read_as : option.Option Reply → Option message.Reply
read_as None = none
read_as (Some r) = some (reply_of r)

read_as_lem : (o : Option message.Reply) → o ≡ read_as (heard_of o)
read_as_lem none = refl
read_as_lem (some (message.reply_stored n)) = refl
read_as_lem (some (message.reply_gap n)) = refl
read_as_lem (some (message.reply_stale n)) = refl
read_as_lem (some (message.reply_adopted n)) = refl

ack_code : AckAnswer → ℕ
ack_code A.Noted = 0
ack_code A.Expand = 0
ack_code (A.Refused k) = 1

-- an answer told as a refusal is one
ack_refused_as : (a : ack.AckAnswer) (k : ℕ) → ack_word a ≡ A.Refused k → (r : Refusal) × (a ≡ ack.ack_refused r)
unfolding ack_code
ack_refused_as (ack.ack_refused r) k e = (r, refl)
ack_refused_as ack.noted k e = absurd (let z : ◌≡◌ {A = ℕ} 0 1 = ap ack_code e in omega arith)
ack_refused_as ack.expand k e = absurd (let z : ◌≡◌ {A = ℕ} 0 1 = ap ack_code e in omega arith)

module _ (n : Node) (k : Key) (epoch peer : ℕ) (sent : Sent) (s : List ℕ) where
  pub ack_read : (a : Reply) → heard_of (message.decode_reply s) ≡ Some a → (r : NodeAcked) → AcksNode n k epoch peer sent a r
      → HearsReply n k epoch peer sent s r
  unfolding calls.ack_with
  ack_read a e r d t = rw (read_as_lem (message.decode_reply s) ∙ ap read_as e) (d t)

  -- 21, 24 or 26: the node after is the node before
  pub reply-refused : (r : NodeAcked) → HearsReply n k epoch peer sent s r → (x : ℕ) → r.answer ≡ A.Refused x → (t : Stores)
      → view_node t r.node ≡ view_node t n
  reply-refused r e x h t =
      let v = calls.ack_with (lent_node t n) (view_node t n) k epoch peer (sent_of sent) s in
      let said = ap (λ (w : Answered AckAnswer). w.answer) (sym (e t)) ∙ h in
      let of = ack_refused_as v.answer x said in
      ap (λ (w : Answered AckAnswer). w.node) (e t) ∙ ack_refused_lem of.0 (lent_node t n) (view_node t n) k epoch peer (sent_of sent) s of.1
