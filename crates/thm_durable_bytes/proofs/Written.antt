-- What a client's Write does to a node's images and tells: what the definition does and the offset that it accepts, or nothing with a
-- refusal's number. Assumes nothing.
use Prim.Native.Nat.{ℕ, ◌≤◌}
use mathlib.Core.Path.{◌≡◌, refl, sym, ap, subst, ◌∙◌}
use mathlib.Core.Bool.{Bool, true, false, not}
use mathlib.Core.List.{List}
use mathlib.Core.Option.{Option, none, some}
use native.Mathlib.Omega.{arith}
use lib.Dec.{eqb, ltb}
use lib.ListN.{length}
use lib.Seq.{sets}
use borrow.Author.Tests.{ltb-false, leb-true}
use Rattle.spec.specs.Keys.{Key}
use Rattle.spec.specs.Limits.{max_entries}
use Rattle.spec.specs.Log.{Op, append, last_offset}
use Rattle.spec.specs.Refusals.{Refusal, unknown_shard, not_primary, no_lease, too_few_in_sync, undecodable, outside_domain, no_room, malformed, last_epoch, no_worker}
use Rattle.spec.specs.Layout.Format.{Bytes}
use Rattle.spec.specs.Layout.Message.{Write, decode_write}
use Rattle.spec.specs.Node.Held as held
use Rattle.spec.specs.Node.Shards.{Result, at_found, at_shard, held_shard, leads_at}
use Rattle.spec.specs.Node.Lease.{leased}
use Rattle.spec.specs.Node.Wire.{op_in_domain, stored_op}
use Rattle.spec.specs.Node.Client.{WriteAnswer, accepted, write_refused, ack_count, overfull, write_held, on_write}
use Rattle.spec.specs.Node.Calls.{late_time, write_of, write_with, call_write}
use Rattle.spec.specs.Node.WellFormed.{well_formed_lent}
use Rattle.spec_laws.proofs.Lists.{by-test, and_right, none_some, some_same}
use Rattle.spec_retained.proofs.Lent.{write_unlent}
use Rattle.node_header.specs.declared.Node.{Node}
use Rattle.node_header.specs.View.{view_node}
use Rattle.node_header.specs.Answers.{Answered, answered_as}
use Rattle.node_header.proofs.Lists.{by_case}
use Rattle.image_header.specs.Image.{node_at, header_written}
use Rattle.node_lent.specs.Lend.{place_of, slot_of, lent_for}
use Rattle.image_node.specs.Lent.{stores_put, lends_state}
use Rattle.image_node.specs.State.{state_at}
use Rattle.node_write.specs.declared.WriteReply.{WriteReply}
use Rattle.node_write.specs.declared.WriteReply.TheVariants as R
use Rattle.node_write.specs.declared.WriteAnswer as answer
use Rattle.node_write.specs.ClientWrites.{refusal_word, write_word, turned_down, number_in}
use Rattle.calls_parts.specs.Answer.{answer_lent, number_put}
use Rattle.calls_client_out.specs.Count.{count_lent}
use Rattle.calls_client_out.specs.Ends.{buffers, WriteEnded, ended, ended_as}
use Rattle.calls_client.specs.Searched.{lends_call}
use Rattle.calls_client.specs.Written.{WriteServed, WritesBytes}
use Rattle.thm_durable.proofs.Ways.{As}
use Rattle.thm_durable.proofs.Tested.{write_as_lem}
use Rattle.thm_durable_bytes.specs.Calls.{beside}
use Rattle.thm_durable_bytes.proofs.Entry.{columns, test, before, after, changes, same_test, entry, state_well}
use Rattle.thm_durable_bytes.proofs.Outputs.{number-beside}

-- ---- the offset of an accepted write is one of a log

abbrev Small : WriteAnswer → Type 0
Small (accepted o) = o ≤ max_entries
Small (write_refused r) = Unit {0}

abbrev SmallIn : {S : Type 0} → Result WriteAnswer S → Type 0
SmallIn z = Small z.answer

held_small : (lease : Bool) (least epoch : ℕ) (op : Op) (h : held.Held) → SmallIn (write_held lease least epoch op h)
unfolding write_held
held_small lease least epoch op h =
    let r = append h.replica op in
    by-test SmallIn (not (leads_at h.role epoch)) (λ e. tt)
    (λ e. by-test SmallIn (not lease) (λ e. tt)
    (λ e. by-test SmallIn (ltb (ack_count h) least) (λ e. tt)
    (λ e. by-test SmallIn (overfull r) (λ e. tt) (λ e. ltb-false max_entries (last_offset r) e))))

write_small : (t : Key → Bool) (v : held.Node) (now least : ℕ) (m : List ℕ) → SmallIn (write_with t v now least m)
unfolding write_with on_write at_shard
write_small t v now least m = by-test SmallIn (late_time now) (λ e. tt) (λ e. of (decode_write m))
  where
    at : (w : Write) (o : Option held.Held)
        → SmallIn (at_found v w.key (write_refused unknown_shard) (write_held (leased v now) least w.epoch (stored_op w.op)) o)
    at w none = tt
    at w (some h) = held_small (leased v now) least w.epoch (stored_op w.op) h

    of : (o : Option Write) → SmallIn (write_of t v now least o)
    of none = tt
    of (some w) =
        by-test SmallIn (not (op_in_domain w.op)) (λ e. tt)
        (λ e. by-test SmallIn (not (t w.key)) (λ e. tt) (λ e. at w (held_shard v w.key)))

-- ---- the answer by its word

abbrev offset_in : WriteAnswer → Option ℕ
offset_in (accepted o) = some o
offset_in (write_refused r) = none

abbrev back : WriteReply → Option ℕ
back (R.Accepted o) = some o.0
back (R.NotPrimary e) = none
back (R.Refused x) = none

-- a refusal is answered_as as one, by a number that is not 0
pub record Turned (w : WriteReply) : Type 0 where
  pub back : back w ≡ none
  pub number : eqb (number_in w) 0 ≡ false

turned : (r : Refusal) → Turned (refusal_word r)
turned unknown_shard = record { back = refl; number = refl }
turned (not_primary e) = record { back = refl; number = refl }
turned no_lease = record { back = refl; number = refl }
turned too_few_in_sync = record { back = refl; number = refl }
turned undecodable = record { back = refl; number = refl }
turned outside_domain = record { back = refl; number = refl }
turned no_room = record { back = refl; number = refl }
turned malformed = record { back = refl; number = refl }
turned last_epoch = record { back = refl; number = refl }
turned no_worker = record { back = refl; number = refl }

back-word : (z : WriteAnswer) → back (write_word z) ≡ offset_in z
back-word (accepted o) = refl
back-word (write_refused r) = (turned r).back

accepted_as : (z : WriteAnswer) (o : ℕ) → offset_in z ≡ some o → z ≡ accepted o
accepted_as (accepted i) o e = ap accepted (some_same e)
accepted_as (write_refused r) o e = none_some e

refused-number : (z : WriteAnswer) → offset_in z ≡ none → eqb (number_in (write_word z)) 0 ≡ false
refused-number (accepted o) e = none_some (sym e)
refused-number (write_refused r) e = (turned r).number

-- ---- what came of it: h and s the images at entry, h' and s' at exit, b the answer's buffer, r the number, y the definition's call

pub data Way (h s h' s' b : List ℕ) (r : ℕ) (y : Result WriteAnswer held.Node) : Type 0 where
  refused : eqb r 0 ≡ false → h' ≡ h → s' ≡ s → Way h s h' s' b r y
  taken : (x : Result WriteAnswer held.Node) → As write_refused (state_at h s) x y → (o : ℕ) → x.answer ≡ accepted o → state_at h' s' ≡ x.after
      → beside b ≡ o → r ≡ 0 → Way h s h' s' b r y

module _ (h s h' s' a b m : List ℕ) (now least r : ℕ) (bytes : Bytes s) where
  abbrev Goal : Type 0
  Goal = Way h s h' s' b r (call_write (state_at h s) now least m)

  abbrev n : Node
  n = node_at h

  stayed : (number : ℕ) → eqb number 0 ≡ false → (c : List ℕ) → ended r (buffers h' s' b) ≡ ended number (buffers h s c) → Goal
  stayed number z c e =
      refused (ap (λ (w : WriteEnded). eqb w.number 0) e ∙ z) (ap (λ (w : WriteEnded). w.left.header) e) (ap (λ (w : WriteEnded). w.left.stores) e)

  -- ---- past 24

  module _ (v : Write) (is : decode_write m ≡ some v) (lends : lends_state h s v.key ≡ true)
      (d : WriteServed (buffers h s a) v.key now least m (ended r (buffers h' s' b))) where
    abbrev k : Key
    k = v.key

    abbrev w : answer.WriteAnswer
    w = d.told

    -- the definition's call with the contract's test, on the stores with the columns lent, and on the state that the bytes are
    abbrev lent : Result WriteAnswer held.Node
    lent = write_with (lent_for (before h s k) n (columns h s k)) (view_node (before h s k) n) now least m

    abbrev x : Result WriteAnswer held.Node
    x = write_with (test h s k) (state_at h s) now least m

    spoke : w.answer ≡ write_word lent.answer
    spoke =
        ap (λ (t : Answered WriteReply). t.answer)
        (d.call.same (before h s k) (after h s k d.left) (slot_of n k) (λ z g. ap (λ (u : Write). slot_of n u.key) (some_same (sym is ∙ g)))
        (changes h s k d.left))

    -- accepted: so the state was lent
    passed : (o : ℕ) → back w.answer ≡ some o → test h s k k ≡ true
    passed o e =
        by_case (test h s k k) (λ t. t)
        (λ t.
        let u = write_unlent (view_node (before h s k) n) (lent_for (before h s k) n (columns h s k)) now least m
        (λ z g.
        ap (λ (i : Key). lent_for (before h s k) n (columns h s k) i) (ap (λ (u : Write). u.key) (some_same (sym g ∙ is)))
        ∙ ap (λ (f : Key → Bool). f k) (same_test h s k) ∙ t) in
        none_some (sym (ap (λ (z : WriteAnswer). back (write_word z)) u.1 ∙ (turned u.0).back) ∙ ap back (sym spoke) ∙ e))

    at_state : test h s k k ≡ true → lent ≡ x
    at_state t =
        ap (λ (f : Key → Bool). write_with f (view_node (before h s k) n) now least m) (same_test h s k)
        ∙ ap (λ (z : held.Node). write_with (test h s k) z now least m) (entry h s k lends bytes t)

    -- the images that the call would leave
    abbrev h₁ : List ℕ
    h₁ = header_written h w.node

    abbrev s₁ : List ℕ
    s₁ = stores_put s n w.node d.left (place_of n k)

    told_as_lem : (z : WriteReply) → w.answer ≡ z → ended r (buffers h' s' b) ≡ ended_as (buffers h s a) h₁ s₁ z → Goal
    told_as_lem (R.Accepted o) e f =
        by_case (answer_lent a)
        (λ room.
        let t = passed o.0 (ap back e) in
        let g : ended r (buffers h' s' b) ≡ ended 0 (buffers h₁ s₁ (number_put a o.0)) = rw room at f in
        let zero : r ≡ 0 = ap (λ (u : WriteEnded). u.number) g in
        let offset : x.answer ≡ accepted o.0 =
        accepted_as x.answer o.0
        (sym (back-word x.answer) ∙ ap (λ (u : Result WriteAnswer held.Node). back (write_word u.answer)) (sym (at_state t)) ∙ ap back (sym spoke ∙ e)) in
        let small : o.0 ≤ max_entries = subst Small offset (write_small (test h s k) (state_at h s) now least m) in
        taken x
        (write_as_lem (state_at h s) (test h s k) m now least
        (λ z g o. ap (well_formed_lent (state_at h s)) (ap (λ (u : Write). u.key) (some_same (sym g ∙ is))) ∙ state_well h s k lends bytes t))
        o.0 offset
        (d.state (ap turned_down e) zero).state
        (ap (λ (u : WriteEnded). beside u.left.answer) g ∙ number-beside o.0 a (omega arith) (leb-true 8 (length a) room))
        zero)
        (λ none_left. stayed 23 refl a (rw none_left at f))
    told_as_lem (R.NotPrimary e) q f = stayed 18 refl _ f
    told_as_lem (R.Refused number) e f =
        stayed number
        (ap (λ (z : WriteReply). eqb (number_in z) 0) (sym e ∙ spoke)
        ∙ refused-number lent.answer (sym (back-word lent.answer) ∙ ap back (sym spoke ∙ e)))
        a f

  -- ---- the call

  pub way : (c : List ℕ) → WritesBytes (buffers h s a) c now least m (ended r (buffers h' s' b)) → Goal
  way c d = by_case (late_time now) (λ l. stayed 21 refl a (d.late l)) (λ l. go l (decode_write m) refl)
    where
      go : late_time now ≡ false → (o : Option Write) → decode_write m ≡ o → Goal
      go l none e = stayed 21 refl a (d.undecoded e)
      go l (some v) e =
          let w = d.read l v e in
          by_case (op_in_domain v.op)
          (λ f.
          by_case (lends_call c h s v.key)
          (λ i.
          let g = w.lent f i in
          told_as_lem v e (and_right (count_lent c) (lends_state h s v.key) i) g g.told.answer refl g.is)
          (λ i. stayed 24 refl a (w.unlent f i)))
          (λ f. stayed 22 refl a (w.outside f))
