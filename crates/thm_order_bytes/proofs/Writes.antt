-- One `catalogue_write` by its contract: answered 0, the definition accepted it and the images are read as what that leaves; and what the
-- definition accepts at intact images is answered 0. Assumes nothing.
use Prim.Native.Nat.{ℕ}
use mathlib.Core.Path.{◌≡◌, refl, sym, ap, ◌∙◌, subst}
use mathlib.Core.Bool.{Bool, true}
use mathlib.Core.List.{List}
use mathlib.Core.Option.{some}
use native.Mathlib.Omega.{arith}
use lib.Dec.{eqb}
use lib.ListN.{length}
use borrow.Author.Tests.{le-leb}
use Rattle.spec.specs.Lists.{◌and◌}
use Rattle.spec.specs.Keys.{Key}
use Rattle.spec.specs.Log.{Op}
use Rattle.spec.specs.Layout.Message as message
use Rattle.spec.specs.Node.Held as held
use Rattle.spec.specs.Node.Shards.{Result, held_shard}
use Rattle.spec.specs.Node.Wire.{stored_op}
use Rattle.spec.specs.Node.Client as client
use Rattle.spec.specs.Node.Calls.{write_with, call_write}
use Rattle.spec.specs.Node.WellFormed.{well_formed_header, log_if_held, well_formed_lent}
use Rattle.spec_laws.proofs.Lists.{and_true, and_right, not_both, some_same}
use Rattle.spec_laws.proofs.Node.Logs.{log-formed}
use Rattle.node_header.specs.declared.Node.{Node}
use Rattle.node_header.specs.View.{view_node}
use Rattle.node_header.specs.Answers.{Answered}
use Rattle.node_header.proofs.Lists.{by_case}
use Rattle.image_header.specs.Image.{node_at, header_written}
use Rattle.node_lent.specs.Lend.{place_of, slot_of, lent_for}
use Rattle.image_node.specs.Lent.{stores_put, lends_state}
use Rattle.image_node.specs.State.{stores_in}
use Rattle.node_write.specs.declared.WriteReply.{WriteReply}
use Rattle.node_write.specs.declared.WriteReply.TheVariants as R
use Rattle.node_write.specs.ClientWrites.{write_word}
use Rattle.calls_parts.specs.Answer.{number_put}
use Rattle.calls_client_out.specs.Count.{count_lent, count_put}
use Rattle.calls_client_out.specs.Ends.{Buffers, buffers, WriteEnded, ended, ended_as}
use Rattle.calls_client.specs.Written.{WriteServed}
use Rattle.thm_durable.proofs.Ways.{same, unlent}
use Rattle.thm_never_malformed.specs.Intact.{Intact}
use Rattle.thm_never_malformed.proofs.Lent.{lends, lent_for_lem}
use Rattle.thm_never_malformed.proofs.OnClients.{on-write}
use Rattle.thm_durable_bytes.proofs.Entry.{columns, test, before, after, changes, same_test, entry}
use Rattle.thm_durable_bytes.proofs.Written.{Way, refused, taken, way}
use Rattle.thm_order_writes.specs.Editors.{Edit, Moment}
use Rattle.thm_order_writes.proofs.Node.{Appended, Checked, no_offset, on-accepted, with-lent, with-accepted}
use Rattle.thm_order_writes.proofs.Turns.{Taken}
use Rattle.thm_order_bytes.specs.Images.{Images, node_in, Writes}

-- intact images stay so
pub left_intact : (u v : Images) (c : Moment) (m : List ℕ) (r : ℕ) → Intact u.header u.stores → Writes u c m v r → Intact v.header v.stores
left_intact u v c m r i x =
    (on-write u.header u.stores i m c.clock u.refused v.header v.stores x.answer x.told v.refused c.least r x.bytes x.call).intact

-- ---- answered 0

-- the definition accepts, and leaves what the images are then read as
pub record Does (u v : Images) (c : Moment) (m : List ℕ) : Type 0 where
  pub offset : ℕ
  pub answer : (call_write (node_in u) c.clock c.least m).answer ≡ client.accepted offset
  pub after : node_in v ≡ (call_write (node_in u) c.clock c.least m).after

-- what came of an edit: o its offset
pub record TakenIn (u v : Images) (c : Moment) (k : Key) (w : message.Write) (op : Op) : Type 0 where
  pub offset : ℕ
  pub checked : Checked c.clock w
  pub taken : Taken (node_in u) (node_in v) c.clock c.least k w.epoch op offset
  pub counts : count_lent u.refused ≡ true
  pub refused : v.refused ≡ u.refused

module _ (u v : Images) (c : Moment) (m : List ℕ) (x : Writes u c m v 0) where
  abbrev n : held.Node
  n = node_in u

  does_as : Way u.header u.stores v.header v.stores x.told 0 (call_write n c.clock c.least m) → Does u v c m
  does_as (refused z header stores) = not_both (eqb 0 0) refl z
  does_as (taken y (same q) o is left told z) = record {
    offset = o;
    answer = ap (λ (s : Result client.WriteAnswer held.Node). s.answer) (sym q) ∙ is;
    after = left ∙ ap (λ (s : Result client.WriteAnswer held.Node). s.after) q;
  }
  does_as (taken y (unlent r q) o is left told z) =
      no_offset r o (sym (ap (λ (s : Result client.WriteAnswer held.Node). s.answer) q) ∙ is)

  does : Does u v c m
  does =
      does_as (way u.header u.stores v.header v.stores x.answer x.told m c.clock c.least 0 u.memory u.refused x.call.ends)

  stays : v.refused ≡ u.refused
  unfolding count_put
  stays = x.call.count

  module _ (k : Key) (op : Op) (e : Edit m k op) where
    abbrev y : message.Write
    y = e.write

    passed : Checked c.clock y × (well_formed_lent n y.key ≡ true)
    unfolding call_write
    passed = with-accepted (well_formed_lent n) n c.clock c.least m y e.read does.offset does.answer

    -- else it had answered 24
    counted : count_lent u.refused ≡ true
    unfolding ◌and◌
    counted =
        by_case (count_lent u.refused) (λ t. t)
        (λ t.
        let q = (x.call.ends.read passed.0.early y e.read).unlent passed.0.inside (rw t) in
        let z : 0 ≡ 24 = ap (λ (w : WriteEnded). w.number) q in
        absurd (omega arith))

    is_call : call_write n c.clock c.least m ≡ client.on_write n c.clock c.least y.key y.epoch (stored_op y.op)
    unfolding call_write
    is_call = with-lent (well_formed_lent n) n c.clock c.least m y e.read passed.0 passed.1

    abbrev Took : Key → Op → Type 0
    Took j z = Taken n (node_in v) c.clock c.least j y.epoch z does.offset

    at_own : Took y.key (stored_op y.op)
    unfolding well_formed_lent
    at_own =
        let a =
        subst (λ (p : held.Node). Appended n p c.clock c.least y.key y.epoch (stored_op y.op) does.offset)
        (sym (does.after ∙ ap (λ (z : Result client.WriteAnswer held.Node). z.after) is_call))
        (on-accepted n c.clock c.least y.key y.epoch (stored_op y.op) does.offset
        (sym (ap (λ (z : Result client.WriteAnswer held.Node). z.answer) is_call) ∙ does.answer)) in
        let log = and_right (well_formed_header n) (log_if_held (held_shard n y.key)) passed.1 in
        record { appended = a; step = (log-formed a.shard.replica (sym (ap log_if_held a.held) ∙ log)).played }

    pub took : TakenIn u v c k y op
    took = record {
      offset = does.offset;
      checked = passed.0;
      taken = subst (λ (j : Key). Took j op) e.key (subst (Took y.key) e.stored at_own);
      counts = counted;
      refused = stays;
    }

-- ---- intact images

module _ (u v : Images) (i : Intact u.header u.stores) (c : Moment) (m : List ℕ) (w : message.Write) (read : message.decode_write m ≡ some w)
    (fine : Checked c.clock w) (counts : count_lent u.refused ≡ true) (r : ℕ) (x : Writes u c m v r) where
  abbrev h : List ℕ
  h = u.header

  abbrev s : List ℕ
  s = u.stores

  abbrev p : Node
  p = node_at h

  abbrev k : Key
  k = w.key

  abbrev b : Buffers
  b = buffers h s x.answer

  served : WriteServed b k c.clock c.least m (ended r (buffers v.header v.stores x.told))
  served =
      (x.call.ends.read fine.early w read).lent fine.inside (and_true (count_lent u.refused) (lends_state h s k) counts (lends h s i k))

  passes : test h s k k ≡ true
  passes = lent_for_lem h s i (stores_in s) k

  -- the definition's call with the contract's test, on the stores with the columns lent
  abbrev lent : Result client.WriteAnswer held.Node
  lent = write_with (lent_for (before h s k) p (columns h s k)) (view_node (before h s k) p) c.clock c.least m

  spoke : served.told.answer ≡ write_word lent.answer
  spoke =
      ap (λ (t : Answered WriteReply). t.answer)
      (served.call.same (before h s k) (after h s k served.left) (slot_of p k)
      (λ z g. ap (λ (y : message.Write). slot_of p y.key) (some_same (sym read ∙ g))) (changes h s k served.left))

  abbrev call : Result client.WriteAnswer held.Node
  call = client.on_write (node_in u) c.clock c.least k w.epoch (stored_op w.op)

  at_state : lent ≡ call
  at_state =
      ap (λ (f : Key → Bool). write_with f (view_node (before h s k) p) c.clock c.least m) (same_test h s k)
      ∙ ap (λ (z : held.Node). write_with (test h s k) z c.clock c.least m) (entry h s k (lends h s i k) u.memory passes)
      ∙ with-lent (test h s k) (node_in u) c.clock c.least m w read fine passes

  -- accepted, its number is 0, and its offset stands in the answer
  pub zero : (o : ℕ) → call.answer ≡ client.accepted o → (r ≡ 0) × (x.told ≡ number_put x.answer o)
  zero o a =
      let room = le-leb 8 (length x.answer) x.room in
      let h₁ = header_written h served.told.node in
      let s₁ = stores_put s p served.told.node served.left (place_of p k) in
      let said : served.told.answer ≡ R.Accepted (record { 0 = o }) =
      spoke ∙ ap (λ (z : Result client.WriteAnswer held.Node). write_word z.answer) at_state ∙ ap write_word a in
      let e : ended r (buffers v.header v.stores x.told) ≡ ended_as b h₁ s₁ (R.Accepted (record { 0 = o })) =
      served.is ∙ ap (ended_as b h₁ s₁) said in
      let g : ended r (buffers v.header v.stores x.told) ≡ ended 0 (buffers h₁ s₁ (number_put x.answer o)) = rw room at e in
      (ap (λ (z : WriteEnded). z.number) g, ap (λ (z : WriteEnded). z.left.answer) g)
