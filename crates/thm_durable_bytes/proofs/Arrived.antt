-- What a request that arrives does to a node's images and brings as its reply: what the definition does and replies, or nothing with a
-- refusal's number. Assumes nothing.
use Prim.Native.Nat.{ℕ}
use mathlib.Core.Path.{◌≡◌, refl, sym, ap, ◌∙◌}
use mathlib.Core.Bool.{Bool, true, false}
use mathlib.Core.List.{List}
use mathlib.Core.Option.{Option, none, some}
use native.Mathlib.Omega.{arith}
use lib.Dec.{eqb, leb}
use lib.ListN.{length, take}
use lib.Seq.{sets}
use borrow.Author.Tests.{leb-true}
use Rattle.spec.specs.Keys.{Key}
use Rattle.spec.specs.Layout.Format.{Bytes}
use Rattle.spec.specs.Layout.Message.{Reply, reply_stored, reply_gap, reply_stale, reply_adopted, encode_reply}
use Rattle.spec.specs.Node.Held as held
use Rattle.spec.specs.Node.Shards.{Result}
use Rattle.spec.specs.Node.Backup.{BackupAnswer, replied, backup_refused}
use Rattle.spec.specs.Node.WellFormed.{well_formed_lent}
use Rattle.spec_laws.proofs.Lists.{none_some, some_same}
use Rattle.spec_retained.proofs.Lent.{Refuses}
use Rattle.node_header.specs.declared.Node.{Node}
use Rattle.node_header.specs.View.{view_node}
use Rattle.node_header.specs.Answers.{Answered, answered_as}
use Rattle.node_header.proofs.Lists.{by_case}
use Rattle.image_header.specs.Image.{node_at, header_written}
use Rattle.node_lent.specs.Lend.{LentStore, place_of, slot_of, lent_for}
use Rattle.image_node.specs.Lent.{stores_put, lends_state}
use Rattle.image_node.specs.State.{state_at}
use Rattle.node_replicate.specs.declared.PeerReply.{PeerReply}
use Rattle.node_replicate.specs.declared.PeerReply.TheVariants as P
use Rattle.node_replicate.specs.declared.PeerAnswer.{PeerAnswer}
use Rattle.node_replicate.specs.Peers as peers
use Rattle.node_replicate.specs.Peers.{word, view_peer}
use Rattle.calls_peer_out.specs.Ends.{Buffers, buffers, Ended, ended, sends, ended_as}
use Rattle.calls_peer.specs.PeerCalls.{Deed, Passed, Serves}
use Rattle.thm_durable.proofs.Ways.{As}
use Rattle.thm_durable_bytes.proofs.Entry.{columns, test, before, after, changes, same_test, entry, state_well}
use Rattle.thm_durable_bytes.proofs.Numbers.{refusal_number}
use Rattle.thm_durable_bytes.proofs.Outputs.{first-bytes}

-- ---- the reply of an answer, if it has one

abbrev reply_in : BackupAnswer → Option Reply
reply_in (replied w) = some w
reply_in (backup_refused r) = none

abbrev back : PeerReply → Option Reply
back (P.Stored o) = some (reply_stored o.0)
back (P.Gap o) = some (reply_gap o.0)
back (P.StaleEpoch e) = some (reply_stale e.0)
back (P.Adopted o) = some (reply_adopted o.0)
back (P.Refused r) = none

back-word : (z : BackupAnswer) → back (word z) ≡ reply_in z
back-word (replied (reply_stored o)) = refl
back-word (replied (reply_gap o)) = refl
back-word (replied (reply_stale e)) = refl
back-word (replied (reply_adopted o)) = refl
back-word (backup_refused r) = refl

replied_as : (z : BackupAnswer) (w : Reply) → reply_in z ≡ some w → z ≡ replied w
replied_as (replied v) w e = ap replied (some_same e)
replied_as (backup_refused r) w e = none_some e

-- a refusal's number is not 0
abbrev number_in : PeerReply → ℕ
number_in (P.Stored o) = 0
number_in (P.Gap o) = 0
number_in (P.StaleEpoch e) = 0
number_in (P.Adopted o) = 0
number_in (P.Refused r) = r

refused-number : (z : BackupAnswer) → reply_in z ≡ none → eqb (number_in (word z)) 0 ≡ false
refused-number (replied w) e = none_some (sym e)
refused-number (backup_refused r) e = (refusal_number r).zero

-- ---- the reply's bytes

reply-size : (w : Reply) → length (encode_reply w) ≡ 9
unfolding encode_reply
reply-size (reply_stored o) = refl
reply-size (reply_gap o) = refl
reply-size (reply_stale e) = refl
reply-size (reply_adopted o) = refl

reply-sent : (w : Reply) (p : List ℕ) → leb 9 (length p) ≡ true → take 9 (sets p 0 (encode_reply w)) ≡ encode_reply w
reply-sent w p e =
    let n = reply-size w in
    let h = leb-true 9 (length p) e in
    ap (λ (i : ℕ). take i (sets p 0 (encode_reply w))) (sym n) ∙ first-bytes (encode_reply w) p (omega arith)

-- ---- what came of it: h and s the images at entry, h' and s' at exit, q the reply's buffer, r the number, y the definition's call

pub data Way (h s h' s' q : List ℕ) (r : ℕ) (y : Result BackupAnswer held.Node) : Type 0 where
  refused : eqb r 0 ≡ false → h' ≡ h → s' ≡ s → Way h s h' s' q r y
  sent : (x : Result BackupAnswer held.Node) → As backup_refused (state_at h s) x y → (w : Reply) → x.answer ≡ replied w → state_at h' s' ≡ x.after
      → take 9 q ≡ encode_reply w → r ≡ 0 → Way h s h' s' q r y

-- a message m that is read as `read` and names the shard `key`, whose call keeps the contract `Call`
module _ {A : Type 0} (read : Option A) (fine : A → Bool) (key : A → Key) (Call : Node → (a b : LentStore) → List ℕ → PeerAnswer → Type 0) (does : Deed) (m : List ℕ)
    (At : Node → ℕ → Type 0) (names : Key → Type 0) (slotted : Node → PeerReply → Node → Type 0)
    (of : (n : Node) (a b : LentStore) (r : PeerAnswer) → Call n a b m r → peers.Serves (does m) (At n) names (slotted n) n a b r)
    (slot : (n : Node) (v : A) → read ≡ some v → At n (slot_of n (key v)))
    (unlent : (v : held.Node) (t : Key → Bool) → ((z : A) → read ≡ some z → t (key z) ≡ false) → Refuses (does m t v))
    (y : held.Node → Result BackupAnswer held.Node)
    (tested : (v : held.Node) (t : Key → Bool) → ((z : A) → read ≡ some z → t (key z) ≡ true → well_formed_lent v (key z) ≡ true)
    → As backup_refused v (does m t v) (y v))
    (h s h' s' p q : List ℕ) (r : ℕ) (bytes : Bytes s) where
  abbrev Goal : Type 0
  Goal = Way h s h' s' q r (y (state_at h s))

  abbrev n : Node
  n = node_at h

  stayed : (number : ℕ) → eqb number 0 ≡ false → (r ≡ number) × (buffers h' s' q ≡ buffers h s p) → Goal
  stayed number z e =
      refused (ap (λ (i : ℕ). eqb i 0) e.0 ∙ z) (ap (λ (b : Buffers). b.header) e.1) (ap (λ (b : Buffers). b.stores) e.1)

  -- ---- past 24

  module _ (v : A) (is : read ≡ some v) (lends : lends_state h s (key v) ≡ true) (d : Passed Call does (key v) m (buffers h s p) (buffers h' s' q) r) where
    abbrev k : Key
    k = key v

    abbrev a : PeerAnswer
    a = d.after

    -- the definition's call with the contract's test, on the stores with the columns lent, and on the state that the bytes are
    abbrev lent : Result BackupAnswer held.Node
    lent = does m (lent_for (before h s k) n (columns h s k)) (view_node (before h s k) n)

    abbrev x : Result BackupAnswer held.Node
    x = does m (test h s k) (state_at h s)

    abbrev promised : peers.Serves (does m) (At n) names (slotted n) n (columns h s k) d.columns a
    promised = of n (columns h s k) d.columns a d.called

    said : view_peer (after h s k d.columns) a ≡ answered_as word lent
    said = promised.same (before h s k) (after h s k d.columns) (slot_of n k) (slot n v is) (changes h s k d.columns)

    spoke : a.answer ≡ word lent.answer
    spoke = ap (λ (t : Answered PeerReply). t.answer) said

    -- a reply was answeredAs: so the state was lent
    passed : (w : Reply) → back a.answer ≡ some w → test h s k k ≡ true
    passed w e =
        by_case (test h s k k) (λ t. t)
        (λ t.
        let u = unlent (view_node (before h s k) n) (lent_for (before h s k) n (columns h s k))
        (λ z g.
        ap (λ (i : Key). lent_for (before h s k) n (columns h s k) i) (ap key (some_same (sym g ∙ is)))
        ∙ ap (λ (f : Key → Bool). f k) (same_test h s k) ∙ t) in
        none_some (sym (ap (λ (b : BackupAnswer). back (word b)) u.1) ∙ ap back (sym spoke) ∙ e))

    at_state : test h s k k ≡ true → lent ≡ x
    at_state t =
        ap (λ (f : Key → Bool). does m f (view_node (before h s k) n)) (same_test h s k)
        ∙ ap (does m (test h s k)) (entry h s k lends bytes t)

    -- the call replied w, and left the images that the node after it is read from
    answers : (w : Reply) → back a.answer ≡ some w → (h₁ s₁ : List ℕ) → ended r (buffers h' s' q) ≡ sends (buffers h s p) h₁ s₁ w
        → (h' ≡ h₁ → s' ≡ s₁ → r ≡ 0 → state_at h' s' ≡ x.after) → Goal
    answers w e h₁ s₁ ends leaves =
        by_case (leb 9 (length p))
        (λ room.
        let t = passed w e in
        let f : ended r (buffers h' s' q) ≡ ended 0 (buffers h₁ s₁ (sets p 0 (encode_reply w))) = rw room at ends in
        let zero : r ≡ 0 = ap (λ (z : Ended). z.answer) f in
        sent x
        (tested (state_at h s) (test h s k) (λ z g o. ap (well_formed_lent (state_at h s)) (ap key (some_same (sym g ∙ is))) ∙ state_well h s k lends bytes t))
        w
        (replied_as x.answer w
        (sym (back-word x.answer) ∙ ap (λ (z : Result BackupAnswer held.Node). back (word z.answer)) (sym (at_state t)) ∙ ap back (sym spoke) ∙ e))
        (leaves (ap (λ (z : Ended). z.left.header) f) (ap (λ (z : Ended). z.left.stores) f) zero)
        (ap (λ (z : Ended). take 9 z.left.reply) f ∙ reply-sent w p room)
        zero)
        (λ none_left.
        let f : ended r (buffers h' s' q) ≡ ended 23 (buffers h s p) = rw none_left at ends in
        stayed 23 refl (ap (λ (z : Ended). z.answer) f, ap (λ (z : Ended). z.left) f))

    -- turned down with a reply: nothing was changed, by the definition neither
    kept : peers.turned_down a.answer ≡ true → (w : Reply) → back a.answer ≡ some w → state_at h s ≡ x.after
    kept down w e =
        let t = passed w e in
        let c = promised.kept down in
        sym (entry h s k lends bytes t)
        ∙ ap (view_node (before h s k)) (sym c.1)
        ∙ ap (λ (b : LentStore). view_node (after h s k b) a.node) (sym c.0)
        ∙ ap (λ (z : Answered PeerReply). z.node) said
        ∙ ap (λ (z : Result BackupAnswer held.Node). z.after) (at_state t)

    -- the images that the call would leave
    abbrev h₁ : List ℕ
    h₁ = header_written h a.node

    abbrev s₁ : List ℕ
    s₁ = stores_put s n a.node d.columns (place_of n k)

    told_as_lem : (w : PeerReply) → a.answer ≡ w → ended r (buffers h' s' q) ≡ ended_as (buffers h s p) h₁ s₁ w → Goal
    told_as_lem (P.Stored o) e f = answers (reply_stored o.0) (ap back e) h₁ s₁ f (λ i j zero. (d.state (ap peers.turned_down e) zero).state)
    told_as_lem (P.Gap o) e f = answers (reply_gap o.0) (ap back e) h₁ s₁ f (λ i j zero. (d.state (ap peers.turned_down e) zero).state)
    told_as_lem (P.Adopted o) e f = answers (reply_adopted o.0) (ap back e) h₁ s₁ f (λ i j zero. (d.state (ap peers.turned_down e) zero).state)
    told_as_lem (P.StaleEpoch o) e f =
        answers (reply_stale o.0) (ap back e) h s f
        (λ i j zero. ap (λ (l : List ℕ). state_at l s') i ∙ ap (state_at h) j ∙ kept (ap peers.turned_down e) (reply_stale o.0) (ap back e))
    told_as_lem (P.Refused number) e f =
        stayed number
        (ap (λ (b : PeerReply). eqb (number_in b) 0) (sym e ∙ spoke)
        ∙ refused-number lent.answer (sym (back-word lent.answer) ∙ ap back (sym spoke ∙ e)))
        (ap (λ (z : Ended). z.answer) f, ap (λ (z : Ended). z.left) f)

  -- ---- the call

  pub way : Serves A read fine key Call does m (buffers h s p) (buffers h' s' q) r → Goal
  way d = go read refl
    where
      go : (o : Option A) → read ≡ o → Goal
      go none e = stayed 21 refl (d.undecoded e)
      go (some v) e =
          by_case (fine v)
          (λ f.
          let c = d.inside v e f in
          by_case (lends_state h s (key v)) (λ l. told_as_lem v e l (c.lent l) (c.lent l).after.answer refl (c.lent l).ends) (λ l. stayed 24 refl (c.unlent l)))
          (λ f. stayed 22 refl (d.outside v e f))
