-- Laws of what follows a primary's call: the reply written, the images written or left. Assumes nothing.
use Prim.Native.Nat.{ℕ, ◌<◌, ◌≤◌}
use mathlib.Core.Path.{◌≡◌, refl, sym, ap, ◌∙◌}
use mathlib.Core.Bool.{Bool, true, false, cond}
use mathlib.Core.List.{List}
use native.Mathlib.Omega.{arith}
use lib.Dec.{leb}
use lib.ListN.{length}
use lib.Seq.{sets}
use borrow.Author.Tests.{le-leb, lt-leb}
use Rattle.spec.specs.Layout.Message.{encode_reply}
use Rattle.wire_write.specs.declared.Reply.{Reply}
use Rattle.std.specs.Prelude.{Result}
use Rattle.wire_write.specs.declared.Unwritten.{Unwritten}
use Rattle.wire_write.specs.Written.{reply_given, Written}
use Rattle.wire_write.proofs.Writes.{reply-bytes}
use Rattle.node_replicate.specs.declared.PeerReply.{PeerReply}
use Rattle.node_replicate.specs.declared.PeerReply.TheVariants as P
use Rattle.node_replicate.specs.Peers.{turned_down}
use Rattle.calls_peer_out.specs.declared.Outcome.{Outcome}
use Rattle.calls_peer_out.specs.declared.Outcome.TheVariants as O
use Rattle.calls_peer_out.specs.Ends.{Buffers, buffers, Ended, ended, sends, ended_as, outcome, Replies}

-- ---- the reply

reply-size : (w : Reply) → length (encode_reply (reply_given w)) ≡ 9
reply-size w = ap length (reply-bytes w)

pub no_room_lem : (w : Reply) (s : List ℕ) → length s < 9 → Replies w s s 23
no_room_lem w s h = let e = lt-leb 9 (length s) h in record { answer = rw e refl; bytes = rw e refl }

pub room : (w : Reply) (s t : List ℕ) (r : Result ℕ Unwritten) → 9 ≤ length s → Written true (encode_reply (reply_given w)) s t r → Replies w s t 0
room w s t r h d =
    let e = le-leb 9 (length s) h in
    let bs = encode_reply (reply_given w) in
    record {
      answer = rw e refl;
      bytes = d.bytes ∙ ap (λ (n : ℕ). cond (leb n (length s)) (sets s 0 bs) s) (reply-size w);
    }

module _ (w : Reply) (s t : List ℕ) (r : ℕ) (d : Replies w s t r) where
  -- with room the reply stands there, and without it nothing is written
  pub replied : leb 9 (length s) ≡ true → (r ≡ 0) × (t ≡ sets s 0 (encode_reply (reply_given w)))
  replied e = (d.answer ∙ rw e refl, d.bytes ∙ rw e refl)

  pub unreplied : leb 9 (length s) ≡ false → (r ≡ 23) × (t ≡ s)
  unreplied e = (d.answer ∙ rw e refl, d.bytes ∙ rw e refl)

-- ---- the answer by what it asks for

abbrev following : Buffers → (h s : List ℕ) → Outcome → Ended
following b h s (O.Refused r) = ended r b
following b h s (O.Kept w) = sends b b.header b.stores (reply_given w)
following b h s (O.Changed w) = sends b h s (reply_given w)

outcome-ends : (b : Buffers) (h s : List ℕ) (a : PeerReply) → following b h s (outcome a) ≡ ended_as b h s a
outcome-ends b h s (P.Stored o) = refl
outcome-ends b h s (P.Gap o) = refl
outcome-ends b h s (P.StaleEpoch e) = refl
outcome-ends b h s (P.Adopted o) = refl
outcome-ends b h s (P.Refused r) = refl

-- what the outcome says of whether the call was turned down
abbrev pub turned : Outcome → Bool
turned (O.Refused r) = true
turned (O.Kept w) = true
turned (O.Changed w) = false

outcome-turned : (a : PeerReply) → turned_down a ≡ turned (outcome a)
outcome-turned (P.Stored o) = refl
outcome-turned (P.Gap o) = refl
outcome-turned (P.StaleEpoch e) = refl
outcome-turned (P.Adopted o) = refl
outcome-turned (P.Refused r) = refl

-- a reply with the images h and s
sent : (b : Buffers) (h s : List ℕ) (w : Reply) (t : List ℕ) (r : ℕ) → Replies w b.reply t r → leb 9 (length b.reply) ≡ true
    → ended r (buffers h s t) ≡ sends b h s (reply_given w)
sent b h s w t r d e =
    let f = replied w b.reply t r d e in
    rw e
    (ap (λ (i : ℕ). ended i (buffers h s t)) f.0 ∙ ap (λ (u : List ℕ). ended 0 (buffers h s u)) f.1)

-- no reply: the buffers stay
unsent : (b : Buffers) (h s : List ℕ) (w : Reply) (t : List ℕ) (r : ℕ) → Replies w b.reply t r → leb 9 (length b.reply) ≡ false
    → ended r (buffers b.header b.stores t) ≡ sends b h s (reply_given w)
unsent b h s w t r d e =
    let f = unreplied w b.reply t r d e in
    rw e
    (ap (λ (i : ℕ). ended i (buffers b.header b.stores t)) f.0 ∙ ap (λ (u : List ℕ). ended 23 (buffers b.header b.stores u)) f.1)

pub made : (a : PeerReply) (o : Outcome) → o ≡ outcome a → (w : Reply) → o ≡ O.Changed w → turned_down a ≡ false
made a o e w q = outcome-turned a ∙ ap turned (sym e ∙ q)

-- ---- the ways out

module _ (b : Buffers) (h s : List ℕ) (a : PeerReply) (o : Outcome) (e : o ≡ outcome a) where
  ends_as : (x : Outcome) → o ≡ x → following b h s x ≡ ended_as b h s a
  ends_as x q = ap (following b h s) (sym q ∙ e) ∙ outcome-ends b h s a

  pub refused : (r : ℕ) → o ≡ O.Refused r → ended r b ≡ ended_as b h s a
  refused r q = ends_as (O.Refused r) q

  module _ (w : Reply) (t : List ℕ) (r : ℕ) (d : Replies w b.reply t r) where
    pub kept : o ≡ O.Kept w → ended r (buffers b.header b.stores t) ≡ ended_as b h s a
    kept q = go (leb 9 (length b.reply)) refl ∙ ends_as (O.Kept w) q
      where
        go : (x : Bool) → leb 9 (length b.reply) ≡ x
            → ended r (buffers b.header b.stores t) ≡ sends b b.header b.stores (reply_given w)
        go true x = sent b b.header b.stores w t r d x
        go false x = unsent b b.header b.stores w t r d x

    -- the reply has room, and the images are written
    pub done : o ≡ O.Changed w → r ≡ 0 → (h' s' : List ℕ) → h' ≡ h → s' ≡ s → ended r (buffers h' s' t) ≡ ended_as b h s a
    done q z h' s' i j =
        ap (λ (x : List ℕ). ended r (buffers x s' t)) i
        ∙ ap (λ (x : List ℕ). ended r (buffers h x t)) j
        ∙ go (leb 9 (length b.reply)) refl
        ∙ ends_as (O.Changed w) q
      where
        go : (x : Bool) → leb 9 (length b.reply) ≡ x → ended r (buffers h s t) ≡ sends b h s (reply_given w)
        go true x = sent b h s w t r d x
        go false x = absurd (omega (arith, (unreplied w b.reply t r d x).0))

    pub short : o ≡ O.Changed w → (r ≡ 0 → ⊥) → ended r (buffers b.header b.stores t) ≡ ended_as b h s a
    short q z = go (leb 9 (length b.reply)) refl ∙ ends_as (O.Changed w) q
      where
        go : (x : Bool) → leb 9 (length b.reply) ≡ x → ended r (buffers b.header b.stores t) ≡ sends b h s (reply_given w)
        go true x = absurd (z (replied w b.reply t r d x).0)
        go false x = unsent b h s w t r d x
