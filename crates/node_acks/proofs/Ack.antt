-- Laws of an ack, one for each way out. Assumes nothing.
use mathlib.Core.Path.{◌≡◌, refl, ap, sym, ◌∙◌}
use mathlib.Core.Bool.{Bool, true, false, cond}
use Prim.Native.Nat.{ℕ, zero, suc, ◌<◌, ◌≤◌}
use native.Mathlib.Omega.{arith}
use lib.ListN.{length, take, get_or, set}
use Rattle.spec.specs.Lists.{◌or◌, lead}
use Rattle.spec.specs.Layout.Message.{reply_gap}
use Rattle.spec.specs.Keys.{Key}
use Rattle.spec.specs.Log.{Log, Vectors}
use Rattle.spec.specs.Node.Held as held
use Rattle.spec.specs.Node.Shards.{Result, gives, leads_at, of_node}
use Rattle.spec.specs.Node.Ack as ack
use Rattle.spec.specs.declared.Peer.{Peer}
use Rattle.spec_laws.proofs.Lists.{not_both}
use Rattle.node_shard.specs.declared.Held.{Held}
use Rattle.node_shard.specs.declared.Sent.{Sent}
use Rattle.node_shard.specs.declared.Reply.{Reply}
use Rattle.node_shard.specs.declared.Deed.{Deed}
use Rattle.node_shard.specs.declared.Deed.TheVariants as D
use Rattle.node_shard.specs.declared.AckAnswer.TheVariants as A
use Rattle.node_shard.specs.View.{others, no_peer, view_held, with_rows}
use Rattle.node_shard.specs.Acks.{reply_of, sent_of, deed_word, does_deed, Demotes, ack_answered, AcksHeld}
use Rattle.node_shard.proofs.RowLaws.{row-set, row-found, row_missing}

-- a Gap that is not refused names an offset
pub gap_some : (n : ℕ) → ack.bad_reply (reply_gap n) ≡ false → 1 ≤ n
unfolding ack.bad_reply ◌or◌
gap_some zero h = not_both true refl h
gap_some (suc n) h = omega arith

-- ---- a deed, and its word

abbrev deed_of_word : Deed → ack.Deed
deed_of_word D.Nothing = ack.nothing
deed_of_word D.StepDown = ack.step_down
deed_of_word D.Unalign = ack.unalign
deed_of_word (D.Record t a) = ack.record_ack t a

word_back : (d : ack.Deed) → deed_of_word (deed_word d) ≡ d
word_back ack.nothing = refl
word_back ack.step_down = refl
word_back ack.unalign = refl
word_back (ack.record_ack t a) = refl

deed_is : (s : Sent) (a : Reply) (epoch : ℕ) (w : Deed) → does_deed s a epoch ≡ w → ack.deed_of (sent_of s) (reply_of a) epoch ≡ deed_of_word w
unfolding does_deed
deed_is s a epoch w e = sym (word_back (ack.deed_of (sent_of s) (reply_of a) epoch)) ∙ ap deed_of_word e

-- ---- past the checks

module _ (h : Held) (epoch peer : ℕ) (s : Sent) (a : Reply) where
  pub acks_not : leads_at h.role epoch ≡ false → AcksHeld h epoch peer s a (record { answer = A.Noted; held = h })
  unfolding ack.ack_held
  acks_not n k l v e = rw n

  module _ (leads : leads_at h.role epoch ≡ true) (at : ℕ) (fits : h.count ≤ length h.peers)
      (is : at ≡ lead (others peer) (take h.count h.peers)) where
    pub acks-none : h.count ≤ at → AcksHeld h epoch peer s a (record { answer = A.Refused 26; held = h })
    unfolding ack.ack_held
    acks-none out k l v e = rw (leads, row_missing (of_node peer) h.peers h.count at fits is out)

    module _ (in_use : at < h.count) where
      -- the deed, done to the row
      done : (k : Key) (l : Log) (v : Vectors) (w : Deed) → does_deed s a epoch ≡ w
          → ack.ack_held epoch peer (sent_of s) (reply_of a) (view_held k l v h)
          ≡ ack.do_deed (view_held k l v h) peer (get_or h.peers at no_peer) (deed_of_word w)
      unfolding ack.ack_held
      done k l v w d =
          rw leads
          (ap (ack.deed_at (view_held k l v h) peer (ack.deed_of (sent_of s) (reply_of a) epoch)) (row-found (of_node peer) h.peers h.count at fits is no_peer in_use)
          ∙ ap (ack.do_deed (view_held k l v h) peer (get_or h.peers at no_peer)) (deed_is s a epoch w d))

      pub acks-nothing : does_deed s a epoch ≡ D.Nothing → AcksHeld h epoch peer s a (record { answer = A.Noted; held = h })
      unfolding ack.do_deed
      acks-nothing d k l v e = sym (ap ack_answered (done k l v D.Nothing d))

      pub acks_down : does_deed s a epoch ≡ D.StepDown → (g : Held) → Demotes h g → AcksHeld h epoch peer s a (record { answer = A.Noted; held = g })
      unfolding ack.do_deed
      acks_down d g m k l v e = rw (m k l v) (sym (ap ack_answered (done k l v D.StepDown d)))

      pub acks_unalign : does_deed s a epoch ≡ D.Unalign → (q : Peer) → q ≡ ack.unaligned (get_or h.peers at no_peer)
          → AcksHeld h epoch peer s a (record { answer = A.Noted; held = with_rows h (set h.peers at q) })
      unfolding ack.do_deed
      acks_unalign d q r k l v e =
          rw (row-set (of_node peer) h.peers h.count at fits is ack.unaligned no_peer q in_use r) (sym (ap ack_answered (done k l v D.Unalign d)))

      pub acks_record : (t : ℕ) (b : Bool) → does_deed s a epoch ≡ D.Record t b
          → (j : Bool) → j ≡ ack.joins h.last t b (get_or h.peers at no_peer) → (q : Peer) → q ≡ ack.ack_row h.last t b (get_or h.peers at no_peer)
          → AcksHeld h epoch peer s a (record { answer = cond j A.Expand A.Noted; held = with_rows h (set h.peers at q) })
      unfolding ack.do_deed
      acks_record t b d j i q r k l v e =
          rw (row-set (of_node peer) h.peers h.count at fits is (ack.ack_row h.last t b) no_peer q in_use r, i)
          (told (ack.joins h.last t b (get_or h.peers at no_peer)) _
          ∙ sym (ap ack_answered (done k l v (D.Record t b) d ∙ ap (λ (n : ℕ). recorded n (view_held k l v h) peer (get_or h.peers at no_peer) t b) e)))
        where
          recorded : ℕ → held.Held → ℕ → Peer → ℕ → Bool → Result ack.AckAnswer held.Held
          recorded n x k p t b = gives (cond (ack.joins n t b p) ack.expand ack.noted) (ack.on_row x k (ack.ack_row n t b))

          told : (j : Bool) (x : held.Held) → record { answer = cond j A.Expand A.Noted; held = x } ≡ ack_answered (gives (cond j ack.expand ack.noted) x)
          told true x = refl
          told false x = refl

-- ---- the call
