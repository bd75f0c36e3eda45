-- What an ack in place is of the image, one law for each way out. Assumes nothing.
use Prim.Native.Nat.{ℕ, ◌+◌, ◌*◌, ◌≤◌, ◌<◌}
use mathlib.Core.Bool.{Bool, true, false, not}
use mathlib.Core.Path.{◌≡◌, refl, sym, ap, subst, ◌∙◌}
use mathlib.Core.List.{List}
use lib.ListN.{length, take, get_or}
use native.Mathlib.Omega.{arith}
use Rattle.spec.specs.Lists.{lead}
use Rattle.spec.specs.Keys.{Key}
use Rattle.spec.specs.Layout.Format.{Bytes, number_at}
use Rattle.spec.specs.Layout.Message.{decode_reply}
use Rattle.spec.specs.Node.Shards.{leads_at}
use Rattle.spec.specs.Node.Ack.{bad_reply}
use Rattle.spec.specs.declared.Role.{Role}
use Rattle.spec_laws.proofs.Lists.{not_both}
use Rattle.node_shard.specs.declared.Held.{Held}
use Rattle.node_shard.specs.declared.Deed.{Deed}
use Rattle.node_shard.specs.declared.Sent.{Sent}
use Rattle.node_shard.specs.declared.Reply.{Reply}
use Rattle.node_shard.specs.declared.AckAnswer.{AckAnswer}
use Rattle.node_shard.specs.declared.AckAnswer.TheVariants as A
use Rattle.node_shard.specs.View.{others}
use Rattle.node_shard.specs.Acks.{reply_of, does_deed}
use Rattle.node_acks.proofs.Ack.{acks_not, acks-none}
use Rattle.node_header.specs.declared.Node.{Node}
use Rattle.node_header.specs.declared.NodeAcked.{NodeAcked}
use Rattle.node_header.specs.View.{other_key, kept_as, with_shard}
use Rattle.node_header.specs.Formed.{formed_node}
use Rattle.node_header.specs.Slots.{Keeps}
use Rattle.node_header.specs.Answers.{AcksNode}
use Rattle.node_header.proofs.Formed.{formed-lent}
use Rattle.node_header.proofs.Arrays.{keeps-all, keeps-put}
use Rattle.node_header.proofs.Calls.{ack_malformed, ack_formed, ack_absent, ack_done}
use Rattle.std.specs.Prelude.{Some}
use Rattle.node_hear.specs.Hears.{heard_of}
use Rattle.node_hear.proofs.Hears.{ack_read}
use Rattle.image_header_row.specs.Rows.{role_at, peers_at, held_row_at}
use Rattle.image_header.specs.declared.Lent.{Lent}
use Rattle.image_header.specs.Image.{header_lent, node_at, lent_header}
use Rattle.image_header.specs.Becomes.{HeaderWrites}
use Rattle.wire_write.specs.Written.{key_given}
use Rattle.calls_header.specs.Asked.{After, image_after, Becomes}
use Rattle.calls_header.specs.Acks.{sent_at, ack_number, is_acked, AcksImage}
use Rattle.calls_header.proofs.Calls.{acks_image}
use Rattle.image_header_check.specs.Rows.{Counts}
use Rattle.image_header_set.specs.Row.{RowBecomes}
use Rattle.image_header_set.proofs.Place.{in_array, place_is, place_out, held_in, place_in, held-is, leads-is, peers-many, peers-full, peer-is, same-shard, peers-few, replicas-few, trimmed}
use Rattle.image_header_set.proofs.SetLaws.{row_back}
use Rattle.calls_ack.specs.Deeds.{deed_held, deed_answer}
use Rattle.calls_ack.specs.Acked.{AcksAt}
use Rattle.calls_ack.proofs.DeedLaws.{acks_deed, deed_trims, deed_noted}

-- ---- the call

module _ (s : List ℕ) (lent : header_lent s ≡ true) (name : List ℕ) (shard : ℕ) (k : Key) (key : k ≡ key_given name shard) (reply : List ℕ) (a : Reply)
    (heard : heard_of (decode_reply reply) ≡ Some a) (good : bad_reply (reply_of a) ≡ false) (epoch peer step : ℕ) (w : Sent) (sent : w ≡ sent_at step) where
  abbrev Image : List ℕ → ℕ → Type 0
  Image t r = AcksImage s t name reply shard epoch peer step r

  image_of : (t : List ℕ) (r : ℕ) (after : NodeAcked) → AcksNode (node_at s) k epoch peer w a after → Keeps (node_at s) after.node
      → After s t after.node (is_acked after.answer) (ack_number after.answer) r → Image t r
  image_of t r after call keeps p =
      acks_image s (record { found = true; node = node_at s }) (rw lent) refl name shard k key t reply epoch peer step r w sent after
      (ack_read (node_at s) k epoch peer w reply a heard after call) keeps after.answer refl p.answer p.image p.becomes

  pub ack_bad : formed_node (node_at s) ≡ false → Image s 24
  ack_bad bad =
      image_of s 24 (record { answer = A.Refused 24; node = node_at s })
      (ack_malformed (node_at s) k epoch peer w a good (λ st. sym bad ∙ formed-lent (node_at s) st)) (keeps-all (node_at s))
      (record { answer = refl; image = refl; becomes = λ d. not_both false d refl })

  module _ (formed : formed_node (node_at s) ≡ true) (count : ℕ) (counts : Counts s count) (at : ℕ) (is : at ≡ lead (other_key k) (take count (node_at s).held)) where
    pub ack_none : count ≤ at → (t : List ℕ) → HeaderWrites s t (node_at s) → Image t 0
    ack_none h t put =
        let after : NodeAcked = record { answer = A.Noted; node = node_at s } in
        image_of t 0 after
        (ack_formed (node_at s) k epoch peer w a good (λ st. sym formed ∙ formed-lent (node_at s) st) after
        (ack_absent (node_at s) k epoch peer w a good (in_array s count counts) at (place_is s count counts k at is) (place_out s count counts at h)))
        (keeps-all (node_at s))
        (record { answer = refl; image = put.image; becomes = λ d. put.becomes })

    pub ack_at : at < count → (t : List ℕ) (r : ℕ) → AcksAt s t at epoch peer w a r → Image t r
    ack_at lt t r x =
        let le = in_array s count counts in
        let here = place_is s count counts k at is in
        let in_use = place_in s count counts at lt in
        let node = with_shard (node_at s) at x.acked.held in
        let after : NodeAcked = record { answer = x.acked.answer; node = node } in
        image_of t r after
        (ack_formed (node_at s) k epoch peer w a good (λ st. sym formed ∙ formed-lent (node_at s) st) after
        (ack_done (node_at s) k epoch peer w a good le at here in_use x.acked x.held x.acked.held x.trims node refl))
        (keeps-put (node_at s) le at in_use x.acked.held x.acked.held x.trims node refl)
        x.after

-- ---- the ack at the shard

module _ (s : List ℕ) (count : ℕ) (counts : Counts s count) (at : ℕ) (lt : at < count) (formed : formed_node (node_at s) ≡ true)
    (epoch peer : ℕ) (step : Sent) (reply : Reply) (role : Role) (role_is : role ≡ role_at s (48 + 1280 * at + 108)) where
  -- no primary at that epoch
  pub at_not : leads_at role epoch ≡ false → (t : List ℕ) → HeaderWrites s t (node_at s) → AcksAt s t at epoch peer step reply 0
  at_not nay t put =
      let h = held_in s count counts at lt in
      let w = subst (λ (n : Node). HeaderWrites s t n) (sym (same-shard s count counts at lt)) put in
      record {
        acked = record { answer = A.Noted; held = h };
        held = acks_not h epoch peer step reply (leads-is s count counts at lt role role_is epoch false nay);
        trims = trimmed s count counts at lt formed;
        after = record { answer = refl; image = w.image; becomes = λ d. w.becomes };
      }

  module _ (leads : leads_at role epoch ≡ true) (n : ℕ) (n-is : n ≡ number_at 8 s (48 + 1280 * at + 88)) (i : ℕ)
      (i-is : i ≡ lead (others peer) (take n (peers_at s (48 + 1280 * at + 256)))) where
    led : leads_at (held_in s count counts at lt).role epoch ≡ true
    led = leads-is s count counts at lt role role_is epoch true leads

    fits : (held_in s count counts at lt).count ≤ length (held_in s count counts at lt).peers
    fits = let f = peers-few s count counts at lt formed in let l = peers-full s count counts at lt in omega arith

    i_here : i ≡ lead (others peer) (take (held_in s count counts at lt).count (held_in s count counts at lt).peers)
    i_here = peer-is s count counts at lt n n-is peer i i-is

    -- no worker for that peer
    pub at_none : n ≤ i → AcksAt s s at epoch peer step reply 26
    at_none out =
        let h = held_in s count counts at lt in
        let m = peers-many s count counts at lt in
        record {
          acked = record { answer = A.Refused 26; held = h };
          held = acks-none h epoch peer step reply led i fits i_here (omega arith);
          trims = trimmed s count counts at lt formed;
          after = record { answer = refl; image = refl; becomes = λ d. not_both false d refl };
        }

    pub few-peers : i < n → i < 32
    few-peers h = let f = peers-few s count counts at lt formed in let m = peers-many s count counts at lt in omega arith

    pub at_deed : i < n → (d : Deed) → d ≡ does_deed step reply epoch → (m t : List ℕ) (r : ℕ)
        → r ≡ ack_number (deed_answer d i (held_row_at s (48 + 1280 * at)).held)
        → RowBecomes s m (48 + 1280 * at) (kept_as (held_row_at s (48 + 1280 * at)) (deed_held d i (held_row_at s (48 + 1280 * at)).held))
        → Bytes m → HeaderWrites m t (node_at m) → AcksAt s t at epoch peer step reply r
    at_deed in_use d d-is m t r said row bytes put =
        let h = held_in s count counts at lt in
        let c = peers-many s count counts at lt in
        let e = held-is s count counts at lt in
        let now = subst (λ (x : Held). RowBecomes s m (48 + 1280 * at) (kept_as (held_row_at s (48 + 1280 * at)) (deed_held d i x))) (sym e) row in
        let w = row_back s m t count counts at lt (deed_held d i h) now bytes put in
        let noted = deed_noted d i h in
        record {
          acked = record { answer = deed_answer d i h; held = deed_held d i h };
          held = acks_deed h epoch peer step reply led i fits i_here (omega arith) d (sym d-is);
          trims = deed_trims d i h (peers-few s count counts at lt formed) (replicas-few s count counts at lt formed);
          after = record {
            answer = said ∙ ap (λ (x : Held). ack_number (deed_answer d i x)) (sym e);
            image = w.image ∙ ap (λ (b : Bool). image_after b s (with_shard (node_at s) at (deed_held d i h))) (sym noted);
            becomes = λ q. w.becomes;
          };
        }
