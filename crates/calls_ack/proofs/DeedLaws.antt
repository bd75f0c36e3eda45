-- A deed done to the row of a peer is the ack at its shard. Assumes nothing.
use Prim.Native.Nat.{ℕ, ◌+◌, ◌*◌, ◌≤◌, ◌<◌}
use mathlib.Core.Bool.{Bool, true, false, cond}
use mathlib.Core.Path.{◌≡◌, refl, sym, ap, subst, ◌∙◌}
use mathlib.Core.List.{List}
use lib.ListN.{length, take, get_or}
use native.Mathlib.Omega.{arith}
use Rattle.spec.specs.Lists.{lead}
use Rattle.spec.specs.Node.Shards.{leads_at}
use Rattle.spec.specs.Node.Ack.{joins, ack_row, unaligned}
use Rattle.spec.specs.Layout.Format.{number_at}
use Rattle.spec.specs.declared.Peer.{Peer}
use Rattle.node_shard.specs.declared.Held.{Held}
use Rattle.node_shard.specs.declared.Sent.{Sent}
use Rattle.node_shard.specs.declared.Reply.{Reply}
use Rattle.node_shard.specs.declared.Deed.{Deed}
use Rattle.node_shard.specs.declared.Deed.TheVariants as D
use Rattle.node_shard.specs.declared.AckAnswer.TheVariants as A
use Rattle.node_shard.specs.View.{others, no_peer}
use Rattle.node_shard.specs.Acks.{does_deed, Demotes, AcksHeld}
use Rattle.node_acks.proofs.Ack.{acks-nothing, acks_down, acks_unalign, acks_record}
use Rattle.node_header.specs.View.{kept_as}
use Rattle.node_header.specs.Arrays.{Trims}
use Rattle.image_header_row.specs.Rows.{peer_at, held_row_at}
use Rattle.calls_header.specs.Acks.{ack_number, is_acked}
use Rattle.image_header_check.proofs.Rows.{last-is, peers-is, peer-row}
use Rattle.image_header_set.specs.Row.{RowBecomes, peer_set, stepped_down}
use Rattle.image_header_set.proofs.SetLaws.{row_as}
use Rattle.calls_ack.specs.Deeds.{deed_held, deed_answer}

demotes : (h : Held) → Demotes h (stepped_down h)
demotes h k l v = refl

module _ (h : Held) (epoch peer : ℕ) (s : Sent) (a : Reply) (leads : leads_at h.role epoch ≡ true) (i : ℕ) (fits : h.count ≤ length h.peers)
    (is : i ≡ lead (others peer) (take h.count h.peers)) (lt : i < h.count) where
  pub acks_deed : (d : Deed) → does_deed s a epoch ≡ d → AcksHeld h epoch peer s a (record { answer = deed_answer d i h; held = deed_held d i h })
  unfolding deed_answer deed_held
  acks_deed D.Nothing e = acks-nothing h epoch peer s a leads i fits is lt e
  acks_deed D.StepDown e = acks_down h epoch peer s a leads i fits is lt e (stepped_down h) (demotes h)
  acks_deed D.Unalign e = acks_unalign h epoch peer s a leads i fits is lt e _ refl
  acks_deed (D.Record t b) e = acks_record h epoch peer s a leads i fits is lt t b e _ refl _ refl

pub deed_trims : (d : Deed) (i : ℕ) (h : Held) → h.count ≤ 32 → h.holders ≤ 8 → Trims (deed_held d i h) (deed_held d i h)
unfolding deed_held
deed_trims D.Nothing i h a b = record { count = a; holders = b; seen = λ k l v. refl }
deed_trims D.StepDown i h a b = record { count = omega arith; holders = b; seen = λ k l v. refl }
deed_trims D.Unalign i h a b = record { count = a; holders = b; seen = λ k l v. refl }
deed_trims (D.Record t c) i h a b = record { count = a; holders = b; seen = λ k l v. refl }

-- a deed is never refused
noted_so : (j : Bool) → is_acked (cond j A.Expand A.Noted) ≡ true
noted_so true = refl
noted_so false = refl

pub deed_noted : (d : Deed) (i : ℕ) (h : Held) → is_acked (deed_answer d i h) ≡ true
unfolding deed_answer
deed_noted D.Nothing i h = refl
deed_noted D.StepDown i h = refl
deed_noted D.Unalign i h = refl
deed_noted (D.Record t b) i h = noted_so (joins h.last t b (get_or h.peers i no_peer))

-- ---- a deed done to the row where it stands

abbrev Done : (s : List ℕ) → (row i : ℕ) → (t : List ℕ) → ℕ → Deed → Type 0
Done s row i t r d =
    (r ≡ ack_number (deed_answer d i (held_row_at s row).held)) × RowBecomes s t row (kept_as (held_row_at s row) (deed_held d i (held_row_at s row).held))

module _ (s : List ℕ) (row i : ℕ) (d : Deed) where
  pub done-nothing : d ≡ D.Nothing → Done s row i s 0 d
  unfolding deed_answer deed_held
  done-nothing e =
      subst (λ (x : Deed). Done s row i s 0 x) (sym e) (refl, record { outside = record { long = refl; front = refl; back = refl }; row = refl })

  pub done_down : d ≡ D.StepDown → (t : List ℕ) → RowBecomes s t row (kept_as (held_row_at s row) (stepped_down (held_row_at s row).held)) → Done s row i t 0 d
  unfolding deed_answer deed_held
  done_down e t b = subst (λ (x : Deed). Done s row i t 0 x) (sym e) (refl, b)

  module _ (lt : i < 32) (p : Peer) (p-is : p ≡ peer_at s (row + 256 + 32 * i)) where
    peer_here : p ≡ get_or (held_row_at s row).held.peers i no_peer
    peer_here = p-is ∙ sym (ap (λ (l : List Peer). get_or l i no_peer) (peers-is s row) ∙ peer-row s (row + 256) i no_peer lt)

    pub done_unalign : d ≡ D.Unalign → (q : Peer) → q ≡ unaligned p → (t : List ℕ) → RowBecomes s t row (peer_set (held_row_at s row) i q) → Done s row i t 0 d
    unfolding deed_answer deed_held
    done_unalign e q q-is t b =
        subst (λ (x : Deed). Done s row i t 0 x) (sym e) (refl, row_as (ap (peer_set (held_row_at s row) i) (q-is ∙ ap unaligned peer_here)) b)

    module _ (through : ℕ) (aligned : Bool) (e : d ≡ D.Record through aligned) (last : ℕ) (l-is : last ≡ number_at 8 s (row + 72))
        (j : Bool) (j-is : j ≡ joins last through aligned p) (q : Peer) (q-is : q ≡ ack_row last through aligned p) (t : List ℕ)
        (b : RowBecomes s t row (peer_set (held_row_at s row) i q)) where
      last_here : last ≡ (held_row_at s row).held.last
      last_here = l-is ∙ sym (last-is s row)

      joins_here : joins (held_row_at s row).held.last through aligned (get_or (held_row_at s row).held.peers i no_peer) ≡ j
      joins_here = sym (j-is ∙ ap (λ (n : ℕ). joins n through aligned p) last_here ∙ ap (joins (held_row_at s row).held.last through aligned) peer_here)

      recorded : RowBecomes s t row (kept_as (held_row_at s row) (deed_held (D.Record through aligned) i (held_row_at s row).held))
      unfolding deed_held
      recorded =
          row_as
          (ap (peer_set (held_row_at s row) i) (q-is ∙ ap (λ (n : ℕ). ack_row n through aligned p) last_here ∙ ap (ack_row (held_row_at s row).held.last through aligned) peer_here))
          b

      pub done-joins : j ≡ true → Done s row i t 1 d
      unfolding deed_answer
      done-joins on = subst (λ (x : Deed). Done s row i t 1 x) (sym e) (rw (joins_here ∙ on), recorded)

      pub done_stays : j ≡ false → Done s row i t 0 d
      unfolding deed_answer
      done_stays off = subst (λ (x : Deed). Done s row i t 0 x) (sym e) (rw (joins_here ∙ off), recorded)
