-- The step by the numbers of a row, one law for each way out. Assumes nothing.
use Prim.Native.Nat.{ℕ, ◌+◌, ◌*◌, ◌≤◌, ◌<◌}
use mathlib.Core.Path.{◌≡◌, sym, ap, ◌∙◌}
use mathlib.Core.Bool.{Bool, true, false}
use mathlib.Core.List.{List}
use native.Mathlib.Omega.{arith}
use lib.ListN.{length, take, get_or}
use Rattle.spec.specs.Lists.{any, lead}
use Rattle.spec.specs.Layout.Format.{number_at}
use Rattle.spec.specs.Node.Shards.{leads_at, on_node}
use Rattle.spec.specs.declared.Role.{Role}
use Rattle.spec.specs.declared.Peer.{Peer}
use Rattle.spec.specs.declared.Replica.{Replica}
use Rattle.node_shard.specs.declared.Held.{Held}
use Rattle.node_shard.specs.View.{others, no_peer}
use Rattle.node_shard.specs.Formed.{formed_held}
use Rattle.node_shard.proofs.Formed.{formed-few}
use Rattle.node_admit.specs.declared.Step.{Step}
use Rattle.node_admit.specs.declared.Step.TheVariants as S
use Rattle.node_admit.specs.Steps.{step_from, Steps}
use Rattle.node_admit.proofs.StepLaws.{few-holders, ack_at, steps_not, steps-gone, steps-new, steps_align, steps_send}
use Rattle.image_parts.specs.Parts.{replicas_at}
use Rattle.image_header_row.specs.Rows.{peer_at, peers_at, role_at, held_row_at}
use Rattle.image_header_check.proofs.Rows.{peers_long, peer-row, holders-is, count-is, peers-is, last-is}
use Rattle.image_header_form.proofs.FrontLaws.{role_is, replicas-is}

module _ (s : List ℕ) (row epoch peer : ℕ) (formed : formed_held (held_row_at s row).held ≡ true) where
  abbrev h : Held
  h = (held_row_at s row).held

  pub holders-few : (n : ℕ) → n ≡ number_at 8 s (row + 80) → n ≤ 8
  holders-few n e = let q = holders-is s row in let f = few-holders h formed in omega arith

  pub count-few : (n : ℕ) → n ≡ number_at 8 s (row + 88) → n ≤ 32
  count-few n e = let q = count-is s row in let f = formed-few h formed in omega arith

  module _ (role : Role) (role_at_lem : role ≡ role_at s (row + 108)) (b : Bool) (leads : b ≡ leads_at role epoch) where
    lead_is : b ≡ leads_at h.role epoch
    lead_is = leads ∙ ap (λ (r : Role). leads_at r epoch) (role_at_lem ∙ sym (role_is s row))

    pub stop_not : b ≡ false → Steps h epoch peer S.Stop
    stop_not e = steps_not h epoch peer (sym lead_is ∙ e)

    module _ (yes : b ≡ true) (rs : List Replica) (replicas-at : rs ≡ replicas_at s (row + 128)) (holders : ℕ) (holders-at : holders ≡ number_at 8 s (row + 80))
        (d : Bool) (listed : d ≡ any (on_node peer) (take holders rs)) where
      listed_is : d ≡ any (on_node peer) (take h.holders h.replicas)
      listed_is =
          listed
          ∙ ap (λ (n : ℕ). any (on_node peer) (take n rs)) (holders-at ∙ sym (holders-is s row))
          ∙ ap (λ (l : List Replica). any (on_node peer) (take h.holders l)) (replicas-at ∙ sym (replicas-is s row))

      pub stop_gone : d ≡ false → Steps h epoch peer S.Stop
      stop_gone e = steps-gone h epoch peer (sym lead_is ∙ yes) (sym listed_is ∙ e)

      module _ (there : d ≡ true) (count : ℕ) (count_at : count ≡ number_at 8 s (row + 88)) (at : ℕ)
          (is : at ≡ lead (others peer) (take count (peers_at s (row + 256)))) where
        same_count : count ≡ h.count
        same_count = count_at ∙ sym (count-is s row)

        fits : h.count ≤ length h.peers
        fits =
            let f = formed-few h formed in
            let l : length h.peers ≡ 32 = ap length (peers-is s row) ∙ peers_long s (row + 256) in
            omega arith

        is_here : at ≡ lead (others peer) (take h.count h.peers)
        is_here =
            is
            ∙ ap (λ (n : ℕ). lead (others peer) (take n (peers_at s (row + 256)))) same_count
            ∙ ap (λ (l : List Peer). lead (others peer) (take h.count l)) (sym (peers-is s row))

        pub align_new : count ≤ at → Steps h epoch peer S.Align
        align_new out = let c = same_count in steps-new h epoch peer (sym lead_is ∙ yes) (sym listed_is ∙ there) at fits is_here (omega arith)

        module _ (in_use : at < count) (p : Peer) (peer-is : p ≡ peer_at s (row + 256 + 32 * at)) where
          below : at < h.count
          below = let c = same_count in omega arith

          same-peer : get_or h.peers at no_peer ≡ p
          same-peer =
              let f = count-few count count_at in
              ap (λ (l : List Peer). get_or l at no_peer) (peers-is s row) ∙ peer-row s (row + 256) at no_peer (omega arith) ∙ sym peer-is

          pub align_old : p.aligned ≡ false → Steps h epoch peer S.Align
          align_old e =
              steps_align h epoch peer (sym lead_is ∙ yes) (sym listed_is ∙ there) at fits is_here below (ap (λ (q : Peer). q.aligned) same-peer ∙ e)

          pub ack_fits_lem : p.acked.0 ≤ 4611686018427387904
          ack_fits_lem = let a = ack_at h formed at below fits in let e = ap (λ (q : Peer). q.acked.0) same-peer in omega arith

          pub sends-on : p.aligned ≡ true → (last : ℕ) → last ≡ number_at 8 s (row + 72) → (r : Step) → r ≡ step_from p.acked.0 last → Steps h epoch peer r
          sends-on e last last-at r q =
              steps_send h epoch peer (sym lead_is ∙ yes) (sym listed_is ∙ there) at fits is_here below (ap (λ (z : Peer). z.aligned) same-peer ∙ e) r
              (q
              ∙ ap (λ (n : ℕ). step_from n last) (ap (λ (z : Peer). z.acked.0) (sym same-peer))
              ∙ ap (step_from (get_or h.peers at no_peer).acked.0) (last-at ∙ sym (last-is s row)))
