-- The outcome at a shard's row, one law for each way out. Assumes nothing.
use Prim.Native.Nat.{ℕ, ◌+◌, ◌*◌, ◌≤◌, ◌<◌}
use mathlib.Core.Bool.{Bool, true, false, not}
use mathlib.Core.Path.{◌≡◌, refl, sym, ap, ◌∙◌}
use mathlib.Core.List.{List}
use lib.Dec.{eqb}
use lib.ListN.{length, take, get_or, set}
use native.Mathlib.Omega.{arith}
use Rattle.spec.specs.Lists.{◌and◌, lead}
use Rattle.spec.specs.Layout.Format.{number_at}
use Rattle.spec.specs.Node.Shards.{leads_at}
use Rattle.spec.specs.Node.Ack.{settled_row}
use Rattle.spec.specs.declared.Peer.{Peer}
use Rattle.spec.specs.declared.Role.{Role}
use Rattle.node_shard.specs.View.{others, no_peer}
use Rattle.node_outcomes.proofs.Outcome.{after, settles_not, settles_none, settles_row}
use Rattle.node_header.specs.declared.HeldRow.{HeldRow}
use Rattle.image_parts.specs.Codes.{flag_of}
use Rattle.image_header_row.specs.Rows.{role_at, peer_at, peers_at, held_row_at}
use Rattle.image_header_check.proofs.Rows.{count-is, peers-is, peers_long, peer-row}
use Rattle.image_header_form.proofs.FrontLaws as front
use Rattle.image_header_set.specs.Row.{RowBecomes, peer_set, own_set}
use Rattle.image_header_set.proofs.SetLaws.{row-then, row_as}
use Rattle.calls_outcome.specs.Settled.{OutcomesRow}

module _ (s : List ℕ) (row me epoch peer : ℕ) (left : Bool) (role : Role) (role_is : role ≡ role_at s (row + 108)) where
  leads-is : (b : Bool) → leads_at role epoch ≡ b → leads_at (held_row_at s row).held.role epoch ≡ b
  leads-is b e = ap (λ (x : Role). leads_at x epoch) (front.role_is s row ∙ sym role_is) ∙ e

  -- no primary at that epoch
  pub settle_not : leads_at role epoch ≡ false → OutcomesRow s s row me epoch peer left
  settle_not nay = record {
    held = (held_row_at s row).held;
    settles = settles_not (held_row_at s row).held me epoch peer left (leads-is false nay);
    count = refl;
    holders = refl;
    becomes = record { outside = record { long = refl; front = refl; back = refl }; row = refl };
  }

  module _ (leads : leads_at role epoch ≡ true) (flag : Bool) (flag_is : flag ≡ flag_of (number_at 4 s (row + 100))) (own : Bool)
      (own_is : own ≡ (flag and not (left and eqb peer me))) (n : ℕ) (n-is : n ≡ number_at 8 s (row + 88)) (few : number_at 8 s (row + 88) ≤ 32) (i : ℕ)
      (i-is : i ≡ lead (others peer) (take n (peers_at s (row + 256)))) where
    own_here : own ≡ ((held_row_at s row).held.own and not (left and eqb peer me))
    own_here = own_is ∙ ap (λ (b : Bool). b and not (left and eqb peer me)) (flag_is ∙ sym (front.own_is s row))

    fits : (held_row_at s row).held.count ≤ length (held_row_at s row).held.peers
    fits =
        let c = count-is s row in
        let l : length (held_row_at s row).held.peers ≡ 32 = ap (λ (r : List Peer). length r) (peers-is s row) ∙ peers_long s (row + 256) in
        omega arith

    i_here : i ≡ lead (others peer) (take (held_row_at s row).held.count (held_row_at s row).held.peers)
    i_here =
        i-is ∙ ap (λ (j : ℕ). lead (others peer) (take j (peers_at s (row + 256)))) (n-is ∙ sym (count-is s row))
        ∙ ap (λ (l : List Peer). lead (others peer) (take (held_row_at s row).held.count l)) (sym (peers-is s row))

    -- no worker for that peer
    pub settle-none : n ≤ i → (t : List ℕ) → RowBecomes s t row (own_set (held_row_at s row) own) → OutcomesRow s t row me epoch peer left
    settle-none out t b =
        let c = count-is s row in
        record {
          held = after (held_row_at s row).held own (held_row_at s row).held.peers;
          settles = settles_none (held_row_at s row).held me epoch peer left (leads-is true leads) own own_here i fits i_here (omega arith);
          count = refl;
          holders = refl;
          becomes = b;
        }

    pub settle-few : i < n → i < 32
    settle-few h = omega arith

    pub settle-row : i < n → (p : Peer) → p ≡ peer_at s (row + 256 + 32 * i) → (q : Peer) → q ≡ settled_row left p → (m t : List ℕ)
        → RowBecomes s m row (peer_set (held_row_at s row) i q) → RowBecomes m t row (own_set (held_row_at m row) own) → OutcomesRow s t row me epoch peer left
    settle-row h p p-is q q-is m t a b =
        let c = count-is s row in
        let here : p ≡ get_or (held_row_at s row).held.peers i no_peer =
        p-is ∙ sym (ap (λ (l : List Peer). get_or l i no_peer) (peers-is s row) ∙ peer-row s (row + 256) i no_peer (settle-few h)) in
        record {
          held = after (held_row_at s row).held own (set (held_row_at s row).held.peers i q);
          settles = settles_row (held_row_at s row).held me epoch peer left (leads-is true leads) own own_here i fits i_here (omega arith) q
              (q-is ∙ ap (settled_row left) here);
          count = refl;
          holders = refl;
          becomes = row_as (ap (λ (x : HeldRow). own_set x own) a.row) (row-then a b);
        }
