-- The shard at a place of a header, in the bytes and as the header is read. Assumes nothing.
use Prim.Native.Nat.{ℕ, ◌+◌, ◌*◌, ◌≤◌, ◌<◌}
use mathlib.Core.Bool.{Bool, true}
use mathlib.Core.Path.{◌≡◌, refl, sym, ap, ◌∙◌}
use mathlib.Core.List.{List}
use lib.Dec.{leb}
use lib.ListN.{length, take, get_or}
use lib.Seq.{set-get_or}
use borrow.Author.Tests.{leb-true}
use native.Mathlib.Omega.{arith}
use Rattle.spec.specs.Lists.{lead}
use Rattle.spec.specs.Limits.{max_replicas}
use Rattle.spec.specs.Keys.{Key}
use Rattle.spec.specs.Layout.Format.{number_at}
use Rattle.spec.specs.Node.Shards.{leads_at}
use Rattle.spec.specs.declared.Peer.{Peer}
use Rattle.spec.specs.declared.Role.{Role}
use Rattle.spec_laws.proofs.Lists.{and_left}
use Rattle.node_shard.specs.declared.Held.{Held}
use Rattle.node_shard.specs.Formed.{formed_held}
use Rattle.node_shard.specs.View.{others}
use Rattle.node_shard.proofs.Formed.{formed-few}
use Rattle.node_header.specs.declared.HeldRow.{HeldRow}
use Rattle.node_header.specs.View.{used, other_key, no_held_row, with_held_rows, with_shard}
use Rattle.node_header.specs.Formed.{formed_node}
use Rattle.node_header.specs.Arrays.{Trims}
use Rattle.node_header.proofs.Formed.{shard-formed}
use Rattle.image_header_row.specs.Rows.{role_at, peer_at, peers_at, held_row_at}
use Rattle.image_header.specs.Image.{node_at}
use Rattle.image_header_check.specs.Rows.{Counts}
use Rattle.image_header_check.proofs.Rows.{counted, held_long, row_at, count-is, peers-is, peers_long}
use Rattle.image_header_form.proofs.FrontLaws.{role_is}

holders-few : (h : Held) → formed_held h ≡ true → h.holders ≤ 8
unfolding formed_held
holders-few h e = leb-true h.holders max_replicas (and_left (leb h.holders max_replicas) _ e)

module _ (s : List ℕ) (count : ℕ) (counts : Counts s count) where
  same_count : (node_at s).count ≡ count
  same_count = counted s ∙ counts.2

  pub in_array : (node_at s).count ≤ length (node_at s).held
  in_array = let l = held_long s in let c = same_count in let f = counts.1 in omega arith

  pub place_is : (k : Key) (at : ℕ) → at ≡ lead (other_key k) (take count (node_at s).held) → at ≡ lead (other_key k) (used (node_at s))
  place_is k at e = e ∙ ap (λ (j : ℕ). lead (other_key k) (take j (node_at s).held)) (sym same_count)

  pub place_out : (at : ℕ) → count ≤ at → (node_at s).count ≤ at
  place_out at h = let c = same_count in omega arith

  module _ (at : ℕ) (lt : at < count) where
    abbrev pub place : ℕ
    place = 48 + 1280 * at

    -- the shard as the header is read
    abbrev pub held_in : Held
    held_in = (get_or (node_at s).held at no_held_row).held

    pub place_in : at < (node_at s).count
    place_in = let c = same_count in omega arith

    pub row_is : get_or (node_at s).held at no_held_row ≡ held_row_at s place
    row_is = row_at s count counts at no_held_row lt

    pub held-is : held_in ≡ (held_row_at s place).held
    held-is = ap (λ (x : HeldRow). x.held) row_is

    pub leads-is : (role : Role) → role ≡ role_at s (place + 108) → (epoch : ℕ) (b : Bool) → leads_at role epoch ≡ b → leads_at held_in.role epoch ≡ b
    leads-is role r epoch b e = ap (λ (x : Role). leads_at x epoch) (ap (λ (x : Held). x.role) held-is ∙ role_is s place ∙ sym r) ∙ e

    pub peers-many : held_in.count ≡ number_at 8 s (place + 88)
    peers-many = ap (λ (x : Held). x.count) held-is ∙ count-is s place

    pub peers_in_lem : held_in.peers ≡ peers_at s (place + 256)
    peers_in_lem = ap (λ (x : Held). x.peers) held-is ∙ peers-is s place

    pub peers-full : length held_in.peers ≡ 32
    peers-full = ap (λ (l : List Peer). length l) peers_in_lem ∙ peers_long s (place + 256)

    -- the row of a peer, found in place
    pub peer-is : (n : ℕ) → n ≡ number_at 8 s (place + 88) → (peer i : ℕ) → i ≡ lead (others peer) (take n (peers_at s (place + 256)))
        → i ≡ lead (others peer) (take held_in.count held_in.peers)
    peer-is n e peer i is =
        is ∙ ap (λ (j : ℕ). lead (others peer) (take j (peers_at s (place + 256)))) (e ∙ sym peers-many)
        ∙ ap (λ (l : List Peer). lead (others peer) (take held_in.count l)) (sym peers_in_lem)

    -- a shard that is put back as it was
    pub same-shard : with_shard (node_at s) at held_in ≡ node_at s
    same-shard = ap (with_held_rows (node_at s)) (set-get_or (node_at s).held at no_held_row)

    module _ (formed : formed_node (node_at s) ≡ true) where
      held-formed : formed_held held_in ≡ true
      held-formed = shard-formed (node_at s) formed in_array at place_in no_held_row

      pub peers-few : held_in.count ≤ 32
      peers-few = formed-few held_in held-formed

      pub few-there : number_at 8 s (place + 88) ≤ 32
      few-there = let f = peers-few in let c = peers-many in omega arith

      pub replicas-few : held_in.holders ≤ 8
      replicas-few = holders-few held_in held-formed

      pub trimmed : Trims held_in held_in
      trimmed = record { count = peers-few; holders = replicas-few; seen = λ k l v. refl }

pub node_at_lem : (s : List ℕ) (p : ℕ) → (peer_at s p).node.0 ≡ number_at 8 s p
unfolding peer_at
node_at_lem s p = refl
