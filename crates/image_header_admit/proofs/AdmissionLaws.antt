-- The numbers of a row that decide an admission. Assumes nothing.
use Prim.Native.Nat.{ℕ, ◌+◌, ◌≤◌, ◌<◌}
use mathlib.Core.Path.{◌≡◌, sym, ap, ◌∙◌}
use mathlib.Core.Bool.{Bool, true, false, cond}
use mathlib.Core.List.{List}
use native.Mathlib.Omega.{arith}
use lib.ListN.{length, take}
use Rattle.spec.specs.Lists.{filter}
use Rattle.spec.specs.Layout.Format.{number_at}
use Rattle.spec.specs.Node.Shards.{leads_at}
use Rattle.spec.specs.Node.Client.{is_member}
use Rattle.spec.specs.declared.Peer.{Peer}
use Rattle.spec.specs.declared.Role.{Role}
use Rattle.node_shard.specs.declared.Held.{Held}
use Rattle.node_admit.specs.declared.Admit.{Admit}
use Rattle.node_admit.specs.declared.Admit.TheVariants as A
use Rattle.node_admit.specs.Admits.{AdmitsWrite}
use Rattle.node_admit.proofs.AdmissionLaws.{write_not, write_unleased, write-few, write-full, write_yes}
use Rattle.image_parts.specs.Codes.{flag_of}
use Rattle.image_header_row.specs.Rows.{role_at, peers_at, held_row_at}
use Rattle.image_header_check.proofs.Rows.{count-is, last-is, peers-is}
use Rattle.image_header_form.proofs.FrontLaws.{epoch-is, own_is, role_is}

module _ (s : List ℕ) (row epoch : ℕ) (lease : Bool) (least : ℕ) (role : Role) (role-read : role ≡ role_at s (row + 108)) where
  abbrev held : Held
  held = (held_row_at s row).held

  abbrev Admits : Admit → Type 0
  Admits a = AdmitsWrite held epoch lease least a

  leads_so : (b : Bool) → b ≡ leads_at role epoch → leads_at held.role epoch ≡ b
  leads_so b e = ap (λ (r : Role). leads_at r epoch) (role_is s row ∙ sym role-read) ∙ sym e

  pub elsewhere : (b : Bool) → b ≡ leads_at role epoch → b ≡ false → (own : ℕ) → own ≡ number_at 8 s (row + 64) → Admits (A.NotPrimary own)
  elsewhere b e nay own is =
      let w = write_not held epoch lease least (leads_so b e ∙ nay) in
      rw (is ∙ sym (epoch-is s row)) w

  module _ (b : Bool) (e : b ≡ leads_at role epoch) (yes : b ≡ true) where
    leads : leads_at held.role epoch ≡ true
    leads = leads_so b e ∙ yes

    pub unleased : lease ≡ false → Admits A.NoLease
    unleased n = write_unleased held epoch lease least leads n

    module _ (leased : lease ≡ true) (count others : ℕ) (own : Bool) (size : ℕ) (count-read : count ≡ number_at 8 s (row + 88))
        (others-are : others ≡ length (filter is_member (take count (peers_at s (row + 256))))) (own_read : own ≡ flag_of (number_at 4 s (row + 100)))
        (size_is : size ≡ others + cond own 1 0) where
      acks : size ≡ length (filter is_member (take held.count held.peers)) + cond held.own 1 0
      acks =
          size_is
          ∙ ap (λ (x : ℕ). x + cond own 1 0)
          (others-are ∙ ap (λ (x : ℕ). length (filter is_member (take x (peers_at s (row + 256))))) (count-read ∙ sym (count-is s row))
          ∙ ap (λ (l : List Peer). length (filter is_member (take held.count l))) (sym (peers-is s row)))
          ∙ ap (λ (x : Bool). length (filter is_member (take held.count held.peers)) + cond x 1 0) (own_read ∙ sym (own_is s row))

      pub too_few : size < least → Admits A.TooFew
      too_few h = write-few held epoch lease least leads leased size acks h

      module _ (enough : least ≤ size) (last : ℕ) (last-read : last ≡ number_at 8 s (row + 72)) where
        pub full : 1024 ≤ last → Admits A.NoRoom
        full h =
            let q = last-is s row in
            write-full held epoch lease least leads leased size acks enough (omega arith)

        pub admitted : last < 1024 → Admits A.Yes
        admitted h =
            let q = last-is s row in
            write_yes held epoch lease least leads leased size acks enough (omega arith)
