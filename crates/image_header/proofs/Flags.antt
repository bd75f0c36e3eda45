-- The flags of the peers in use: the test of one shard more, and that those of a written shard are listed. Assumes nothing.
use Prim.Native.Nat.{ℕ, zero, suc, ◌+◌, ◌-◌, ◌*◌, ◌≤◌, ◌<◌}
use mathlib.Core.Path.{◌≡◌, refl, sym, ap, ◌∙◌}
use mathlib.Core.Bool.{Bool, true, false}
use mathlib.Core.List.{List, [], ◌∷◌, ◌++◌, map, append_assoc}
use lib.ListN.{length, drop}
use native.Mathlib.Omega.{arith}
use lib.Dec.{leb}
use borrow.Author.Tests.{lt-ltb, leb-true}
use Rattle.spec_laws.proofs.Lists.{by-test}
use Rattle.spec.specs.Lists.{◌and◌}
use Rattle.spec.specs.Layout.Format.{number_at, concat_map, All}
use Rattle.spec_laws.proofs.Wire.Tests.{and_intro, and_true, and_false}
use Rattle.spec_laws.proofs.Wire.Bytes.{cut-append}
use Rattle.spec.specs.declared.Peer.{Peer}
use Rattle.node_header.specs.declared.HeldRow.{HeldRow}
use Rattle.image_parts.specs.Shape.{Value, items, value, in_use, codes_below}
use Rattle.image_parts.proofs.Images.{row_next}
use Rattle.image_header_row.specs.Rows.{weigh, peer_flags, peer_f, peer_value, held_row_f, held_row_value, held_row_bytes}
use Rattle.image_header.specs.Image.{flags_listed}
use Rattle.image_header.proofs.Tidy.{HeldRowFits}

-- ---- loops: one shard more is tested

abbrev shard_flags : List ℕ → ℕ → Bool
shard_flags s at = codes_below 16 32 s (in_use 32 (number_at 8 s (at + 88))) (at + 280)

module _ (s : List ℕ) (n i : ℕ) where
  flags_step : (p : ℕ) → i < n → flags_listed s (n - i) p ≡ (shard_flags s p and flags_listed s (n - (i + 1)) (p + 1280))
  flags_step p h = let e : n - i ≡ suc (n - (i + 1)) = omega arith in rw e

  pub flags_on : i < n → shard_flags s (48 + 1280 * i) ≡ true → flags_listed s (n - (i + 1)) (48 + 1280 * (i + 1)) ≡ flags_listed s (n - i) (48 + 1280 * i)
  flags_on h k =
      ap (flags_listed s (n - (i + 1))) (sym (row_next 48 1280 i))
      ∙ sym (flags_step (48 + 1280 * i) h ∙ (rw k (and_true _)))

  pub flags_stop : i < n → shard_flags s (48 + 1280 * i) ≡ false → flags_listed s (n - i) (48 + 1280 * i) ≡ false
  flags_stop h k = flags_step (48 + 1280 * i) h ∙ (rw k (and_false _))

  pub flags_end : n ≤ i → flags_listed s (n - i) (48 + 1280 * i) ≡ true
  flags_end h = let e : n - i ≡ 0 = omega arith in rw e

-- ---- what was written

weighed : (b : Bool) (w : ℕ) → weigh b w ≤ w
weighed false w = omega arith
weighed true w = omega arith

-- four bits
flags_small : (p : Peer) → peer_flags p < 16
flags_small p =
    let a = weighed p.aligned 1 in
    let b = weighed p.behind 2 in
    let c = weighed p.proposing 4 in
    let d = weighed p.member 8 in
    omega arith

-- the first m of n peers, read as they were written
peers_listed : (s : List ℕ) (m n at : ℕ) (ps : List Peer) → m ≤ n → items n (value peer_f s) 32 at ≡ map peer_value ps → codes_below 16 32 s m (at + 24) ≡ true
peers_listed s zero n at ps h e = refl
peers_listed s (suc m) zero at ps h e = absurd (omega arith)
peers_listed s (suc m) (suc n) at [] h e =
    let z : suc (length (items n (value peer_f s) 32 (at + 32))) ≡ 0 = ap length e in
    absurd (omega (arith, z))
peers_listed s (suc m) (suc n) at (p ∷ ps) h e =
    let here : value peer_f s at ≡ peer_value p = cc in
    let rest : items n (value peer_f s) 32 (at + 32) ≡ map peer_value ps = cc in
    let c : number_at 4 s (at + 24) ≡ peer_flags p = ap (λ (v : Value peer_f). v.0.1) here in
    let q : at + 24 + 32 ≡ at + 32 + 24 = omega arith in
    and_intro (lt-ltb (number_at 4 s (at + 24)) 16 (rw c (flags_small p)))
    (ap (codes_below 16 32 s m) q ∙ peers_listed s m n (at + 32) ps (omega arith) rest)

used-within : (c : ℕ) → in_use 32 c ≤ 32
used-within c = by-test (λ (k : ℕ). k ≤ 32) (leb c 32) (λ e. leb-true c 32 e) (λ e. omega arith)

-- of a shard that was written, every flag is one of a peer's
shard_listed : (s : List ℕ) (x : HeldRow) (at : ℕ) → value held_row_f s at ≡ held_row_value x → shard_flags s at ≡ true
shard_listed s x at e =
    let q : at + 280 ≡ at + 64 + 192 + 24 = omega arith in
    let peers : items 32 (value peer_f s) 32 (at + 64 + 192) ≡ map peer_value x.held.peers = ap (λ (v : Value held_row_f). v.1.1) e in
    ap (codes_below 16 32 s (in_use 32 (number_at 8 s (at + 88)))) q
    ∙ peers_listed s (in_use 32 (number_at 8 s (at + 88))) 32 (at + 64 + 192) x.held.peers (used-within (number_at 8 s (at + 88))) peers

-- the same of every shard that was written
pub flags_back : (s : List ℕ) → ((x : HeldRow) (p : ℕ) (t : List ℕ) → HeldRowFits x → drop p s ≡ held_row_bytes x ++ t → value held_row_f s p ≡ held_row_value x)
    → ((x : HeldRow) → HeldRowFits x → length (held_row_bytes x) ≡ 1280)
    → (xs : List HeldRow) (at : ℕ) (t : List ℕ) → All HeldRowFits xs → drop at s ≡ concat_map held_row_bytes xs ++ t → flags_listed s (length xs) at ≡ true
flags_back s law long [] at t p e = refl
flags_back s law long (x ∷ xs) at t p e =
    let d : drop at s ≡ held_row_bytes x ++ (concat_map held_row_bytes xs ++ t) = e ∙ append_assoc (held_row_bytes x) (concat_map held_row_bytes xs) t in
    let c : drop (at + 1280) s ≡ concat_map held_row_bytes xs ++ t = (rw (long x p.0) at (cut-append s at (held_row_bytes x) (concat_map held_row_bytes xs ++ t) d)) in
    and_intro (shard_listed s x at (law x at (concat_map held_row_bytes xs ++ t) p.0 d)) (flags_back s law long xs (at + 1280) t p.1 c)
