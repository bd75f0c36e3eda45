-- The peers of a row that another row does not know, and a row copied. Assumes nothing.
use Prim.Native.Nat.{ℕ, suc, ◌+◌, ◌-◌, ◌*◌, ◌≤◌, ◌<◌}
use mathlib.Core.Path.{◌≡◌, refl, sym, ap, ◌∙◌}
use mathlib.Core.Bool.{Bool, true, false, not, cond}
use mathlib.Core.List.{List, [], ◌∷◌}
use lib.ListN.{length, get_or, take, drop, length-take, length-drop, get_or-append}
use lib.Seq.{sets, get_or-drop, get_or-take, sets-eq}
use native.Mathlib.Omega.{arith}
use Rattle.spec.specs.Lists.{lead, collect}
use Rattle.spec.specs.Layout.Format.{number_at}
use Rattle.spec.specs.Node.Shards.{of_node}
use Rattle.spec.specs.Node.Shown as show
use Rattle.spec.specs.declared.Peer.{Peer}
use Rattle.spec_laws.proofs.Lists.{by-test}
use Rattle.node_shard.specs.View.{others, no_peer}
use Rattle.node_shard.proofs.Loops.{used-next, used_over}
use Rattle.node_shard.proofs.RowLaws.{row-there, row-absent}
use Rattle.image_header_row.specs.Rows.{peers_at, held_row_f, held_row_of, held_row_at}
use Rattle.image_header_check.proofs.Rows.{peers_long, peer-row}
use Rattle.image_header_set.proofs.Place.{node_at_lem}
use Rattle.image_move.proofs.Bytes.{value_same}

-- ---- those that pass

module _ {A : Type 0} (p : A → Bool) where
  -- as many, whatever is gathered of them
  pub collect-same : {B C : Type 0} (f : A → B) (g : A → C) (l : List A) → length (collect p f l) ≡ length (collect p g l)
  unfolding collect
  collect-same f g [] = refl
  collect-same {B} {C} f g (x ∷ l) = go (p x) (collect-same f g l)
    where
      go : (b : Bool) → length (collect p f l) ≡ length (collect p g l)
          → length (cond b (f x ∷ collect p f l) (collect p f l)) ≡ length (cond b (g x ∷ collect p g l) (collect p g l))
      go true e = ap suc e
      go false e = e

  pub collect-most : {B : Type 0} (f : A → B) (l : List A) → length (collect p f l) ≤ length l
  unfolding collect
  collect-most f [] = omega arith
  collect-most {B} f (x ∷ l) =
      let e = collect-most f l in
      by-test (λ (k : List B). length k ≤ suc (length l)) (p x) {x = f x ∷ collect p f l} {y = collect p f l} (λ _. omega arith) (λ _. omega arith)

  -- of n in use, i are done
  module _ {B : Type 0} (f : A → B) (rows : List A) (n i : ℕ) (d : A) (le : n ≤ length rows) where
    pub collect-takes : i < n → p (get_or rows i d) ≡ true → collect p f (drop i (take n rows)) ≡ f (get_or rows i d) ∷ collect p f (drop (i + 1) (take n rows))
    unfolding collect
    collect-takes lt e = rw (used-next rows n i d le lt, e)

    pub collect-passes : i < n → p (get_or rows i d) ≡ false → collect p f (drop i (take n rows)) ≡ collect p f (drop (i + 1) (take n rows))
    unfolding collect
    collect-passes lt e = rw (used-next rows n i d le lt, e)

    pub collect-ends : n ≤ i → collect p f (drop i (take n rows)) ≡ []
    unfolding collect
    collect-ends h = rw (used_over rows n i le h)

-- ---- a peer looked for among the first of a row

module _ (s : List ℕ) (at was : ℕ) (few : was ≤ 32) (t : List ℕ) (to i : ℕ) (lt : i < 32) (v : ℕ) (is : v ≡ number_at 8 t (to + 32 * i)) (r : ℕ)
    (place : r ≡ lead (others v) (take was (peers_at s at))) where
  abbrev peer : Peer
  peer = get_or (peers_at t to) i no_peer

  pub node-is : v ≡ peer.node.0
  node-is = is ∙ sym (ap (λ (p : Peer). p.node.0) (peer-row t to i no_peer lt) ∙ node_at_lem t (to + 32 * i))

  place_is : r ≡ lead (others peer.node.0) (take was (peers_at s at))
  place_is = place ∙ ap (λ (k : ℕ). lead (others k) (take was (peers_at s at))) node-is

  inside : was ≤ length (peers_at s at)
  inside = let e = peers_long s at in omega arith

  pub is-new : was ≤ r → show.is_new (take was (peers_at s at)) peer ≡ true
  is-new h = ap not (row-absent (of_node peer.node.0) (peers_at s at) was r inside place_is h)

  pub is_known : r < was → show.is_new (take was (peers_at s at)) peer ≡ false
  is_known h = ap not (row-there (of_node peer.node.0) (peers_at s at) was r inside place_is h)

-- ---- a row copied

pub copied : (out s : List ℕ) (at to : ℕ) → length out ≡ 1280 → to ≡ at + 1280 → to ≤ length s → held_row_at (sets out 0 (take (to - at) (drop at s))) 0 ≡ held_row_at s at
unfolding held_row_at
copied out s at to e q room =
    let v = take (to - at) (drop at s) in
    let d = length-drop at s in
    let n : length v ≡ 1280 = length-take (to - at) (drop at s) ∙ omega arith in
    ap held_row_of
    (value_same (sets out 0 v) s held_row_f 0 at
    (λ i lt.
    let z : 0 + i ≡ i = omega arith in
    ap (λ (j : ℕ). get_or (sets out 0 v) j 0) z ∙ ap (λ (l : List ℕ). get_or l i 0) (sets-eq v out 0 (omega arith))
    ∙ get_or-append v (drop (0 + length v) out) 0 i (omega arith)
    ∙ get_or-take (to - at) (drop at s) i 0 (omega arith) ∙ get_or-drop at s i 0))
