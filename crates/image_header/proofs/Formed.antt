-- A header that is well formed stays so in the canonical form, in which its counts are within their arrays. Assumes nothing.
use Prim.Native.Nat.{ℕ, ◌≤◌}
use mathlib.Core.Path.{◌≡◌, refl, ◌∙◌}
use mathlib.Core.Bool.{Bool, true, false, cond}
use mathlib.Core.List.{List, [], ◌∷◌, map}
use lib.ListN.{length, take, length-map}
use borrow.Author.Tests.{le-leb}
use native.Mathlib.Omega.{arith}
use Rattle.spec.specs.Lists.{any, every, rising}
use Rattle.spec.specs.Layout.Format.{All}
use Rattle.spec_laws.proofs.Wire.Tests.{and_intro, and_left, and_right}
use Rattle.map_tables.specs.Names.{view_key}
use Rattle.node_shard.specs.Formed.{formed_held}
use Rattle.node_shard.specs.declared.Held.{Held}
use Rattle.node_header.specs.View.{used}
use Rattle.node_header.specs.Formed.{on_slot, slots_fit, held_row_fits, held_row_below, formed_node}
use Rattle.node_header.specs.declared.HeldRow.{HeldRow}
use Rattle.node_header.specs.declared.Node.{Node}
use Rattle.image_parts.specs.Shape.{Good}
use Rattle.image_parts.proofs.Canon.{take-padded, view-key}
use Rattle.image_parts.proofs.Tidied.{take_within}
use Rattle.image_header_row.specs.Rows.{no_peer, held_f, held_value}
use Rattle.image_header_row.specs.Tidy.{tidy_held, tidy_held_row}
use Rattle.image_header.proofs.Tidy.{HeldRowFits}

-- ---- one row

held-formed : (h : Held) → Good held_f (held_value h) → formed_held h ≡ true → formed_held (tidy_held h) ≡ true
unfolding formed_held tidy_held
held-formed h ((numbers, replicas), peers) f =
    let a : length h.replicas ≡ 8 = rw length-map at replicas.0 in
    let b : length h.peers ≡ 32 = rw length-map at peers.0 in
    let c : length (take h.holders h.replicas) ≤ 8 = omega (arith, take_within h.holders h.replicas) in
    let d : length (take h.count h.peers) ≤ 32 = omega (arith, take_within h.count h.peers) in
    let r = and_right _ _ f in
    rw (take-padded 32 no_peer (take h.count h.peers))
    (and_intro (le-leb _ 8 c) (and_intro (and_left _ _ r) (and_intro (le-leb _ 32 d) (and_right _ _ (and_right _ _ r)))))

kept-formed : (x : HeldRow) → HeldRowFits x → held_row_fits x ≡ true → held_row_fits (tidy_held_row x) ≡ true
unfolding held_row_fits tidy_held_row
kept-formed x ((((key, unused), slot), stored), held) f =
    let k = key.0.1.0 in
    let l : length (take x.key.collection.len x.key.collection.bytes) ≤ 32 =
    omega (arith, take_within x.key.collection.len x.key.collection.bytes) in
    let r = and_right _ _ f in
    and_intro (le-leb _ 32 l)
    (and_intro (and_left _ _ r) (held-formed x.held held (and_right _ _ r)))

below-tidied : (x y : HeldRow) → held_row_below (tidy_held_row x) (tidy_held_row y) ≡ held_row_below x y
unfolding tidy_held_row
below-tidied x y = rw (view-key (view_key x.key), view-key (view_key y.key))

-- ---- the rows in use

every-formed : (xs : List HeldRow) → All HeldRowFits xs → every held_row_fits xs ≡ true → every held_row_fits (map tidy_held_row xs) ≡ true
unfolding every
every-formed [] g f = refl
every-formed (x ∷ xs) g f = go (held_row_fits x) refl f (every-formed xs g.1)
  where
    go : (b : Bool) → held_row_fits x ≡ b → cond b (every held_row_fits xs) false ≡ true → (every held_row_fits xs ≡ true → every held_row_fits (map tidy_held_row xs) ≡ true)
        → cond (held_row_fits (tidy_held_row x)) (every held_row_fits (map tidy_held_row xs)) false ≡ true
    go true e k more = rw (kept-formed x g.0 e) (more k)
    go false e k more = cc

rising-tidied : (xs : List HeldRow) → rising held_row_below (map tidy_held_row xs) ≡ rising held_row_below xs
unfolding rising
rising-tidied [] = refl
rising-tidied (x ∷ []) = refl
rising-tidied (x ∷ y ∷ ys) = rw (below-tidied x y, rising-tidied (y ∷ ys))

any-tidied : (slot : ℕ) (xs : List HeldRow) → any (on_slot slot) (map tidy_held_row xs) ≡ any (on_slot slot) xs
unfolding any tidy_held_row
any-tidied slot [] = refl
any-tidied slot (x ∷ xs) = rw (any-tidied slot xs)

pub slots-formed : (xs : List HeldRow) → slots_fit (map tidy_held_row xs) ≡ slots_fit xs
unfolding slots_fit tidy_held_row
slots-formed [] = refl
slots-formed (x ∷ xs) = rw (any-tidied x.slot xs, slots-formed xs)

-- ---- the header

pub formed_as : (n r : Node) → All HeldRowFits (used n) → r.count ≤ 8 → used r ≡ map tidy_held_row (used n) → formed_node n ≡ true → formed_node r ≡ true
unfolding formed_node
formed_as n r g k e f =
    let a = and_right _ _ f in
    let b = and_right _ _ a in
    rw e
    (and_intro (le-leb _ 8 k)
    (and_intro (rising-tidied (used n) ∙ and_left _ _ a)
    (and_intro (every-formed (used n) g (and_left _ _ b)) (slots-formed (used n) ∙ and_right _ _ b))))
