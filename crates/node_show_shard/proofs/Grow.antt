-- Laws of the rows that a map adds, over the arrays. Assumes nothing.
use mathlib.Core.List.{List, [], ◌∷◌}
use mathlib.Core.Path.{◌≡◌, refl, ap, sym, ◌∙◌, subst}
use mathlib.Core.Bool.{Bool, true, false, cond}
use Prim.Native.Nat.{ℕ, zero, suc, ◌+◌, ◌<◌, ◌≤◌}
use native.Mathlib.Omega.{arith}
use borrow.Author.Tests.{eq-eqb, ne_eqb, le-ltb, lt-ltb, ltb-true, ltb-false, eqb-false}
use lib.Dec.{ltb, eqb}
use lib.ListN.{length, take, drop, get_or}
use lib.Seq.{length-take-le}
use Rattle.spec.specs.Lists.{◌or◌, lead, any, put}
use Rattle.spec.specs.Limits.{max_workers}
use Rattle.spec.specs.Node.Shards.{of_node, row_below}
use Rattle.spec.specs.Node.Shown.{is_node, new_row, with_row, with_rows}
use Rattle.spec.specs.declared.Peer.{Peer}
use Rattle.spec.specs.declared.Replica.{Replica}
use Rattle.spec.specs.declared.DataNodeId.{DataNodeId}
use Rattle.spec_laws.proofs.Lists.{by-test, not_both}
use Rattle.spec_laws.proofs.Map.Rows.{put_least}
use Rattle.node_shard.specs.View.{others, below, insert_at}
use Rattle.node_shard.proofs.Loops.{used-next, used_over, lead-most}
use Rattle.node_shard.proofs.RowLaws.{row-there, row-absent}

-- ---- a row put in where its node has none

-- no row of a node: neither the first nor any after
absent-first : (k : ℕ) (p : Peer) (ps : List Peer) → any (of_node k) (p ∷ ps) ≡ false → (eqb p.node.0 k ≡ false) × (any (of_node k) ps ≡ false)
unfolding any
absent-first k p ps e = go (eqb p.node.0 k) refl e
  where
    go : (b : Bool) → eqb p.node.0 k ≡ b → cond b true (any (of_node k) ps) ≡ false → (eqb p.node.0 k ≡ false) × (any (of_node k) ps ≡ false)
    go true q e = not_both true refl e
    go false q e = (q, e)

put-insert : (x : Peer) (l : List Peer) → any (of_node x.node.0) l ≡ false → put row_below x l ≡ insert_at l (lead (below x.node.0) l) x
unfolding put lead
put-insert x [] e = refl
put-insert x (p ∷ ps) e =
    let a = absent-first x.node.0 p ps e in
    go (ltb p.node.0 x.node.0) refl (eqb-false p.node.0 x.node.0 a.0) (put-insert x ps a.1)
  where
    go : (b : Bool) → ltb p.node.0 x.node.0 ≡ b → (p.node.0 ≡ x.node.0 → ⊥) → put row_below x ps ≡ insert_at ps (lead (below x.node.0) ps) x
        → cond (ltb x.node.0 p.node.0) (x ∷ p ∷ ps) (cond b (p ∷ put row_below x ps) (x ∷ ps))
        ≡ insert_at (p ∷ ps) (cond b (suc (lead (below x.node.0) ps)) zero) x
    go true q ne more =
        let u : ltb x.node.0 p.node.0 ≡ false = le-ltb x.node.0 p.node.0 (let h = ltb-true p.node.0 x.node.0 q in omega arith) in
        rw u (ap (λ (l : List Peer). p ∷ l) more)
    go false q ne more =
        let u : ltb x.node.0 p.node.0 ≡ true = lt-ltb x.node.0 p.node.0 (let h = ltb-false p.node.0 x.node.0 q in omega (arith, ne)) in
        rw u

put-longer : (x : Peer) (l : List Peer) → any (of_node x.node.0) l ≡ false → length (put row_below x l) ≡ suc (length l)
unfolding put
put-longer x [] e = refl
put-longer x (p ∷ ps) e =
    let a = absent-first x.node.0 p ps e in
    let more = put-longer x ps a.1 in
    by-test (λ (v : List Peer). length v ≡ suc (suc (length ps))) (ltb x.node.0 p.node.0) {x = x ∷ p ∷ ps} (λ q. refl)
    (λ q. by-test (λ (v : List Peer). length v ≡ suc (suc (length ps))) (ltb p.node.0 x.node.0) {x = p ∷ put row_below x ps} {y = x ∷ ps} (λ r. ap suc more)
    (λ r. level x.node.0 p.node.0 (ltb-false x.node.0 p.node.0 q) (ltb-false p.node.0 x.node.0 r) (eqb-false p.node.0 x.node.0 a.0)))
  where
    level : {P : Type 0} (a b : ℕ) → b ≤ a → a ≤ b → (b ≡ a → ⊥) → P
    level a b h g ne = absurd (ne (omega arith))

-- rows are never lost
with_row_grows : (me : ℕ) (s : List DataNodeId) (n : DataNodeId) (l : List Peer) → length l ≤ length (with_row me s n l)
unfolding with_row
with_row_grows me s n l =
    by-test (λ (v : List Peer). length l ≤ length v) (eqb n.0 me or any (of_node n.0) l) {x = l} (λ q. omega arith)
    (λ q. put_least row_below (new_row n (any (is_node n.0) s)) l)

with_rows_grow : (me : ℕ) (s : List DataNodeId) (rs : List Replica) (l : List Peer) → length l ≤ length (with_rows me s rs l)
unfolding with_rows
with_rows_grow me s [] l = omega arith
with_rows_grow me s (r ∷ rs) l =
    let a = with_row_grows me s r.node l in
    let b = with_rows_grow me s rs (with_row me s r.node l) in
    omega arith

-- ---- the loop: of the holders rs, n in use, i are done; of the rows xs, m are in use

module _ (me : ℕ) (s : List DataNodeId) (rs : List Replica) (n i : ℕ) (le : n ≤ length rs) where
  pub grow_end : (l : List Peer) → n ≤ i → with_rows me s (drop i (take n rs)) l ≡ l
  unfolding with_rows
  grow_end l h = rw (used_over rs n i le h)

  module _ (lt : i < n) (d : Replica) where
    next_row : (l : List Peer) → with_rows me s (drop i (take n rs)) l ≡ with_rows me s (drop (i + 1) (take n rs)) (with_row me s (get_or rs i d).node l)
    unfolding with_rows
    next_row l = rw (used-next rs n i d le lt)

    pub grow_me : (l : List Peer) → (get_or rs i d).node.0 ≡ me → with_rows me s (drop i (take n rs)) l ≡ with_rows me s (drop (i + 1) (take n rs)) l
    unfolding with_row ◌or◌
    grow_me l e = next_row l ∙ rw (eq-eqb (get_or rs i d).node.0 me e)

    module _ (ne : (get_or rs i d).node.0 ≡ me → ⊥) (xs : List Peer) (m at : ℕ) (fits : m ≤ length xs)
        (is : at ≡ lead (others (get_or rs i d).node.0) (take m xs)) where
      pub grow_has : at < m → with_rows me s (drop i (take n rs)) (take m xs) ≡ with_rows me s (drop (i + 1) (take n rs)) (take m xs)
      unfolding with_row ◌or◌
      grow_has h =
          next_row (take m xs)
          ∙ rw (ne_eqb (get_or rs i d).node.0 me ne, row-there (of_node (get_or rs i d).node.0) xs m at fits is h)

      module _ (out : m ≤ at) where
        abbrev row : Peer
        row = new_row (get_or rs i d).node (any (is_node (get_or rs i d).node.0) s)

        absent : any (of_node (get_or rs i d).node.0) (take m xs) ≡ false
        absent = row-absent (of_node (get_or rs i d).node.0) xs m at fits is out

        added : with_row me s (get_or rs i d).node (take m xs) ≡ put row_below row (take m xs)
        unfolding with_row ◌or◌
        added = rw (ne_eqb (get_or rs i d).node.0 me ne, absent)

        pub grow_full : max_workers ≤ m → max_workers < length (with_rows me s (drop i (take n rs)) (take m xs))
        grow_full h =
            subst (λ (l : List Peer). max_workers < length l) (sym (next_row (take m xs) ∙ ap (with_rows me s (drop (i + 1) (take n rs))) added))
            (let a = with_rows_grow me s (drop (i + 1) (take n rs)) (put row_below row (take m xs)) in
            let b = put-longer row (take m xs) absent in
            let c = length-take-le m xs fits in
            omega arith)

        pub grow_new : (to : ℕ) → to ≡ lead (below (get_or rs i d).node.0) (take m xs) → (x : Peer) → x ≡ row → (l : List Peer) → l ≡ insert_at (take m xs) to x
            → with_rows me s (drop i (take n rs)) (take m xs) ≡ with_rows me s (drop (i + 1) (take n rs)) l
        grow_new to t x z l q =
            next_row (take m xs)
            ∙ ap (with_rows me s (drop (i + 1) (take n rs)))
            (added ∙ put-insert row (take m xs) absent
            ∙ ap (λ (j : ℕ). insert_at (take m xs) j row) (sym t) ∙ ap (insert_at (take m xs) to) (sym z) ∙ sym q)

pub place-most : (k : ℕ) (xs : List Peer) (m : ℕ) → m ≤ length xs → lead (below k) (take m xs) ≤ m
place-most k xs m le = let a = lead-most (below k) (take m xs) in let b = length-take-le m xs le in omega arith
