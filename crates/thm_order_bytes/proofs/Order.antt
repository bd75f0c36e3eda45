-- Paper 02, 2.10, over byte images: `catalogue_write` called twice at a node in either order, on images lent twice alike, each call on what the
-- one before it left and known by its contract alone. The laws are those of `thm_order_writes`, of what the images are read as. Assumes nothing.
use Prim.Native.Nat.{ℕ, ◌+◌}
use mathlib.Core.Path.{◌≡◌, ap, ◌∙◌, subst}
use mathlib.Core.Bool.{true}
use mathlib.Core.List.{List}
use native.Mathlib.Omega.{arith}
use Rattle.spec.specs.Keys.{Key}
use Rattle.spec.specs.Log.{Op}
use Rattle.spec.specs.Node.Wire.{stored_op}
use Rattle.spec.specs.Node.Client as client
use Rattle.spec_laws.proofs.Log.Edits.{op_id}
use Rattle.calls_client_out.specs.Count.{count_lent}
use Rattle.thm_never_malformed.specs.Intact.{Intact}
use Rattle.thm_order_writes.specs.Editors.{log_in, Edit, Moment}
use Rattle.thm_order_writes.proofs.Node.{on_admitted}
use Rattle.thm_order_writes.proofs.Search.{Alike}
use Rattle.thm_order_writes.proofs.Turns as turns
use Rattle.thm_order_writes.proofs.Turns.{Both, alike_vectors, swapped, later, differ, next}
use Rattle.thm_order_bytes.specs.Images.{Images, node_in, vectors_at, log_at, SpaceForTwo, Writes, Accepts, InTurn, SearchedAlike}
use Rattle.thm_order_bytes.proofs.Writes.{TakenIn, left_intact, took, zero}
use Rattle.thm_order_bytes.proofs.Searches.{alike_searches}

-- ---- all calls are answered 0: neither 23 nor 24

-- an edit that a node accepts
module _ (u : Images) (k : Key) (y : List ℕ) (b : Op) (f : Edit y k b) (d : Moment) (q : Accepts u d y) where
  alone : TakenIn u q.left d k f.write b
  alone = took u q.left d y q.writes k b f

  -- called on other images, which are read as a node whose definition accepts it
  zero_at : (v : Images) → Intact v.header v.stores → count_lent v.refused ≡ true → (o : ℕ)
      → (client.on_write (node_in v) d.clock d.least k f.write.epoch b).answer ≡ client.accepted o → (z : Images) (r : ℕ) → Writes v d y z r → r ≡ 0
  zero_at v i counts o e z r s =
      let at : Key → Op → client.WriteAnswer = λ j g. (client.on_write (node_in v) d.clock d.least j f.write.epoch g).answer in
      (zero v z i d y f.write f.read alone.checked counts r s o
      (ap (λ (j : Key). at j (stored_op f.write.op)) f.key ∙ ap (at k) f.stored ∙ e)).0

  -- and on these once more
  pub first_zero : Intact u.header u.stores → (z : Images) (r : ℕ) → Writes u d y z r → r ≡ 0
  first_zero i =
      let g = alone.taken.appended in
      zero_at u i alone.counts _ (on_admitted (node_in u) d.clock d.least k f.write.epoch b g.shard g.held g.admits g.room)

  -- and on those that a call answered 0 left
  module _ (j : Key) (x : List ℕ) (a : Op) (e : Edit x j a) (c : Moment) (v : Images) (p : Writes u c x v 0) (i : Intact u.header u.stores) where
    abbrev other : TakenIn u v c j e.write a
    other = took u v c x p j a e

    counts-after : count_lent v.refused ≡ true
    counts-after = ap count_lent other.refused ∙ other.counts

    after_zero : (o : ℕ) → (client.on_write (node_in v) d.clock d.least k f.write.epoch b).answer ≡ client.accepted o → (z : Images) (r : ℕ) → Writes v d y z r
        → r ≡ 0
    after_zero o e = zero_at v (left_intact u v c x 0 i p) counts-after o e

  -- of the same shard, whose log had at most 1,022 entries
  pub second_zero : (x : List ℕ) (a : Op) (e : Edit x k a) (c : Moment) (v : Images) → Writes u c x v 0 → Intact u.header u.stores → SpaceForTwo u k
      → (z : Images) (r : ℕ) → Writes v d y z r → r ≡ 0
  second_zero x a e c v p i space =
      let t = other k x a e c v p i in
      let g = t.taken.appended in
      let few = space g.shard.replica.log (ap log_in g.held) in
      after_zero k x a e c v p i (t.offset + 1)
      (next (node_in u) (node_in v) (node_in q.left) c.clock c.least d.clock d.least k e.write.epoch f.write.epoch a b t.offset
      alone.offset (omega (arith, few, g.offset)) g alone.taken.appended)

-- ---- two edits of one shard, each accepted by itself

module _ (u : Images) (i : Intact u.header u.stores) (k : Key) (x y : List ℕ) (a b : Op) (e : Edit x k a) (f : Edit y k b) where
  -- with space for both, both calls are answered 0. The other order is this law with x and y changed about
  pub both_accepted : SpaceForTwo u k → (c d : Moment) → Accepts u c x → Accepts u d y → (v : Images) (r₁ r₂ : ℕ) → InTurn u c d x y v r₁ r₂
      → (r₁ ≡ 0) × (r₂ ≡ 0)
  both_accepted space c d p q v r₁ r₂ t =
      let z = first_zero u k x a e c p i t.between r₁ t.called in
      (z, second_zero u k y b f d q x a e c t.between (subst (Writes u c x t.between) z t.called) i space v r₂ t.followed)

  both : (c d : Moment) (v : Images) → InTurn u c d x y v 0 0 → Both (node_in u) (node_in v) k a b
  both c d v t =
      turns.both (node_in u) (node_in t.between) (node_in v) _ _ _ _ k _ _ a b _ _ (took u t.between c x t.called k a e).taken
      (took t.between v d y t.followed k b f).taken.appended

  turn_intact : (c d : Moment) (v : Images) (r₁ r₂ : ℕ) → InTurn u c d x y v r₁ r₂ → Intact v.header v.stores
  turn_intact c d v r₁ r₂ t = left_intact t.between v d y r₂ (left_intact u t.between c x r₁ i t.called) t.followed

-- ---- different ids, in either order

module _ (u : Images) (i : Intact u.header u.stores) (k : Key) (x y : List ℕ) (a b : Op) (e : Edit x k a) (f : Edit y k b) (c d : Moment) (v : Images)
    (t : InTurn u c d x y v 0 0) where
  abbrev one : Both (node_in u) (node_in v) k a b
  one = both u i k x y a b e f c d v t

  module _ (c' d' : Moment) (w : Images) (s : InTurn u c' d' y x w 0 0) where
    abbrev two : Both (node_in u) (node_in w) k b a
    two = both u i k y x b a f e c' d' w s

    alike : (op_id a ≡ op_id b → ⊥) → Alike (node_in v) (node_in w)
    alike n = swapped (node_in u) (node_in v) (node_in w) k a b one two n

    -- the vectors of every shard of the node
    pub same-vectors : (op_id a ≡ op_id b → ⊥) → (j : Key) → vectors_at v j ≡ vectors_at w j
    same-vectors n = alike_vectors (node_in v) (node_in w) (alike n)

    pub same-searches : (op_id a ≡ op_id b → ⊥) → SearchedAlike v w
    same-searches n =
        alike_searches v w (turn_intact u i k x y a b e f c d v 0 0 t) (turn_intact u i k y x b a f e c' d' w 0 0 s) (alike n)

    -- the logs of the shard differ whenever the edits do
    pub other-logs : (a ≡ b → ⊥) → log_at v k ≡ log_at w k → ⊥
    other-logs n q = differ (node_in u) (node_in v) (node_in w) k a b one two n q

  -- ---- one id: the later alone, on the images at first

  module _ (d' : Moment) (w : Images) (s : Writes u d' y w 0) (same : op_id a ≡ op_id b) where
    later_alike : Alike (node_in v) (node_in w)
    later_alike = later (node_in u) (node_in v) (node_in w) k a b one _ _ _ _ (took u w d' y s k b f).taken.appended same

    pub later_vectors : (j : Key) → vectors_at v j ≡ vectors_at w j
    later_vectors = alike_vectors (node_in v) (node_in w) later_alike

    pub later_searches : SearchedAlike v w
    later_searches = alike_searches v w (turn_intact u i k x y a b e f c d v 0 0 t) (left_intact u w d' y 0 i s) later_alike
