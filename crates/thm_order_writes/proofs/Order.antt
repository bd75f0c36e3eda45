-- Paper 02, 2.10, of two editors: two Writes at a node, lent twice alike, in the two orders, each call known by its contract alone. Accepted,
-- they leave the same vectors at every shard, other logs, and every Search the same; of one id the later alone counts; and with space for
-- both the second is not refused for want of it (23). Assumes nothing.
use Prim.Native.Nat.{ℕ, ◌+◌, ◌≤◌}
use mathlib.Core.Path.{◌≡◌, sym, ap, ◌∙◌}
use mathlib.Core.Logic.{◌⊎◌, inl, inr, ⊎_elim}
use mathlib.Core.List.{List}
use native.Mathlib.Omega.{arith}
use Rattle.spec.specs.Keys.{Key}
use Rattle.spec.specs.Log.{Op}
use Rattle.spec.specs.Node.Held as held
use Rattle.spec.specs.Node.Shards.{Result}
use Rattle.spec.specs.Node.Wire.{stored_op}
use Rattle.spec.specs.Node.Refused.{count_search}
use Rattle.spec.specs.Node.Client as client
use Rattle.spec_laws.proofs.Log.Edits.{op_id}
use Rattle.node_header.proofs.Lists.{by_case}
use Rattle.node_write.specs.declared.WriteReply.{WriteReply}
use Rattle.node_write.specs.declared.WriteReply.TheVariants as R
use Rattle.node_write.specs.ClientWrites.{write_word}
use Rattle.node_search.specs.Searches.{SearchAnswered, word, filled}
use Rattle.thm_durable.specs.Engine.{stores_of}
use Rattle.thm_durable.proofs.Seen.{stores_lend}
use Rattle.thm_order_writes.specs.Editors.{Owned, node_of, vectors_at, log_at, Edit, Moment, Writes, InTurn, SearchedAlike}
use Rattle.thm_order_writes.proofs.Node.{with-lent, with_unlent}
use Rattle.thm_order_writes.proofs.Search.{Alike, with_alike}
use Rattle.thm_order_writes.proofs.Writes as writes
use Rattle.thm_order_writes.proofs.Writes.{taken, checked}
use Rattle.thm_order_writes.proofs.Turns as turns
use Rattle.thm_order_writes.proofs.Turns.{Both, alike_vectors, swapped, later, differ, next}

abbrev pub accepted : ℕ → WriteReply
accepted o = R.Accepted (record { 0 = o })

-- nodes that are the same but for logs, by the contract of Search
alike_searches : (u v : Owned) → Alike (node_of u) (node_of v) → SearchedAlike u v
alike_searches u v a clock m o p₁ p₂ count slot₁ slot₂ r₁ r₂ at₁ at₂ c₁ c₂ f₁ f₂ =
    let e₁ = c₁.same (stores_of u.lent_stores) slot₁ at₁ (stores_lend u.lent_stores slot₁) in
    let e₂ = c₂.same (stores_of v.lent_stores) slot₂ at₂ (stores_lend v.lent_stores slot₂) in
    ⊎_elim (λ q. absurd (f₁ (ap (λ (z : SearchAnswered). z.answer) e₁ ∙ ap word q)))
    (⊎_elim (λ q. absurd (f₂ (ap (λ (z : SearchAnswered). z.answer) e₂ ∙ ap word q)))
    (λ q. (
      ap (λ (z : SearchAnswered). z.answer) e₁ ∙ ap word q ∙ sym (ap (λ (z : SearchAnswered). z.answer) e₂),
      ap (λ (z : SearchAnswered). z.output) e₁ ∙ ap (filled o) q ∙ sym (ap (λ (z : SearchAnswered). z.output) e₂),
      ap (λ (z : SearchAnswered). z.refused) e₁ ∙ ap (count_search count) q ∙ sym (ap (λ (z : SearchAnswered). z.refused) e₂),
    )))
    (with_alike _ _ (node_of u) (node_of v) a clock _ m)

-- ---- one turn of two accepted Writes

both : (u : Owned) (c d : Moment) (x y : List ℕ) (k : Key) (a b : Op) → Edit x k a → Edit y k b → (v : Owned) (o₁ o₂ : ℕ)
    → InTurn u c d x y v (accepted o₁) (accepted o₂) → Both (node_of u) (node_of v) k a b
both u c d x y k a b e f v o₁ o₂ t =
    turns.both (node_of u) (node_of t.between) (node_of v) _ _ _ _ k _ _ a b o₁ o₂ (taken u c x k a e t.between o₁ t.called)
    (taken t.between d y k b f v o₂ t.followed).appended

module _ (u : Owned) (k : Key) (x y : List ℕ) (a b : Op) (e : Edit x k a) (f : Edit y k b) (c d : Moment) (v : Owned) (o₁ o₂ : ℕ)
    (t : InTurn u c d x y v (accepted o₁) (accepted o₂)) where
  abbrev one : Both (node_of u) (node_of v) k a b
  one = both u c d x y k a b e f v o₁ o₂ t

  -- ---- different ids, in either order

  module _ (c' d' : Moment) (w : Owned) (o₃ o₄ : ℕ) (s : InTurn u c' d' y x w (accepted o₃) (accepted o₄)) where
    abbrev two : Both (node_of u) (node_of w) k b a
    two = both u c' d' y x k b a f e w o₃ o₄ s

    alike : (op_id a ≡ op_id b → ⊥) → Alike (node_of v) (node_of w)
    alike n = swapped (node_of u) (node_of v) (node_of w) k a b one two n

    -- the vectors of every shard of the node
    pub same-vectors : (op_id a ≡ op_id b → ⊥) → (j : Key) → vectors_at v j ≡ vectors_at w j
    same-vectors n = alike_vectors (node_of v) (node_of w) (alike n)

    pub same-searches : (op_id a ≡ op_id b → ⊥) → SearchedAlike v w
    same-searches n = alike_searches v w (alike n)

    -- the logs of the shard differ whenever the edits do
    pub other-logs : (a ≡ b → ⊥) → log_at v k ≡ log_at w k → ⊥
    other-logs n q = differ (node_of u) (node_of v) (node_of w) k a b one two n q

  -- ---- one id: the later alone, at the same node

  module _ (d' : Moment) (w : Owned) (o : ℕ) (s : Writes u d' y w (accepted o)) (same : op_id a ≡ op_id b) where
    later_alike : Alike (node_of v) (node_of w)
    later_alike = later (node_of u) (node_of v) (node_of w) k a b one _ _ _ o (taken u d' y k b f w o s).appended same

    pub later_vectors : (j : Key) → vectors_at v j ≡ vectors_at w j
    later_vectors = alike_vectors (node_of v) (node_of w) later_alike

    pub later_searches : SearchedAlike v w
    later_searches = alike_searches v w later_alike

-- ---- space for both

-- A Write that a node accepts is accepted after another, at the next offset, if the log had at most 1,022 entries (its own offset says so); or
-- else what the other call left is malformed (24), which its contract leaves open for a header with counts over its arrays
module _ (u : Owned) (k : Key) (x y : List ℕ) (a b : Op) (e : Edit x k a) (f : Edit y k b) (c d : Moment) (v w : Owned) (o₁ o₂ : ℕ)
    (p : Writes u c x v (accepted o₁)) (q : Writes u d y w (accepted o₂)) (space : o₁ ≤ 1023) where
  abbrev n : held.Node
  n = node_of v

  -- by the definition the second is accepted at the next offset
  does-next : o₁ ≤ 1023 → (client.on_write n d.clock d.least f.write.key f.write.epoch (stored_op f.write.op)).answer ≡ client.accepted (o₁ + 1)
  does-next room =
      ap (λ (j : Key). (client.on_write n d.clock d.least j f.write.epoch (stored_op f.write.op)).answer) f.key
      ∙ ap (λ (z : Op). (client.on_write n d.clock d.least k f.write.epoch z).answer) f.stored
      ∙ next (node_of u) n (node_of w) _ _ d.clock d.least k _ f.write.epoch a b o₁ o₂ room (taken u c x k a e v o₁ p).appended
      (taken u d y k b f w o₂ q).appended

  pub second-accepted : (z : Owned) (said : WriteReply) → Writes v d y z said → (said ≡ accepted (o₁ + 1)) ⊎ (said ≡ R.Refused 24)
  second-accepted z said s =
      let fine = checked u d y k b f w o₂ q in
      by_case (writes.lent v d y z said s f.write.key)
      (λ t. inl (writes.replied v d y z said s
      ∙ ap (λ (i : Result client.WriteAnswer held.Node). write_word i.answer)
      (with-lent (writes.lent v d y z said s) n d.clock d.least y f.write f.read fine t)
      ∙ ap write_word (does-next space)))
      (λ t. inr (writes.replied v d y z said s
      ∙ ap (λ (i : Result client.WriteAnswer held.Node). write_word i.answer)
      (with_unlent (writes.lent v d y z said s) n d.clock d.least y f.write f.read fine t)))
