-- A call at a node that is related: on the shard that it names, which the node holds if it is a holder and the key is the run's. And what
-- the primary's test of an epoch tells. Assumes nothing.
use Prim.Native.Nat.{ℕ}
use mathlib.Core.Path.{◌≡◌, refl, sym, ap, ◌∙◌, subst}
use mathlib.Core.Bool.{Bool, true, false, cond}
use mathlib.Core.List.{List, [], ◌∷◌}
use mathlib.Core.Option.{Option, none, some}
use borrow.Author.Tests.{eqb-true, eq-eqb}
use Rattle.spec.specs.Keys.{Key, same_key}
use Rattle.spec.specs.Lists.{◌and◌, every, find}
use Rattle.spec.specs.Log.{ShardReplica}
use Rattle.spec.specs.Map.Apply.{update}
use Rattle.spec.specs.Map.Change.{holds}
use Rattle.spec.specs.Node.Held as held
use Rattle.spec.specs.Node.Held.{Held}
use Rattle.spec.specs.Node.Shards.{Result, of_key, held_shard, with_held, at_shard, leads_at}
use Rattle.spec.specs.Node.WellFormed.{well_formed_header, well_formed_held, well_formed_lent, log_if_held, log_of}
use Rattle.spec.specs.declared.Peer.{Peer}
use Rattle.spec.specs.declared.Role as role
use Rattle.spec_laws.proofs.Lists.{not_both, and_true}
use Rattle.spec_laws.proofs.Map.Orders.{same_key_lem, key-same}
use Rattle.spec_laws.proofs.Map.Rows.{every_tail, every-find}
use Rattle.spec_laws.proofs.Node.Shards.{at-absent, at_held}
use Rattle.spec_laws.proofs.Node.Formed.{FormedNode, FormedHeld, held-formed, formed-header}
use Rattle.spec_laws.proofs.Node.Logs.{FormedLog, log-formed}
use Rattle.thm_run.proofs.Protocol.State.{Lead, Role, backup, lead, Node, lead_at}
use Rattle.thm_run.proofs.Simulation.Relation.{World, LeadSim, RoleSim, HeldSim, NodeSim}

-- ---- the role

-- who passes the test of an epoch has a record of it
pub leads : (w : World) (top n : ℕ) (r : role.Role) (s : ShardReplica) (ps : List Peer) (b : Role) → RoleSim w top n r s ps b
    → (e : ℕ) → leads_at r e ≡ true → (l : Lead) × (b ≡ lead l) × LeadSim w top n r s ps l × (l.epoch ≡ e)
leads w top n r s ps backup k e t = not_both false (sym (ap (λ (v : role.Role). leads_at v e) k) ∙ t) refl
leads w top n r s ps (lead l) k e t =
    (l, refl, k, eqb-true l.epoch e (sym (ap (λ (v : role.Role). leads_at v e) k.role) ∙ t))

pub lead-at : (b : Role) (l : Lead) (e : ℕ) → b ≡ lead l → l.epoch ≡ e → lead_at b e ≡ some l
unfolding lead_at
lead-at b l e q t = ap (λ (v : Role). lead_at v e) q ∙ rw (eq-eqb l.epoch e t)

-- ---- the shard

module _ (w : World) (top n : ℕ) (x : held.Node) (b : Node) (k : NodeSim w top n x b) where
  -- a call on the shard that it names
  pub at_key : {A : Type 0} (P : Result A held.Node → Type 0) (key : Key) (absent : A) (f : Held → Result A Held)
      → P (record { answer = absent; after = x })
      → (holds n w.holders ≡ true → (h : Held) → x.held ≡ h ∷ [] → HeldSim w top n h b → key ≡ w.key
      → P (record { answer = (f h).answer; after = with_held x ((f h).after ∷ []) }))
      → P (at_shard x key absent f)
  unfolding held_shard find update
  at_key {A} P key absent f none' some' = go (holds n w.holders) refl
    where
      empty : x.held ≡ [] → P (at_shard x key absent f)
      empty e = subst P (sym (at-absent x key absent f (ap (find (of_key key)) e))) none'

      full : holds n w.holders ≡ true → (h : Held) → x.held ≡ h ∷ [] → HeldSim w top n h b → (t : Bool) → same_key h.key key ≡ t
          → P (at_shard x key absent f)
      full y h e hs true t =
          let found : held_shard x key ≡ some h = ap (find (of_key key)) e ∙ rw t in
          let one : update (of_key key) (λ z. (f z).after) x.held ≡ (f h).after ∷ [] = ap (update (of_key key) (λ z. (f z).after)) e ∙ rw t in
          subst P
          (sym (at_held x key absent f h found
          ∙ ap {B = Result A held.Node} (λ (l : List Held). record { answer = (f h).answer; after = with_held x l }) one))
          (some' y h e hs (sym (same_key_lem h.key key t) ∙ hs.key))
      full y h e hs false t =
          subst P (sym (at-absent x key absent f (ap (find (of_key key)) e ∙ rw t))) none'

      go : (t : Bool) → holds n w.holders ≡ t → P (at_shard x key absent f)
      go true y = let r = k.here y in full y r.0 r.1 r.2 (same_key r.0.key key) refl
      go false y = empty (k.gone y)

  -- the node after
  pub node-with : (c : Node) (h : Held) → holds n w.holders ≡ true → FormedNode (with_held x (h ∷ [])) → HeldSim w top n h c
      → NodeSim w top n (with_held x (h ∷ [])) c
  node-with c h y formed hs = record {
    id = k.id;
    formed = formed;
    here = λ z. (h, refl, hs);
    gone = λ z. not_both (holds n w.holders) y z;
    listed = k.listed;
  }

  -- ---- the lent state is well formed

  pub header : well_formed_header x ≡ true
  header = formed-header x k.formed

  -- of the one held shard
  pub log_facts : (h : Held) → x.held ≡ h ∷ [] → FormedLog h.replica
  log_facts h e = log-formed h.replica (every_tail log_of h [] (subst (λ (l : List Held). every log_of l ≡ true) e k.formed.logs)).0

  pub held_facts : (h : Held) → x.held ≡ h ∷ [] → FormedHeld h
  held_facts h e = held-formed h (every_tail well_formed_held h [] (subst (λ (l : List Held). every well_formed_held l ≡ true) e k.formed.shards)).0

  pub shard-found : (h : Held) → x.held ≡ h ∷ [] → HeldSim w top n h b → held_shard x w.key ≡ some h
  unfolding held_shard find
  shard-found h e hs =
      let t : same_key h.key w.key ≡ true = subst (λ (j : Key). same_key j w.key ≡ true) (sym hs.key) (key-same w.key) in
      ap (find (of_key w.key)) e ∙ rw t

  -- a call on the run's own shard, at a holder
  pub at_own : {A : Type 0} (P : Result A held.Node → Type 0) (absent : A) (f : Held → Result A Held) → holds n w.holders ≡ true
      → ((h : Held) → x.held ≡ h ∷ [] → HeldSim w top n h b → P (record { answer = (f h).answer; after = with_held x ((f h).after ∷ []) }))
      → P (at_shard x w.key absent f)
  unfolding update
  at_own {A} P absent f y g =
      let r = k.here y in
      let h = r.0 in
      let t : same_key h.key w.key ≡ true = subst (λ (j : Key). same_key j w.key ≡ true) (sym r.2.key) (key-same w.key) in
      let one : update (of_key w.key) (λ z. (f z).after) x.held ≡ (f h).after ∷ [] = ap (update (of_key w.key) (λ z. (f z).after)) r.1 ∙ rw t in
      subst P
      (sym (at_held x w.key absent f h (shard-found h r.1 r.2)
      ∙ ap {B = Result A held.Node} (λ (l : List Held). record { answer = (f h).answer; after = with_held x l }) one))
      (g h r.1 r.2)

  -- the shard that a call names, found or not
  pub shard_cases : (P : Option Held → Type 0) (key : Key) → P none
      → (holds n w.holders ≡ true → (h : Held) → x.held ≡ h ∷ [] → HeldSim w top n h b → key ≡ w.key → P (some h))
      → P (held_shard x key)
  unfolding held_shard find
  shard_cases P key none' some' = go (holds n w.holders) refl
    where
      full : holds n w.holders ≡ true → (h : Held) → x.held ≡ h ∷ [] → HeldSim w top n h b → (t : Bool) → same_key h.key key ≡ t
          → P (cond t (some h) none)
      full y h e hs true t = some' y h e hs (sym (same_key_lem h.key key t) ∙ hs.key)
      full y h e hs false t = none'

      go : (t : Bool) → holds n w.holders ≡ t → P (find (of_key key) x.held)
      go true y =
          let r = k.here y in
          subst (λ (l : List Held). P (find (of_key key) l)) (sym r.1) (full y r.0 r.1 r.2 (same_key r.0.key key) refl)
      go false y = subst (λ (l : List Held). P (find (of_key key) l)) (sym (k.gone y)) none'
