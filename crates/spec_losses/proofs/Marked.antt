-- The answer beside an id is the answer of place once MarkNodeDead of that node, under the incarnation that the map knows, has been applied
-- (paper 01, 'The shard map'). Assumes nothing.
use Prim.Native.Nat.{ℕ}
use mathlib.Core.Path.{◌≡◌, refl, sym, ap, ◌∙◌}
use mathlib.Core.Bool.{Bool, true, false, cond}
use mathlib.Core.Option.{Option, none, some}
use lib.ListN.{length}
use lib.Dec.{eqb, ltb}
use borrow.Author.Tests.{eq-eqb, ltb-true, le-ltb, ne_eqb}
use native.Mathlib.Omega.{arith}
use Rattle.spec.specs.Lists.{find}
use Rattle.spec.specs.Limits.{max_clients}
use Rattle.spec.specs.Keys.{Name}
use Rattle.spec.specs.Map.Tables.{NodeInfo, Spec, Collection, Session, Map}
use Rattle.spec.specs.Map.Change.{accepts}
use Rattle.spec.specs.Map.Create.{is_named, node_at}
use Rattle.spec.specs.Map.Apply.{Applied, dead_answer, decide, commit, remembered, settle, apply_to, apply, session_at}
use Rattle.spec.specs.Map.Calls.{apply_call}
use Rattle.spec.specs.Map.Place.{loads_of, place}
use Rattle.spec.specs.Map.WellFormed.{well_formed_map}
use Rattle.spec.specs.Layout.Request.{mark_dead, Request}
use Rattle.spec_laws.proofs.Lists.{some_same}
use Rattle.spec_laws.proofs.Map.Lightest.{Has}
use Rattle.spec_losses.specs.Losses.{Loss, marked_dead, losses}
use Rattle.spec_losses.proofs.Exactly.{listed_matters}

-- a request that is decided: its client has a place in the map or gets one, and its number is above the last
abbrev pub decided : Map → Request → Option Session → Bool
decided m r none = ltb (length m.sessions) max_clients
decided m r (some s) = ltb s.seq r.seq

decided_settles : (m : Map) (r : Request) → decided m r (session_at m.sessions r.client) ≡ true → apply m r ≡ settle m r (decide m r.command)
unfolding apply apply_to
decided_settles m r = go (session_at m.sessions r.client)
  where
    go : (o : Option Session) → decided m r o ≡ true → apply_to m r o ≡ settle m r (decide m r.command)
    go none e = rw e
    go (some s) e =
        let h = ltb-true s.seq r.seq e in
        rw (le-ltb r.seq s.seq (omega arith), ne_eqb r.seq s.seq (λ q. omega arith))

-- MarkNodeDead of a node that the map knows under that incarnation is taken
taken : (m : Map) (n : ℕ) (i : NodeInfo) → node_at m.nodes n ≡ some i → decide m (mark_dead n i.incarnation) ≡ accepts
unfolding decide dead_answer
taken m n i f = rw (f, eq-eqb i.incarnation i.incarnation refl)

-- and makes of the map that with the node marked dead; version and sessions do not enter place
marks : (m : Map) (r : Request) (n i : ℕ) (spec : Spec) → r.command ≡ mark_dead n i
    → place (settle m r accepts).map spec ≡ place (marked_dead m n) spec
unfolding settle remembered commit place loads_of marked_dead
marks m r n i spec e = rw e

called : (m : Map) (r : Request) → well_formed_map m ≡ true → apply_call m r ≡ apply m r
unfolding apply_call
called m r w = rw w

accepted : (m : Map) (r : Request) → (settle m r accepts).answer ≡ accepts
unfolding settle
accepted m r = refl

-- as the command commits it
pub as_committed : (m : Map) (n i : ℕ) → commit m (mark_dead n i) ≡ marked_dead m n
unfolding commit marked_dead
as_committed m n i = refl

-- x is listed of the collection c, i is its row in the map, and r a request that marks it dead
pub new-answer : (m : Map) (name : Name) → well_formed_map m ≡ true → (x : Loss) → Has x (losses m name) → (c : Collection) (i : NodeInfo) (r : Request)
    → find (is_named name) m.collections ≡ some c → node_at m.nodes x.node ≡ some i → r.command ≡ mark_dead x.node i.incarnation
    → decided m r (session_at m.sessions r.client) ≡ true
    → ((apply_call m r).answer ≡ accepts) × (place (apply_call m r).map c.spec ≡ x.then)
new-answer m name w x h c i r fc fi e d =
    let t = listed_matters m name x h in
    let yes : decide m r.command ≡ accepts = ap (decide m) e ∙ taken m x.node i fi in
    let does : apply_call m r ≡ settle m r accepts = called m r w ∙ decided_settles m r d ∙ ap (settle m r) yes in
    let same : t.collection ≡ c = some_same (sym t.found ∙ fc) in (
      ap (λ (a : Applied). a.answer) does ∙ accepted m r,
      ap (λ (a : Applied). place a.map c.spec) does ∙ marks m r x.node i.incarnation c.spec e
          ∙ ap (λ (n : ℕ). place (marked_dead m n) c.spec) t.id
          ∙ ap (λ (k : Collection). place (marked_dead m t.row.node) k.spec) (sym same) ∙ sym t.answer,
    )
