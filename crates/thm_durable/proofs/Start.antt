-- A host that began by the calls has a fresh run: a Create that `apply` took leaves a map with one shard, and the headers that `show` gave
-- back are read as the nodes of a fresh state. Assumes nothing.
use Prim.Native.Nat.{ℕ}
use mathlib.Core.Path.{◌≡◌, refl, sym, ap, subst, ◌∙◌}
use mathlib.Core.Bool.{Bool, true, false}
use mathlib.Core.List.{List, [], map}
use mathlib.Core.Option.{Option, some}
use lib.ListN.{take}
use Rattle.spec.specs.Lists.{◌and◌, every, rising, nth}
use Rattle.spec.specs.Keys.{Name}
use Rattle.spec.specs.Map.Tables.{Map, Spec}
use Rattle.spec.specs.Map.Change.{accepts, holds}
use Rattle.spec.specs.Map.Apply.{apply, decide, settle}
use Rattle.spec.specs.Map.WellFormed.{well_formed_map}
use Rattle.spec.specs.Layout.Request.{Request, decode_request}
use Rattle.spec.specs.Layout.Writable.{GoodName, GoodList}
use Rattle.spec.specs.Node.Held as held
use Rattle.spec.specs.Node.Shards.{Result}
use Rattle.spec.specs.Node.Shown.{ShownAnswer}
use Rattle.spec.specs.Node.WellFormed.{well_formed_header}
use Rattle.spec.specs.Node.Calls.{shown_with, call_shown}
use Rattle.spec.specs.declared.Replica.{Replica}
use Rattle.spec_run.specs.Fresh.{Created, Shown, Fresh}
use Rattle.spec_run.proofs.Created.{DistinctIds, asked, info, created, shown_holder, shown-other}
use Rattle.map_tables.specs.View.{view_map}
use Rattle.map_tables.specs.declared.ShardMap.{ShardMap}
use Rattle.map_check.specs.Lent.{well_formed_lent}
use Rattle.map_apply.specs.declared.Settled.{Settled}
use Rattle.map_apply.specs.Calls.{apply_lent, AppliesBytes}
use Rattle.node_admit.specs.View.{view_expiry}
use Rattle.node_header.specs.declared.Node.{Node}
use Rattle.node_header.specs.View.{Stores, view_held_row, view_node}
use Rattle.node_header.specs.Formed.{slots_fit, lent_node}
use Rattle.node_header.proofs.Lists.{by_case}
use Rattle.node_show.specs.Shows.{ShownAnswered}
use Rattle.thm_durable.specs.Engine.{Engine, stores_of, seen}
use Rattle.thm_durable.specs.Start.{New, Begun}
use Rattle.thm_durable.proofs.Lent.{map-well}

-- ---- the map: a Create that is taken, on a map that has no shard

pub created_by_apply : (m : ShardMap) (bytes : List ℕ) (r : Settled) → AppliesBytes m bytes r → well_formed_lent m ≡ true → (view_map m).shards ≡ []
    → (index client seq : ℕ) (name : Name) (spec : Spec) (l : List ℕ)
    → let q = asked (view_map m) index client seq name spec l in
    decode_request bytes ≡ some q → GoodName name → GoodList l → DistinctIds l
    → apply (view_map m) q ≡ settle (view_map m) q (decide (view_map m) q.command) → decide (view_map m) q.command ≡ accepts
    → Created (view_map r.map) (info (view_map m) index client seq name spec l)
created_by_apply m bytes r p w empty index client seq name spec l d good ids apart executed accepted =
    let q = asked (view_map m) index client seq name spec l in
    let to : view_map r.map ≡ (apply (view_map m) q).map = p.map ∙ ap (λ (o : Option Request). (apply_lent m o).map) d ∙ rw w in
    subst (λ (x : Map). Created x (info (view_map m) index client seq name spec l)) (sym to)
    (created (view_map m) index client seq name spec l (map-well m w) empty good ids apart executed accepted)

-- ---- the nodes

module _ (x : Node) (me incarnation : ℕ) (new : New x me incarnation) (s : Stores) where
  -- a new header is read as an empty node, and passes the test
  new-empty : view_node s x ≡ held.empty_node me incarnation
  new-empty = λ i. record {
    id = new.id i;
    incarnation = new.incarnation i;
    expiry = view_expiry (new.expiry i);
    version = new.version i;
    held = map (view_held_row s) (take (new.count i) x.held);
  }

  new-lent : lent_node s x ≡ true
  unfolding lent_node slots_fit every ◌and◌ well_formed_header rising
  new-lent = rw new.count

module _ (e : Engine) (b : Begun e) where
  abbrev m : Map
  m = view_map e.map

  abbrev own : (me : ℕ) (r : Replica) (place : ℕ) → nth b.shard.replicas place ≡ some r → r.node.0 ≡ me → b.incarnation me ≡ r.incarnation
  own me r place at same = subst (λ (k : ℕ). b.incarnation k ≡ r.incarnation) same (b.listed r place at)

  holder : (n : ℕ) → holds n b.shard.replicas ≡ true → Shown m b.shard n (view_node (stores_of (e.lent_stores n)) (e.nodes n))
  unfolding call_shown ◌and◌
  holder n h =
      let f = b.holders n h in
      let s = stores_of (e.lent_stores n) in
      let k = b.incarnation n in
      let empty = new-empty f.new n k f.made s in
      let z : held.Node → Result ShownAnswer held.Node = λ (v : held.Node). shown_with (lent_node s f.new and well_formed_lent e.map) v f.fresh m in
      let given : view_node s (e.nodes n) ≡ (z (held.empty_node n k)).after =
      ap (view_node s) f.node ∙ ap (λ (t : ShownAnswered). t.node) (f.promised.same s) ∙ ap (λ (v : held.Node). (z v).after) empty in
      let tests : (lent_node s f.new and well_formed_lent e.map) ≡ (well_formed_header (held.empty_node n k) and well_formed_map m) =
      rw (new-lent f.new n k f.made s, b.tested, map-well e.map b.tested) (unfold well_formed_header in unfold rising in unfold every in unfold ◌and◌ in refl) in
      subst (Shown m b.shard n) (sym (given ∙ ap (λ (t : Bool). (shown_with t (held.empty_node n k) f.fresh m).after) tests))
      (shown_holder m b.shard b.created n k f.fresh h (own n))

  other : (n : ℕ) → holds n b.shard.replicas ≡ false → Shown m b.shard n (view_node (stores_of (e.lent_stores n)) (e.nodes n))
  other n h =
      let k = b.incarnation n in
      subst (Shown m b.shard n) (sym (new-empty (e.nodes n) (b.id n) k (b.others n h) (stores_of (e.lent_stores n))))
      (shown-other m b.shard b.created n (held.empty_node (b.id n) k) h (b.apart n h) refl)

  pub begun_fresh : Fresh (seen e)
  unfolding seen
  begun_fresh = record {
    shard = b.shard;
    created = b.created;
    shown = λ n. by_case (holds n b.shard.replicas) (holder n) (other n);
    clients = b.clients;
    requests = b.requests;
    replies = b.replies;
    offers = b.offers;
    outcomes = b.outcomes;
    accepted = b.accepted;
    acknowledged = b.acknowledged;
  }
