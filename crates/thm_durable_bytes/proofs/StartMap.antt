-- How a host makes the map of a run: the image of an empty map has no shard, a Register leaves none, and a Create that is taken leaves one.
-- Assumes nothing.
use Prim.Native.Nat.{ℕ}
use mathlib.Core.Path.{◌≡◌, refl, sym, ap, subst, ◌∙◌}
use mathlib.Core.Bool.{true}
use mathlib.Core.List.{List}
use mathlib.Core.Option.{Option, none, some}
use lib.Dec.{eqb, ltb}
use lib.ListN.{length}
use Rattle.spec.specs.Lists.{◌and◌, every, rising}
use Rattle.spec.specs.Keys.{Name}
use Rattle.spec.specs.Limits.{max_clients}
use Rattle.spec.specs.Map.Tables.{Map, Spec, Session, Answer, outcome, applied, rejected, refused, empty_map}
use Rattle.spec.specs.Map.Change.{accepts}
use Rattle.spec.specs.Map.Apply.{Applied, apply, apply_to, session_at, decide, commit, settle, remembered}
use Rattle.spec.specs.Map.WellFormed.{well_formed_map, table_fits}
use Rattle.spec.specs.Layout.Request.{Command, register, Request, decode_request}
use Rattle.spec.specs.Layout.Writable.{GoodName, GoodList}
use Rattle.spec_laws.proofs.Lists.{by-test, not_both}
use Rattle.spec_run.specs.Fresh.{Created}
use Rattle.spec_run.proofs.Created.{DistinctIds, asked, info, created}
use Rattle.map_tables.specs.View.{view_map}
use Rattle.map_check.specs.Lent.{table_counted, counted, well_formed_lent}
use Rattle.map_apply.specs.Calls.{apply_lent}
use Rattle.node_header.proofs.Lists.{by_case}
use Rattle.image_map.specs.Image.{map_at, image_map}
use Rattle.calls_map.specs.Calls.{AppliesTo, Empties}
use Rattle.thm_durable.proofs.Lent.{map-well}
use Rattle.thm_durable_bytes.specs.Start.{Shardless}

empty-formed : well_formed_lent (image_map empty_map) ≡ true
unfolding well_formed_lent counted table_counted ◌and◌ every well_formed_map table_fits rising
empty-formed = refl

-- `catalogue_empty_map`
pub emptied : (s t : List ℕ) → Empties s t 0 → Shardless t
emptied s t p =
    by_case (ltb (length s) 26536) (λ e. not_both (eqb 0 0) refl (ap (λ (i : ℕ). eqb i 0) (p.short e).0))
    (λ e.
    let b = (p.long e).becomes in
    record { lent = b.lent; tested = ap well_formed_lent b.held ∙ empty-formed; shards = ap (λ (m : Map). m.shards) b.read })

-- a Register keeps the shards, whatever it is answered
module _ (m : Map) (q : Request) (n : ℕ) (a : Name) (i : ℕ) (is : q.command ≡ register n a i) where
  abbrev Keeps : Applied → Type 0
  Keeps v = v.map.shards ≡ m.shards

  settled : (w : Answer) → Keeps (settle m q w)
  unfolding settle remembered commit
  settled (outcome applied) = ap (λ (c : Command). (commit m c).shards) is
  settled (outcome (rejected r)) = refl
  settled (refused r) = refl

  register_keeps : Keeps (apply m q)
  unfolding apply apply_to
  register_keeps = go (session_at m.sessions q.client)
    where
      go : (o : Option Session) → Keeps (apply_to m q o)
      go none = by-test Keeps (ltb (length m.sessions) max_clients) (λ e. settled (decide m q.command)) (λ e. refl)
      go (some s) =
          by-test Keeps (ltb q.seq s.seq) (λ e. refl)
          (λ e. by-test Keeps (eqb q.seq s.seq) (λ e. refl) (λ e. settled (decide m q.command)))

module _ (s t bytes : List ℕ) (r : ℕ) (p : AppliesTo s t bytes r) (bare : Shardless s) where
  abbrev m : Map
  m = view_map (map_at s)

  -- the map after is the definition's
  applies : (q : Request) → decode_request bytes ≡ some q → view_map (map_at t) ≡ (apply m q).map
  applies q d = (p.lent bare.lent).read ∙ ap (λ (o : Option Request). (apply_lent (map_at s) o).map) d ∙ rw bare.tested

  pub registered : (q : Request) (n : ℕ) (a : Name) (i : ℕ) → decode_request bytes ≡ some q → q.command ≡ register n a i → Shardless t
  registered q n a i d is =
      let c = p.lent bare.lent in
      record {
        lent = c.lent;
        tested = c.formed bare.tested;
        shards = ap (λ (x : Map). x.shards) (applies q d) ∙ register_keeps m q n a i is ∙ bare.shards;
      }

  -- a Create that is taken
  pub created_by_apply : (index client seq : ℕ) (name : Name) (spec : Spec) (l : List ℕ)
      → let q = asked m index client seq name spec l in
      decode_request bytes ≡ some q → GoodName name → GoodList l → DistinctIds l
      → apply m q ≡ settle m q (decide m q.command) → decide m q.command ≡ accepts
      → Created (view_map (map_at t)) (info m index client seq name spec l) × (well_formed_lent (map_at t) ≡ true)
  created_by_apply index client seq name spec l d good ids apart executed accepted =
      let q = asked m index client seq name spec l in (
        subst (λ (x : Map). Created x (info m index client seq name spec l)) (sym (applies q d))
            (created m index client seq name spec l (map-well (map_at s) bare.tested) bare.shards good ids apart executed accepted),
        (p.lent bare.lent).formed bare.tested,
      )
