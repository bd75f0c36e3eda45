-- A command and a proposal that reach the map's image are runs of `spec_run`. Assumes nothing.
use Prim.Native.Nat.{ℕ}
use mathlib.Core.Path.{◌≡◌, refl, sym, ap, subst, ◌∙◌}
use mathlib.Core.Bool.{Bool, true, false}
use mathlib.Core.List.{List}
use mathlib.Core.Option.{Option, none, some}
use lib.Dec.{eqb}
use Rattle.spec.specs.Lists.{nth}
use Rattle.spec.specs.Refusals.{
  Rejection,
  older,
  exists,
  zero_spec,
  placement_mismatch,
  not_alive,
  no_collection,
  known_incarnation,
  not_at_incarnation,
  no_shard,
  other_epoch,
  already_held,
  removes_primary,
  not_held,
  not_in_sync,
  shrinks_primary,
  already_in_sync,
  reason_of,
  Refusal,
  undecodable,
  malformed,
  number_of,
}
use Rattle.spec.specs.Map.Tables as tables
use Rattle.spec.specs.Map.Tables.{Map}
use Rattle.spec.specs.Map.Apply.{Applied}
use Rattle.spec.specs.Map.Calls.{refused_with, apply_call, apply_decoded, apply_bytes, reason_number}
use Rattle.spec.specs.Layout.Request.{Request, decode_request}
use Rattle.spec_run.specs.State.{State, Offer, set_map, set_offers}
use Rattle.spec_run.specs.Event.{command, offer_arrives}
use Rattle.spec_run.specs.Rules.{allowed}
use Rattle.spec_run.specs.Step.{removed, on_command, offer_bytes, is_applied, told, offered, on_offer, step}
use Rattle.map_tables.specs.View.{view_map}
use Rattle.map_tables.specs.declared.ShardMap.{ShardMap}
use Rattle.map_check.specs.Lent.{well_formed_lent}
use Rattle.map_apply.specs.Calls.{apply_lent}
use Rattle.node_header.proofs.Lists.{by_case}
use Rattle.image_map.specs.Image.{map_at, map_lent}
use Rattle.calls_map.specs.Calls.{AppliesTo, AppliesImage}
use Rattle.thm_durable.proofs.Simulated.{Simulated, nothing, one}
use Rattle.thm_durable.proofs.Lent.{map-well}
use Rattle.thm_durable.proofs.OnMap.{told-beside, not_applied_lem}
use Rattle.thm_durable_bytes.specs.Cluster.{Cluster, seen, with_map}
use Rattle.thm_durable_bytes.specs.Calls.{Offers, Called}
use Rattle.thm_durable_bytes.proofs.Numbers.{refusal_number}
use Rattle.thm_durable_bytes.proofs.Seen.{seen-map, hosted}

-- ---- the number says whether it was applied

rejection_number : (r : Rejection) → eqb (reason_of r) 0 ≡ false
rejection_number older = refl
rejection_number (exists n) = refl
rejection_number zero_spec = refl
rejection_number placement_mismatch = refl
rejection_number (not_alive n) = refl
rejection_number (no_collection n) = refl
rejection_number (known_incarnation n i) = refl
rejection_number (not_at_incarnation n i) = refl
rejection_number (no_shard k) = refl
rejection_number (other_epoch k o g) = refl
rejection_number (already_held n) = refl
rejection_number removes_primary = refl
rejection_number (not_held n) = refl
rejection_number (not_in_sync n) = refl
rejection_number shrinks_primary = refl
rejection_number (already_in_sync n) = refl

applied-number : (a : tables.Answer) → eqb (reason_number a) 0 ≡ is_applied a
applied-number (tables.outcome tables.applied) = refl
applied-number (tables.outcome (tables.rejected r)) = rejection_number r
applied-number (tables.refused r) = (refusal_number r).zero

-- ---- the definition's call, or not applied, and the map as it was

module _ (s t bytes : List ℕ) (r : ℕ) where
  pub data Way : Type 0 where
    taken : view_map (map_at t) ≡ (apply_bytes (view_map (map_at s)) bytes).map → eqb r 0 ≡ is_applied (apply_bytes (view_map (map_at s)) bytes).answer → Way
    refused : view_map (map_at t) ≡ view_map (map_at s) → eqb r 0 ≡ false → Way

  abbrev m : ShardMap
  m = map_at s

  stayed : (why : Refusal) → (r ≡ number_of why) × (t ≡ s) → Way
  stayed why e = refused (ap (λ (l : List ℕ). view_map (map_at l)) e.1) (ap (λ (i : ℕ). eqb i 0) e.0 ∙ (refusal_number why).zero)

  applied : AppliesImage s t bytes r → Way
  unfolding apply_bytes apply_decoded apply_call
  applied d = go (decode_request bytes) refl
    where
      says : (z : Applied) → apply_lent m (decode_request bytes) ≡ z → (view_map (map_at t) ≡ z.map) × (eqb r 0 ≡ is_applied z.answer)
      says z e = (
        d.read ∙ ap (λ (x : Applied). x.map) e,
        ap (λ (i : ℕ). eqb i 0) d.answer ∙ applied-number (apply_lent m (decode_request bytes)).answer
            ∙ ap (λ (x : Applied). is_applied x.answer) e,
      )

      go : (o : Option Request) → decode_request bytes ≡ o → Way
      go none e =
          let q = says (refused_with (view_map m) undecodable) (ap (apply_lent m) e) in
          refused q.0 q.1
      go (some w) e =
          by_case (well_formed_lent m)
          (λ f.
          let q = says (apply_decoded (view_map m) (some w)) (ap (apply_lent m) e ∙ rw (f, map-well m f)) in
          taken (q.0 ∙ ap (λ (o : Option Request). (apply_decoded (view_map m) o).map) (sym e))
          (q.1 ∙ ap (λ (o : Option Request). is_applied (apply_decoded (view_map m) o).answer) (sym e)))
          (λ f.
          let q = says (refused_with (view_map m) malformed) (ap (apply_lent m) e ∙ rw f) in
          refused q.0 q.1)

  pub way : AppliesTo s t bytes r → Way
  way d = go (decode_request bytes) refl
    where
      go : (o : Option Request) → decode_request bytes ≡ o → Way
      go none e = stayed undecodable (d.undecoded e)
      go (some w) e = by_case (map_lent s) (λ l. applied (d.lent l)) (λ l. stayed malformed (d.unlent w e l))

-- ---- a command

same_map : (d : Cluster) → set_map (seen d) (view_map (map_at d.map)) ≡ seen d
unfolding seen set_map
same_map d = refl

module _ (d f : Cluster) where
  pub on_command_lem : (bytes : List ℕ) → allowed (seen d) (command bytes) ≡ true → Called d (command bytes) f → Simulated (seen d) (seen f)
  unfolding Called step on_command seen
  on_command_lem bytes may c = go (way d.map c.0 bytes c.1 c.2)
    where
      to : seen f ≡ set_map (seen d) (view_map (map_at c.0))
      to = ap seen c.3 ∙ seen-map d c.0

      go : Way d.map c.0 bytes c.1 → Simulated (seen d) (seen f)
      go (taken q a) = one (seen d) (seen f) (command bytes) may (sym (to ∙ ap (set_map (seen d)) q))
      go (refused q a) = nothing (seen d) (seen f) (sym (to ∙ ap (set_map (seen d)) q ∙ same_map d))

-- ---- a proposal

module _ (d f : Cluster) (i index seq : ℕ) (may : allowed (seen d) (offer_arrives i index seq) ≡ true) where
  abbrev s : State
  s = seen d

  abbrev after : Offer → Map → Bool → State
  after o m applied = told (set_offers (set_map s m) (removed s.offers i)) o applied

  module _ (o : Offer) (found : nth s.offers i ≡ some o) (c : Offers d i index seq (some o) f) where
    abbrev bytes : List ℕ
    bytes = offer_bytes s o index seq

    to : seen f ≡ after o (view_map (map_at c.0)) (eqb c.1 0)
    unfolding seen set_map set_offers
    to =
        let g = with_map d c.0 in
        let b = told-beside (set_offers (seen g) (removed (seen g).offers i)) o (eqb c.1 0) in
        let deed : State → State = λ (t : State). told (set_offers t (removed t.offers i)) o (eqb c.1 0) in
        ap seen c.3
        ∙ hosted g deed (record { map = b.map; nodes = b.nodes; clients = b.clients })
        ∙ ap deed (seen-map d c.0)

    arrived : Way d.map c.0 bytes c.1 → Simulated s (seen f)
    unfolding step on_offer offered seen set_map set_offers
    arrived (taken q a) =
        one s (seen f) (offer_arrives i index seq) may
        (rw found
        (sym (to ∙ ap (λ (m : Map). after o m (eqb c.1 0)) q ∙ ap (after o (apply_bytes s.map bytes).map) a)))
    arrived (refused q a) =
        subst (Simulated s)
        (sym (to ∙ ap (λ (m : Map). after o m (eqb c.1 0)) q ∙ ap (after o s.map) a
        ∙ ap (λ (t : State). told (set_offers t (removed s.offers i)) o false) (same_map d)))
        (not_applied_lem s i o found)

  pub on_offer_lem : Called d (offer_arrives i index seq) f → Simulated s (seen f)
  unfolding Called seen
  on_offer_lem c = go (nth d.offers i) refl c
    where
      go : (o : Option Offer) → nth d.offers i ≡ o → Offers d i index seq o f → Simulated s (seen f)
      go none q c = nothing s (seen f) (sym (ap seen c))
      go (some o) q c = arrived o q c (way d.map c.0 (offer_bytes s o index seq) c.1 c.2)
