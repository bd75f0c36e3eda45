-- What is counted in a map's bytes is the answer on the map that they are read as. Assumes nothing.
use Prim.Native.Nat.{ℕ, ◌+◌, ◌*◌, ◌≤◌, ◌<◌}
use mathlib.Core.Path.{◌≡◌, refl, sym, ap, ◌∙◌}
use mathlib.Core.Bool.{true}
use mathlib.Core.List.{List}
use mathlib.Core.Option.{Option, none, some}
use lib.ListN.{length, take}
use native.Mathlib.Omega.{arith}
use Rattle.spec.specs.Layout.Format.{number_at}
use Rattle.spec.specs.Map.Apply as model
use Rattle.spec.specs.Map.Apply.{is_shard}
use Rattle.spec.specs.Map.Place as place
use Rattle.spec.specs.Map.Place.{place_on, nobody, replaced_with, replace_in, lightest, loads_of}
use Rattle.spec.specs.declared.Replica.{Replica}
use Rattle.map_tables.specs.Names.{view_key}
use Rattle.map_tables.specs.Find.{first_at}
use Rattle.map_tables.specs.View.{view_map, view_spec, view_shard, view_shards}
use Rattle.map_tables.specs.declared.ShardKey.{ShardKey}
use Rattle.map_tables.specs.declared.ShardRow.{ShardRow}
use Rattle.map_tables.specs.declared.Spec.{Spec}
use Rattle.map_check.specs.Lent.{well_formed_lent}
use Rattle.image_parts.specs.Parts.{replicas_at}
use Rattle.image_map_row.specs.Rows.{shard_at}
use Rattle.image_map.specs.Image.{no_shard, shards_at, map_at}
use Rattle.image_map_check.proofs.RowLaws.{held-is, replicas-is}
use Rattle.map_place.specs.Answers.{place_lent, replacement_lent}
use Rattle.map_place.specs.Read.{view_loads}
use Rattle.map_place.specs.declared.Loads.{Loads}
use Rattle.map_place.proofs.Answered.{place-on, live_loads_lem, replace-on}
use Rattle.image_map_loads.proofs.Rows.{row-found, row_missed}
use Rattle.image_map_loads.specs.Loads.{Used, Live, free_in}

-- place, on the live nodes with their loads
pub placed-live : (s : List ℕ) (sp : Spec) (l : Loads) (x : place.Placed) → well_formed_lent (map_at s) ≡ true → Live s l → x ≡ place_on (view_spec sp) (view_loads l)
    → x ≡ place_lent (map_at s) sp
placed-live s sp l x w live e =
    e ∙ ap (place_on (view_spec sp)) live.loads ∙ sym (place-on (map_at s) sp w ∙ ap (place_on (view_spec sp)) (live_loads_lem (map_at s)))

-- ---- the shard of a key

module _ (s : List ℕ) (key : ShardKey) (w : well_formed_lent (map_at s) ≡ true) (u : Used s) (at : ℕ)
    (is : at ≡ first_at (is_shard (view_key key)) (view_shards (shards_at s))) where
  pub absent : number_at 8 s 24 ≤ at → nobody ≡ replacement_lent (map_at s) key
  unfolding map_at model.shard_at replace_in
  absent h = sym (replace-on (map_at s) key w none (row_missed 64 272 4008 (shard_at s) no_shard (number_at 8 s 24) view_shard u.shards.count (is_shard (view_key key)) at is h))

  module _ (h : at < number_at 8 s 24) where
    abbrev row : ShardRow
    row = shard_at s (4008 + 272 * at)

    there : model.shard_at (view_shards (map_at s).shards) (view_key key) ≡ some (view_shard row)
    unfolding map_at model.shard_at
    there = row-found 64 272 4008 (shard_at s) no_shard (number_at 8 s 24) view_shard u.shards.count (is_shard (view_key key)) at is h

    free_of : replace_in (view_map (map_at s)) (some (view_shard row)) ≡ replaced_with (lightest (free_in s (view_shard row).replicas))
    unfolding map_at replace_in loads_of
    free_of = refl

    pub present : (held : ℕ) (o : Option place.Load) → held ≡ number_at 8 s (4008 + 272 * at + 64)
        → o ≡ lightest (free_in s (take held (replicas_at s (4008 + 272 * at + 80)))) → replaced_with o ≡ replacement_lent (map_at s) key
    present held o e q =
        let own : take held (replicas_at s (4008 + 272 * at + 80)) ≡ (view_shard row).replicas =
        ap (λ (k : ℕ). take k (replicas_at s (4008 + 272 * at + 80))) (e ∙ sym (held-is s (4008 + 272 * at)))
        ∙ ap (λ (l : List Replica). take row.replicas.count l) (sym (replicas-is s (4008 + 272 * at))) in
        ap replaced_with (q ∙ ap (λ (l : List Replica). lightest (free_in s l)) own) ∙ sym (replace-on (map_at s) key w (some (view_shard row)) there ∙ free_of)
