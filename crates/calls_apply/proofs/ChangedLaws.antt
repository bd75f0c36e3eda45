-- A change of one shard, over the row that its key names. Assumes nothing.
use Prim.Native.Nat.{ℕ, ◌+◌, ◌*◌, ◌≤◌, ◌<◌}
use mathlib.Core.Path.{◌≡◌, refl, sym, ap, ◌∙◌}
use mathlib.Core.Bool.{Bool, true, false}
use mathlib.Core.List.{List, []}
use mathlib.Core.Option.{some}
use lib.ListN.{length, set, length-set}
use lib.Dec.{leb}
use native.Mathlib.Omega.{arith}
use borrow.Author.Tests.{leb-true, leb-false}
use Rattle.spec.specs.Refusals as said
use Rattle.spec.specs.Layout.Format.{number_at}
use Rattle.spec.specs.Map.Tables as tables
use Rattle.spec.specs.Map.Apply as model
use Rattle.spec.specs.Map.Apply.{is_shard, change_answer, commit, change_shard, update, set_shards}
use Rattle.spec.specs.Map.Change.{accepts, rejects, changed}
use Rattle.spec.specs.Map.WellFormed.{shard_fits}
use Rattle.spec.specs.declared.Epoch.{Epoch}
use Rattle.spec_laws.proofs.Map.Rows.{every-find}
use Rattle.spec_laws.proofs.Map.WellFormed.{map-parts}
use Rattle.map_tables.specs.Find.{first_at}
use Rattle.map_tables.specs.Names.{view_key}
use Rattle.map_tables.specs.View.{change_of, view_map, view_shard, view_shards}
use Rattle.map_tables.specs.declared.Change.{Change}
use Rattle.map_tables.specs.declared.Command.TheVariants.{OfShard}
use Rattle.map_tables.specs.declared.Request.{Request}
use Rattle.map_tables.specs.declared.ShardRow.{ShardRow}
use Rattle.map_tables.specs.declared.ShardMap.{ShardMap}
use Rattle.map_shard.specs.Taken.{Takes}
use Rattle.map_apply.proofs.Command.{decide_of, commit_of, change-accepts}
use Rattle.image_map_row.specs.Rows.{shard_at}
use Rattle.image_map.specs.Image.{no_shard, shards_at, map_at}
use Rattle.image_map_put.specs.Few.{Few}
use Rattle.image_map_put.specs.Rows.{read_as}
use Rattle.image_map_put.proofs.Whole.{shards_long}
use Rattle.image_map_edit.specs.Becomes.{ShardsBecome}
use Rattle.image_map_edit.proofs.Frames.{edits_shards}
use Rattle.calls_decide.specs.Decides.{Fresh, Stands}
use Rattle.calls_decide.proofs.Places.{shard-none, shard_some, shard-sized}
use Rattle.calls_decide.proofs.CommandLaws.{as_command, decided-by, shards-counted}
use Rattle.calls_apply.specs.Settles.{Accepted, Taken}
use Rattle.calls_apply.proofs.ChangedRow.{set_is}

pub stands : (s : List ℕ) (q : Request) → Fresh s q → (n hit : ℕ) → n ≡ number_at 8 s 24
    → hit ≡ first_at (is_shard (view_key q.key)) (view_shards (shards_at s)) → Stands s n hit q.key
stands s q fr n hit f g = record { few = fr.ready.few; counted = shards-counted s q fr; count = f; found = g }

module _ (s : List ℕ) (q : Request) (fr : Fresh s q) (c : Change) (e : Epoch) (asks : q.command ≡ OfShard c e) where
  abbrev m : ShardMap
  m = map_at s

  abbrev few : Few s
  few = fr.ready.few

  module _ (ok : Accepted s q) (n hit : ℕ) (count : n ≡ number_at 8 s 24) (found : hit ≡ first_at (is_shard (view_key q.key)) (view_shards (shards_at s))) where
    abbrev z : Stands s n hit q.key
    z = stands s q fr n hit count found

    accepts_it : change_answer (view_key q.key) e.0 (change_of c) (model.shard_at (view_shards (shards_at s)) (view_key q.key)) ≡ accepts
    unfolding map_at
    accepts_it = sym (decide_of (view_map m) (view_key q.key) e.0 (change_of c)) ∙ sym (decided-by s q (OfShard c e) asks []) ∙ ok []

    pub hit_inside : hit < n
    unfolding change_answer
    hit_inside = go (leb n hit) refl
      where
        go : (b : Bool) → leb n hit ≡ b → hit < n
        go false f = leb-false n hit f
        go true f =
            let none = shard-none s n hit q.key z (leb-true n hit f) in
            let w : rejects (said.no_shard (view_key q.key)) ≡ accepts = rw none at accepts_it in
            let y : ◌≡◌ {A = ℕ} 0 1 = cc in absurd (omega arith)

    abbrev old : ShardRow
    old = shard_at s (4008 + 272 * hit)

    there : model.shard_at (view_map m).shards (view_key q.key) ≡ some (view_shard old)
    unfolding map_at
    there = shard_some s n hit q.key z hit_inside

    pub takes : Takes old c
    unfolding model.shard_at
    takes = record {
      sized = shard-sized s n hit q.key z hit_inside;
      fits = every-find shard_fits (is_shard (view_key q.key)) (view_map m).shards (view_shard old) (map-parts (view_map m) fr.ready.settleable.formed).2.2 there;
      taken = change-accepts (view_map m) (view_key q.key) e.0 (change_of c) (view_shard old) (sym (decided-by s q (OfShard c e) asks []) ∙ ok []) there;
    }

    module _ (new : ShardRow) (is : view_shard new ≡ changed (view_shard old) (change_of c)) (t : List ℕ) (b : ShardsBecome s t (set (read_as s).shards hit (view_shard new))) where
      abbrev shards : List tables.ShardInfo
      shards = (read_as s).shards

      changed-is : set shards hit (view_shard new) ≡ update (is_shard (view_key q.key)) (λ (x : tables.ShardInfo). changed x (change_of c)) shards
      changed-is =
          let i = hit_inside in
          set_is (number_at 8 s 24) (shard_at s) 272 4008 no_shard 64 few.shards view_shard (is_shard (view_key q.key)) hit found (omega arith)
          (λ (x : tables.ShardInfo). changed x (change_of c)) (view_shard new) is

      room : length (set shards hit (view_shard new)) ≤ 64
      room = let k = length-set shards hit (view_shard new) in let l = shards_long s few in let f = few.shards in omega arith

      pub change-taken : Taken s t q
      unfolding change_shard
      change-taken = record {
        map = set_shards (read_as s) (set shards hit (view_shard new));
        edits = edits_shards s t few (set shards hit (view_shard new)) room b;
        is = λ bs.
            ap (set_shards (read_as s)) changed-is
            ∙ sym (commit_of (read_as s) (view_key q.key) e.0 (change_of c)) ∙ sym (ap (commit (read_as s)) (as_command q (OfShard c e) asks bs));
      }
