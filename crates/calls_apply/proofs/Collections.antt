-- Create and Drop, over the rows of the collection and of its shards, and Bench, which has none. Assumes nothing.
use Prim.Native.Nat.{ℕ}
use mathlib.Core.Path.{◌≡◌, sym, ap, ◌∙◌}
use mathlib.Core.Bool.{not}
use mathlib.Core.List.{List, []}
use Rattle.spec.specs.Keys as keys
use Rattle.spec.specs.Keys.{same_name}
use Rattle.spec.specs.Lists.{filter}
use Rattle.spec.specs.Layout.Request as request
use Rattle.spec.specs.Map.Tables as tables
use Rattle.spec.specs.Map.Apply as model
use Rattle.spec.specs.Map.Apply.{commit, set_collections}
use Rattle.spec.specs.Map.Change.{accepts}
use Rattle.spec.specs.Map.Create.{create_answer, created_collections, created_shards}
use Rattle.map_tables.specs.Names.{view_name}
use Rattle.map_tables.specs.View.{view_placement, view_spec}
use Rattle.map_tables.specs.declared.Command.TheVariants.{Create, Drop, Bench}
use Rattle.map_tables.specs.declared.Request.{Request}
use Rattle.map_tables.specs.declared.Spec.{Spec}
use Rattle.image_map_put.specs.Rows.{read_as}
use Rattle.image_map_edit.specs.Edits.{Edits}
use Rattle.image_map_edit.proofs.Frames.{edits_none}
use Rattle.calls_decide.specs.Decides.{Fresh}
use Rattle.calls_decide.proofs.CommandLaws.{as_command, decided_as, decided-by}
use Rattle.calls_apply.specs.Settles.{Accepted, Taken}

module _ (s : List ℕ) (q : Request) (fr : Fresh s q) where
  abbrev name : keys.Name
  name = view_name q.key.collection

  -- ---- Create

  module _ (spec : Spec) (asks : q.command ≡ Create spec) where
    abbrev created : tables.Map
    created = set_collections (read_as s) (created_collections (read_as s) name (view_spec spec)) (created_shards (read_as s) name (view_placement q.placement))

    module _ (ok : Accepted s q) where
      pub create_accepts : create_answer (read_as s) name (view_spec spec) (view_placement q.placement) ≡ accepts
      unfolding model.decide
      create_accepts =
          decided_as s q fr (request.create name (view_spec spec) (view_placement q.placement)) ∙ sym (decided-by s q (Create spec) asks []) ∙ ok []

      pub create_taken : (t : List ℕ) → Edits s t created → Taken s t q
      unfolding commit
      create_taken t edits = record {
        map = created;
        edits = edits;
        is = λ bs. sym (ap (commit (read_as s)) (as_command q (Create spec) asks bs));
      }

  -- ---- Drop

  module _ (asks : q.command ≡ Drop) where
    abbrev dropped : tables.Map
    dropped =
        set_collections (read_as s) (filter (λ c. not (same_name c.name name)) (read_as s).collections) (filter (λ x. not (same_name x.key.collection name)) (read_as s).shards)

    pub drop-taken : (t : List ℕ) → Edits s t dropped → Taken s t q
    unfolding commit
    drop-taken t edits = record {
      map = dropped;
      edits = edits;
      is = λ bs. sym (ap (commit (read_as s)) (as_command q Drop asks bs));
    }

  -- ---- Bench

  module _ (asks : q.command ≡ Bench) where
    pub bench_taken : Taken s s q
    unfolding commit
    bench_taken = record {
      map = read_as s;
      edits = edits_none s fr.ready.few;
      is = λ bs. sym (ap (commit (read_as s)) (as_command q Bench asks bs));
    }
