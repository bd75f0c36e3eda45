-- What each command is answered over the bytes is what the definition decides of it. Assumes nothing.
use Prim.Native.Nat.{ℕ}
use mathlib.Core.Path.{◌≡◌, sym, ap, subst, ◌∙◌}
use mathlib.Core.Bool.{true, cond}
use mathlib.Core.List.{List}
use Rattle.spec.specs.Keys as keys
use Rattle.spec.specs.Lists.{rising}
use Rattle.spec.specs.Refusals.{no_collection}
use Rattle.spec.specs.Layout.Request as request
use Rattle.spec.specs.Map.Tables as tables
use Rattle.spec.specs.Map.Apply as model
use Rattle.spec.specs.Map.Apply.{register_answer, dead_answer, change_answer}
use Rattle.spec.specs.Map.Change.{accepts, rejects}
use Rattle.spec.specs.Map.Create.{shard_below, has_collection, create_answer, node_at}
use Rattle.spec.specs.declared.DataNodeId.{DataNodeId}
use Rattle.spec.specs.declared.Epoch.{Epoch}
use Rattle.spec_laws.proofs.Map.WellFormed.{map-parts}
use Rattle.map_tables.specs.Counted.{ShardsCounted}
use Rattle.map_tables.specs.Names.{view_key, view_address, view_name}
use Rattle.map_tables.specs.View.{answer_of, change_of, command_in, view_command, view_map, view_nodes, view_placement, view_shards, view_spec}
use Rattle.map_tables.specs.declared.Change.{Change}
use Rattle.map_tables.specs.declared.Command.{Command}
use Rattle.map_tables.specs.declared.Command.TheVariants.{Create, Drop, Register, MarkNodeDead, OfShard, Bench}
use Rattle.map_tables.specs.declared.Request.{Request}
use Rattle.map_tables.specs.declared.Spec.{Spec}
use Rattle.map_tables.specs.declared.Verdict.{Verdict}
use Rattle.map_apply.specs.Decided.{Decided}
use Rattle.map_apply.proofs.Command.{decide_of}
use Rattle.image_map.specs.Image.{map_at, nodes_at, shards_at}
use Rattle.image_map_put.specs.Rows.{read_as}
use Rattle.image_map_put.proofs.Whole.{read_as_lem}
use Rattle.calls_decide.specs.Decides.{Fresh}

-- a request's command, by its name
pub as_command : (q : Request) (c : Command) → q.command ≡ c → (bs : List ℕ)
    → view_command q bs ≡ command_in c (view_key q.key) (view_address q.address) (view_placement q.placement) bs
as_command q c asks bs = ap (λ (d : Command). command_in d (view_key q.key) (view_address q.address) (view_placement q.placement) bs) asks

-- what the definition decides of it
pub decided-by : (s : List ℕ) (q : Request) (c : Command) → q.command ≡ c → (bs : List ℕ)
    → model.decide (view_map (map_at s)) (view_command q bs)
    ≡ model.decide (view_map (map_at s)) (command_in c (view_key q.key) (view_address q.address) (view_placement q.placement) bs)
decided-by s q c asks bs = ap (model.decide (view_map (map_at s))) (as_command q c asks bs)

module _ (s : List ℕ) (q : Request) (fr : Fresh s q) where
  abbrev name : keys.Name
  name = view_name q.key.collection

  -- what the code's tables hold is what the bytes are read as
  pub decided_as : (c : request.Command) → model.decide (read_as s) c ≡ model.decide (view_map (map_at s)) c
  decided_as c = ap (λ (x : tables.Map). model.decide x c) (sym (read_as_lem s fr.ready.few))

  pub shards-rise : rising shard_below (read_as s).shards ≡ true
  shards-rise =
      subst (λ (x : tables.Map). rising shard_below x.shards ≡ true) (read_as_lem s fr.ready.few) (map-parts (view_map (map_at s)) fr.ready.settleable.formed).2.1

  pub shards-counted : ShardsCounted (shards_at s)
  unfolding map_at
  shards-counted = fr.ready.settleable.counted.shards

  module _ (spec : Spec) (asks : q.command ≡ Create spec) where
    pub create_decided : (v : Verdict) → answer_of v ≡ create_answer (read_as s) name (view_spec spec) (view_placement q.placement) → Decided (map_at s) q v
    unfolding model.decide
    create_decided v answered = record {
      answer = λ bs. answered ∙ decided_as (request.create name (view_spec spec) (view_placement q.placement)) ∙ sym (decided-by s q (Create spec) asks bs);
    }

  module _ (asks : q.command ≡ Drop) where
    pub drop-decided : (v : Verdict) → answer_of v ≡ cond (has_collection name (read_as s).collections) accepts (rejects (no_collection name)) → Decided (map_at s) q v
    unfolding model.decide
    drop-decided v answered = record { answer = λ bs. answered ∙ decided_as (request.drop_collection name) ∙ sym (decided-by s q Drop asks bs) }

  module _ (n : DataNodeId) (i : ℕ) where
    pub register_decided : q.command ≡ Register n i → (v : Verdict)
        → answer_of v ≡ register_answer (view_nodes (nodes_at s)) n.0 i (node_at (view_nodes (nodes_at s)) n.0) → Decided (map_at s) q v
    unfolding map_at model.decide
    register_decided asks v answered = record { answer = λ bs. answered ∙ sym (decided-by s q (Register n i) asks bs) }

    pub dead-decided : q.command ≡ MarkNodeDead n i → (v : Verdict) → answer_of v ≡ dead_answer n.0 i (node_at (view_nodes (nodes_at s)) n.0) → Decided (map_at s) q v
    unfolding map_at model.decide
    dead-decided asks v answered = record { answer = λ bs. answered ∙ sym (decided-by s q (MarkNodeDead n i) asks bs) }

  module _ (c : Change) (e : Epoch) (asks : q.command ≡ OfShard c e) where
    pub change-decided : (v : Verdict) → answer_of v ≡ change_answer (view_key q.key) e.0 (change_of c) (model.shard_at (view_shards (shards_at s)) (view_key q.key))
        → Decided (map_at s) q v
    unfolding map_at
    change-decided v answered = record {
      answer = λ bs. answered ∙ sym (decide_of (view_map (map_at s)) (view_key q.key) e.0 (change_of c)) ∙ sym (decided-by s q (OfShard c e) asks bs);
    }

  module _ (asks : q.command ≡ Bench) where
    pub bench_decided : (v : Verdict) → answer_of v ≡ accepts → Decided (map_at s) q v
    unfolding model.decide
    bench_decided v ok = record { answer = λ bs. ok ∙ sym (decided-by s q Bench asks bs) }
