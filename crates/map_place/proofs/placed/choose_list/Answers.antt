use native.Mathlib.Omega.{arith}
use mathlib.Core.Path.{◌≡◌, sym, ◌∙◌, ap, subst}
use Prim.Native.Nat.{ℕ, ◌+◌, ◌-◌}
use lib.ListN.{take}
use mathlib.Core.List.{map}
use Rattle.spec.specs.Map.Place.{choose_nodes, Round}
use Rattle.spec.specs.declared.DataNodeId.{DataNodeId}
use Rattle.map_place.specs.Read.{loads_in, Light, round_in}
use Rattle.map_place.proofs.Weighing.{light_to, light_choose}
use Rattle.map_place.proofs.Choosing.{chooses_next, chooses_end}
use Rattle.map_place.proofs.placed.choose_list.Goals as goal

pub loop-i-init : goal.loop-i-init
loop-i-init c =
    (c.requires.0, omega arith, omega (arith, c.no_nodes-list.ensures), light_to 2048 (2048 + 0) _ (omega arith) c.requires.2, let q : c.args.replication - 0 ≡ c.args.replication = omega arith in rw q)

pub choose_one-list-requires : goal.choose_one-list-requires
choose_one-list-requires c =
    let lt = c.loop-i-test.true in (c.loop-i.invariant.0, omega (arith, c.loop-i.invariant.2, c.requires.1), light_to (2048 + c.loop-i.i) 4096 _ (omega (arith, c.requires.1)) c.loop-i.invariant.3)

pub loop-i-preserved : goal.loop-i-preserved
loop-i-preserved c =
    let lt = c.loop-i-test.true in let here = round_in c.args.ids.now c.loop-i.counts c.args.count c.loop-i.list in (
      record { named = c.requires.0.named; counted = c.choose_one-list.ensures.long; few = c.requires.0.few },
      omega arith,
      omega (arith, c.choose_one-list.ensures.size, c.loop-i.invariant.2),
      subst (λ (r : Round). Light (2048 + (c.loop-i.i + 1)) r.loads) (sym c.choose_one-list.ensures.round) (light_to (2048 + c.loop-i.i + 1) (2048 + (c.loop-i.i + 1)) _ (omega arith) (light_choose (2048 + c.loop-i.i) here c.loop-i.invariant.3)),
      ap (choose_nodes (c.args.replication - (c.loop-i.i + 1))) c.choose_one-list.ensures.round ∙ sym (chooses_next c.args.replication c.loop-i.i here lt) ∙ c.loop-i.invariant.4,
    )

pub returns : goal.returns
returns c =
    record { round = sym (chooses_end c.args.replication c.loop-i.i (round_in c.args.ids.now c.loop-i.counts c.args.count c.loop-i.list) c.loop-i-test.false) ∙ c.loop-i.invariant.4 ∙ ap (λ (k : ℕ). choose_nodes c.args.replication (record { loads = loads_in c.args.ids.now c.args.counts.now c.args.count; nodes = map (λ (d : DataNodeId). d.0) (take k c.no_nodes-list.result.nodes) })) c.no_nodes-list.ensures; long = c.loop-i.invariant.0.counted }
