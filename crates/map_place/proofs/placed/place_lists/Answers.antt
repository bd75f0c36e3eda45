use borrow.Author.Rules.{rules}
use native.Mathlib.Omega.{arith}
use mathlib.Core.Path.{◌≡◌, sym, ◌∙◌, ap, subst}
use mathlib.Core.List.{[], map}
use Prim.Native.Nat.{ℕ, ◌+◌, ◌-◌, ◌*◌}
use lib.ListN.{take}
use Rattle.spec.specs.Map.Place.{Round}
use Rattle.map_tables.specs.View.{view_list}
use Rattle.map_place.specs.Read.{loads_in, Light}
use Rattle.map_place.proofs.Weighing.{light_to, light_chooses}
use Rattle.map_place.proofs.Choosing.{placed-next, lists_end}
use Rattle.map_place.proofs.placed.place_lists.Goals as goal

pub loop-i-init : goal.loop-i-init
loop-i-init c =
    (c.requires.0, omega arith, c.no_lists-empty.ensures.1, light_to 512 (512 + 8 * 0) _ (omega arith) c.requires.3, let q : c.args.shards - 0 ≡ c.args.shards = omega arith in rw q)

pub choose_list-requires : goal.choose_list-requires
choose_list-requires c =
    let lt = c.loop-i-test.true in (c.loop-i.invariant.0, c.requires.2, light_to (512 + 8 * c.loop-i.i) 2048 _ (omega (arith, c.requires.1)) c.loop-i.invariant.3)

pub loop-i-preserved : goal.loop-i-preserved
loop-i-preserved c =
    let lt = c.loop-i-test.true in let here = loads_in c.args.ids.now c.loop-i.counts c.args.count in (
      record { named = c.requires.0.named; counted = c.choose_list.ensures.long; few = c.requires.0.few },
      omega arith,
      search rules,
      subst (λ (r : Round). Light (512 + 8 * (c.loop-i.i + 1)) r.loads) (sym c.choose_list.ensures.round) (light_to (512 + 8 * c.loop-i.i + c.args.replication) (512 + 8 * (c.loop-i.i + 1)) _ (omega (arith, c.requires.2)) (light_chooses c.args.replication (512 + 8 * c.loop-i.i) (record { loads = here; nodes = [] }) c.loop-i.invariant.3)),
      sym (placed-next c.args.shards c.loop-i.i c.args.replication here c.loop-i.lists c.choose_list.result _ lt (omega (arith, c.requires.1)) c.choose_list.ensures.round) ∙ c.loop-i.invariant.4,
    )

pub returns : goal.returns
returns c =
    let e : c.loop-i.i ≡ c.args.shards = omega (arith, c.loop-i-test.false, c.loop-i.invariant.1) in ap (λ (k : ℕ). map view_list (take k c.loop-i.lists)) (sym e) ∙ sym (lists_end c.args.shards c.loop-i.i c.args.replication (loads_in c.args.ids.now c.loop-i.counts c.args.count) (map view_list (take c.loop-i.i c.loop-i.lists)) c.loop-i-test.false) ∙ c.loop-i.invariant.4
