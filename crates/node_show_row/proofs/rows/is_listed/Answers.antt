use borrow.Author.Rules.{rules}
use Rattle.node_shard.proofs.Loops.{any-on, any_stop, any-end}
use Rattle.map_tables.proofs.Tables.{of_field}
use Rattle.spec.specs.Node.Shown.{listed_as}
use native.Mathlib.Omega.{arith}
use borrow.Author.Tests.{eq-eqb, ne_eqb}
use mathlib.Core.Path.{◌≡◌, refl}
use mathlib.Core.Bool.{true, false}
use Rattle.spec.specs.Lists.{◌and◌}
use Rattle.spec.specs.declared.Replica.{Replica}
use Prim.Native.Nat.{ℕ, ◌≤◌}
use lib.ListN.{length}
use Rattle.node_show_row.proofs.rows.is_listed.Goals as goal
use Rattle.node_show_row.proofs.rows.is_listed.Goals.{Start, else-x-id-via-then-x-id+else-x-incarnation, else-x-id-via-else-x-id}

-- the rows in use are in the array
fits : (c : Start) → c.args.h.count ≤ length c.args.h.items
fits c = let h : length c.args.h.items ≡ 8 = search (rules, of_field) in omega (arith, c.requires)

listed-is : (r : Replica) (id incarnation : ℕ) → r.node.0 ≡ id → r.incarnation ≡ incarnation → listed_as id incarnation r ≡ true
unfolding ◌and◌
listed-is r id incarnation n e = rw (eq-eqb _ _ n, eq-eqb _ _ e) refl

not_node : (r : Replica) (id incarnation : ℕ) → (r.node.0 ≡ id → ⊥) → listed_as id incarnation r ≡ false
unfolding ◌and◌
not_node r id incarnation n = rw (ne_eqb _ _ n) refl

not_incarnation : (r : Replica) (id incarnation : ℕ) → r.node.0 ≡ id → (r.incarnation ≡ incarnation → ⊥) → listed_as id incarnation r ≡ false
unfolding ◌and◌
not_incarnation r id incarnation n e = rw (eq-eqb _ _ n, ne_eqb _ _ e) refl

pub returns-then-x-incarnation : goal.returns-then-x-incarnation
returns-then-x-incarnation c =
    any_stop (listed_as c.args.id c.args.incarnation) c.args.h.items c.args.h.count c.loop-i.i (fits (goal.at.returns-then-x-incarnation c).Start) c.loop-i.invariant.1 _ (listed-is _ _ _ c.if-x-id.true c.if-x-incarnation.true) (search rules)

pub loop-i-preserved : goal.loop-i-preserved
loop-i-preserved c =
    let p = listed_as c.args.id c.args.incarnation in
    let le = fits (goal.at.loop-i-preserved c).Start in (
      search rules,
      elim c.else-x-id.branch [
        | else-x-id-via-then-x-id+else-x-incarnation w ↦ any-on p c.args.h.items c.args.h.count c.loop-i.i le c.loop-i.invariant.1 _ (not_incarnation _ _ _ w.if-x-id.true w.if-x-incarnation.false) (search rules)
        | else-x-id-via-else-x-id w ↦ any-on p c.args.h.items c.args.h.count c.loop-i.i le c.loop-i.invariant.1 _ (not_node _ _ _ w.if-x-id.false) (search rules)
      ],
    )

pub returns : goal.returns
returns c =
    any-end (listed_as c.args.id c.args.incarnation) c.args.h.items c.args.h.count c.loop-i.i (fits (goal.at.returns c).Start) c.loop-i.invariant.1 (search rules)
