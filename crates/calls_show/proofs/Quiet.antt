-- A map that changes nothing but the version that the node knows. Assumes nothing.
use Prim.Native.Nat.{ℕ, ◌≤◌}
use mathlib.Core.Path.{◌≡◌, refl, sym, ap, ◌∙◌}
use mathlib.Core.Bool.{Bool, true, false}
use mathlib.Core.List.{List, [], ◌∷◌, map}
use native.Mathlib.Omega.{arith}
use lib.Dec.{ltb}
use lib.ListN.{length, take, length-map, length-take}
use borrow.Author.Tests.{le-ltb}
use Rattle.spec.specs.Lists.{◌and◌, ◌or◌, any, every}
use Rattle.spec.specs.Limits.{max_held, max_workers}
use Rattle.spec.specs.Node.Held as held
use Rattle.spec.specs.Node.Shown as show
use Rattle.spec_laws.proofs.Map.Rows.{every_tail}
use Rattle.map_tables.specs.declared.ShardMap.{ShardMap}
use Rattle.map_tables.specs.View.{view_map}
use Rattle.node_shard.proofs.Formed.{formed-few}
use Rattle.node_header.specs.declared.HeldRow.{HeldRow}
use Rattle.node_header.specs.declared.Node.{Node}
use Rattle.node_header.specs.View.{Stores, view_held_row, view_node, used}
use Rattle.node_header.specs.Formed.{held_row_fits, formed_node}
use Rattle.node_header.proofs.Formed.{kept-held, header-few, header-fit, header-apart}
use Rattle.node_show_slots.specs.Slots.{slots_after}
use Rattle.node_show.specs.Walks.{shards_after}
use Rattle.node_show.specs.Shows.{view_starts, TakesMap}
use Rattle.node_show.proofs.Shown.{slots_are_same}
use Rattle.image_header_set.specs.Version.{version_set}
use Rattle.image_show.specs.Quiet.{QuietMap}
use Rattle.calls_show.specs.Shown.{no_starts}

all_none : (l : List held.Held) → show.all_starts (map show.still l) ≡ []
unfolding show.all_starts
all_none [] = refl
all_none (h ∷ l) = all_none l

all_held : (l : List held.Held) → map show.held_of (map show.still l) ≡ l
all_held [] = refl
all_held (h ∷ l) = ap (λ (r : List held.Held). h ∷ r) (all_held l)

none_over : (s : Stores) (l : List HeldRow) → every held_row_fits l ≡ true → any show.overworked (map show.still (map (view_held_row s) l)) ≡ false
unfolding any
none_over s [] e = refl
none_over s (x ∷ l) e =
    let f = every_tail held_row_fits x l e in
    let few = formed-few x.held (kept-held x f.0) in
    let a = length-take x.held.count x.held.peers in
    rw (le-ltb max_workers (length (take x.held.count x.held.peers)) (omega arith)) (none_over s l f.1)

module _ (n : Node) (m : ShardMap) (formed : formed_node n ≡ true) (q : QuietMap n m) where
  abbrev held_in : Stores → List held.Held
  held_in s = (view_node s n).held

  room : (s : Stores) → show.too_many (shards_after s n m) ≡ false
  unfolding ◌or◌
  room s =
      let a = length-map (held_in s) show.still in
      let b = length-map (used n) (view_held_row s) in
      let c = length-take n.count n.held in
      let d = header-few n formed in
      ap show.too_many (q.same s)
      ∙ rw (le-ltb max_held (length (map show.still (held_in s))) (omega arith)) (none_over s (used n) (header-fit n formed))

  -- the same node, which knows the map
  pub quiet_taken : (version : ℕ) → version ≡ m.version → TakesMap n m (no_starts (version_set n version))
  quiet_taken version is = record {
    same = λ s.
        unfold show.take_map view_starts in
        sym (rw (room s) (rw (q.same s, all_none (held_in s), all_held (held_in s), ← is)));
    slots = header-apart n formed;
    slots_are = λ s. unfold slots_after in slots_are_same n formed s;
  }
