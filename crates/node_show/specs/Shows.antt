-- What a map shown promises: the answer, with paper 01's number, the workers to start, and the node after are those of the definition,
-- whatever its stores hold; and every shard held after has a slot of its own, which the shards before and their slots give. Definitions only.
use Rattle.std.specs.Prelude.{ℕ, true, false, ◌≡◌, List, [], ◌∷◌, ◌++◌, take}
use Rattle.spec.specs.Refusals.{number_of}
use Rattle.spec.specs.Node.Held as held
use Rattle.spec.specs.Node.Shards.{Result}
use Rattle.spec.specs.Node.Shown as show
use Rattle.spec.specs.Node.Calls as calls
use Rattle.map_tables.specs.declared.ShardMap.{ShardMap}
use Rattle.map_tables.specs.View.{view_map}
use Rattle.node_header.specs.declared.Node.{Node}
use Rattle.node_header.specs.View.{Stores, view_node, used}
use Rattle.node_header.specs.Formed.{lent_node, formed_node, slots_fit}
use Rattle.node_header.specs.Slots.{slots_of, SameSlots}
use Rattle.node_show.specs.declared.Start.{Start}
use Rattle.node_show.specs.declared.ShownAnswer.{ShownAnswer}
use Rattle.node_show.specs.declared.ShownAnswer.TheVariants as A
use Rattle.node_show.specs.declared.NodeShown.{NodeShown}
use Rattle.node_show.specs.Rows.{view_start}
use Rattle.node_show_slots.specs.Slots.{slots_after}

-- the workers to start, by shard and then by node
unfoldable pub view_starts : List Start → List show.Worker
view_starts [] = []
view_starts (x ∷ xs) = view_start x ++ view_starts xs

abbrev pub shown_word : show.ShownAnswer → ShownAnswer
shown_word (show.shown l) = A.Shown
shown_word (show.shown_refused r) = A.Refused (number_of r)

abbrev pub workers_of : show.ShownAnswer → List show.Worker
workers_of (show.shown l) = l
workers_of (show.shown_refused r) = []

-- what the caller of a shown map gets
pub record ShownAnswered : Type 0 where
  pub answer : ShownAnswer
  pub workers : List show.Worker
  pub node : held.Node

abbrev pub shown_answered : Result show.ShownAnswer held.Node → ShownAnswered
shown_answered r = record { answer = shown_word r.answer; workers = workers_of r.answer; node = r.after }

abbrev pub view_shown : Stores → NodeShown → ShownAnswered
view_shown s r = record { answer = r.answer; workers = view_starts (take r.count r.starts); node = view_node s r.node }

-- internal: nothing is held, and no map known
pub record StartsOver (n : Node) (fresh : ℕ) (r : Node) : Type 0 where
  pub same : (s : Stores) → view_node s r ≡ held.empty_node n.id.0 fresh
  pub slots : slots_fit (used r) ≡ true
  pub slots_are : slots_of r ≡ []

-- internal: past the first checks
pub record TakesMap (n : Node) (m : ShardMap) (r : NodeShown) : Type 0 where
  pub same : (s : Stores) → view_shown s r ≡ shown_answered (show.take_map (view_node s n) (view_map m))
  pub slots : slots_fit (used r.node) ≡ true
  pub slots_are : (s : Stores) → slots_of r.node ≡ slots_after (view_node s n) (slots_of n) (view_node s r.node)

-- a malformed header comes back as it was
pub record ShowsMap (n : Node) (m : ShardMap) (fresh : ℕ) (r : NodeShown) : Type 0 where
  pub same : (s : Stores) → view_shown s r ≡ shown_answered (calls.shown_with (lent_node s n) (view_node s n) fresh (view_map m))
  pub slots : formed_node n ≡ true → slots_fit (used r.node) ≡ true
  pub slots_are : formed_node n ≡ true → (s : Stores) → slots_of r.node ≡ slots_after (view_node s n) (slots_of n) (view_node s r.node)
  pub stays : formed_node n ≡ false → SameSlots n r.node
