-- Laws of one shard in the header: found by its key as in the definition, and put back in its place. Assumes nothing.
use mathlib.Core.Path.{◌≡◌, refl, sym, ap, ◌∙◌}
use mathlib.Core.Bool.{not}
use mathlib.Core.List.{List, [], ◌∷◌, map}
use mathlib.Core.Option.{none, some}
use Prim.Native.Nat.{ℕ, zero, suc, ◌<◌, ◌≤◌}
use lib.ListN.{length, get_or}
use Rattle.spec.specs.Lists.{lead}
use Rattle.spec.specs.Keys.{Key}
use Rattle.spec.specs.Log.{Log, delete}
use Rattle.spec.specs.Map.Apply.{update}
use Rattle.spec.specs.Node.Held as held
use Rattle.spec.specs.Node.Shards.{Result, gives, of_key, held_shard, with_held, at_shard}
use Rattle.spec_laws.proofs.Node.Shards.{at-absent, at_held}
use Rattle.node_shard.specs.declared.Held.{Held}
use Rattle.map_tables.proofs.Tables.{found, missed, changed_row}
use Rattle.node_header.specs.declared.HeldRow.{HeldRow}
use Rattle.node_header.specs.declared.Node.{Node}
use Rattle.node_header.specs.View.{Stores, view_held_row, view_node, used, other_key, kept_as, no_held_row, with_shard}
use Rattle.node_header.proofs.Lists.{map-lead}

-- what a call left of the shard x, under its key and with its own store's log and vectors
abbrev pub seen : Stores → HeldRow → Held → held.Held
seen s x g = view_held_row s (kept_as x g)

module _ (s : Stores) (n : Node) (k : Key) (le : n.count ≤ length n.held) (at : ℕ) (is : at ≡ lead (other_key k) (used n)) where
  place : at ≡ lead (λ x. not (of_key k x)) (map (view_held_row s) (used n))
  place = is ∙ sym (map-lead (view_held_row s) (λ x. not (of_key k x)) (used n))

  pub shard-none : n.count ≤ at → held_shard (view_node s n) k ≡ none
  unfolding held_shard
  shard-none h = missed (view_held_row s) n.held n.count le (of_key k) at place h

  pub shard_some : at < n.count → held_shard (view_node s n) k ≡ some (view_held_row s (get_or n.held at no_held_row))
  unfolding held_shard
  shard_some h = found (view_held_row s) n.held n.count le (of_key k) at place no_held_row h

  module _ {A : Type 0} (absent : A) (f : held.Held → Result A held.Held) where
    -- a call without the shard
    pub call-absent : n.count ≤ at → gives absent (view_node s n) ≡ at_shard (view_node s n) k absent f
    call-absent h = sym (at-absent (view_node s n) k absent f (shard-none h))

    -- a call on the shard, which is put back as the call left it
    pub call-held : at < n.count → (a : A) (g : Held) → gives a (seen s (get_or n.held at no_held_row) g) ≡ f (view_held_row s (get_or n.held at no_held_row))
        → gives a (view_node s (with_shard n at g)) ≡ at_shard (view_node s n) k absent f
    call-held h a g e =
        let x = get_or n.held at no_held_row in
        ap (λ (l : List held.Held). gives a (with_held (view_node s n) l))
        (changed_row (view_held_row s) n.held n.count le (of_key k) at place (λ y. (f y).after) no_held_row (kept_as x g) h (ap (λ (r : Result A held.Held). r.after) e))
        ∙ ap (λ (b : A). gives b (with_held (view_node s n) (update (of_key k) (λ y. (f y).after) (map (view_held_row s) (used n))))) (ap (λ (r : Result A held.Held). r.answer) e)
        ∙ sym (at_held (view_node s n) k absent f (view_held_row s x) (shard_some h))

-- the promises are of stores that there are: logs of nothing but deletes
pub some_stores : Stores
some_stores = record { log = λ slot last. deletes last; vectors = λ slot last stored. []; long = λ slot last. deletes_long last; bare = λ slot. refl }
  where
    deletes : ℕ → Log
    deletes zero = []
    deletes (suc n) = record { epoch = 0; offset = 0; op = delete 0 } ∷ deletes n

    deletes_long : (n : ℕ) → length (deletes n) ≡ n
    deletes_long zero = refl
    deletes_long (suc n) = ap suc (deletes_long n)
