-- What was written back is the specification's node after the call, each shard in its slot. Assumes nothing.
use Prim.Native.Nat.{ℕ, ◌≤◌}
use mathlib.Core.Bool.{true, false}
use mathlib.Core.Path.{◌≡◌, refl, sym, ap, ◌∙◌}
use mathlib.Core.List.{List, []}
use lib.ListN.{length, replicate, length-replicate}
use lib.Seq.{sets}
use Rattle.spec.specs.Lists.{◌and◌}
use Rattle.spec.specs.Node.Held as held
use Rattle.spec.specs.Node.Calls as calls
use Rattle.spec_laws.proofs.Lists.{not_both}
use Rattle.map_tables.specs.declared.ShardMap.{ShardMap}
use Rattle.node_header.specs.declared.Node.{Node}
use Rattle.node_header.specs.View.{Stores, view_node}
use Rattle.node_header.specs.Formed.{formed_node}
use Rattle.node_header.specs.Slots.{slots_of, Keeps}
use Rattle.node_header.proofs.Lists.{by_case}
use Rattle.node_header.proofs.Formed.{formed-lent}
use Rattle.node_header.proofs.Shards.{some_stores}
use Rattle.node_show.specs.declared.NodeShown.{NodeShown}
use Rattle.node_show.specs.Shows.{ShownAnswered}
use Rattle.node_show.specs.Slots.{slots_after}
use Rattle.node_hear.specs.Hears.{HearsMap}
use Rattle.image_header.specs.Image.{header_lent, node_at}
use Rattle.image_header.specs.Becomes.{Counted, header_image, HeaderBecomes}
use Rattle.image_header.proofs.Image.{lent_long}
use Rattle.calls_header.specs.Leaves.{Leaves, LeavesSlots}
use Rattle.calls_header.specs.Shows.{is_shown}

pub leaves_of : (s t : List ℕ) (n : Node) → HeaderBecomes s t n → (after : Stores → held.Node) → ((st : Stores) → view_node st n ≡ after st)
    → (slots : Stores → List ℕ) → ((st : Stores) → slots_of n ≡ slots st) → Leaves s t after slots
leaves_of s t n b after e slots k = record {
  bytes = λ st c.
      b.bytes st c
      ∙ ap (λ (x : held.Node). sets s 0 (header_image x (slots_of n))) (e st)
      ∙ ap (λ (l : List ℕ). sets s 0 (header_image (after st) l)) (k st);
  lent = b.lent;
  read = λ st. b.read st ∙ e st;
  slots_are = λ st. b.slots_are ∙ k st;
}

module _ (s t : List ℕ) (lent : header_lent s ≡ true) (n : Node) (becomes : 10288 ≤ length s → HeaderBecomes s t n)
    (after : Stores → held.Node) (view : (st : Stores) → view_node st n ≡ after st) where
  -- a call that leaves the slots
  pub leaves-slots : Keeps (node_at s) n → LeavesSlots s t after
  leaves-slots keeps = leaves_of s t n (becomes (lent_long s lent)) after view (λ st. slots_of (node_at s)) (λ st. keeps.slots_are)

  -- a map shown
  pub leaves-shown : ((st : Stores) → slots_of n ≡ slots_after (view_node st (node_at s)) (slots_of (node_at s)) (view_node st n))
      → Leaves s t after (λ st. slots_after (view_node st (node_at s)) (slots_of (node_at s)) (after st))
  leaves-shown slots_are =
      leaves_of s t n (becomes (lent_long s lent)) after view (λ st. slots_after (view_node st (node_at s)) (slots_of (node_at s)) (after st))
      (λ st. slots_are st ∙ ap (slots_after (view_node st (node_at s)) (slots_of (node_at s))) (view st))

-- a map is taken note of only by a header that is not malformed
module _ (n : Node) (m : ShardMap) (fresh : ℕ) (r : NodeShown) (h : HearsMap n m fresh r) where
  refused : formed_node n ≡ false → is_shown r.answer ≡ false
  unfolding calls.shown_with ◌and◌
  refused q = ap (λ (t : ShownAnswered). is_shown t.answer) (h.same some_stores) ∙ rw (sym (formed-lent n some_stores) ∙ q)

  pub shown-formed : is_shown r.answer ≡ true → formed_node n ≡ true
  shown-formed e = by_case (formed_node n) (λ q. q) (λ q. not_both (is_shown r.answer) e (refused q))

-- ---- the promise is of stores that there are: as many vectors as the header counts, all the same

pub counted-stores : Stores
counted-stores = record {
  log = some_stores.log;
  vectors = λ slot last stored. replicate stored (record { id = 0; components = [] });
  long = some_stores.long;
  bare = λ slot. refl;
}

pub counted : Counted counted-stores
unfolding counted-stores
counted slot last stored = length-replicate stored (record { id = 0; components = [] })

-- so every byte is known
pub written-bytes : {s t : List ℕ} {after : Stores → held.Node} {slots : Stores → List ℕ} → Leaves s t after slots
    → t ≡ sets s 0 (header_image (after counted-stores) (slots counted-stores))
written-bytes l = l.bytes counted-stores counted
