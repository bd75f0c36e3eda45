-- A fresh node's image. Assumes nothing.
use Prim.Native.Nat.{ℕ, ◌≤◌, ◌<◌}
use mathlib.Core.Bool.{true}
use mathlib.Core.Path.{◌≡◌, refl, ◌∙◌}
use mathlib.Core.List.{List, []}
use lib.ListN.{length}
use native.Mathlib.Omega.{arith}
use Rattle.spec.specs.Lists.{◌and◌, every, rising}
use Rattle.spec.specs.Node.Held as held
use Rattle.std.specs.Prelude.{None}
use Rattle.node_header.specs.declared.HeldRow.{HeldRow}
use Rattle.node_header.specs.declared.Node.{Node}
use Rattle.node_header.specs.Formed.{slots_fit, formed_node}
use Rattle.image_parts.specs.Codes.{id_of}
use Rattle.image_header.specs.Image.{header_put, header_written}
use Rattle.image_header.specs.Becomes.{HeaderWrites}
use Rattle.calls_header.specs.Fresh.{fresh_node, Freshens}
use Rattle.calls_header.proofs.Leaves.{leaves_of}

pub fresh-short : (s t : List ℕ) (id incarnation r : ℕ) → length s < 10288 → r ≡ 24 → t ≡ s → Freshens s t id incarnation r
fresh-short s t id incarnation r h a b = record { short = λ e. (a, b); made = λ e. absurd (omega arith) }

-- without shards in use, the array is not looked at
abbrev pub with_free : (id incarnation : ℕ) → List HeldRow → Node
with_free id incarnation free = record {
  id = id_of id;
  incarnation = incarnation;
  expiry = None;
  version = 0;
  held = free;
  count = 0;
}

module _ (s : List ℕ) (id incarnation : ℕ) (room : 10288 ≤ length s) where
  put-free : (free : List HeldRow) → header_written s (with_free id incarnation free) ≡ header_written s (fresh_node id incarnation)
  unfolding header_written header_put
  put-free free = refl

  bare : (free : List HeldRow) → formed_node (with_free id incarnation free) ≡ true
  unfolding formed_node ◌and◌ rising every slots_fit
  bare free = refl

  pub fresh-made : (t : List ℕ) (r : ℕ) (free : List HeldRow) → r ≡ 0 → HeaderWrites s t (with_free id incarnation free)
      → Freshens s t id incarnation r
  fresh-made t r free a e = record {
    short = λ h. absurd (omega arith);
    made = λ h. record {
      answer = a;
      image = e.image ∙ put-free free;
      leaves = leaves_of s t (with_free id incarnation free) (e.becomes room) (λ st. held.empty_node id incarnation) (λ st. refl) (λ st. []) (λ st. refl);
      formed = (e.becomes room).formed (bare free);
    };
  }
