-- New headers, made of zeroed buffers, satisfy the contract of `catalogue_fresh_node`, which answers 0. Assumes nothing.
use Prim.Native.Nat.{ℕ, ◌^◌, ◌<◌, ◌≤◌}
use native.Mathlib.Omega.{arith}
use mathlib.Core.Path.{◌≡◌, refl}
use mathlib.Core.List.{List}
use lib.ListN.{length}
use Rattle.image_header.specs.Image as image
use Rattle.image_header.proofs.Becomes.{writes_long}
use Rattle.calls_header.specs.Fresh.{fresh_node, Freshens}
use Rattle.calls_header.proofs.Fresh.{fresh-made}
use Rattle.thm_one_node.specs.Images.{unused, new}
use Rattle.thm_one_node.proofs.Zeros.{zeros_long}

long : length unused ≡ 10288
unfolding unused
long = zeros_long 10288

new-put : new ≡ image.header_put unused (fresh_node 1 4)
unfolding new unused image.header_put image.no_node
new-put = refl

unused-put : unused ≡ image.header_put unused (fresh_node 0 0)
unfolding unused image.header_put image.no_node
unused-put = refl

pub made : (id incarnation : ℕ) (t : List ℕ) → id < 256 ^ 8 → incarnation < 256 ^ 8 → t ≡ image.header_put unused (fresh_node id incarnation)
    → Freshens unused t id incarnation 0
unfolding image.no_node
made id incarnation t a b e =
    let room : 10288 ≤ length unused = omega (arith, long) in
    fresh-made unused id incarnation room t 0 (image.no_node).held refl
    (writes_long unused (fresh_node id incarnation) t room
    (record { id = a; incarnation = b; version = omega arith; expiry = omega arith; long = refl; rows = tt }) e)

pub is-new : Freshens unused new 1 4 0
is-new = made 1 4 new (omega arith) (omega arith) new-put

pub is-unused : Freshens unused unused 0 0 0
is-unused = made 0 0 unused (omega arith) (omega arith) unused-put
