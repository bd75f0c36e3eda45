-- What the whole image's functions come to, case by case. Assumes nothing.
use Prim.Native.Nat.{ℕ, ◌≤◌, ◌<◌}
use mathlib.Core.Path.{◌≡◌, sym}
use mathlib.Core.Bool.{true, false}
use mathlib.Core.List.{List}
use lib.ListN.{length}
use borrow.Author.Tests.{le-leb, lt-leb, leb-true}
use Rattle.spec_laws.proofs.Wire.Tests.{and_left, and_true, and_false}
use Rattle.node_header.specs.declared.Node.{Node}
use Rattle.image_header.specs.Image.{codes_listed, header_lent, header_put, header_written}

-- ---- whether a buffer lends a header

module _ (s : List ℕ) where
  pub lent-short : length s < 10288 → header_lent s ≡ false
  unfolding header_lent
  lent-short h = rw (lt-leb 10288 (length s) h) (and_false _)

  pub lent_listed : 10288 ≤ length s → codes_listed s ≡ header_lent s
  unfolding header_lent
  lent_listed h = rw (le-leb 10288 (length s) h) (sym (and_true _))

  pub lent_long : header_lent s ≡ true → 10288 ≤ length s
  unfolding header_lent
  lent_long h = leb-true 10288 (length s) (and_left _ _ h)

  pub written_long : (m : Node) → 10288 ≤ length s → header_put s m ≡ header_written s m
  unfolding header_written
  written_long m h = rw (le-leb 10288 (length s) h)
