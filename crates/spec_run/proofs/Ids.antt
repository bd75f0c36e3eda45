-- Which ids the nodes of a fresh run have (specs/Fresh.antt): computed where nodes 1 and 2 are the holders, and what the test says of any
-- holder and of any other node. Assumes nothing.
use Prim.Native.Nat.{ℕ}
use mathlib.Core.Path.{◌≡◌, refl}
use mathlib.Core.Bool.{Bool, true, false, cond, not}
use mathlib.Core.List.{List, [], ◌∷◌}
use lib.Dec.{eqb}
use borrow.Author.Tests.{eqb-true, eq-eqb, not-true}
use Rattle.spec.specs.Lists.{any}
use Rattle.spec.specs.Map.Change.{holds}
use Rattle.spec.specs.declared.Replica.{Replica}
use Rattle.spec_run.specs.Fresh.{proper_id}

-- ---- computed

abbrev holders : List Replica
holders = record { node = record { 0 = 1 }; incarnation = 4 } ∷ record { node = record { 0 = 2 }; incarnation = 4 } ∷ []

-- the node of number 2 ^ 64 has an id that a machine can hold
pub beyond-ids : proper_id holders 18446744073709551616 0 ≡ true
unfolding proper_id holds any
beyond-ids = refl

pub holder_its_own : proper_id holders 2 2 ≡ true
unfolding proper_id holds any
holder_its_own = refl

pub holder_no_other : proper_id holders 2 3 ≡ false
unfolding proper_id holds any
holder_no_other = refl

pub other_not_a_holders : proper_id holders 3 2 ≡ false
unfolding proper_id holds any
other_not_a_holders = refl

-- ---- of any holders

module _ (rs : List Replica) (n id : ℕ) where
  pub holder_id : holds n rs ≡ true → proper_id rs n id ≡ true → id ≡ n
  unfolding proper_id
  holder_id h p = eqb-true id n (rw h at p)

  pub other-id : holds n rs ≡ false → proper_id rs n id ≡ true → holds id rs ≡ false
  unfolding proper_id
  other-id h p = not-true (holds id rs) (rw h at p)

  -- an id that is no holder's serves any node but a holder
  pub apart : holds n rs ≡ false → holds id rs ≡ false → proper_id rs n id ≡ true
  unfolding proper_id
  apart h o = rw (h, o) refl

-- its own number serves every node
pub own-number : (rs : List Replica) (n : ℕ) → proper_id rs n n ≡ true
unfolding proper_id
own-number rs n = go (holds n rs) (eq-eqb n n refl)
  where
    go : (b : Bool) → eqb n n ≡ true → cond b (eqb n n) (not b) ≡ true
    go true e = e
    go false e = refl
