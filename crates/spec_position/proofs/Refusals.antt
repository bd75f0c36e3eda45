-- Paper 02, 2.7, errors: 30 and 31 come exactly when they are due, 30 first, and 31 only on the way back. Assumes nothing.
use Prim.Native.Nat.{ℕ}
use mathlib.Core.Path.{◌≡◌, refl}
use mathlib.Core.Bool.{Bool, true, false, cond}
use native.Mathlib.Omega.{arith}
use Rattle.spec_position.specs.Positions.{Turned, turned, out_of_range, no_thousandth, no_room, number_of, in_range, within, has_thousandth, position_of, fields_of, floats_of, to_position, to_fields, to_vector}
use Rattle.spec_position.specs.declared.Fields.{Fields}
use Rattle.spec_position.specs.declared.Position.{Position}

-- the first says the second, and the second the first
abbrev pub Iff : Type 0 → Type 0 → Type 0
Iff A B = (A → B) × (B → A)

-- the numbers of the paper
pub number_30 : number_of {A = Position} out_of_range ≡ 30
number_30 = refl

pub number_31 : number_of {A = Fields} no_thousandth ≡ 31
number_31 = refl

pub number_23 : number_of {A = Position} no_room ≡ 23
number_23 = refl

-- ---- one test

module _ {A : Type 0} (x : A) where
  abbrev once : Bool → Turned A
  once b = cond b (turned x) out_of_range

  once_30 : (b : Bool) → once b ≡ out_of_range → b ≡ false
  once_30 true e = let z : ◌≡◌ {A = ℕ} 0 1 = cc in absurd (omega arith)
  once_30 false e = refl

  once_31 : (b : Bool) → once b ≡ no_thousandth → ⊥
  once_31 true e = let z : ◌≡◌ {A = ℕ} 0 1 = cc in omega arith
  once_31 false e = let z : ◌≡◌ {A = ℕ} 0 1 = cc in omega arith

  -- ---- two, the first first

  abbrev twice : Bool → Bool → Turned A
  twice b c = cond b (cond c (turned x) no_thousandth) out_of_range

  twice_30 : (b c : Bool) → twice b c ≡ out_of_range → b ≡ false
  twice_30 true true e = let z : ◌≡◌ {A = ℕ} 0 1 = cc in absurd (omega arith)
  twice_30 true false e = let z : ◌≡◌ {A = ℕ} 0 1 = cc in absurd (omega arith)
  twice_30 false c e = refl

  twice_31 : (b c : Bool) → twice b c ≡ no_thousandth → (b ≡ true) × (c ≡ false)
  twice_31 true true e = let z : ◌≡◌ {A = ℕ} 0 1 = cc in absurd (omega arith)
  twice_31 true false e = (refl, refl)
  twice_31 false c e = let z : ◌≡◌ {A = ℕ} 0 1 = cc in absurd (omega arith)

module _ (f : Fields) where
  pub position_30 : Iff (to_position f ≡ out_of_range) (in_range f ≡ false)
  unfolding to_position
  position_30 = (once_30 (position_of f) (in_range f), λ e. rw e refl)

  pub position_31 : to_position f ≡ no_thousandth → ⊥
  unfolding to_position
  position_31 = once_31 (position_of f) (in_range f)

module _ (p : Position) where
  pub fields_30 : Iff (to_fields p ≡ out_of_range) (within p ≡ false)
  unfolding to_fields
  fields_30 = (twice_30 (fields_of p) (within p) (has_thousandth p), λ e. rw e refl)

  pub fields_31 : Iff (to_fields p ≡ no_thousandth) ((within p ≡ true) × (has_thousandth p ≡ false))
  unfolding to_fields
  fields_31 = (twice_31 (fields_of p) (within p) (has_thousandth p), λ e. rw e.0 (rw e.1 refl))

  pub vector_30 : Iff (to_vector p ≡ out_of_range) (within p ≡ false)
  unfolding to_vector
  vector_30 = (once_30 (floats_of p) (within p), λ e. rw e refl)

  pub vector_31 : to_vector p ≡ no_thousandth → ⊥
  unfolding to_vector
  vector_31 = once_31 (floats_of p) (within p)
