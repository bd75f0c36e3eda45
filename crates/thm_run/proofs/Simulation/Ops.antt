-- Paper 01, 'Bytes on the wire': a stored operation goes out and comes back as it was: its floats are f32 in the domain. Assumes nothing.
use Prim.Native.Nat.{suc}
use mathlib.Core.Path.{◌≡◌, refl, sym, ap, subst}
use mathlib.Core.Bool.{Bool, true}
use mathlib.Core.List.{List, [], ◌∷◌, map}
use native.Mathlib.Omega.{arith}
use lib.Dec.{T, leb}
use lib.ListN.{length}
use lib.Ieee.{Float, binary32, fits}
use lib.Ieee.Bits.{of_bits-to_bits, to_bits-lt}
use borrow.Author.Tests.{leb-true}
use Rattle.spec.specs.Lists.{◌and◌, every}
use Rattle.spec.specs.Limits.{max_components}
use Rattle.spec.specs.Nearest.Order.{in_domain, bits_in_domain}
use Rattle.spec.specs.Log.{Op, upsert, delete}
use Rattle.spec.specs.Layout.Format as format
use Rattle.spec.specs.Layout.Writable.{U64, U32, GoodOp}
use Rattle.spec.specs.Node.Wire.{float_of, bits_of, floats_of, patterns_in_domain, op_in_domain, stored_op, wire_op}
use Rattle.spec.specs.Node.WellFormed.{component, well_formed_vector, well_formed_op}
use Rattle.spec_laws.proofs.Lists.{and_left, and_right}
use Rattle.spec_laws.proofs.Map.Rows.{every_tail, every_cons}

-- an id that a u64 holds
abbrev pub IdFits : Op → Type 0
IdFits (upsert id xs) = U64 id
IdFits (delete id) = U64 id

is_so : (b : Bool) → b ≡ true → T b
is_so b e = subst T (sym e) tt

-- one float
float_back : (x : Float) → component x ≡ true → (float_of (bits_of x) ≡ x) × (bits_in_domain (bits_of x) ≡ true) × U32 (bits_of x)
unfolding bits_in_domain
float_back x e =
    let f = is_so (fits binary32 x) (and_left (fits binary32 x) (in_domain x) e) in
    let q = of_bits-to_bits binary32 x f in
    (q, subst (λ (v : Float). in_domain v ≡ true) (sym q) (and_right (fits binary32 x) (in_domain x) e), to_bits-lt binary32 x f)

floats-back : (xs : List Float) → every component xs ≡ true
    → (map float_of (map bits_of xs) ≡ xs) × (every bits_in_domain (map bits_of xs) ≡ true) × format.All U32 (map bits_of xs)
unfolding every
floats-back [] e = (refl, refl, tt)
floats-back (x ∷ xs) e =
    let t = every_tail component x xs e in
    let h = float_back x t.0 in
    let r = floats-back xs t.1 in
    (rw (h.0, r.0), every_cons bits_in_domain (bits_of x) (map bits_of xs) h.1 r.1, (h.2, r.2))

length-bits : (xs : List Float) → length (map bits_of xs) ≡ length xs
length-bits [] = refl
length-bits (x ∷ xs) = ap suc (length-bits xs)

-- one operation
pub record Back (op : Op) : Type 0 where
  pub good : GoodOp (wire_op op)
  pub inside : op_in_domain (wire_op op) ≡ true
  pub same : stored_op (wire_op op) ≡ op

pub op-back : (op : Op) → well_formed_op op ≡ true → IdFits op → Back op
unfolding wire_op stored_op well_formed_vector floats_of patterns_in_domain
op-back (upsert id xs) e g =
    let a = leb 1 (length xs) in
    let b = leb (length xs) max_components in
    let c = every component xs in
    let r = and_right a (b and c) e in
    let lo = leb-true 1 (length xs) (and_left a (b and c) e) in
    let hi = leb-true (length xs) max_components (and_left b c r) in
    let h = floats-back xs (and_right b c r) in
    let l = length-bits xs in
    record { good = (g, (omega arith, omega arith, h.2)); inside = h.1; same = ap (upsert id) h.0 }
op-back (delete id) e g = record { good = g; inside = refl; same = refl }
