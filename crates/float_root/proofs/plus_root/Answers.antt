use Rattle.std.proofs.Common.{ℕ, ◌-◌, ◌/◌, ◌^◌, ◌<◌, ◌≤◌, false, T, sym, ap, ◌∙◌, subst, arith}
use lib.Ieee.{binary32, fits, to_bits, units}
use Rattle.spec.specs.Nearest.Order.{units_of}
use Rattle.float_root.proofs.Floats.{no_nan, Pattern, pattern, near_24, Written, written, sqrt-whole}
use Rattle.float_root.proofs.plus_root.Goals as goal
use Rattle.float_root.proofs.plus_root.Goals.{After-near_root-q, Start}

held : (c : Start) → T (fits binary32 c.args.x)
held c = subst T (sym c.well_formed.0.1) tt

read : (c : Start) → Pattern c.args.x (to_bits binary32 c.args.x)
read c = pattern c.args.x (held c) c.requires.0

-- the bits that are written: 24 digits, and the power
digits : (c : After-near_root-q) → (2 ^ 23 ≤ c.near_root-q.result) × (c.near_root-q.result < 2 ^ 24)
digits c =
    let n = c.radicand in
    subst (λ (q : ℕ). (2 ^ 23 ≤ q) × (q < 2 ^ 24)) (sym c.near_root-q.ensures)
    (near_24 n.result n.ensures.lo n.ensures.hi)

done : (c : After-near_root-q)
    → Written c.near_root-q.result (c.normalised-d.result.power / 2 - 1)
done c =
    let s = c.normalised-d in
    written c.near_root-q.result (s.result.power / 2 - 1) (digits c).0 (digits c).1
    (omega (arith, s.ensures.jhi))

pub float_to_bits-x : goal.float_to_bits-x
float_to_bits-x c = no_nan c.args.x c.requires.0

pub normalised-d-requires : goal.normalised-d-requires
normalised-d-requires c = (c.requires.1, (read c).under)

pub overflow_cast-result : goal.overflow_cast-result
overflow_cast-result c = omega (arith, (digits c).1)

pub overflow_add-result : goal.overflow_add-result
overflow_add-result c = omega (arith, (digits c).1, c.normalised-d.ensures.jhi)

pub float_from_bits-result : goal.float_from_bits-result
float_from_bits-result c = (done c).number

pub returns : goal.returns
returns c =
    let n = c.radicand in
    let s = c.normalised-d in
    let start = (goal.at.returns c).Start in
    let x = c.args.x in
    let K = s.result.power / 2 - 1 in
    (done c).float
    ∙ ap (λ (q : ℕ). units binary32 false q K) c.near_root-q.ensures
    ∙ sym (sqrt-whole x (units_of (to_bits binary32 x)) s.result.digits s.result.power n.result
    (read start).value s.ensures n.ensures)
