-- Paper 01, 'Nearest objects': the domain of components, and totalOrder of the patterns of binary32 by IEEE 754's classes.
-- That every pattern is in exactly one class, and that the order is strict and total, are laws (crate spec_laws, Nearest/Classes.antt); so is that the order is
-- the standard's text for values that are no NaN (Nearest/Total.antt).
use Rattle.std.specs.Prelude.{ℕ, zero, suc, ◌+◌, ◌-◌, ◌*◌, ◌/◌, ◌%◌, ◌^◌, Bool, true, false, not, ◌&&◌, ◌||◌, cond, leb, ltb, eqb, Float}
use Rattle.std.specs.Float.{nan, inf, fin, binary32}
use Rattle.std.specs.Float.Ieee.{of_bits, lt, eq, up, down}

-- ---- the domain

-- 'Nearest objects': the largest magnitude of a component
abbrev pub largest : ℕ
largest = 2 ^ 32

-- 'Nearest objects': finite, and at most 2 ^ 32 in magnitude
unfoldable pub in_domain : Float → Bool
in_domain nan = false
in_domain (inf s) = false
in_domain (fin s m e) = leb (m * up e) (largest * down e)

-- 'Nearest objects': the same of a component that is still bits, as a message brings it
unfoldable pub bits_in_domain : ℕ → Bool
unfolding in_domain
bits_in_domain b = in_domain (of_bits binary32 b)

-- ---- patterns

-- IEEE 754, 3.4: the magnitude of a finite pattern in units of 2 ^ -149, by its exponent's field and its digits
abbrev pub units_at : ℕ → ℕ → ℕ
units_at zero t = t
units_at (suc x) t = (2 ^ 23 + t) * 2 ^ x

-- IEEE 754, 3.4: the same of a pattern without its sign
abbrev pub units_of : ℕ → ℕ
units_of r = units_at (r / 2 ^ 23) (r % 2 ^ 23)

-- ---- totalOrder

-- IEEE 754, 3.4: the fields of a pattern: its sign, its exponent's field, its fraction
abbrev pub sign : ℕ → ℕ
sign b = b / 2 ^ 31

abbrev pub exponent : ℕ → ℕ
exponent b = b / 2 ^ 23 % 2 ^ 8

abbrev pub fraction : ℕ → ℕ
fraction b = b % 2 ^ 23

-- IEEE 754, 3.4, by exponent and fraction: a NaN's, an infinity's, a zero's, and any other number's
abbrev pub nan_fields : ℕ → Bool
nan_fields b = eqb (exponent b) 255 && not (eqb (fraction b) 0)

abbrev pub inf_fields : ℕ → Bool
inf_fields b = eqb (exponent b) 255 && eqb (fraction b) 0

abbrev pub zero_fields : ℕ → Bool
zero_fields b = eqb (exponent b) 0 && eqb (fraction b) 0

abbrev pub number_fields : ℕ → Bool
number_fields b = not (eqb (exponent b) 255) && not (eqb (exponent b) 0 && eqb (fraction b) 0)

-- IEEE 754, 5.10: the eight classes, from the lowest
pub data Class : Type 0 where
  negNan negInf negNumber negZero posZero posNumber posInf posNan : Class

-- IEEE 754, 3.4: whether a pattern is in a class, by its fields. Sign 1 is minus.
unfoldable pub is_in : Class → ℕ → Bool
is_in negNan b = eqb (sign b) 1 && nan_fields b
is_in negInf b = eqb (sign b) 1 && inf_fields b
is_in negNumber b = eqb (sign b) 1 && number_fields b
is_in negZero b = eqb (sign b) 1 && zero_fields b
is_in posZero b = eqb (sign b) 0 && zero_fields b
is_in posNumber b = eqb (sign b) 0 && number_fields b
is_in posInf b = eqb (sign b) 0 && inf_fields b
is_in posNan b = eqb (sign b) 0 && nan_fields b

-- IEEE 754, 5.10: a class's place
abbrev pub rank : Class → ℕ
rank negNan = 0
rank negInf = 1
rank negNumber = 2
rank negZero = 3
rank posZero = 4
rank posNumber = 5
rank posInf = 6
rank posNan = 7

-- IEEE 754, 3.4: a zero, a number, an infinity or a NaN, by a pattern m without its sign; the infinity's is 255 * 2 ^ 23
abbrev pub pick : ℕ → Class → Class → Class → Class → Class
pick m z n i a = cond (eqb m 0) z (cond (ltb m (255 * 2 ^ 23)) n (cond (eqb m (255 * 2 ^ 23)) i a))

-- IEEE 754, 3.4: the class of a pattern. It is the one that `is_in` says (the law `exactly_one`).
unfoldable pub class : ℕ → Class
class b = cond (ltb b (2 ^ 31)) (pick b posZero posNumber posInf posNan) (pick (b - 2 ^ 31) negZero negNumber negInf negNan)

-- 'Nearest objects', IEEE 754, 5.10: the pattern a stands before the pattern b: in a lower class, or in the same class with a smaller pattern under a
-- plus sign or a larger one under a minus sign
unfoldable pub before : ℕ → ℕ → Bool
unfolding class
before a b =
    ltb (rank (class a)) (rank (class b))
    || (eqb (rank (class a)) (rank (class b)) && cond (ltb a (2 ^ 31)) (ltb a b) (ltb b a))

-- ---- what the standard says of it, for the laws

-- IEEE 754, 5.10: the sign of a value that is no NaN
abbrev pub minus : Float → Bool
minus nan = false
minus (inf s) = s
minus (fin s m e) = s

-- IEEE 754, 5.10, of two values that are no NaN: x < y, or they are equal, and x is -0 and y is +0
unfoldable pub total : Float → Float → Bool
unfolding lt eq
total x y = lt x y || (eq x y && (minus x && not (minus y)))
