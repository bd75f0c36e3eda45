-- The code's classes beside those of the definition (paper 01, 'Nearest objects'; IEEE 754, 5.10). Definitions only.
use Rattle.std.specs.Prelude.{ℕ}
use Rattle.spec.specs.Nearest.Order as Order
use Rattle.float_order.specs.declared.Class.{Class}
use Rattle.float_order.specs.declared.Class.TheVariants.{NegNan, NegInf, NegNumber, NegZero, PosZero, PosNumber, PosInf, PosNan}

-- a class of the definition, as the enum
abbrev pub shown : Order.Class → Class
shown Order.negNan = NegNan
shown Order.negInf = NegInf
shown Order.negNumber = NegNumber
shown Order.negZero = NegZero
shown Order.posZero = PosZero
shown Order.posNumber = PosNumber
shown Order.posInf = PosInf
shown Order.posNan = PosNan

-- IEEE 754, 5.10: a class's place
abbrev pub place_of : Class → ℕ
place_of NegNan = 0
place_of NegInf = 1
place_of NegNumber = 2
place_of NegZero = 3
place_of PosZero = 4
place_of PosNumber = 5
place_of PosInf = 6
place_of PosNan = 7
