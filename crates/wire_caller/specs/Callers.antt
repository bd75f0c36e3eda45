-- How a caller is shown as the enum `Caller` (paper 02, 2.8). Definitions only.
use Prim.Native.Nat.{ℕ}
use mathlib.Core.Bool.{cond}
use mathlib.Core.List.{List}
use mathlib.Core.Option.{Option, none, some}
use Rattle.spec_callers.specs.Editions.{is_second, caller_behind}
use Rattle.wire_caller.specs.declared.Caller.{Caller}
use Rattle.wire_caller.specs.declared.Caller.TheVariants.{First, By, Nobody}

abbrev pub shown : Option ℕ → Caller
shown none = Nobody
shown (some c) = By c

unfoldable pub caller_shown : List ℕ → Caller
caller_shown s = cond (is_second s) (shown (caller_behind s)) First
