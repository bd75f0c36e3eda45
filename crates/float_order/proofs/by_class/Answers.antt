use mathlib.Core.Path.{◌≡◌, ◌∙◌, ap}
use Prim.Native.Nat.{ℕ}
use Rattle.spec.specs.Nearest.Order.{class}
use Rattle.float_order.specs.declared.Class.{Class}
use Rattle.float_order.specs.Classes.{shown, place_of}
use Rattle.float_order.proofs.Places.{place_is, apart, level_plus, level-minus}
use Rattle.spec.specs.Nearest.Order as Order
use Rattle.float_order.proofs.by_class.Goals as goal
use Rattle.float_order.proofs.by_class.Goals.{After-rank-y}

-- a place as the code makes it
placed : (b x : ℕ) (c : Class) → x ≡ place_of c → c ≡ shown (class b) → x ≡ Order.rank (class b)
placed b x c e f = e ∙ ap place_of f ∙ place_is (class b)

-- both places
first : (c : After-rank-y) → c.rank-x.result ≡ Order.rank (class c.args.a)
first c = placed _ _ _ c.rank-x.ensures c.class_of.ensures

second : (c : After-rank-y) → c.rank-y.result ≡ Order.rank (class c.args.b)
second c = placed _ _ _ c.rank-y.ensures c.class_of-2.ensures

pub returns-then-x-y : goal.returns-then-x-y
returns-then-x-y c =
    apart _ _ _ _ (first (goal.at.returns-then-x-y c).After-rank-y) (second (goal.at.returns-then-x-y c).After-rank-y) c.if-x-y.true

pub returns-then-a-ge2147483648 : goal.returns-then-a-ge2147483648
returns-then-a-ge2147483648 c =
    level-minus _ _ _ _ (first (goal.at.returns-then-a-ge2147483648 c).After-rank-y) (second (goal.at.returns-then-a-ge2147483648 c).After-rank-y) c.if-x-y.false c.if-a-ge2147483648.true

pub returns : goal.returns
returns c =
    level_plus _ _ _ _ (first (goal.at.returns c).After-rank-y) (second (goal.at.returns c).After-rank-y) c.if-x-y.false c.if-a-ge2147483648.false
