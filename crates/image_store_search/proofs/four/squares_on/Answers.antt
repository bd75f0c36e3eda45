use native.Mathlib.Omega.{arith}
use Rattle.spec.specs.Nearest.Distance.{square}
use Rattle.image_store_search.proofs.FourLaws.{lane_on}
use Rattle.image_store_search.proofs.four.squares_on.Goals as goal

pub bounds-query-i : goal.bounds-query-i
bounds-query-i c = c.requires.asked

pub overflow_mul-i : goal.overflow_mul-i
overflow_mul-i c = let p = c.requires.first.there in omega arith

pub overflow_add-p : goal.overflow_add-p
overflow_add-p c = let p = c.requires.first.there in omega arith

pub float_at-requires : goal.float_at-requires
float_at-requires c = c.requires.first

pub overflow_mul-i-2 : goal.overflow_mul-i-2
overflow_mul-i-2 c = let p = c.requires.second.there in omega arith

pub overflow_add-q : goal.overflow_add-q
overflow_add-q c = let p = c.requires.second.there in omega arith

pub float_at-requires-2 : goal.float_at-requires-2
float_at-requires-2 c = c.requires.second

pub overflow_mul-i-3 : goal.overflow_mul-i-3
overflow_mul-i-3 c = let p = c.requires.third.there in omega arith

pub overflow_add-r : goal.overflow_add-r
overflow_add-r c = let p = c.requires.third.there in omega arith

pub float_at-requires-3 : goal.float_at-requires-3
float_at-requires-3 c = c.requires.third

pub overflow_mul-i-4 : goal.overflow_mul-i-4
overflow_mul-i-4 c = let p = c.requires.fourth.there in omega arith

pub overflow_add-t : goal.overflow_add-t
overflow_add-t c = let p = c.requires.fourth.there in omega arith

pub float_at-requires-4 : goal.float_at-requires-4
float_at-requires-4 c = c.requires.fourth

pub returns : goal.returns
returns c =
    let a = c.args in let k = c.requires.asked in λ n h l. record {
      first = lane_on a.s.now a.p n a.i h c.float_at.result c.float_at.ensures a.sums.a square a.query.now k l.first;
      second = lane_on a.s.now a.q n a.i h c.float_at-2.result c.float_at-2.ensures a.sums.b square a.query.now k l.second;
      third = lane_on a.s.now a.r n a.i h c.float_at-3.result c.float_at-3.ensures a.sums.c square a.query.now k l.third;
      fourth = lane_on a.s.now a.t n a.i h c.float_at-4.result c.float_at-4.ensures a.sums.d square a.query.now k l.fourth;
    }
