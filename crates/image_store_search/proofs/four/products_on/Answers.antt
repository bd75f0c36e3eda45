use native.Mathlib.Omega.{arith}
use lib.Ieee.{binary32, mul}
use Rattle.image_store_search.proofs.FourLaws.{lane_on, own_on}
use Rattle.image_store_search.proofs.four.products_on.Goals as goal

pub bounds-query-i : goal.bounds-query-i
bounds-query-i c = c.requires.asked

pub overflow_mul-i : goal.overflow_mul-i
overflow_mul-i c = let p = c.requires.first.there in omega arith

pub overflow_add-p : goal.overflow_add-p
overflow_add-p c = let p = c.requires.first.there in omega arith

pub float_at-u-requires : goal.float_at-u-requires
float_at-u-requires c = c.requires.first

pub overflow_mul-i-2 : goal.overflow_mul-i-2
overflow_mul-i-2 c = let p = c.requires.second.there in omega arith

pub overflow_add-q : goal.overflow_add-q
overflow_add-q c = let p = c.requires.second.there in omega arith

pub float_at-v-requires : goal.float_at-v-requires
float_at-v-requires c = c.requires.second

pub overflow_mul-i-3 : goal.overflow_mul-i-3
overflow_mul-i-3 c = let p = c.requires.third.there in omega arith

pub overflow_add-r : goal.overflow_add-r
overflow_add-r c = let p = c.requires.third.there in omega arith

pub float_at-w-requires : goal.float_at-w-requires
float_at-w-requires c = c.requires.third

pub overflow_mul-i-4 : goal.overflow_mul-i-4
overflow_mul-i-4 c = let p = c.requires.fourth.there in omega arith

pub overflow_add-t : goal.overflow_add-t
overflow_add-t c = let p = c.requires.fourth.there in omega arith

pub float_at-y-requires : goal.float_at-y-requires
float_at-y-requires c = c.requires.fourth

pub returns : goal.returns
returns c =
    let a = c.args in let k = c.requires.asked in (
      λ n h l. record {
        first = lane_on a.s.now a.p n a.i h c.float_at-u.result c.float_at-u.ensures a.sums.query.a (mul binary32) a.query.now k l.first;
        second = lane_on a.s.now a.q n a.i h c.float_at-v.result c.float_at-v.ensures a.sums.query.b (mul binary32) a.query.now k l.second;
        third = lane_on a.s.now a.r n a.i h c.float_at-w.result c.float_at-w.ensures a.sums.query.c (mul binary32) a.query.now k l.third;
        fourth = lane_on a.s.now a.t n a.i h c.float_at-y.result c.float_at-y.ensures a.sums.query.d (mul binary32) a.query.now k l.fourth;
      },
      λ n h l. record {
        first = own_on a.s.now a.p n a.i h c.float_at-u.result c.float_at-u.ensures a.sums.own.a l.first;
        second = own_on a.s.now a.q n a.i h c.float_at-v.result c.float_at-v.ensures a.sums.own.b l.second;
        third = own_on a.s.now a.r n a.i h c.float_at-w.result c.float_at-w.ensures a.sums.own.c l.third;
        fourth = own_on a.s.now a.t n a.i h c.float_at-y.result c.float_at-y.ensures a.sums.own.d l.fourth;
      },
    )
