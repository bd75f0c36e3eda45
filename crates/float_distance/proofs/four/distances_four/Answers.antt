use Rattle.float_distance.proofs.Quad.{euclid_lane, angle_lane}
use Rattle.float_distance.proofs.four.distances_four.Goals as goal

pub returns-in-Euclidean : goal.returns-in-Euclidean
returns-in-Euclidean c =
    let f = c.squares_four-f in
    let at = c in
    let g = c.args in
    let k = c.in-Euclidean.is in
    record {
      first =
          euclid_lane g.metric g.query.now g.floats.now g.p g.n c.requires.asked c.requires.first
          f.result.a c.sqrt_f32.result k f.ensures.first
          c.sqrt_f32.ensures;
      second =
          euclid_lane g.metric g.query.now g.floats.now g.q g.n c.requires.asked c.requires.second
          f.result.b c.sqrt_f32-in-Euclidean.result k f.ensures.second
          c.sqrt_f32-in-Euclidean.ensures;
      third =
          euclid_lane g.metric g.query.now g.floats.now g.r g.n c.requires.asked c.requires.third
          f.result.c c.sqrt_f32-in-Euclidean-2.result k f.ensures.third c.sqrt_f32-in-Euclidean-2.ensures;
      fourth =
          euclid_lane g.metric g.query.now g.floats.now g.s g.n c.requires.asked c.requires.fourth
          f.result.d c.sqrt_f32-in-Euclidean-3.result k f.ensures.fourth c.sqrt_f32-in-Euclidean-3.ensures;
    }

pub returns-in-Angular : goal.returns-in-Angular
returns-in-Angular c =
    let f = c.products_four-f in
    let at = c in
    let g = c.args in
    let k = c.in-Angular.is in
    record {
      first =
          angle_lane g.metric g.query.now g.floats.now g.p g.n c.requires.asked c.requires.first
          f.result.query.a g.qnorm f.result.own.a c.angle.result k
          f.ensures.0.first c.requires.norm-is
          f.ensures.1.first c.angle.ensures;
      second =
          angle_lane g.metric g.query.now g.floats.now g.q g.n c.requires.asked c.requires.second
          f.result.query.b g.qnorm f.result.own.b c.angle-in-Angular.result k
          f.ensures.0.second c.requires.norm-is
          f.ensures.1.second c.angle-in-Angular.ensures;
      third =
          angle_lane g.metric g.query.now g.floats.now g.r g.n c.requires.asked c.requires.third
          f.result.query.c g.qnorm f.result.own.c c.angle-in-Angular-2.result k f.ensures.0.third
          c.requires.norm-is
          f.ensures.1.third c.angle-in-Angular-2.ensures;
      fourth =
          angle_lane g.metric g.query.now g.floats.now g.s g.n c.requires.asked c.requires.fourth
          f.result.query.d g.qnorm f.result.own.d c.angle-in-Angular-3.result k f.ensures.0.fourth
          c.requires.norm-is
          f.ensures.1.fourth c.angle-in-Angular-3.ensures;
    }
