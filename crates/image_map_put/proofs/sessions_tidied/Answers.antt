use native.Mathlib.Omega.{arith}
use mathlib.Core.Path.{◌≡◌, ◌∙◌, ap}
use mathlib.Core.List.{List}
use Prim.Native.Nat.{◌+◌, ◌*◌}
use lib.Seq.{sets}
use Rattle.spec.specs.Layout.Format.{concat_map}
use Rattle.map_tables.specs.View.{view_session}
use Rattle.map_tables.specs.declared.SessionRow.{SessionRow}
use Rattle.image_map_row.specs.Rows.{session_at, session_bytes}
use Rattle.image_map_form.specs.Canon.{image_session}
use Rattle.image_map.specs.Image.{no_session}
use Rattle.image_map_put.proofs.Tidy.{done-start, done-step, done_end, Tidy, tidy_long, tidy_row, tidy_all}
use Rattle.image_map_put.proofs.Whole.{session-same}
use Rattle.image_move.proofs.Bytes.{past}
use Rattle.image_map_put.proofs.sessions_tidied.Goals as goal

pub loop-i-init : goal.loop-i-init
loop-i-init c =
    (done-start session_bytes 80 21416 no_session c.args.out.now (Tidy image_session view_session c.args.count (session_at c.args.out.now) 80 21416 no_session), omega arith, c.requires.1, c.requires.0)

pub session_tidied-requires : goal.session_tidied-requires
session_tidied-requires c =
    let k = c.loop-i.invariant.0.0 in let few = c.loop-i.invariant.2 in let room = c.loop-i.invariant.3 in let lt = c.loop-i-test.true in omega arith

pub loop-i-preserved : goal.loop-i-preserved
loop-i-preserved c =
    let lt = c.loop-i-test.true in let few = c.loop-i.invariant.2 in let room = c.loop-i.invariant.3 in let k = tidy_long image_session view_session c.args.count (session_at c.args.out.now) 80 21416 no_session in
    (done-step session_bytes 80 21416 no_session c.args.out.now (Tidy image_session view_session c.args.count (session_at c.args.out.now) 80 21416 no_session) c.loop-i.out _ c.loop-i.i (omega arith) (omega arith) (omega arith) c.loop-i.invariant.0 c.session_tidied.auto.out _ (ap (λ (x : SessionRow). image_session (view_session x)) (session-same c.loop-i.out c.args.out.now (21416 + 80 * c.loop-i.i) (21416 + 80 * c.loop-i.i) (past c.loop-i.out c.args.out.now (21416 + 80 * c.loop-i.i) 80 c.loop-i.invariant.0.2)) ∙ tidy_row image_session view_session c.args.count (session_at c.args.out.now) 80 21416 no_session c.loop-i.i lt) c.session_tidied.ensures, omega arith, few, room)

pub shape_of-out : goal.shape_of-out
shape_of-out c = c.loop-i.invariant.0.0

pub returns : goal.returns
returns c =
    let k = c.loop-i.invariant.1 in let z = c.loop-i-test.false in let n = tidy_long image_session view_session c.args.count (session_at c.args.out.now) 80 21416 no_session in let q : c.loop-i.i ≡ c.args.count = omega arith in
    (done_end session_bytes 80 21416 no_session c.args.out.now (Tidy image_session view_session c.args.count (session_at c.args.out.now) 80 21416 no_session) c.loop-i.out c.loop-i.i (omega arith) c.loop-i.invariant.0 ∙ ap (λ (x : List SessionRow). sets c.args.out.now 21416 (concat_map session_bytes x)) (tidy_all image_session view_session c.args.count (session_at c.args.out.now) 80 21416 no_session), rw q at c.loop-i.invariant.0.2)
