use native.Mathlib.Omega.{arith}
use mathlib.Core.Path.{sym, ◌∙◌, ap}
use mathlib.Core.List.{[]}
use mathlib.Core.Bool.{cond}
use Rattle.spec.specs.Map.Apply.{sets_version}
use Rattle.map_tables.specs.View.{answer_of, view_command}
use Rattle.calls_apply.proofs.SettledLaws.{effect_accepted, effect_taken, told-room, told_way, applied-room, applied_way}
use Rattle.calls_apply.proofs.taken.taken.Goals as goal

pub get8-old-requires : goal.get8-old-requires
get8-old-requires c = let l = c.requires.0.ready.few.long in omega arith

pub tell-requires : goal.tell-requires
tell-requires c =
    (c.requires.0.ready.few, told-room c.args.map.now c.args.r c.requires.0 c.args.verdict c.requires.1 (sym c.takes_effect.ensures ∙ c.if-not-takes_effect.true))

pub returns-then-not-takes_effect : goal.returns-then-not-takes_effect
returns-then-not-takes_effect c =
    told_way c.args.map.now c.args.r c.requires.0 c.args.verdict c.requires.1 (sym c.takes_effect.ensures ∙ c.if-not-takes_effect.true) _ c.get8-old.ensures _ _ c.tell.ensures

pub take_effect-requires : goal.take_effect-requires
take_effect-requires c =
    (c.requires.0, effect_accepted c.args.map.now c.args.r c.args.verdict c.requires.1 (sym c.takes_effect.ensures ∙ c.if-not-takes_effect.false))

pub tell-requires-2 : goal.tell-requires-2
tell-requires-2 c =
    applied-room c.args.map.now c.args.r c.requires.0 c.args.verdict c.requires.1 (effect_taken (answer_of c.args.verdict) (sym c.takes_effect.ensures ∙ c.if-not-takes_effect.false)) _ c.take_effect.ensures

pub returns : goal.returns
returns c =
    applied_way c.args.map.now c.args.r c.requires.0 c.args.verdict c.requires.1 (effect_taken (answer_of c.args.verdict) (sym c.takes_effect.ensures ∙ c.if-not-takes_effect.false)) _ c.take_effect.ensures _ (c.next_version-version.ensures ∙ ap (cond (sets_version (view_command c.args.r [])) c.args.r.index) c.get8-old.ensures) _ _ c.tell-2.ensures
