use native.Mathlib.Omega.{arith}
use mathlib.Core.Path.{sym, ◌∙◌}
use Rattle.calls_join.proofs.Calls.{sound-many, sound_risen, sound_each}
use Rattle.calls_join.proofs.checks.all_sound.Goals as goal

pub returns-then-n-gt16 : goal.returns-then-n-gt16
returns-then-n-gt16 c = sym (sound-many _ _ c.if-n-gt16.true)

pub returns-then-not-shards_rise : goal.returns-then-not-shards_rise
returns-then-not-shards_rise c = sym (sound_risen _ _ (omega arith) (sym c.shards_rise.ensures ∙ c.if-not-shards_rise.true))

pub returns : goal.returns
returns c =
    c.each_sound.ensures ∙ sym (sound_each _ _ (omega arith) (sym c.shards_rise.ensures ∙ c.if-not-shards_rise.false))
