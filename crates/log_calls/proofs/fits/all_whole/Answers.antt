use mathlib.Core.Path.{refl}
use Rattle.log_calls.proofs.FitLaws.{whole-step, whole_stop}
use Rattle.log_calls.proofs.fits.all_whole.Goals as goal

pub returns-then-a-ne1024 : goal.returns-then-a-ne1024
returns-then-a-ne1024 c = whole_stop _ _ c.if-a-ne1024.true

pub returns-then-b-ne1024 : goal.returns-then-b-ne1024
returns-then-b-ne1024 c = whole-step _ _ _ c.if-a-ne1024.false (whole_stop _ _ c.if-b-ne1024.true)

pub returns-then-c-ne1024 : goal.returns-then-c-ne1024
returns-then-c-ne1024 c =
    whole-step _ _ _ c.if-a-ne1024.false (whole-step _ _ _ c.if-b-ne1024.false (whole_stop _ _ c.if-c-ne1024.true))

pub returns-then-d-ne1024 : goal.returns-then-d-ne1024
returns-then-d-ne1024 c =
    whole-step _ _ _ c.if-a-ne1024.false (whole-step _ _ _ c.if-b-ne1024.false (whole-step _ _ _ c.if-c-ne1024.false (whole_stop _ _ c.if-d-ne1024.true)))

pub returns-then-e-ne1024 : goal.returns-then-e-ne1024
returns-then-e-ne1024 c =
    whole-step _ _ _ c.if-a-ne1024.false (whole-step _ _ _ c.if-b-ne1024.false (whole-step _ _ _ c.if-c-ne1024.false (whole-step _ _ _ c.if-d-ne1024.false (whole_stop _ _ c.if-e-ne1024.true))))

pub returns-then-f-ne1024 : goal.returns-then-f-ne1024
returns-then-f-ne1024 c =
    whole-step _ _ _ c.if-a-ne1024.false (whole-step _ _ _ c.if-b-ne1024.false (whole-step _ _ _ c.if-c-ne1024.false (whole-step _ _ _ c.if-d-ne1024.false (whole-step _ _ _ c.if-e-ne1024.false (whole_stop _ _ c.if-f-ne1024.true)))))

pub returns : goal.returns
returns c =
    whole-step _ _ _ c.if-a-ne1024.false (whole-step _ _ _ c.if-b-ne1024.false (whole-step _ _ _ c.if-c-ne1024.false (whole-step _ _ _ c.if-d-ne1024.false (whole-step _ _ _ c.if-e-ne1024.false (whole-step _ _ _ c.if-f-ne1024.false (refl))))))
