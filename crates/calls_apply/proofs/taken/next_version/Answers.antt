use mathlib.Core.Path.{sym, ◌∙◌, ap}
use mathlib.Core.Bool.{Bool, cond}
use Rattle.map_apply.proofs.Command.{not_bench, sets-by}
use Rattle.calls_apply.proofs.taken.next_version.Goals as goal

pub returns-in-Create : goal.returns-in-Create
returns-in-Create c =
    sym (ap (λ (b : Bool). cond b c.args.r.index c.args.version) (sets-by c.args.r c.args.r.command ∙ ap not_bench c.in-Create.is))

pub returns-in-Drop : goal.returns-in-Drop
returns-in-Drop c =
    sym (ap (λ (b : Bool). cond b c.args.r.index c.args.version) (sets-by c.args.r c.args.r.command ∙ ap not_bench c.in-Drop.is))

pub returns-in-Register : goal.returns-in-Register
returns-in-Register c =
    sym (ap (λ (b : Bool). cond b c.args.r.index c.args.version) (sets-by c.args.r c.args.r.command ∙ ap not_bench c.in-Register.is))

pub returns-in-MarkNodeDead : goal.returns-in-MarkNodeDead
returns-in-MarkNodeDead c =
    sym (ap (λ (b : Bool). cond b c.args.r.index c.args.version) (sets-by c.args.r c.args.r.command ∙ ap not_bench c.in-MarkNodeDead.is))

pub returns-in-OfShard : goal.returns-in-OfShard
returns-in-OfShard c =
    sym (ap (λ (b : Bool). cond b c.args.r.index c.args.version) (sets-by c.args.r c.args.r.command ∙ ap not_bench c.in-OfShard.is))

pub returns-in-Bench : goal.returns-in-Bench
returns-in-Bench c =
    sym (ap (λ (b : Bool). cond b c.args.r.index c.args.version) (sets-by c.args.r c.args.r.command ∙ ap not_bench c.in-Bench.is))
