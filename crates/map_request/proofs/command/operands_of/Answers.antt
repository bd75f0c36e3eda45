use mathlib.Core.Path.{sym, ◌∙◌, ap}
use Rattle.map_request.specs.Parts.{operands_of}
use Rattle.map_request.proofs.command.operands_of.Goals as goal

pub returns-in-Create : goal.returns-in-Create
returns-in-Create c = c.created.ensures ∙ sym (ap operands_of c.in-Create.is)

pub returns-in-Drop : goal.returns-in-Drop
returns-in-Drop c = c.named.ensures ∙ sym (ap operands_of c.in-Drop.is)

pub returns-in-Register : goal.returns-in-Register
returns-in-Register c = c.registered.ensures ∙ sym (ap operands_of c.in-Register.is)

pub returns-in-MarkNodeDead : goal.returns-in-MarkNodeDead
returns-in-MarkNodeDead c = c.dead.ensures ∙ sym (ap operands_of c.in-MarkNodeDead.is)

pub returns-in-AddReplica : goal.returns-in-AddReplica
returns-in-AddReplica c = c.added.ensures ∙ sym (ap operands_of c.in-AddReplica.is)

pub returns-in-Remove : goal.returns-in-Remove
returns-in-Remove c = c.changed.ensures ∙ sym (ap operands_of c.in-Remove.is)

pub returns-in-Promote : goal.returns-in-Promote
returns-in-Promote c = c.changed-in-Promote.ensures ∙ sym (ap operands_of c.in-Promote.is)

pub returns-in-Shrink : goal.returns-in-Shrink
returns-in-Shrink c = c.changed-in-Shrink.ensures ∙ sym (ap operands_of c.in-Shrink.is)

pub returns-in-Expand : goal.returns-in-Expand
returns-in-Expand c = c.changed-in-Expand.ensures ∙ sym (ap operands_of c.in-Expand.is)

pub returns-in-Bench : goal.returns-in-Bench
returns-in-Bench c = c.plain.ensures ∙ sym (ap operands_of c.in-Bench.is)
