-- A Replicate that was read, past 21 and 22, and what is told of an entry that is not the next. Definitions only.
use Rattle.std.specs.Prelude.{ℕ, ◌+◌, ◌≡◌, true, cond, List, leb}
use Rattle.spec.specs.Keys.{Key}
use Rattle.spec.specs.Node.Wire.{op_in_domain}
use Rattle.wire_read.specs.declared.ReplicatePart.{ReplicatePart}
use Rattle.wire_write.specs.declared.Reply.{Reply}
use Rattle.wire_write.specs.declared.Reply.TheVariants as R
use Rattle.log_arrive.specs.Parts.{op_in}
use Rattle.map_names.specs.Texts.{key_in}
use Rattle.node_log_backup.specs.Backs.{IsReplicate}

-- its parts, and the key that it names
pub record Asked (m : List ℕ) (p : ReplicatePart) (k : Key) : Type 0 where
  pub read : IsReplicate m p
  pub inside : op_in_domain (op_in m p.op) ≡ true
  pub named : k ≡ key_in m p.key

-- it is there already, or there is a gap before it
abbrev pub laid : (offset last : ℕ) → Reply
laid offset last = cond (leb offset last) (R.Stored (record { 0 = last })) (R.Gap (record { 0 = last + 1 }))
