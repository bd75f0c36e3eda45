-- A Write as the parts of the call hand it on. Definitions only.
use Rattle.std.specs.Prelude.{ℕ, ◌≡◌, true, false, List}
use Rattle.spec.specs.Keys.{Key}
use Rattle.spec.specs.Node.Wire.{op_in_domain}
use Rattle.spec.specs.Node.Calls.{late_time}
use Rattle.wire_read.specs.declared.WritePart.{WritePart}
use Rattle.log_arrive.specs.Parts.{op_in}
use Rattle.map_names.specs.Texts.{key_in}
use Rattle.node_write.specs.ClientWrites.{IsWrite}

-- a Write that was read, past 21 and 22, and the key that it names
pub record Asked (m : List ℕ) (p : WritePart) (k : Key) (clock : ℕ) : Type 0 where
  pub early : late_time clock ≡ false
  pub read : IsWrite m p
  pub inside : op_in_domain (op_in m p.op) ≡ true
  pub named : k ≡ key_in m p.key
