use Rattle.wire_caller.proofs.CallerLaws.{plain-left}
use Rattle.wire_caller.proofs.put_plain.Goals as goal

-- src/lib.rt:63:1
pub returns : goal.returns
returns c =
    let a = c.args in
    plain-left a.s.now a.out.now c.requires _ c.first_code-code.ensures _ c.put_byte.ensures _ c.put_bytes.ensures
