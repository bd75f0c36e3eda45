-- The requests of 01 as a writer is handed them.
use Rattle.std.specs.Prelude.{ℕ}
use Rattle.spec.specs.Keys.{Key}
use Rattle.spec.specs.Layout.Request.{Command, remove_replica, promote_primary, shrink_in_sync, expand_in_sync, Request}
use Rattle.wire_write.specs.declared.Change.{Change}
use Rattle.wire_write.specs.declared.Change.TheVariants.{Remove, Promote, Shrink, Expand}

abbrev pub request_given : (index client seq : ℕ) → Command → Request
request_given index client seq command = record { index = index; client = client; seq = seq; command = command }

-- 15 to 18
abbrev pub change_given : Change → Key → (node epoch : ℕ) → Command
change_given Remove k n e = remove_replica k n e
change_given Promote k n e = promote_primary k n e
change_given Shrink k n e = shrink_in_sync k n e
change_given Expand k n e = expand_in_sync k n e

abbrev pub change_code : Change → ℕ
change_code Remove = 0x15
change_code Promote = 0x16
change_code Shrink = 0x17
change_code Expand = 0x18
