-- An entry of 22 as a writer is handed it.
use Rattle.spec.specs.Layout.Parts.{WireOp, WireEntry}
use Rattle.spec.specs.declared.Epoch.{Epoch}
use Rattle.spec.specs.declared.Offset.{Offset}

abbrev pub entry_given : Epoch → Offset → WireOp → WireEntry
entry_given epoch offset op = record { epoch = epoch.0; offset = offset.0; op = op }
