-- What the program's functions ask of a part before they show its items (paper 01, 'Bytes on the wire'): that they
-- stand in the message. proofs/Held.antt shows it of every message that the reader answers.
use Rattle.std.specs.Prelude.{ℕ, ◌+◌, ◌*◌, ◌≤◌, ◌≡◌, true, List, length}
use Rattle.spec.specs.Layout.Format.{Format, many, fits, fits_n, next}
use Rattle.spec.specs.Layout.Parts.{u64, entry_f}
use Rattle.wire_read.specs.declared.Part.{Part}
use Rattle.wire_read.specs.declared.OpPart.{OpPart}
use Rattle.wire_read.specs.declared.OpPart.TheVariants.{Upsert, Delete}
use Rattle.wire_read.specs.declared.CommandPart.{CommandPart}
use Rattle.wire_read.specs.declared.CommandPart.TheVariants.{Create, Drop, Register, MarkNodeDead, AddReplica, Remove, Promote, Shrink, Expand, Bench}
use Rattle.wire_read.specs.declared.Message.{Message}
use Rattle.wire_read.specs.declared.Message.TheVariants.{Undecodable, Request, Replicate, NewEpoch, CopyShard, Write, Search, Stored, Gap, StaleEpoch, Adopted}

-- items of w bytes: components (4), nodes (8), pairs of a table (16)
abbrev pub Run : ℕ → List ℕ → Part → Type 0
Run w s p = p.at + p.len * w ≤ length s

-- items of a format, one after the other: lists of a placement, entries
abbrev pub Row : Format → List ℕ → Part → Type 0
Row f s p = fits_n (fits f s) (next f s) p.len p.at ≡ true

-- an Upsert's components
abbrev pub OpHeld : List ℕ → OpPart → Type 0
OpHeld s (Upsert id v) = Run 4 s v
OpHeld s (Delete id) = Unit {0}

-- a Create's placement
abbrev pub CommandHeld : List ℕ → CommandPart → Type 0
CommandHeld s (Create c) = Row (many 1 0 8 u64) s c.placement
CommandHeld s (Drop c) = Unit {0}
CommandHeld s (Register c) = Unit {0}
CommandHeld s (MarkNodeDead c) = Unit {0}
CommandHeld s (AddReplica c) = Unit {0}
CommandHeld s (Remove c) = Unit {0}
CommandHeld s (Promote c) = Unit {0}
CommandHeld s (Shrink c) = Unit {0}
CommandHeld s (Expand c) = Unit {0}
CommandHeld s (Bench c) = Unit {0}

-- the parts of a message
abbrev pub Held : List ℕ → Message → Type 0
Held s Undecodable = Unit {0}
Held s (Request p) = CommandHeld s p.command
Held s (Replicate p) = OpHeld s p.op
Held s (NewEpoch p) = Run 16 s p.table
Held s (CopyShard p) = Row entry_f s p.entries
Held s (Write p) = OpHeld s p.op
Held s (Search p) = Run 4 s p.vector
Held s (Stored n) = Unit {0}
Held s (Gap n) = Unit {0}
Held s (StaleEpoch n) = Unit {0}
Held s (Adopted n) = Unit {0}
