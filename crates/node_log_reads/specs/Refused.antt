-- Why a call is refused, by the paper's words ('Who is turned down'). Definitions only.
use Rattle.spec.specs.Refusals as said
use Rattle.node_log_reads.specs.declared.Refusal.{Refusal}
use Rattle.node_log_reads.specs.declared.Refusal.TheVariants.{Malformed, NoRoom}

abbrev pub refusal_of : Refusal → said.Refusal
refusal_of Malformed = said.malformed
refusal_of NoRoom = said.no_room
