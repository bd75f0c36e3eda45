use native.Mathlib.Omega.{arith}
use mathlib.Core.Path.{sym, ◌∙◌}
use Rattle.image_header.specs.Image.{node_at}
use Rattle.image_header_set.specs.Version.{version_set}
use Rattle.image_map.specs.Image.{map_at}
use Rattle.image_show.proofs.MapRows.{version_is}
use Rattle.calls_show.specs.Shown.{no_starts}
use Rattle.calls_show.proofs.Quiet.{quiet_taken}
use Rattle.calls_show.proofs.show.take.Goals as goal

pub get8-version-requires : goal.get8-version-requires
get8-version-requires c = let p = c.requires.2.long in omega arith

pub is_quiet-requires : goal.is_quiet-requires
is_quiet-requires c = (c.requires.0, c.requires.1, c.requires.2.long, c.requires.2.tables)

pub note-requires : goal.note-requires
note-requires c = c.requires.0

pub returns-then-is_quiet : goal.returns-then-is_quiet
returns-then-is_quiet c =
    record { after = no_starts (version_set (node_at c.args.header.now) c.get8-version.result); call = quiet_taken (node_at c.args.header.now) (map_at c.args.map.now) c.requires.1 (c.is_quiet.ensures c.if-is_quiet.true) c.get8-version.result (c.get8-version.ensures ∙ sym (version_is c.args.map.now)); put = c.note.ensures c.args.starts.now }

pub change-requires : goal.change-requires
change-requires c = c.requires

pub returns : goal.returns
returns c = c.change.ensures
