-- A row of a header in two parts: all but the peers, and the peers. Definitions only.
use Rattle.std.specs.Prelude.{ℕ, List, ◌++◌}
use Rattle.spec.specs.Layout.Format.{bytes_of}
use Rattle.spec.specs.Layout.Parts.{metric_code}
use Rattle.node_header.specs.declared.HeldRow.{HeldRow}
use Rattle.image_parts.specs.Parts.{key_bytes, replicas_bytes}
use Rattle.image_parts.specs.Codes.{flag_code}
use Rattle.image_header_row.specs.Rows.{role_bytes}

abbrev pub counts_bytes : (slot stored epoch last holders count metric own : ℕ) → List ℕ
counts_bytes slot stored epoch last holders count metric own =
    ((((((bytes_of 8 slot ++ bytes_of 8 stored) ++ bytes_of 8 epoch) ++ bytes_of 8 last) ++ bytes_of 8 holders) ++ bytes_of 8 count) ++ bytes_of 4 metric)
    ++ bytes_of 4 own

unfoldable pub front_bytes : HeldRow → List ℕ
front_bytes x =
    ((((key_bytes x.key ++ bytes_of 4 0)
    ++ counts_bytes x.slot x.stored x.held.epoch.0 x.held.last x.held.holders x.held.count (metric_code x.held.metric) (flag_code x.held.own))
    ++ bytes_of 4 0)
    ++ role_bytes x.held.role)
    ++ replicas_bytes x.held.replicas
