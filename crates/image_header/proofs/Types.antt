-- What the code's types say of a header that a function is handed: numbers fit, arrays are as long as declared. Assumes nothing.
use Prim.Native.Nat.{ℕ, ◌^◌, ◌≤◌, ◌<◌}
use mathlib.Core.Bool.{Bool, true, false}
use mathlib.Core.Path.{sym, ◌∙◌}
use mathlib.Core.List.{List}
use lib.ListN.{length-map}
use native.Mathlib.Omega.{arith}
use mir.Val.{Val}
use denote.Laws.{Is}
use denote.Struct.Declared.{row, field}
use denote.Enum.Declared as enum
use Rattle.spec_laws.proofs.Wire.Data.{metric_below}
use Rattle.spec.specs.declared.Peer.{Peer}
use Rattle.spec.specs.declared.Role.{Role}
use Rattle.spec.specs.declared.Role.TheVariants.{Backup, Primary}
use Rattle.spec.specs.contracts.Peer as ofPeer
use Rattle.spec.specs.contracts.Role as ofRole
use denote.Builtin.{u64}
use Rattle.std.specs.contracts.option.Option as of_option
use Rattle.std.specs.Prelude.{Option}
use Rattle.std.specs.Prelude.{None, Some}
use Rattle.node_shard.specs.declared.Held.{Held}
use Rattle.node_shard.specs.contracts.Held as ofHeld
use Rattle.node_header.specs.declared.HeldRow.{HeldRow}
use Rattle.node_header.specs.declared.Node.{Node}
use Rattle.node_header.specs.contracts.HeldRow as ofHeldRow
use Rattle.node_header.specs.contracts.Node as of_node
use Rattle.image_parts.specs.Shape.{Good}
use Rattle.image_parts.proofs.CodeLaws.{flag_small}
use Rattle.image_parts.proofs.Types.{rows_good, key_good, replicas_good}
use Rattle.image_parts.proofs.Tidied.{all_take, all_mapped}
use Rattle.image_header_row.specs.Rows.{weigh, peer_flags, peer_f, peer_value, role_f, role_value, held_f, held_value, held_row_f, held_row_value, expiry_time}
use Rattle.image_header.proofs.Tidy.{HeldRowFits}
use Rattle.image_header.proofs.Back.{Fits}

weigh-most : (b : Bool) (w : ℕ) → weigh b w ≤ w
weigh-most false w = omega arith
weigh-most true w = omega arith

flags_small : (p : Peer) → peer_flags p < 16
flags_small p = omega (arith, weigh-most p.aligned 1, weigh-most p.behind 2, weigh-most p.proposing 4, weigh-most p.member 8)

peer_good : (p : Peer) (vs : List Val) → Is (row ofPeer.the_type) p vs → Good peer_f (peer_value p)
peer_good p vs q =
    let f = flags_small p in
    ((((q.1.1.0.1.1.0.1, q.1.1.1.0.1.1.0.1), q.1.1.1.1.1.1.0.1), omega arith), omega arith)

role_good : (r : Role) (vs : List Val) → Is (enum.row ofRole.the_type) r vs → Good role_f (role_value r)
role_good Backup vs p = ((omega arith, omega arith), omega arith)
role_good (Primary e o) vs p = ((omega arith, p.1.1.1.1.0.1.1.0.1), p.1.1.1.1.1.0.1.1.0.1)

held_good : (h : Held) (vs : List Val) → Is (row ofHeld.the_type) h vs → Good held_f (held_value h)
held_good h vs p =
    let m = metric_below h.metric in
    let o = flag_small h.own in
    let peers = rows_good (ofPeer.the_row).own_val peer_f peer_value peer_good 32 h.peers _ p.1.1.1.1.1.1.1.1.1.0 in (
      (
        (
          ((((((p.1.1.0.1.1.0.1, p.1.1.1.1.0.1), p.1.1.1.1.1.1.1.1.0.1), p.1.1.1.1.1.1.1.1.1.1.0.1), omega arith), omega arith), omega arith),
          role_good h.role _ p.1.1.1.1.1.0,
        ),
        replicas_good h.replicas _ p.1.1.1.1.1.1.1.0,
      ),
      peers,
    )

kept_good : (x : HeldRow) (vs : List Val) → Is (row ofHeldRow.the_type) x vs → HeldRowFits x
kept_good x vs p =
    ((((key_good x.key _ p.1.1.0, omega arith), p.1.1.1.0.1), p.1.1.1.1.0.1), held_good x.held _ p.1.1.1.1.1.0)

expiry_good : (e : Option ℕ) (vs : List Val) → Is (of_option.the_field u64).row ((of_option.the_field u64).into e) vs → expiry_time e < 256 ^ 8
expiry_good None vs p = omega arith
expiry_good (Some t) vs p = p.1.1.1.1.0.1

pub node-fits : (n : Node) (vs : List Val) → Is (row of_node.the_type) n vs → Fits n
node-fits n vs p =
    let rows = rows_good (ofHeldRow.the_row).own_val held_row_f held_row_value kept_good 8 n.held _ p.1.1.1.1.1.1.0 in
    record {
      id = p.1.1.0.1.1.0.1;
      incarnation = p.1.1.1.0.1;
      version = p.1.1.1.1.1.0.1;
      expiry = expiry_good n.expiry _ p.1.1.1.1.0;
      long = sym (length-map n.held held_row_value) ∙ rows.0;
      rows = all_take HeldRowFits n.count n.held (all_mapped (Good held_row_f) held_row_value n.held rows.1);
    }
