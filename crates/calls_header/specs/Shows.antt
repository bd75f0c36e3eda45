-- What a map shown over images promises: 24 as every call, then the contract of the call on the header and the map that the bytes are read
-- as, and from its answer the number and every byte after of the three buffers. Definitions only.
use Rattle.std.specs.Prelude.{ℕ, ◌+◌, Bool, true, false, ◌≡◌, List, [], ◌∷◌, ◌++◌, take}
use Rattle.spec.specs.Lists.{◌and◌}
use Rattle.spec.specs.Layout.Format.{bytes_of, encode, concat_map}
use Rattle.spec.specs.Layout.Parts.{key_f, key_value, metric_code}
use Rattle.spec.specs.Node.Held as held
use Rattle.spec.specs.Node.Shards.{Result}
use Rattle.spec.specs.Node.Shown as show
use Rattle.spec.specs.Node.Calls as calls
use Rattle.map_tables.specs.View.{view_map}
use Rattle.map_check.specs.Lent.{well_formed_lent}
use Rattle.node_header.specs.declared.Node.{Node}
use Rattle.node_header.specs.View.{Stores, view_node}
use Rattle.node_header.specs.Formed.{lent_node}
use Rattle.node_header.specs.Slots.{slots_of}
use Rattle.node_show.specs.declared.NodeShown.{NodeShown}
use Rattle.node_show.specs.declared.ShownAnswer.{ShownAnswer}
use Rattle.node_show.specs.declared.ShownAnswer.TheVariants as S
use Rattle.node_show.specs.Slots.{slots_after}
use Rattle.node_show.specs.Shows.{view_starts}
use Rattle.node_hear.specs.Hears.{HearsMap}
use Rattle.image_header.specs.Image.{header_lent, node_at}
use Rattle.image_map.specs.Image.{map_lent, map_at}
use Rattle.calls_header.specs.Asked.{Asked, Becomes}
use Rattle.calls_header.specs.Leaves.{Leaves, Stays, ShownFormed}
use Rattle.calls_header.specs.Waits.{Left, left, rows_room, rows_put}

-- a worker to start, 54 bytes: its key as on the wire, the peer, the epoch, the metric's code
abbrev pub worker_bytes : show.Worker → List ℕ
worker_bytes w = ((encode key_f (key_value w.key) ++ bytes_of 8 w.peer.0) ++ bytes_of 8 w.epoch) ++ (metric_code w.metric ∷ [])

abbrev pub start_bytes : List show.Worker → List ℕ
start_bytes l = concat_map worker_bytes l

-- 0 shown; a refusal its number alone
abbrev pub show_said : ShownAnswer → (header starts answer : List ℕ) → List show.Worker → Node → Left
show_said S.Shown s p a l n = rows_put worker_bytes 54 0 s p a l n
show_said (S.Refused k) s p a l n = left k s p a

abbrev pub show_left : (header starts answer : List ℕ) → NodeShown → Left
show_left s p a r = show_said r.answer s p a (view_starts (take r.count r.starts)) r.node

-- the header is written back: the map was not refused, and there is room for the workers
abbrev pub is_shown : ShownAnswer → Bool
is_shown S.Shown = true
is_shown (S.Refused k) = false

abbrev pub show_writes : (starts answer : List ℕ) → NodeShown → Bool
show_writes p a r = is_shown r.answer and rows_room worker_bytes 54 p a (view_starts (take r.count r.starts))

-- internal: what a map shown puts where the host looks for it
pub record ShowPut (s t p q a b : List ℕ) (x : NodeShown) (r : ℕ) : Type 0 where
  pub buffers : left r t q b ≡ show_left s p a x
  pub becomes : show_writes p a x ≡ true → Becomes s t x.node

-- the specification's map shown, on the header and the map that the bytes are read as; the node after it, and the slots of its shards
abbrev pub shown_call : (s m : List ℕ) → (fresh : ℕ) → Stores → Result show.ShownAnswer held.Node
shown_call s m fresh st =
    calls.shown_with (lent_node st (node_at s) and well_formed_lent (map_at m)) (view_node st (node_at s)) fresh (view_map (map_at m))

abbrev pub shown_after : (s m : List ℕ) → (fresh : ℕ) → Stores → held.Node
shown_after s m fresh st = (shown_call s m fresh st).after

abbrev pub shown_slots : (s m : List ℕ) → (fresh : ℕ) → Stores → List ℕ
shown_slots s m fresh st = slots_after (view_node st (node_at s)) (slots_of (node_at s)) (shown_after s m fresh st)

-- the header's image holds s before and t after, `starts` p and q, `answer` a and b; the map's holds m
pub record ShowsImage (s t m p q a b : List ℕ) (fresh r : ℕ) : Type 0 where
  pub after : NodeShown
  pub call : HearsMap (node_at s) (map_at m) fresh after
  pub buffers : left r t q b ≡ show_left s p a after
  pub leaves : show_writes p a after ≡ true → Leaves s t (shown_after s m fresh) (shown_slots s m fresh)
  pub stays : is_shown after.answer ≡ false → Stays s t (shown_after s m fresh)
  pub formed : ShownFormed s t (shown_after s m fresh)

abbrev pub Shows : (s t m p q a b : List ℕ) → (fresh r : ℕ) → Type 0
Shows s t m p q a b fresh r =
    Asked false (header_lent s and map_lent m) r ((t ≡ s) × (q ≡ p) × (b ≡ a)) (ShowsImage s t m p q a b fresh r)
