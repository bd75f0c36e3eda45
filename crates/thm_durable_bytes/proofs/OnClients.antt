-- A client's Write and Search on a node's images are runs of `spec_run`. Assumes nothing.
use Prim.Native.Nat.{ℕ}
use mathlib.Core.Path.{◌≡◌, refl, sym, ap, ◌∙◌}
use mathlib.Core.Bool.{true, false}
use mathlib.Core.List.{List}
use mathlib.Core.Option.{Option, none, some}
use lib.Dec.{eqb}
use Rattle.spec.specs.Refusals.{Refusal, malformed}
use Rattle.spec.specs.Layout.Message as message
use Rattle.spec.specs.Node.Held as held
use Rattle.spec.specs.Node.Shards.{Result}
use Rattle.spec.specs.Node.Client as client
use Rattle.spec.specs.Node.Calls.{call_write}
use Rattle.spec_run.specs.State.{State, set_node, set_writes}
use Rattle.spec_run.specs.Event.{client_writes, client_searches}
use Rattle.spec_run.specs.Rules.{allowed}
use Rattle.spec_run.specs.Step.{record_write, on_write, step}
use Rattle.image_node.specs.State.{state_at}
use Rattle.thm_durable.proofs.Simulated.{Simulated, nothing}
use Rattle.thm_durable.proofs.Seen.{Beside}
use Rattle.thm_durable_bytes.specs.Cluster.{Cluster, seen, InMemory}
use Rattle.thm_durable_bytes.specs.Calls.{beside, offset_in, write_said, Writes, Called}
use Rattle.thm_durable_bytes.proofs.Seen.{left-node}
use Rattle.thm_durable_bytes.proofs.Ways.{called, turned_away}
use Rattle.thm_durable_bytes.proofs.Written.{Way, refused, taken, way}

-- ---- what the host does with the number and the offset

write-beside : (s : State) (n : ℕ) (m : Option message.Write) (o : Option ℕ) → Beside s (write_said s n m o)
unfolding record_write set_writes
write-beside s n none none = record { map = refl; nodes = refl; clients = refl }
write-beside s n none (some o) = record { map = refl; nodes = refl; clients = refl }
write-beside s n (some m) none = record { map = refl; nodes = refl; clients = refl }
write-beside s n (some m) (some o) = record { map = refl; nodes = refl; clients = refl }

module _ (s : State) (n : ℕ) (m : Option message.Write) (r : ℕ) (answer : List ℕ) where
  not_recorded : eqb r 0 ≡ false → write_said s n m (offset_in r answer) ≡ s
  not_recorded e = rw e

  is_recorded : (o : ℕ) → r ≡ 0 → beside answer ≡ o → write_said s n m (offset_in r answer) ≡ record_write s n m (client.accepted o)
  is_recorded o e f = ap (λ (i : ℕ). write_said s n m (offset_in i answer)) e ∙ ap (λ (i : ℕ). record_write s n m (client.accepted i)) f

refused-keeps : (s : State) (n : ℕ) (m : Option message.Write) (r : Refusal) → record_write s n m (client.write_refused r) ≡ s
unfolding record_write
refused-keeps s n none r = refl
refused-keeps s n (some m) r = refl

-- ---- Write

module _ (d f : Cluster) (mem : InMemory d) (n now least : ℕ) (m : List ℕ) (may : allowed (seen d) (client_writes n now least m) ≡ true) (c : Writes d n now least m f)
  where
    abbrev h : List ℕ
    h = d.headers n

    abbrev s : List ℕ
    s = d.stores n

    abbrev y : Result client.WriteAnswer held.Node
    y = call_write (state_at h s) now least m

    abbrev read : Option message.Write
    read = message.decode_write m

    abbrev left : held.Node → State
    left x = set_node (seen d) n x

    to_end : seen f ≡ write_said (left (state_at c.0 c.1)) n read (offset_in c.6 c.3)
    to_end =
        left-node d f n (λ x. write_said x n read (offset_in c.6 c.3)) (λ x. write-beside x n read (offset_in c.6 c.3)) c.0 c.1 c.8

    without : (r : Refusal) → Simulated (seen d) (record_write (seen d) n read (client.write_refused r))
    without r = nothing (seen d) (record_write (seen d) n read (client.write_refused r)) (sym (refused-keeps (seen d) n read r))

    wrote : Way h s c.0 c.1 c.3 c.6 y → Simulated (seen d) (seen f)
    unfolding step on_write seen
    wrote (refused z header stores) =
        turned_away client.write_refused (seen d) n y (λ a x. record_write x n read a) (client_writes n now least m) may refl without (seen f) malformed
        (to_end
        ∙ not_recorded (left (state_at c.0 c.1)) n read c.6 c.3 z
        ∙ ap (λ (l : List ℕ). left (state_at l c.1)) header ∙ ap (λ (l : List ℕ). left (state_at h l)) stores
        ∙ sym (refused-keeps (left (state_at h s)) n read malformed))
    wrote (taken x way o is after offset z) =
        called client.write_refused (seen d) n y (λ a x. record_write x n read a) (client_writes n now least m) may refl without (seen f) x way
        (to_end
        ∙ is_recorded (left (state_at c.0 c.1)) n read c.6 c.3 o z offset
        ∙ ap (λ (u : held.Node). record_write (left u) n read (client.accepted o)) after
        ∙ ap (record_write (left x.after) n read) (sym is))

    pub on-write : Simulated (seen d) (seen f)
    on-write = wrote (way h s c.0 c.1 c.2 c.3 m now least c.6 (mem.stores n) c.4 c.7.ends)

-- ---- Search: it changes nothing

pub on_search_lem : (d f : Cluster) (n now space : ℕ) (m : List ℕ) → Called d (client_searches n now space m) f → Simulated (seen d) (seen f)
unfolding Called
on_search_lem d f n now space m c = nothing (seen d) (seen f) (sym (ap seen c.8))
