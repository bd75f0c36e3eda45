-- A request applied to a map that passed the 24 test: what settling it comes to, said of the maps that the bytes are read as. Assumes nothing.
use Prim.Native.Nat.{ℕ, ◌≤◌}
use mathlib.Core.Path.{◌≡◌, refl, sym, ap, ◌∙◌}
use mathlib.Core.Bool.{Bool, true, false, cond}
use mathlib.Core.List.{List}
use mathlib.Core.Option.{some}
use lib.ListN.{length}
use borrow.Author.Tests.{le-ltb}
use Rattle.spec.specs.Layout.Format.{number_at}
use Rattle.spec.specs.Map.Tables as tables
use Rattle.spec.specs.Map.Apply.{Applied, apply}
use Rattle.spec.specs.Map.Calls.{apply_call, reason_number, refused_with}
use Rattle.spec.specs.Refusals.{malformed}
use Rattle.map_tables.specs.View.{view_request}
use Rattle.map_tables.specs.declared.Request.{Request}
use Rattle.map_check.specs.Lent.{well_formed_lent}
use Rattle.map_check.proofs.Formed.{lent-formed}
use Rattle.image_map.specs.Image.{map_at}
use Rattle.calls_map.specs.Calls.{noted, Empties}
use Rattle.calls_map.proofs.Kept.{unnoted_keeps}
use Rattle.thm_map_never_malformed.specs.Calls.{Intact}
use Rattle.thm_map_never_malformed.proofs.Intact.{emptied}
use Rattle.image_map_loads.proofs.Rows.{lent_long}
use Rattle.calls_apply.specs.Settles.{Settles}
use Rattle.calls_apply.proofs.Call.{settled-formed}
use Rattle.test_lines.specs.Words.{LineFor}
use Rattle.test_lines.specs.declared.Line.{Line}
use Rattle.test_input.specs.Stream.{map_in, Starts, Stepped}

-- ---- an empty map

pub starts-empty : (s t : List ℕ) (r : ℕ) → 26536 ≤ length s → Empties s t r → Starts t
starts-empty s t r h e = record { intact = emptied s t r h e; map = (e.long (le-ltb (length s) 26536 h)).becomes.read }

-- ---- what it comes to

module _ (s t : List ℕ) (q : Request) (r : ℕ) (i : Intact s) (x : Settles s t q r) where
  abbrev asked : List ℕ → Applied
  asked bs = apply (map_in s) (view_request q bs)

  -- 24 is not answered of a map that passes
  call-is : (bs : List ℕ) → apply_call (map_in s) (view_request q bs) ≡ asked bs
  unfolding apply_call
  call-is bs = rw (lent-formed (map_at s) i.formed)

  answered : (bs : List ℕ) → r ≡ reason_number (asked bs).answer
  answered bs = x.answer ∙ ap reason_number (x.settles.answer bs)

  -- an answer that is not remembered leaves the map as it was
  kept : (bs : List ℕ) → noted r ≡ false → (asked bs).map ≡ map_in s
  kept bs n =
      let lent : cond (well_formed_lent (map_at s)) (asked bs) (refused_with (map_in s) malformed) ≡ asked bs = rw i.formed in
      sym (ap (λ (a : Applied). a.map) lent)
      ∙ unnoted_keeps (map_at s) (some (view_request q bs)) (ap (λ (a : Applied). noted (reason_number a.answer)) lent ∙ ap noted (sym (answered bs)) ∙ n)

  pub map-after : (bs : List ℕ) → map_in t ≡ (apply_call (map_in s) (view_request q bs)).map
  map-after bs = go (noted r) refl ∙ ap (λ (a : Applied). a.map) (sym (call-is bs))
    where
      go : (b : Bool) → noted r ≡ b → map_in t ≡ (asked bs).map
      go true n = ((x.written n).becomes (lent_long s i.lent)).read ∙ x.settles.map bs
      go false n = ap map_in (x.kept n) ∙ sym (kept bs n)

  intact_after : Intact t
  intact_after = let w = settled-formed s t q r i.lent i.formed x in record { lent = w.0; formed = w.1 }

  pub room_after : 26536 ≤ length t
  room_after = lent_long t intact_after.lent

  pub stepped : (version : ℕ) (l : Line) → version ≡ number_at 8 t 0 → LineFor q.index r version l → Stepped s t q l
  unfolding map_at
  stepped version l e f = record {
    line = λ bs.
        f.is (apply_call (map_in s) (view_request q bs)) (answered bs ∙ ap (λ (a : Applied). reason_number a.answer) (sym (call-is bs)))
        (e ∙ ap (λ (m : tables.Map). m.version) (map-after bs));
    map = map-after;
    intact = intact_after;
  }
