-- A map's image that only the engine's calls have written is never malformed (include/catalogue.h), whatever bytes the requests are. Assumes
-- nothing.
use Prim.Native.Nat.{ℕ, ◌≤◌}
use mathlib.Core.Path.{◌≡◌, refl, sym, ap, subst, ◌∙◌}
use mathlib.Core.Bool.{Bool, true, cond}
use mathlib.Core.List.{List, [], ◌∷◌}
use mathlib.Core.Option.{Option, none, some}
use lib.ListN.{length}
use native.Mathlib.Omega.{arith}
use borrow.Author.Tests.{le-ltb}
use Rattle.spec.specs.Lists.{◌and◌, every, rising}
use Rattle.spec.specs.Refusals.{malformed}
use Rattle.spec.specs.Layout.Format.{All}
use Rattle.spec.specs.Layout.Request.{Request, decode_request}
use Rattle.spec.specs.Map.Tables.{empty_map}
use Rattle.spec.specs.Map.Apply.{Applied, apply}
use Rattle.spec.specs.Map.Calls.{reason_number, refused_with}
use Rattle.spec.specs.Map.WellFormed.{well_formed_map, table_fits}
use Rattle.map_tables.specs.View.{view_map}
use Rattle.map_tables.specs.declared.ShardMap.{ShardMap}
use Rattle.map_check.specs.Lent.{table_counted, counted, well_formed_lent}
use Rattle.map_apply.specs.Calls.{apply_lent}
use Rattle.image_map.specs.Image.{map_at, image_map}
use Rattle.calls_map.specs.Calls.{AppliesTo, Empties}
use Rattle.thm_map_never_malformed.specs.Calls.{Intact, Answered, Calls, NotMalformed}
use Rattle.thm_map_never_malformed.proofs.Never.{apply_never}

-- ---- one call

pub empty-formed : well_formed_lent (image_map empty_map) ≡ true
unfolding well_formed_lent counted table_counted well_formed_map table_fits ◌and◌ every rising
empty-formed = refl

-- an empty map is intact
pub emptied : (s t : List ℕ) (r : ℕ) → 26536 ≤ length s → Empties s t r → Intact t
emptied s t r h e =
    let b = (e.long (le-ltb (length s) 26536 h)).becomes in
    record { lent = b.lent; formed = ap well_formed_lent b.held ∙ empty-formed }

-- a map that passes its test is not called malformed
lent_never : (m : ShardMap) (o : Option Request) → well_formed_lent m ≡ true → reason_number (apply_lent m o).answer ≡ 24 → ⊥
lent_never m none w e = omega arith
lent_never m (some r) w e =
    apply_never (view_map m) r
    (sym (ap (λ (b : Bool). reason_number (cond b (apply (view_map m) r) (refused_with (view_map m) malformed)).answer) w) ∙ e)

module _ (s t bytes : List ℕ) (r : ℕ) (i : Intact s) (c : AppliesTo s t bytes r) where
  pub stays : Intact t
  stays = let x = c.lent i.lent in record { lent = x.lent; formed = x.formed i.formed }

  pub never : r ≡ 24 → ⊥
  never e = lent_never (map_at s) (decode_request bytes) i.formed (sym (c.lent i.lent).answer ∙ e)

-- ---- any list of calls

pub stays_intact : (calls : List Answered) (s t : List ℕ) → Intact s → Calls calls s t → Intact t × All NotMalformed calls
unfolding Calls
stays_intact [] s t i c = (subst Intact (sym c) i, tt)
stays_intact (a ∷ calls) s t i c =
    let u = c.0 in
    let rest = stays_intact calls u t (stays s u a.request a.number i c.1) c.2 in
    (rest.0, (never s u a.request a.number i c.1, rest.1))

-- from any buffer of its size on: an empty map, then requests of any bytes
pub never_malformed : (calls : List Answered) (b s t : List ℕ) (r : ℕ) → 26536 ≤ length b → Empties b s r → Calls calls s t
    → Intact t × All NotMalformed calls
never_malformed calls b s t r h e c = stays_intact calls s t (emptied b s r h e) c
