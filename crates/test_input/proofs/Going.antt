-- The loop over the requests at hand: the lines so far, and what is left to apply, come to the lines, the map and the place of all.
-- Assumes nothing.
use Prim.Native.Nat.{ℕ, zero, suc, ◌+◌, ◌≤◌}
use mathlib.Core.Path.{◌≡◌, refl, sym, ap, subst, ◌∙◌}
use mathlib.Core.Bool.{Bool, true, false}
use mathlib.Core.List.{List, [], ◌∷◌, ◌++◌, append_assoc, append-nil}
use mathlib.Core.Option.{Option, none, some}
use native.Mathlib.Omega.{arith}
use lib.ListN.{length}
use Rattle.spec.specs.Map.Tables as tables
use Rattle.spec.specs.Map.Calls.{Line, line_of, apply_call, requests_from, requests_in, end_in, lines_for, map_after}
use Rattle.spec.specs.Layout.Request as request
use Rattle.spec.specs.Layout.Parts.{whenever}
use Rattle.map_tables.specs.View.{view_request}
use Rattle.map_request.specs.Read.{LoadedAt}
use Rattle.map_request.specs.declared.Loaded.{Loaded}
use Rattle.test_lines.specs.Words.{view_line}
use Rattle.test_lines.specs.declared.Line as own
use Rattle.test_input.specs.Stream.{map_in, Stepped}

-- those that are read from a place on, applied to m behind the lines ls, come to what all of them come to, applied to m₀
pub record Left (s : List ℕ) (m₀ m : tables.Map) (ls : List Line) (t : List request.Request × ℕ) : Type 0 where
  pub lines : ls ++ lines_for m t.0 ≡ lines_for m₀ (requests_in s)
  pub map : map_after m t.0 ≡ map_after m₀ (requests_in s)
  pub place : t.1 ≡ end_in s

pub record Going (s : List ℕ) (m₀ m : tables.Map) (at : ℕ) (ls : List Line) : Type 0 where
  pub fuel : ℕ
  pub enough : length s ≤ fuel + at
  pub left : Left s m₀ m ls (requests_from fuel s at (request.request_at s at))

pub record Ended (s : List ℕ) (m₀ m : tables.Map) (at : ℕ) (ls : List Line) : Type 0 where
  pub lines : ls ≡ lines_for m₀ (requests_in s)
  pub map : m ≡ map_after m₀ (requests_in s)
  pub place : at ≡ end_in s

pub starts : (s : List ℕ) (m : tables.Map) → Going s m m 0 []
unfolding requests_in end_in
starts s m = record { fuel = length s; enough = omega arith; left = record { lines = refl; map = refl; place = refl } }

module _ (s : List ℕ) (m₀ m : tables.Map) (ls : List Line) where
  no_more : (n at : ℕ) → Left s m₀ m ls (requests_from n s at none) → Ended s m₀ m at ls
  unfolding requests_from lines_for map_after
  no_more zero at l = record { lines = sym (append-nil ls) ∙ l.lines; map = l.map; place = l.place }
  no_more (suc n) at l = record { lines = sym (append-nil ls) ∙ l.lines; map = l.map; place = l.place }

  -- where no request stands
  pub ended : (at : ℕ) → Going s m₀ m at ls → request.request_at s at ≡ none → Ended s m₀ m at ls
  ended at g e =
      no_more g.fuel at
      (subst (λ (o : Option (request.Request × ℕ)). Left s m₀ m ls (requests_from g.fuel s at o)) e g.left)

  -- where one stands
  module _ (at : ℕ) (r : request.Request) (end : ℕ) (later : at + 25 ≤ end) (inside : end ≤ length s) where
    on : (n : ℕ) → length s ≤ n + at → Left s m₀ m ls (requests_from n s at (some (r, end)))
        → Going s m₀ (apply_call m r).map end (ls ++ (line_of r.index (apply_call m r) ∷ []))
    unfolding requests_from lines_for map_after
    on zero h l = absurd (omega arith)
    on (suc n) h l = record {
      fuel = n;
      enough = omega arith;
      left = record { lines = append_assoc ls (line_of r.index (apply_call m r) ∷ []) _ ∙ l.lines; map = l.map; place = l.place };
    }

    pub going_on : Going s m₀ m at ls → request.request_at s at ≡ some (r, end) → Going s m₀ (apply_call m r).map end (ls ++ (line_of r.index (apply_call m r) ∷ []))
    going_on g e =
        on g.fuel g.enough (subst (λ (o : Option (request.Request × ℕ)). Left s m₀ m ls (requests_from g.fuel s at o)) e g.left)

-- ---- by what was read

module _ (s : List ℕ) (at : ℕ) (l : Loaded) (h : LoadedAt s at l) where
  pub not_there : l.found ≡ false → request.request_at s at ≡ none
  not_there e = h.read ∙ ap (λ (b : Bool). whenever b (view_request l.request h.padding, l.next)) e

  there : l.found ≡ true → request.request_at s at ≡ some (view_request l.request h.padding, l.next)
  there e = h.read ∙ ap (λ (b : Bool). whenever b (view_request l.request h.padding, l.next)) e

  pub stepped-on : (m₀ : tables.Map) (u v : List ℕ) (ls : List Line) (x : own.Line) → l.found ≡ true → Going s m₀ (map_in u) at ls → Stepped u v l.request x
      → Going s m₀ (map_in v) l.next (ls ++ (view_line x ∷ []))
  stepped-on m₀ u v ls x e g t =
      let r = view_request l.request h.padding in
      let w = going_on s m₀ (map_in u) ls at r l.next (h.passes e) (h.inside e) g (there e) in
      subst (λ (z : tables.Map). Going s m₀ z l.next (ls ++ (view_line x ∷ []))) (sym (t.map h.padding))
      (subst (λ (y : Line). Going s m₀ (apply_call (map_in u) r).map l.next (ls ++ (y ∷ []))) (sym (t.line h.padding)) w)
