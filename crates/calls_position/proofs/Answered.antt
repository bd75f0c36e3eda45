-- What a call answers, by how its turning ended and by the room. Assumes nothing.
use Prim.Native.Nat.{ℕ, ◌≤◌, ◌<◌}
use mathlib.Core.Path.{◌≡◌, refl, sym, subst}
use mathlib.Core.List.{List}
use borrow.Author.Tests.{le-leb, lt-leb}
use lib.ListN.{length}
use lib.Seq.{sets}
use Rattle.spec_position.specs.Positions.{Turned, turned, out_of_range, no_thousandth}
use Rattle.calls_position.specs.Calls.{written, Answers}

module _ {A : Type 0} (f : A → List ℕ) (x : Turned A) (s : List ℕ) where
  pub answers_30 : x ≡ out_of_range → Answers (written f x) s s 30
  answers_30 e = subst (λ (y : Turned A). Answers (written f y) s s 30) (sym e) (record { number = refl; bytes = refl })

  pub answers_31 : x ≡ no_thousandth → Answers (written f x) s s 31
  answers_31 e = subst (λ (y : Turned A). Answers (written f y) s s 31) (sym e) (record { number = refl; bytes = refl })

  module _ (y : A) (e : x ≡ turned y) where
    pub answers_23 : length s < length (f y) → Answers (written f x) s s 23
    answers_23 h = subst (λ (z : Turned A). Answers (written f z) s s 23) (sym e)
        (record { number = rw (lt-leb (length (f y)) (length s) h) refl; bytes = rw (lt-leb (length (f y)) (length s) h) refl })

    pub answers : (t : List ℕ) → length (f y) ≤ length s → t ≡ sets s 0 (f y) → Answers (written f x) s t 0
    answers t h p = subst (λ (z : Turned A). Answers (written f z) s t 0) (sym e)
        (record { number = rw (le-leb (length (f y)) (length s) h) refl; bytes = rw (le-leb (length (f y)) (length s) h) p })
