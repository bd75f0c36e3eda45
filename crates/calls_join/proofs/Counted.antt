-- The count of the answers, or the refusal in its place. Assumes nothing.
use Prim.Native.Nat.{ℕ}
use mathlib.Core.Path.{◌≡◌, subst}
use mathlib.Core.List.{List}
use native.Mathlib.Omega.{arith}
use Rattle.std.specs.Prelude.{Option, Some, None, Ok, Err, ok_or}
use Rattle.std.proofs.Math.Option.{none}
use Rattle.spec_join.specs.Answers.{answers_in}
use Rattle.calls_join.specs.View.{Stand, Counts}
use Rattle.calls_join.specs.declared.Refusal.{Refusal}
use Rattle.calls_join.specs.declared.Refusal.TheVariants.{Undecodable}

pub stood : (s : List ℕ) (o : Option ℕ) (n : ℕ) → Counts s o → ok_or {E = Refusal} o Undecodable ≡ Ok n → Stand s n 0
stood s None n p e = absurd (grind arith)
stood s (Some m) n p e = let q : m ≡ n = grind arith in subst (λ (k : ℕ). Stand s k 0) q p

pub not_stood : (s : List ℕ) (o : Option ℕ) (why : Refusal) → Counts s o → ok_or o Undecodable ≡ Err why → (answers_in s ≡ none) × (why ≡ Undecodable)
not_stood s None why p e = let q : why ≡ Undecodable = grind arith in (p, q)
not_stood s (Some m) why p e = absurd (grind arith)
