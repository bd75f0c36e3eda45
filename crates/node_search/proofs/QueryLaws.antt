-- A query that is read from a message: the test of its bits, and the floats that they are. Assumes nothing.
use Prim.Native.Nat.{ℕ, ◌+◌, ◌≤◌, ◌<◌}
use mathlib.Core.Path.{◌≡◌, refl, sym, ap, ◌∙◌}
use mathlib.Core.Bool.{Bool, true, false, cond}
use mathlib.Core.List.{List, [], ◌∷◌, map}
use native.Mathlib.Omega.{arith}
use lib.Ieee.{Float, binary32}
use lib.Ieee.Bits.{of_bits-fits}
use lib.ListN.{length, get_or, take, drop, set}
use lib.Seq.{take_all}
use Rattle.spec.specs.Lists.{every}
use Rattle.spec.specs.Nearest.Order.{bits_in_domain}
use Rattle.spec.specs.Node.Wire.{float_of, floats_of, patterns_in_domain}
use Rattle.spec.specs.Node.WellFormed.{component, well_formed_vector}
use Rattle.spec_laws.proofs.Lists.{not_both}
use Rattle.log_store.proofs.Bits.{floats-length, write-on}
use Rattle.log_store.proofs.Checking.{component-is, every-on, every_stop, every-end}
use Rattle.log_search.proofs.Asked.{query-start}
use Rattle.node_search.specs.Query.{ReadsQuery}

-- bits in the domain are components, and no others
components_as : (bits : List ℕ) → every component (floats_of bits) ≡ every bits_in_domain bits
unfolding floats_of every bits_in_domain
components_as [] = refl
components_as (b ∷ bs) =
    ap (λ (x : Bool). cond x (every component (map float_of bs)) false) (component-is (float_of b) (bits_in_domain b) (of_bits-fits binary32 b) refl)
    ∙ ap (λ (x : Bool). cond (bits_in_domain b) x false) (components_as bs)

-- of 1 to 32 bits, the test of the bits is that of the floats
pub query-formed : (bits : List ℕ) → 1 ≤ length bits → length bits ≤ 32 → well_formed_vector (floats_of bits) ≡ patterns_in_domain bits
unfolding patterns_in_domain
query-formed bits h k =
    let e = floats-length bits in
    query-start (floats_of bits) (λ z. omega arith) (omega arith) ∙ components_as bits

-- ---- component by component: those from i on are still to be tested, those before it are written

module _ (bits : List ℕ) (n : ℕ) (size : length bits ≡ n) (out : List Float) (column : length out ≡ 32) (i : ℕ)
    (inv : every bits_in_domain (drop i bits) ≡ every bits_in_domain bits) where
  pub query-out : i < n → bits_in_domain (get_or bits i 0) ≡ false → ReadsQuery bits false n out
  unfolding patterns_in_domain
  query-out h e = record {
    tested = sym (sym inv ∙ every_stop bits_in_domain bits i 0 e (omega arith));
    column = column;
    floats = λ z. not_both false z refl;
  }

  pub query-on : i < n → bits_in_domain (get_or bits i 0) ≡ true → every bits_in_domain (drop (i + 1) bits) ≡ every bits_in_domain bits
  query-on h e = sym (every-on bits_in_domain bits i 0 e (omega arith)) ∙ inv

  module _ (written : take i out ≡ take i (floats_of bits)) where
    pub query-write : i < n → n ≤ 32 → (b : ℕ) → get_or bits i 0 ≡ b → take (i + 1) (set out i (float_of b)) ≡ take (i + 1) (floats_of bits)
    query-write h k b e =
        ap (λ (x : ℕ). take (i + 1) (set out i (float_of x))) (sym e) ∙ write-on out bits i (omega arith) (omega arith) written

    pub query-all : i ≡ n → ReadsQuery bits true n out
    unfolding patterns_in_domain
    query-all e =
        let l = floats-length bits in
        record {
          tested = sym (sym inv ∙ every-end bits_in_domain bits i (omega arith));
          column = column;
          floats = λ z. ap (λ (k : ℕ). take k out) (sym e) ∙ written ∙ take_all i (floats_of bits) (omega arith);
        }
