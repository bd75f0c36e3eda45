-- Components read one after the other, as a store takes them. Assumes nothing.
use Prim.Native.Nat.{ℕ, ◌+◌, ◌≤◌, ◌<◌}
use mathlib.Core.Path.{◌≡◌, refl, sym, ap, ◌∙◌}
use mathlib.Core.List.{List, [], ◌∷◌, ◌++◌}
use lib.ListN.{length, get_or, take, set}
use lib.Seq.{take-suc, take-suc-set, take_all}
use native.Mathlib.Omega.{arith}
use native.Mathlib.Numerals.{add-one}
use borrow.Author.Tests.{le-leb}
use Rattle.spec.specs.Lists.{every}
use Rattle.spec.specs.Layout.Parts.{wire_upsert, wire_delete}
use Rattle.spec.specs.Node.Wire.{patterns_in_domain, stored_op}
use Rattle.log_store.specs.View.{op_from}
use Rattle.wire_read.specs.declared.Part.{Part}
use Rattle.log_arrive.specs.Parts.{bits_in, VectorThere}
use Rattle.log_arrive.specs.Arrivals.{Reads}
use Rattle.log_domain.proofs.InMessage.{bits-length}
pub use Rattle.log_domain.proofs.Bits.{bit_in}

-- ---- a column of which the first i places are those of a list

pub column_on : (l out : List ℕ) (i x : ℕ) → i < length l → i < length out → x ≡ get_or l i 0 → take i out ≡ take i l
    → take (i + 1) (set out i x) ≡ take (i + 1) l
column_on l out i x h k q e =
    rw (add-one i) (take-suc-set out i x k ∙ ap (λ (y : ℕ). take i out ++ (y ∷ [])) q ∙ ap (λ (z : List ℕ). z ++ (get_or l i 0 ∷ [])) e ∙ sym (take-suc l i 0 h))

pub column_end : (l out : List ℕ) (n i : ℕ) → i ≡ n → length l ≡ n → take i out ≡ take i l → take n out ≡ l
column_end l out n i e h q =
    ap (λ (k : ℕ). take k out) (sym e) ∙ q ∙ take_all i l (omega arith)

-- ---- as a store takes it

pub reads_upsert : (s : List ℕ) (id : ℕ) (v : Part) (bits : List ℕ) → VectorThere s v → length bits ≡ 32 → take v.len bits ≡ bits_in s v
    → Reads (wire_upsert id (bits_in s v)) (record { code = 1; id = id; n = v.len }) bits
unfolding op_from stored_op patterns_in_domain
reads_upsert s id v bits h z e = record {
  op = ap (λ (b : List ℕ). op_from 1 id b) e;
  storable = λ d. record {
    listed = let k : 1 ≤ length (take v.len bits) = rw (e, bits-length s v) h.0 in le-leb 1 (length (take v.len bits)) k;
    short = rw (e, bits-length s v) h.1;
    domain = rw e d;
  };
  short = h.1;
  column = z;
}

pub reads_delete : (id : ℕ) (bits : List ℕ) → length bits ≡ 32 → Reads (wire_delete id) (record { code = 2; id = id; n = 0 }) bits
unfolding op_from stored_op every
reads_delete id bits z = record {
  op = refl;
  storable = λ d. record { listed = refl; short = omega arith; domain = refl };
  short = omega arith;
  column = z;
}
