-- An operation of a message as a store takes it: its code, its id, the bits of its components. Assumes nothing.
use Prim.Native.Nat.{ℕ}
use mathlib.Core.Path.{◌≡◌, refl}
use mathlib.Core.Bool.{true}
use mathlib.Core.List.{List, []}
use native.Mathlib.Omega.{arith}
use borrow.Author.Tests.{le-leb}
use lib.ListN.{length}
use Rattle.spec.specs.Lists.{every}
use Rattle.spec.specs.Node.Wire.{op_in_domain, patterns_in_domain, stored_op}
use Rattle.wire_read.specs.declared.OpPart.{OpPart}
use Rattle.wire_read.specs.declared.OpPart.TheVariants as O
use Rattle.log_domain.proofs.InMessage.{bits-length}
use Rattle.log_arrive.specs.Parts.{bits_in, op_in, OpThere}
use Rattle.log_store.specs.View.{op_from}
use Rattle.log_store.specs.Store.{Storable}

pub record Stores (m : List ℕ) (o : OpPart) : Type 0 where
  pub code : ℕ
  pub id : ℕ
  pub bits : List ℕ
  pub is : op_from code id bits ≡ stored_op (op_in m o)
  pub storable : Storable code bits

pub stores-op : (m : List ℕ) (o : OpPart) → OpThere m o → op_in_domain (op_in m o) ≡ true → Stores m o
unfolding op_from stored_op patterns_in_domain every
stores-op m (O.Upsert id v) t e =
    let l = bits-length m v in
    record {
      code = 1;
      id = id;
      bits = bits_in m v;
      is = refl;
      storable = record { listed = le-leb 1 (length (bits_in m v)) (omega (arith, t.0)); short = omega (arith, t.1); domain = e };
    }
stores-op m (O.Delete id) t e = record {
  code = 2;
  id = id;
  bits = [];
  is = refl;
  storable = record { listed = refl; short = omega arith; domain = refl };
}
