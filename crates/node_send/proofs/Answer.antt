-- What the writing of a request answers, one law for each way out. Assumes nothing.
use Prim.Native.Nat.{ℕ, ◌≤◌, ◌<◌}
use mathlib.Core.Path.{◌≡◌}
use mathlib.Core.Bool.{true, false}
use mathlib.Core.List.{List}
use mathlib.Core.Option.{Option, none, some}
use lib.Dec.{ltb}
use lib.ListN.{length}
use lib.Seq.{sets}
use borrow.Author.Tests.{lt-ltb, le-ltb}
use native.Mathlib.Omega.{arith}
use Rattle.spec.specs.Node.Worker.{Message, message_bytes}
use Rattle.node_send.specs.Requested.{Requested}
use Rattle.node_send.specs.declared.Request.TheVariants as R

pub nothing : (m : Option Message) (out : List ℕ) → m ≡ none → Requested m out out R.Unsent
nothing m out e = record { answer = rw e; bytes = rw e }

module _ (m : Message) (out : List ℕ) where
  pub short : length out < length (message_bytes m) → Requested (some m) out out (R.Refused 23)
  short h =
      let t : ltb (length out) (length (message_bytes m)) ≡ true = lt-ltb (length out) (length (message_bytes m)) h in
      record { answer = rw t; bytes = rw t }

  pub wrote : (n : ℕ) (after : List ℕ) → n ≡ length (message_bytes m) → n ≤ length out → after ≡ sets out 0 (message_bytes m)
      → Requested (some m) out after (R.Written n)
  wrote n after e h s =
      let t : ltb (length out) (length (message_bytes m)) ≡ false = le-ltb (length out) (length (message_bytes m)) (omega arith) in
      record { answer = rw (t, e); bytes = rw t s }
