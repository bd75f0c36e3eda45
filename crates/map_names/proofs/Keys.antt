-- The key that stands in a message, as it is read: what a call's own decoder says of its key follows from this. Assumes nothing.
use Prim.Native.Nat.{ℕ, ◌+◌, ◌≤◌}
use mathlib.Core.Path.{◌≡◌, ap}
use mathlib.Core.Bool.{true}
use mathlib.Core.List.{List}
use lib.ListN.{length}
use native.Mathlib.Omega.{arith}
use borrow.Author.Tests.{leb-true}
use Rattle.spec.specs.Keys.{Key, Name}
use Rattle.spec.specs.Layout.Format.{fits, value}
use Rattle.spec.specs.Layout.Parts.{u32, name_f, key_f, key_of}
use Rattle.spec_laws.proofs.Wire.Tests.{and_left, and_right}
use Rattle.wire_read.specs.Shown.{key_shown}
use Rattle.wire_read.proofs.Places.{text-length}
use Rattle.wire_read.proofs.Items.{text-bytes}
use Rattle.map_names.specs.Texts.{KeyThere, key_in}

-- a key at the place 1, as it is read
abbrev pub KeyRead : List ℕ → Key → Type 0
KeyRead s k = KeyThere s (key_shown 1 k) × (key_in s (key_shown 1 k) ≡ k)

pub key-read : (s : List ℕ) → fits key_f s 1 ≡ true → KeyRead s (key_of (value key_f s 1))
key-read s e =
    let f = and_left _ _ e in
    let l : 1 + 1 + 32 ≤ length s = leb-true _ _ (and_left _ _ f) in
    let k : length (value name_f s 1) ≤ 32 = rw (text-length 32 s 1 f) (leb-true _ _ (and_left _ _ (and_right _ _ f))) in
    ((k, omega arith), ap (λ (n : Name). record { collection = n; shard = value u32 s (1 + 1 + 32) }) (text-bytes 32 s 1 f))
