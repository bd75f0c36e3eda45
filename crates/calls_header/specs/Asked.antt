-- What every call over an image says first (paper 01, 'Who is turned down'), and what it leaves of the image. Definitions only.
use Rattle.std.specs.Prelude.{ℕ, ◌≤◌, Bool, true, false, not, cond, ◌≡◌, List, length}
use Rattle.spec.specs.Lists.{◌or◌}
use Rattle.spec.specs.Limits.{max_name}
use Rattle.node_header.specs.declared.Node.{Node}
use Rattle.wire_write.specs.Written.{text_fits}
use Rattle.image_header.specs.Image.{header_written}
use Rattle.image_header.specs.Becomes.{HeaderBecomes}

-- the name is none, or the rest is not readable
abbrev pub unread_name : List ℕ → Bool → Bool
unread_name name rest = not (text_fits max_name name) or rest

-- 21 for what is not readable, then 24 for an image that lends no state, and neither changes a byte; then the call
pub record Asked (unread lent : Bool) (r : ℕ) (Same Called : Type 0) : Type 0 where
  pub undecodable : unread ≡ true → (r ≡ 21) × Same
  pub malformed : unread ≡ false → lent ≡ false → (r ≡ 24) × Same
  pub called : unread ≡ false → lent ≡ true → Called

-- an image after a call: written back if the call was not refused, as it was otherwise
abbrev pub image_after : Bool → List ℕ → Node → List ℕ
image_after done s n = cond done (header_written s n) s

-- internal: an image that was written back
abbrev pub Becomes : (s t : List ℕ) → Node → Type 0
Becomes s t n = 10288 ≤ length s → HeaderBecomes s t n

-- internal: what putting it there leaves, and the number passed on
pub record After (s t : List ℕ) (n : Node) (done : Bool) (number r : ℕ) : Type 0 where
  pub answer : r ≡ number
  pub image : t ≡ image_after done s n
  pub becomes : done ≡ true → Becomes s t n
