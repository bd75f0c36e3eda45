-- What a write makes of an image (specs/Becomes.antt): every byte is that of the specification's node in its slots, and what was written lends the
-- header that was given. Assumes nothing.
use Prim.Native.Nat.{ℕ, ◌+◌, ◌≤◌}
use mathlib.Core.Path.{◌≡◌, refl, sym, ap, subst, ◌∙◌}
use mathlib.Core.List.{List, ◌++◌, map}
use lib.ListN.{length, length-map}
use lib.Seq.{sets}
use native.Mathlib.Omega.{arith}
use Rattle.node_admit.specs.View.{view_expiry}
use Rattle.std.specs.Prelude.{Option}
use Rattle.std.specs.Prelude.{None, Some}
use Rattle.node_header.specs.View.{Stores, used, view_held_row, view_node}
use Rattle.node_header.specs.Slots.{slots_of}
use Rattle.node_header.specs.declared.Node.{Node}
use Rattle.image_parts.specs.Shape.{in_use}
use Rattle.image_parts.proofs.Images.{sets-append, length-used}
use Rattle.image_header_row.specs.Rows.{expiry_code, expiry_time}
use Rattle.image_header.specs.Image.{node_at, head_bytes, shards_bytes, header_put}
use Rattle.image_header.specs.Becomes.{Counted, lease_code, lease_time, header_image, HeaderBecomes, HeaderWrites}
use Rattle.image_header.proofs.Image.{lent_listed, written_long}
use Rattle.image_header.proofs.Tidy.{image_rows_lem}
use Rattle.image_header.proofs.Formed.{formed_as}
use Rattle.image_header.proofs.Back.{Fits, length-put, codes_listed_lem, used-back, header-back, counted_back, count-within, slots-back}

lease-code : (e : Option ℕ) → lease_code (view_expiry e) ≡ expiry_code e
lease-code None = refl
lease-code (Some t) = refl

lease_time_lem : (e : Option ℕ) → lease_time (view_expiry e) ≡ expiry_time e
lease_time_lem None = refl
lease_time_lem (Some t) = refl

module _ (n : Node) (fits : Fits n) (st : Stores) (counted : Counted st) where
  image_count : length (map (view_held_row st) (used n)) ≡ in_use 8 n.count
  image_count = length-map (used n) (view_held_row st) ∙ length-used 8 n.count n.held fits.long

  image_bytes : header_image (view_node st n) (slots_of n) ≡ head_bytes n ++ shards_bytes n
  unfolding header_image
  image_bytes = rw (image_count, lease-code n.expiry, lease_time_lem n.expiry, image_rows_lem st counted (used n))

put_whole : (s : List ℕ) (n : Node) → header_put s n ≡ sets s 0 (head_bytes n ++ shards_bytes n)
unfolding header_put
put_whole s n = sym (sets-append s 0 (head_bytes n) (shards_bytes n))

becomes_put : (s : List ℕ) (n : Node) → 10288 ≤ length s → Fits n → HeaderBecomes s (header_put s n) n
becomes_put s n room fits =
    let l = length-put s n room fits in
    record {
      bytes = λ st counted. put_whole s n ∙ ap (λ (b : List ℕ). sets s 0 b) (sym (image_bytes n fits st counted));
      lent = sym (lent_listed (header_put s n) (omega arith)) ∙ codes_listed_lem s n room fits;
      read = header-back s n room fits;
      slots_are = slots-back s n room fits;
      formed = formed_as n (node_at (header_put s n)) fits.rows (count-within s n room fits) (used-back s n room fits);
      count = counted_back s n room fits;
      rows = used-back s n room fits;
    }

module _ (s : List ℕ) (n : Node) where
  pub writes_long : (t : List ℕ) → 10288 ≤ length s → Fits n → t ≡ header_put s n → HeaderWrites s t n
  writes_long t room fits e = record {
    image = e ∙ written_long s n room;
    becomes = λ h. subst (λ (u : List ℕ). HeaderBecomes s u n) (sym e) (becomes_put s n room fits);
  }
