-- Paper 01, 'Only what the writer writes is read', for 01 with its commands 10 to 19: both round trips of a request
-- (`request-back`, `request_forth`, as in Messages.antt), and reading at a position (`request_at_back`, `request_at_forth`).
-- Assumes nothing.
use Prim.Native.Nat.{ℕ, ◌+◌}
use mathlib.Core.Path.{◌≡◌, refl}
use mathlib.Core.Logic.{inl, inr}
use mathlib.Core.List.{List, ◌++◌}
use mathlib.Core.Option.{some}
use lib.ListN.{length, drop}
use native.Mathlib.Omega.{arith}
use Rattle.spec.specs.Lists.{◌and◌}
use Rattle.spec.specs.Layout.Format.{Value, Good, Bytes, many}
use Rattle.spec.specs.Layout.Parts.{placement_f, u64}
use Rattle.spec.specs.Layout.Request.{request_f, request_of, request_value, command_f, command_of, command_value, Command, create, drop_collection, register, mark_dead, add_replica, remove_replica, promote_primary, shrink_in_sync, expand_in_sync, bench, Request, decode_request, encode_request, request_at}
use Rattle.spec.specs.Layout.Writable.{GoodList, GoodPlacement, GoodCommand, GoodRequest}
use Rattle.spec_laws.proofs.Wire.Data.{all_weaker, metric_code_lem, metric_below, metric_of_lem, back, forth, back_at, forth_at}

command_of_lem : (c : Command) → command_of (command_value c) ≡ c
command_of_lem (create n s p) = rw (metric_of_lem s.metric)
command_of_lem (drop_collection n) = refl
command_of_lem (register n a i) = refl
command_of_lem (mark_dead n i) = refl
command_of_lem (add_replica k n i e) = refl
command_of_lem (remove_replica k n e) = refl
command_of_lem (promote_primary k n e) = refl
command_of_lem (shrink_in_sync k n e) = refl
command_of_lem (expand_in_sync k n e) = refl
command_of_lem (bench bs) = refl

command_value_lem : (v : Value command_f) → Good command_f v → command_value (command_of v) ≡ v
command_value_lem (inl v) g = rw (metric_code_lem v.1.1.0 g.1.1.0)
command_value_lem (inr (inl v)) g = refl
command_value_lem (inr (inr (inl v))) g = refl
command_value_lem (inr (inr (inr (inl v)))) g = refl
command_value_lem (inr (inr (inr (inr (inl v))))) g = refl
command_value_lem (inr (inr (inr (inr (inr (inl v)))))) g = refl
command_value_lem (inr (inr (inr (inr (inr (inr (inl v))))))) g = refl
command_value_lem (inr (inr (inr (inr (inr (inr (inr (inl v)))))))) g = refl
command_value_lem (inr (inr (inr (inr (inr (inr (inr (inr (inl v))))))))) g = refl
command_value_lem (inr (inr (inr (inr (inr (inr (inr (inr (inr v))))))))) g = refl

placement_good : (p : List (List ℕ)) → GoodPlacement p → Good placement_f p
placement_good p g =
    let n = g.0 in
    (omega arith, n, all_weaker GoodList (Good (many 1 0 8 u64)) (λ ns h. (omega arith, h.0, h.1)) p g.1)

good_placement : (p : List (List ℕ)) → Good placement_f p → GoodPlacement p
good_placement p g = (g.1, all_weaker (Good (many 1 0 8 u64)) GoodList (λ ns h. (h.1, h.2)) p g.2)

command_good : (c : Command) → GoodCommand c → Good command_f (command_value c)
command_good (create n s p) g =
    let q = g.1 in
    (g.0, (q.0, (metric_below s.metric, (q.1, (q.2, placement_good p g.2)))))
command_good (drop_collection n) g = g
command_good (register n a i) g = (g.0, (g.1, g.2))
command_good (mark_dead n i) g = g
command_good (add_replica k n i e) g = (g.0, (g.1, (g.2, g.3)))
command_good (remove_replica k n e) g = (g.0, (g.1, g.2))
command_good (promote_primary k n e) g = (g.0, (g.1, g.2))
command_good (shrink_in_sync k n e) g = (g.0, (g.1, g.2))
command_good (expand_in_sync k n e) g = (g.0, (g.1, g.2))
command_good (bench bs) g = (tt, (omega arith, g.0, g.1))

good_command : (c : Command) → Good command_f (command_value c) → GoodCommand c
good_command (create n s p) g =
    (g.0, (g.1.0, g.1.1.1.0, g.1.1.1.1.0), good_placement p g.1.1.1.1.1)
good_command (drop_collection n) g = g
good_command (register n a i) g = (g.0, g.1.0, g.1.1)
good_command (mark_dead n i) g = g
good_command (add_replica k n i e) g = (g.0, g.1.0, g.1.1.0, g.1.1.1)
good_command (remove_replica k n e) g = (g.0, g.1.0, g.1.1)
good_command (promote_primary k n e) g = (g.0, g.1.0, g.1.1)
good_command (shrink_in_sync k n e) g = (g.0, g.1.0, g.1.1)
good_command (expand_in_sync k n e) g = (g.0, g.1.0, g.1.1)
good_command (bench bs) g = (g.1.1, g.1.2)

request_of_lem : (r : Request) → request_of (request_value r) ≡ r
request_of_lem r = rw (command_of_lem r.command)

request-value : (v : Value request_f) → Good request_f v → request_value (request_of v) ≡ v
request-value v g = rw (command_value_lem v.1.1.1.1 g.1.1.1.1)

request_good : (r : Request) → GoodRequest r → Good request_f (request_value r)
request_good r g = (tt, (g.0, (g.1, (g.2, command_good r.command g.3))))

good_request : (r : Request) → Good request_f (request_value r) → GoodRequest r
good_request r g = (g.1.0, g.1.1.0, g.1.1.1.0, good_command r.command g.1.1.1.1)

pub request-back : (r : Request) → GoodRequest r → decode_request (encode_request r) ≡ some r
unfolding decode_request encode_request ◌and◌
request-back r g = back request_f request_of request_value refl r (request_good r g) (request_of_lem r)

pub request_forth : (s : List ℕ) → Bytes s → (r : Request) → decode_request s ≡ some r → GoodRequest r × (encode_request r ≡ s)
unfolding decode_request encode_request
request_forth s b r e =
    let h = forth request_f request_of request_value request-value s b r e in (good_request r h.0, h.1)

-- a request that follows other bytes is read there, whatever comes after it
pub request_at_back : (a t : List ℕ) (r : Request) → GoodRequest r
    → request_at (a ++ (encode_request r ++ t)) (length a) ≡ some (r, length a + length (encode_request r))
unfolding request_at encode_request ◌and◌
request_at_back a t r g = back_at request_f request_of request_value refl a t r (request_good r g) (request_of_lem r)

-- and what is read at a place is what is written there
pub request_at_forth : (s : List ℕ) → Bytes s → (at : ℕ) (r : Request) (end : ℕ) → request_at s at ≡ some (r, end)
    → GoodRequest r × (drop at s ≡ encode_request r ++ drop end s)
unfolding request_at encode_request
request_at_forth s b at r end e =
    let h = forth_at request_f request_of request_value request-value s b at r end e in (good_request r h.0, h.1)
