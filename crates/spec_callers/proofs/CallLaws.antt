-- Paper 02, 2.8, of Write: 32 exactly where 21, 22 and 24 do not apply, all places are taken and the caller has none; a call of the first edition is paper 01's;
-- a call with room is paper 01's on the message without its caller. Of Search likewise. Assumes nothing.
use Prim.Native.Nat.{ℕ}
use mathlib.Core.Path.{◌≡◌, refl, sym, ap, subst, ◌∙◌}
use mathlib.Core.Bool.{Bool, true, false, cond, not}
use mathlib.Core.List.{List}
use mathlib.Core.Option.{Option, none, some}
use Rattle.spec.specs.Lists.{◌and◌, ◌or◌}
use Rattle.spec.specs.Refusals.{undecodable, outside_domain, malformed}
use Rattle.spec.specs.Keys.{Key}
use Rattle.spec.specs.Layout.Format.{Bytes}
use Rattle.spec.specs.Layout.Message.{decode_write}
use Rattle.spec.specs.Node.Held.{Node}
use Rattle.spec.specs.Node.Shards.{Result, gives}
use Rattle.spec.specs.Node.Wire.{op_in_domain, stored_op, patterns_in_domain, floats_of}
use Rattle.spec.specs.Node.Client.{WriteAnswer, write_refused, on_write, SearchAnswer, search_refused, on_search}
use Rattle.spec.specs.Node.Calls.{late_time, write_with, search_with}
use Rattle.spec_laws.proofs.Lists.{by-test, not_both}
use Rattle.spec_callers.specs.Editions.{CalledWrite, CalledSearch, decode_called_write, decode_called_search, plain}
use Rattle.spec_callers.specs.Counts.{Counts, well_formed_counts, room_for, counts_after, after, nothing, effect_of}
use Rattle.spec_callers.specs.Calls.{Answered, answered, beyond, Ended, write_number, search_number, serves, ends, write_by, search_by}
use Rattle.spec_callers.proofs.Editions.{plain-write}
use Rattle.spec_callers.proofs.Searches.{plain_search}

module _ (lent : Key → Bool) (c : Counts) (n : Node) (now least : ℕ) where
  -- '32, a caller beyond the 32 kept, after 21, 22 and 24 and before 17'
  pub no_place : (s : List ℕ) (m : CalledWrite) → late_time now ≡ false → decode_called_write s ≡ some m → op_in_domain m.write.op ≡ true
      → well_formed_counts c ≡ true → lent m.write.key ≡ true → room_for c m.caller ≡ false
      → write_by lent c n now least s ≡ record { answer = beyond; node = n; counts = c }
  unfolding write_by counts_after after effect_of ◌and◌ ◌or◌
  no_place s m late read inside formed given full = rw (late, read, inside, formed, given, full)

  -- 22 and 24, then the call
  served : (who : ℕ) (x y : Bool) (r : Result WriteAnswer Node)
      → cond (not x) (ends write_number c who (answered (write_refused outside_domain)) n)
      (cond (not y) (ends write_number c who (answered (write_refused malformed)) n) (serves write_number c who r))
      ≡ serves write_number c who (cond (not x) (gives (write_refused outside_domain) n) (cond (not y) (gives (write_refused malformed) n) r))
  served who true true r = refl
  served who true false r = refl
  served who false y r = refl

  -- with room it is paper 01's call on the message without its caller, and its answer is counted
  pub with-room : (s : List ℕ) → Bytes s → (m : CalledWrite) → decode_called_write s ≡ some m → well_formed_counts c ≡ true → room_for c m.caller ≡ true
      → late_time now ≡ false
      → write_by lent c n now least s ≡ serves write_number c m.caller (write_with lent n now least (plain s))
  unfolding write_by write_with ◌and◌
  with-room s b m read formed room late =
      let p = (plain-write s b m read).1 in
      let w = m.write in
      rw (late, read, p, formed, room)
      (served m.caller (op_in_domain w.op) (lent w.key) (on_write n now least w.key w.epoch (stored_op w.op)))

  -- 21: nothing of a state is looked at
  pub undecoded : (s : List ℕ) → decode_called_write s ≡ none
      → write_by lent c n now least s ≡ ends write_number c 0 (answered (write_refused undecodable)) n
  unfolding write_by
  undecoded s e = rw e (by-test (λ (v : Ended WriteAnswer). v ≡ ends write_number c 0 (answered (write_refused undecodable)) n) (late_time now) (λ q. refl) (λ q. refl))

-- ---- Search

module _ (lent : Key → Bool) (c : Counts) (n : Node) (now space : ℕ) where
  -- '32, a caller beyond the 32 kept, after 21, 22 and 24 and before 17'
  pub search_no_place : (s : List ℕ) (m : CalledSearch) → late_time now ≡ false → decode_called_search s ≡ some m → patterns_in_domain m.query.bits ≡ true
      → well_formed_counts c ≡ true → lent m.query.key ≡ true → room_for c m.caller ≡ false
      → search_by lent c n now space s ≡ record { answer = beyond; node = n; counts = c }
  unfolding search_by counts_after after effect_of ◌and◌ ◌or◌
  search_no_place s m late read inside formed given full = rw (late, read, inside, formed, given, full)

  -- 22 and 24, then the call
  search_served : (who : ℕ) (x y : Bool) (r : Result SearchAnswer Node)
      → cond (not x) (ends search_number c who (answered (search_refused outside_domain)) n)
      (cond (not y) (ends search_number c who (answered (search_refused malformed)) n) (serves search_number c who r))
      ≡ serves search_number c who (cond (not x) (gives (search_refused outside_domain) n) (cond (not y) (gives (search_refused malformed) n) r))
  search_served who true true r = refl
  search_served who true false r = refl
  search_served who false y r = refl

  -- with room it is paper 01's call on the message without its caller, and its answer is counted
  pub search_with_room : (s : List ℕ) → Bytes s → (m : CalledSearch) → decode_called_search s ≡ some m → well_formed_counts c ≡ true → room_for c m.caller ≡ true
      → late_time now ≡ false
      → search_by lent c n now space s ≡ serves search_number c m.caller (search_with lent n now space (plain s))
  unfolding search_by search_with ◌and◌
  search_with_room s b m read formed room late =
      let p = (plain_search s b m read).1 in
      let w = m.query in
      rw (late, read, p, formed, room)
      (search_served m.caller (patterns_in_domain w.bits) (lent w.key) (on_search n now space w.key w.epoch w.k (floats_of w.bits)))

  -- 21: nothing of a state is looked at
  pub search_undecoded : (s : List ℕ) → decode_called_search s ≡ none
      → search_by lent c n now space s ≡ ends search_number c 0 (answered (search_refused undecodable)) n
  unfolding search_by
  search_undecoded s e = rw e (by-test (λ (v : Ended SearchAnswer). v ≡ ends search_number c 0 (answered (search_refused undecodable)) n) (late_time now) (λ q. refl) (λ q. refl))
