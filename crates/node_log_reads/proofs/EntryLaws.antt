-- Laws of entries that are asked for behind the tests of name and store: what the call answers, one law for each way out. Assumes nothing.
use Prim.Native.Nat.{ℕ, ◌+◌, ◌-◌, ◌≤◌, ◌<◌, min, max}
use mathlib.Core.Path.{◌≡◌, refl, sym, ap, ◌∙◌, subst}
use mathlib.Core.Bool.{Bool, true, false, not, cond}
use mathlib.Core.List.{List}
use mathlib.Core.Option.{some}
use native.Mathlib.Omega.{arith}
use borrow.Author.Tests.{leb-true, lt-ltb, le-ltb}
use lib.Dec.{leb, ltb}
use lib.ListN.{length}
use Rattle.spec.specs.Limits.{max_batch}
use Rattle.spec.specs.Refusals.{undecodable, malformed, no_room}
use Rattle.spec.specs.Log.{Log, entries_from}
use Rattle.spec.specs.Layout.Format.{in_range}
use Rattle.spec.specs.Node.Worker.{copy_of}
use Rattle.spec.specs.Node.Calls.{RequestAnswer, request_refused, written_in}
use Rattle.spec_laws.proofs.Lists.{and_left}
use Rattle.wire_write.specs.Written.{text_fits}
use Rattle.log_store.specs.Store.{Store, store_log}
use Rattle.log_calls.specs.Fits.{lent_fits}
use Rattle.node_send.specs.Sent.{entries_at}
use Rattle.node_send.specs.Requested.{key_named, Requested}
use Rattle.node_send.specs.declared.Request.{Request}
use Rattle.node_send.specs.declared.Request.TheVariants as R
use Rattle.node_send.proofs.EntryLaws.{at_length, from_some}
use Rattle.node_log_reads.specs.Entries.{entries_lent, Sent}

-- a name that the layout carries is no longer than it
pub name-short : (name : List ℕ) → text_fits 32 name ≡ true → length name ≤ 32
unfolding text_fits
name-short name e = leb-true (length name) 32 (and_left (leb (length name) 32) (in_range 0x20 0x7E name) e)

module _ (s : Store) (name : List ℕ) (shard epoch first limit : ℕ) (out : List ℕ) where
  abbrev asked : Log
  asked = entries_from (store_log s) first limit

  abbrev answer : RequestAnswer
  answer = entries_lent s name shard epoch first limit (length out)

  abbrev message : RequestAnswer
  message = written_in (length out) (some (copy_of (key_named name shard) epoch asked))

  lent_by : (a b d : Bool) → text_fits 32 name ≡ a → lent_fits s ≡ b → ltb max_batch (length asked) ≡ d
      → answer ≡ cond (not a) (request_refused undecodable) (cond (not b) (request_refused malformed) (cond d (request_refused no_room) message))
  unfolding entries_lent
  lent_by a b d p q r = rw (p, q, r)

  pub from_unnamed : text_fits 32 name ≡ false → Sent answer out out (R.Refused 21)
  from_unnamed e =
      subst (λ (a : RequestAnswer). Sent a out out (R.Refused 21)) (sym (lent_by false (lent_fits s) (ltb max_batch (length asked)) e refl refl))
      (record { answer = refl; bytes = refl })

  module _ (named : text_fits 32 name ≡ true) where
    pub from_malformed : lent_fits s ≡ false → Sent answer out out (R.Refused 24)
    from_malformed e =
        subst (λ (a : RequestAnswer). Sent a out out (R.Refused 24)) (sym (lent_by true false (ltb max_batch (length asked)) named e refl))
        (record { answer = refl; bytes = refl })

    -- how many there are
    module _ (f : lent_fits s ≡ true) (from n : ℕ) (is : from ≡ min (max first 1 - 1) s.count) (ns : n ≡ min limit (s.count - from)) where
      asked_some : asked ≡ entries_at s.columns (from + n - from) from
      asked_some = from_some s.columns s.count first limit from n is ns

      asked-length : length asked ≡ n
      asked-length = ap length asked_some ∙ at_length s.columns (from + n - from) from ∙ omega arith

      pub from-many : 256 < n → Sent answer out out (R.Refused 23)
      from-many h =
          subst (λ (a : RequestAnswer). Sent a out out (R.Refused 23))
          (sym (lent_by true true true named f (lt-ltb max_batch (length asked) (rw asked-length h))))
          (record { answer = refl; bytes = refl })

      pub from-written : n ≤ 256 → (after : List ℕ) (r : Request)
          → Requested (some (copy_of (key_named name shard) epoch (entries_from (store_log s) first n))) out after r → Sent answer out after r
      from-written h after r d =
          let e : entries_from (store_log s) first n ≡ asked =
          from_some s.columns s.count first n from n is (omega arith) ∙ sym asked_some in
          let q : Requested (some (copy_of (key_named name shard) epoch asked)) out after r =
          subst (λ (es : Log). Requested (some (copy_of (key_named name shard) epoch es)) out after r) e d in
          subst (λ (a : RequestAnswer). Sent a out after r)
          (sym (lent_by true true false named f (le-ltb max_batch (length asked) (rw asked-length h))))
          (record { answer = q.answer; bytes = q.bytes })
