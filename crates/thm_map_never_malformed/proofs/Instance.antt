-- The theorem is about calls that there are: a buffer of 26,536 zeros, an empty map written in it, and a Register of node 1 at incarnation 4
-- (paper 01, 'Program applymap', its first request), each shown to keep the contract of its entry point. Assumes nothing.
use Prim.Native.Nat.{ℕ, zero, suc, ◌≤◌, ◌<◌}
use mathlib.Core.Path.{◌≡◌, refl, sym, ap, subst, ◌∙◌}
use mathlib.Core.Bool.{Bool, true, false, cond}
use mathlib.Core.List.{List, [], ◌∷◌}
use mathlib.Core.Option.{none, some}
use lib.ListN.{length, replicate, length-replicate}
use lib.Seq.{length-sets}
use native.Mathlib.Omega.{arith}
use borrow.Author.Tests.{le-ltb}
use Rattle.spec.specs.Lists.{find, put, ◌and◌, every, rising}
use Rattle.spec.specs.Refusals.{malformed}
use Rattle.spec.specs.Layout.Format.{All}
use Rattle.spec.specs.Layout.Writable.{GoodRequest}
use Rattle.spec.specs.Layout.Request.{Request, register, encode_request, decode_request}
use Rattle.spec.specs.Map.Tables.{Map, empty_map, applied}
use Rattle.spec.specs.Map.Change.{accepts}
use Rattle.spec.specs.Map.Create.{node_at}
use Rattle.spec.specs.Map.Apply.{Applied, apply, apply_to, settle, decide, commit, remembered, session_at, register_answer, update}
use Rattle.spec.specs.Map.Calls.{reason_number, refused_with}
use Rattle.spec_laws.proofs.Lists.{not_both, none_some}
use Rattle.spec_laws.proofs.Wire.Requests.{request-back}
use Rattle.map_tables.specs.View.{view_map}
use Rattle.map_tables.specs.declared.ShardMap.{ShardMap}
use Rattle.spec.specs.Map.WellFormed.{well_formed_map, table_fits}
use Rattle.map_check.specs.Lent.{table_counted, counted, well_formed_lent}
use Rattle.map_apply.specs.Calls.{apply_lent}
use Rattle.image_parts.specs.Canon.{padded}
use Rattle.image_map_form.specs.Canon.{image_node, image_session}
use Rattle.image_map.specs.Image.{map_at, map_lent, map_stored, image_map, MapBecomes}
use Rattle.image_map.proofs.Canon.{view-map}
use Rattle.image_map.proofs.Back.{Fits, NodeFits, SessionFits, becomes}
use Rattle.calls_map.specs.Calls.{noted, applied_to, AppliesImage, AppliesTo, Empties}
use Rattle.calls_map.proofs.Empty.{empty_way}
use Rattle.thm_map_never_malformed.specs.Calls.{Intact, Answered, Calls, NotMalformed}
use Rattle.thm_map_never_malformed.proofs.Intact.{empty-formed, never_malformed}

-- ---- an empty map

zeros : (n : ℕ) → length (replicate {A = ℕ} n 0) ≡ n
zeros n = length-replicate n 0

unfoldable pub buffer : List ℕ
buffer = replicate 26536 0

long : 26536 ≤ length buffer
unfolding buffer
long = let e = zeros 26536 in omega arith

abbrev pub empty : List ℕ
empty = map_stored buffer empty_map

pub empties : Empties buffer empty 0
empties = empty_way buffer empty long refl

made : MapBecomes buffer empty empty_map
made = (empties.long (le-ltb (length buffer) 26536 long)).becomes

-- ---- a Register

abbrev first : Request
first = record { index = 5; client = 1; seq = 1; command = register 1 [] 4 }

abbrev pub bytes : List ℕ
bytes = encode_request first

decoded : decode_request bytes ≡ some first
decoded = request-back first (omega arith, omega arith, omega arith, (omega arith, (omega arith, refl), omega arith))

-- the map after it
abbrev after : Map
after = record {
  version = 5;
  nodes = record { node = 1; address = []; incarnation = 4; alive = true } ∷ [];
  collections = [];
  shards = [];
  sessions = record { client = 1; seq = 1; outcome = applied } ∷ [];
}

comes : apply empty_map first ≡ record { answer = accepts; map = after }
unfolding apply apply_to settle decide commit remembered session_at register_answer node_at update find put
comes = refl

called : applied_to empty bytes ≡ record { answer = accepts; map = after }
called =
    ap (λ (m : ShardMap). apply_lent m (decode_request bytes)) made.held
    ∙ ap (apply_lent (image_map empty_map)) decoded
    ∙ ap (λ (b : Bool). cond b (apply (view_map (image_map empty_map)) first) (refused_with (view_map (image_map empty_map)) malformed)) empty-formed
    ∙ ap (λ (m : Map). apply m first) (view-map empty_map)
    ∙ comes

-- ---- its image

small : (n : ℕ) → All (λ (x : ℕ). x < 256) (replicate n 0)
small zero = tt
small (suc n) = (omega arith, small n)

node-fits : NodeFits (image_node (record { node = 1; address = []; incarnation = 4; alive = true }))
unfolding padded
node-fits = ((((omega arith, omega arith), omega arith), omega arith), (omega arith, (refl, small 64)))

session-fits : SessionFits (image_session (record { client = 1; seq = 1; outcome = applied }))
unfolding padded
session-fits = (((((omega arith, omega arith), ((omega arith, (refl, small 32)), omega arith)), omega arith), omega arith), omega arith)

after-fits : Fits after
after-fits = record {
  version = omega arith;
  nodes = record { count = omega arith; rows = (node-fits, tt) };
  collections = record { count = omega arith; rows = tt };
  shards = record { count = omega arith; rows = tt };
  sessions = record { count = omega arith; rows = (session-fits, tt) };
}

empty_long : 26536 ≤ length empty
unfolding map_stored
empty_long = let h = long in simp length-sets (omega arith)

abbrev pub registered : List ℕ
registered = map_stored empty after

becomes_after : MapBecomes empty registered after
becomes_after = becomes empty after empty_long after-fits registered refl

after-formed : well_formed_lent (image_map after) ≡ true
unfolding well_formed_lent counted table_counted well_formed_map table_fits ◌and◌ every rising padded
after-formed = refl

pub applies : AppliesTo empty registered bytes 0
applies = record {
  undecoded = λ n. none_some (sym n ∙ decoded);
  unlent = λ q n f. not_both (map_lent empty) made.lent f;
  lent = λ _. record {
    answer = sym (ap (λ (x : Applied). reason_number x.answer) called);
    image = sym (ap (λ (x : Applied). map_stored empty x.map) called);
    lent = becomes_after.lent;
    read = becomes_after.read ∙ sym (ap (λ (x : Applied). x.map) called);
    formed = λ _. ap well_formed_lent becomes_after.held ∙ after-formed;
  };
}

-- ---- the theorem, put to the two

abbrev pub calls : List Answered
calls = record { request = bytes; number = 0 } ∷ []

pub made-calls : Calls calls empty registered
unfolding Calls
made-calls = (registered, applies, refl)

pub intact : Intact registered × All NotMalformed calls
intact = never_malformed calls buffer empty registered 0 long empties made-calls
