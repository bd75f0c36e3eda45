-- The ways of a request through a map's image: told again, applied, rejected, refused. Of any command. Assumes nothing.
use Prim.Native.Nat.{ℕ, ◌≤◌}
use mathlib.Core.Path.{◌≡◌, refl, sym, ap, subst, ◌∙◌}
use mathlib.Core.Bool.{true, false, cond}
use mathlib.Core.List.{List, []}
use lib.ListN.{length}
use native.Mathlib.Omega.{arith}
use Rattle.spec.specs.Lists.{put, every}
use Rattle.spec.specs.Refusals as said
use Rattle.spec.specs.Layout.Format.{number_at}
use Rattle.spec.specs.Map.Tables as tables
use Rattle.spec.specs.Map.Apply as model
use Rattle.spec.specs.Map.Apply.{session_below, remembered, commit, sets_version}
use Rattle.spec.specs.Map.Calls.{reason_number}
use Rattle.spec.specs.Map.Change.{accepts, rejects}
use Rattle.spec_laws.proofs.Lists.{not_both}
use Rattle.map_tables.specs.Names.{view_key}
use Rattle.map_tables.specs.Counted.{row_counted}
use Rattle.map_tables.specs.View.{answer_in, answer_of, refusal_of, rejection_of, view_command, view_request, view_map, session_of}
use Rattle.std.specs.Prelude.{Result}
use Rattle.std.specs.Prelude.{Ok, Err}
use Rattle.map_tables.specs.declared.Outcome.{Outcome}
use Rattle.map_tables.specs.declared.Outcome.TheVariants.{Applied, Rejected}
use Rattle.map_tables.specs.declared.Refusal.{Refusal}
use Rattle.map_tables.specs.declared.Refusal.TheVariants.{Undecodable, NoRoom, Malformed, LastEpoch}
use Rattle.map_tables.specs.declared.Rejection.{Rejection}
use Rattle.map_tables.specs.declared.Request.{Request}
use Rattle.map_tables.specs.declared.ShardMap.{ShardMap}
use Rattle.map_tables.specs.declared.Verdict.{Verdict}
use Rattle.map_apply.specs.Decided.{Decided}
use Rattle.map_apply.specs.Applied.{Settleable, SettledAs}
use Rattle.map_apply.proofs.Apply.{settle-answer, kept, settled, applied-place, applied-map, rejected_place, rejected_map, refused-map, changes}
use Rattle.image_map.specs.Image.{map_at, MapWrites}
use Rattle.image_map.proofs.Back.{Fits}
use Rattle.calls_map.specs.Calls.{noted}
use Rattle.calls_map.proofs.Kept.{Now, decide-now}
use Rattle.image_map_put.specs.Few.{Few}
use Rattle.image_map_put.specs.Rows.{shard_rows, read_as}
use Rattle.image_map_put.proofs.Whole.{read_as_lem, fits}
use Rattle.image_map_edit.specs.Edits.{Within, Edits}
use Rattle.image_map_edit.specs.Other.{with_sessions, with_version}
use Rattle.image_map_edit.proofs.Cover.{within-any}
use Rattle.image_map_edit.proofs.Frames.{rows-counted, tables_counted, written_over}
use Rattle.calls_decide.specs.Decides.{Ready, Fresh, Answers, Keeps}
use Rattle.calls_apply.specs.Settles.{Accepted, Taken, Writes, Room, Noted, Settles, takes_effect}

-- ---- told again

module _ (s : List ℕ) (q : Request) (rd : Ready s q) (v : Verdict) (k : Keeps s q (answer_of v)) (r : ℕ) (number : r ≡ reason_number (answer_of v)) where
  repeats : SettledAs (map_at s) q (record { verdict = v; map = map_at s })
  repeats = kept (map_at s) q rd.settleable v (answer_of v) refl k

  pub repeated-kept : noted r ≡ false → Settles s s q r
  repeated-kept n = record {
    after = record { verdict = v; map = map_at s };
    settles = repeats;
    answer = number;
    written = λ w. not_both (noted r) w n;
    kept = λ _. refl;
  }

  pub repeated-written : noted r ≡ true → (t : List ℕ) → MapWrites s t (map_at s) → Settles s t q r
  repeated-written n t w = record {
    after = record { verdict = v; map = map_at s };
    settles = repeats;
    answer = number;
    written = λ _. w;
    kept = λ z. not_both (noted r) n z;
  }

-- ---- what is remembered

version_is : (s : List ℕ) → number_at 8 s 0 ≡ (map_at s).version
unfolding map_at
version_is s = refl

remembers : (s : List ℕ) (few : Few s) (q : Request) (o : tables.Outcome) (version : ℕ) (after : ShardMap)
    → view_map after ≡ with_version (with_sessions (read_as s) (put session_below (record { client = q.client; seq = q.seq; outcome = o }) (read_as s).sessions)) version
    → view_map after ≡ remembered (view_map (map_at s)) (view_request q []) o version
unfolding remembered
remembers s few q o version after e =
    e ∙ ap (λ (x : tables.Map). with_version (with_sessions x (put session_below (record { client = q.client; seq = q.seq; outcome = o }) x.sessions)) version) (sym (read_as_lem s few))

-- ---- what was written over an image that a command had changed

over_written : (s t u : List ℕ) (x : tables.Map) (few : Few s) → Edits s t x → (l : List tables.Session) (version : ℕ)
    → (w : Writes t u (with_version (with_sessions (read_as t) l) version)) → MapWrites s u (map_at w.edited)
over_written s t u x few e l version w =
    let is : view_map (map_at w.edited) ≡ with_version (with_sessions (read_as t) l) version = read_as_lem w.edited w.few ∙ w.view in
    let z = few.long in
    let k = e.within.long in
    let here : Within s t (length (read_as t).nodes) (length (read_as t).collections) (length (read_as t).shards) 0 =
    subst (λ (y : tables.Map). Within s t (length y.nodes) (length y.collections) (length y.shards) 0) (sym e.after.view) e.within in
    written_over s t u (map_at w.edited) (subst Fits (sym (read_as_lem w.edited w.few)) (fits w.edited w.few w.bytes)) (omega arith)
    (subst (λ (y : tables.Map). Within s t (length y.nodes) (length y.collections) (length y.shards) (length y.sessions)) (sym is)
    (within-any (length l) here))
    w.written

refusal_unnoted : (x : Refusal) → noted (said.number_of (refusal_of x)) ≡ false
refusal_unnoted Undecodable = refl
refusal_unnoted NoRoom = refl
refusal_unnoted Malformed = refl
refusal_unnoted LastEpoch = refl

pub effect_taken : (a : tables.Answer) → takes_effect a ≡ true → a ≡ accepts
effect_taken (tables.outcome tables.applied) e = refl
effect_taken (tables.outcome (tables.rejected why)) e = absurd (let z : ◌≡◌ {A = ℕ} 0 1 = cc in omega arith)
effect_taken (tables.refused why) e = absurd (let z : ◌≡◌ {A = ℕ} 0 1 = cc in omega arith)

pub effect_accepted : (s : List ℕ) (q : Request) (v : Verdict) → Decided (map_at s) q v → takes_effect (answer_of v) ≡ true → Accepted s q
effect_accepted s q v d e bs = sym (d.answer bs) ∙ effect_taken (answer_of v) e

-- ---- a request that is decided now

pub answers-now : (s : List ℕ) (q : Request) → Fresh s q → (v : Verdict) → Answers s q v → Decided (map_at s) q v
answers-now s q fr v h = record {
  answer = λ bs. h bs ∙ ap (λ (x : model.Applied). x.answer) (fr.decided bs) ∙ settle-answer (view_map (map_at s)) (view_request q bs) _;
}

module _ (s : List ℕ) (q : Request) (fr : Fresh s q) (v : Verdict) (d : Decided (map_at s) q v) where
  abbrev m : ShardMap
  m = map_at s

  abbrev few : Few s
  few = fr.ready.few

  abbrev S : Settleable m q
  S = fr.ready.settleable

  counted-rows : every row_counted (shard_rows s) ≡ true
  counted-rows = rows-counted s few S.counted

  -- ---- applied

  module _ (ok : answer_of v ≡ accepts) (t : List ℕ) (k : Taken s t q) where
    abbrev edit : Edits s t k.map
    edit = k.edits

    done : (bs : List ℕ) → view_map (map_at t) ≡ commit (view_map m) (view_command q bs)
    done bs = read_as_lem t edit.after.few ∙ edit.after.view ∙ k.is bs ∙ ap (λ (y : tables.Map). commit y (view_command q bs)) (sym (read_as_lem s few))

    pub applied-room : Few t × Room t q.client q.seq (answer_of v)
    applied-room = (
      edit.after.few,
      subst (Room t q.client q.seq) (sym ok)
          (subst (λ (y : tables.Map). length (put session_below (session_of q Applied v.key) y.sessions) ≤ 64) (read_as_lem t edit.after.few)
          (applied-place m q S fr.decided v d Applied v.key ok refl (map_at t) (done []))),
    )

    written_as_lem : (version : ℕ) → version ≡ cond (sets_version (view_command q [])) q.index (number_at 8 s 0) → (u : List ℕ)
        → Noted t q.client q.seq u accepts version → Settles s u q 0
    written_as_lem version ver u w =
        let after = map_at w.edited in
        let view = read_as_lem w.edited w.few ∙ w.view in
        record {
          after = record { verdict = v; map = after };
          settles =
              settled m q S fr.decided (record { verdict = v; map = after }) accepts d ok
              (λ bs. applied-map m q S fr.decided v d Applied v.key ok refl (map_at t) after version bs
              (remembers t edit.after.few q tables.applied version after view) (done bs)
              (ver ∙ ap (cond (sets_version (view_command q [])) q.index) (version_is s)))
              (λ bs same. absurd (changes m q tables.applied bs fr.unseen same))
              (tables_counted w.edited w.few (w.counted (edit.after.counted counted-rows)));
          answer = sym (ap reason_number ok);
          written = λ _. over_written s t u k.map few edit _ version w;
          kept = λ f. not_both (noted 0) refl f;
        }

    pub applied_way : (version : ℕ) → version ≡ cond (sets_version (view_command q [])) q.index (number_at 8 s 0) → (u : List ℕ) (r : ℕ)
        → (r ≡ reason_number (answer_of v)) × Noted t q.client q.seq u (answer_of v) version → Settles s u q r
    applied_way version ver u r told =
        subst (Settles s u q) (sym (told.0 ∙ ap reason_number ok))
        (written_as_lem version ver u (subst (λ (a : tables.Answer). Noted t q.client q.seq u a version) ok told.1))

  -- ---- rejected

  module _ (o : Rejection) (bad : answer_of v ≡ rejects (rejection_of o (view_key v.key))) where
    abbrev why : said.Rejection
    why = rejection_of o (view_key v.key)

    rejected_room : Room s q.client q.seq (rejects why)
    rejected_room =
        subst (λ (y : tables.Map). length (put session_below (session_of q (Rejected o) v.key) y.sessions) ≤ 64) (read_as_lem s few)
        (rejected_place m q S fr.decided v d (Rejected o) v.key why bad refl)

    -- what is decided now is remembered: no rejection has such a number
    rejected_noted : (r : ℕ) → r ≡ reason_number (answer_of v) → noted r ≡ true
    rejected_noted r e =
        ap noted (e ∙ ap reason_number bad)
        ∙ subst Now (sym (d.answer []) ∙ bad) (decide-now (view_map m) (view_command q []))

    rejected_way : (version : ℕ) → version ≡ number_at 8 s 0 → (u : List ℕ) (r : ℕ) → r ≡ reason_number (answer_of v)
        → Noted s q.client q.seq u (rejects why) version → Settles s u q r
    rejected_way version ver u r e w =
        let after = map_at w.edited in
        let view = read_as_lem w.edited w.few ∙ w.view in
        record {
          after = record { verdict = v; map = after };
          settles =
              settled m q S fr.decided (record { verdict = v; map = after }) (rejects why) d bad
              (λ bs. rejected_map m q S fr.decided v d (Rejected o) v.key why bad refl after bs
              (remembers s few q (tables.rejected why) version after view ∙ ap (remembered (view_map m) (view_request q []) (tables.rejected why)) (ver ∙ version_is s)))
              (λ bs same. absurd (changes m q (tables.rejected why) bs fr.unseen same))
              (tables_counted w.edited w.few (w.counted counted-rows));
          answer = e;
          written = λ _. w.written;
          kept = λ g. not_both (noted r) (rejected_noted r e) g;
        }

  -- ---- refused

  refused_way : (o : Refusal) → answer_of v ≡ tables.refused (refusal_of o) → (u : List ℕ) (r : ℕ) → r ≡ reason_number (answer_of v) → u ≡ s → Settles s u q r
  refused_way o bad u r e same =
      let f : noted r ≡ false = ap noted (e ∙ ap reason_number bad) ∙ refusal_unnoted o in
      record {
        after = record { verdict = v; map = m };
        settles =
            settled m q S fr.decided (record { verdict = v; map = m }) (tables.refused (refusal_of o)) d bad (λ bs. refused-map (view_map m) (view_request q bs) (refusal_of o))
            (λ bs _. refl) S.counted;
        answer = e;
        written = λ w. not_both (noted r) w f;
        kept = λ _. same;
      }

  -- ---- whatever takes no effect

  module _ (down : takes_effect (answer_of v) ≡ false) where
    pub told-room : Room s q.client q.seq (answer_of v)
    told-room = go v.answer refl down
      where
        go : (x : Result Outcome Refusal) → v.answer ≡ x → takes_effect (answer_in x (view_key v.key)) ≡ false → Room s q.client q.seq (answer_in x (view_key v.key))
        go (Ok Applied) e f = absurd (let z : ◌≡◌ {A = ℕ} 0 1 = cc in omega arith)
        go (Ok (Rejected o)) e f = rejected_room o (ap (λ (a : Result Outcome Refusal). answer_in a (view_key v.key)) e)
        go (Err o) e f = omega arith

    pub told_way : (version : ℕ) → version ≡ number_at 8 s 0 → (u : List ℕ) (r : ℕ)
        → (r ≡ reason_number (answer_of v)) × Noted s q.client q.seq u (answer_of v) version → Settles s u q r
    told_way version ver u r told = go v.answer refl down told.1
      where
        go : (x : Result Outcome Refusal) → v.answer ≡ x → takes_effect (answer_in x (view_key v.key)) ≡ false
            → Noted s q.client q.seq u (answer_in x (view_key v.key)) version → Settles s u q r
        go (Ok Applied) e f w = absurd (let z : ◌≡◌ {A = ℕ} 0 1 = cc in omega arith)
        go (Ok (Rejected o)) e f w = rejected_way o (ap (λ (a : Result Outcome Refusal). answer_in a (view_key v.key)) e) version ver u r told.0 w
        go (Err o) e f w = refused_way o (ap (λ (a : Result Outcome Refusal). answer_in a (view_key v.key)) e) u r told.0 w
