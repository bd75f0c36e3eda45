-- What is decided of a request, by what is remembered of its client: older, repeated, of a 65th client, or decided now. Assumes nothing.
use Prim.Native.Nat.{ℕ, ◌+◌, ◌*◌, ◌≤◌, ◌<◌}
use mathlib.Core.Path.{◌≡◌, refl, sym, ap, subst, ◌∙◌}
use mathlib.Core.Bool.{true, false}
use mathlib.Core.List.{List}
use mathlib.Core.Option.{none, some}
use lib.ListN.{length, length-map}
use native.Mathlib.Omega.{arith}
use Rattle.spec.specs.Refusals as said
use Rattle.spec.specs.Layout.Format.{number_at}
use Rattle.spec.specs.Map.Tables as tables
use Rattle.spec.specs.Map.Apply as model
use Rattle.spec.specs.Map.Apply.{is_client}
use Rattle.spec.specs.Map.Change.{rejects}
use Rattle.spec_laws.proofs.Lists.{not_both}
use Rattle.spec_laws.proofs.Map.Sessions.{equal_seq, older_seq, next_seq, new_client, full-clients}
use Rattle.map_tables.specs.Find.{first_at}
use Rattle.map_tables.specs.View.{answer_of, view_request, view_map, view_session, view_sessions}
use Rattle.map_tables.specs.declared.Request.{Request}
use Rattle.map_tables.specs.declared.SessionRow.{SessionRow}
use Rattle.map_tables.specs.declared.Verdict.{Verdict}
use Rattle.map_apply.specs.Decided.{Decided}
use Rattle.map_apply.proofs.Apply.{settle-answer, unseen_new, unseen_later}
use Rattle.image_parts.specs.Shape.{items}
use Rattle.image_parts.proofs.Images.{length-items}
use Rattle.image_map_row.specs.Rows.{session_at}
use Rattle.image_map.specs.Image.{sessions_at, map_at}
use Rattle.image_map_put.proofs.Whole.{read_as_lem}
use Rattle.calls_decide.specs.Decides.{Ready, Fresh, Known, Answers, Keeps, Decides}
use Rattle.calls_decide.proofs.Places.{session_some, session-none}

-- ---- what is decided

pub now-answers : (s : List ℕ) (q : Request) → Fresh s q → (v : Verdict) → Decided (map_at s) q v → Answers s q v
now-answers s q fr v d bs =
    d.answer bs ∙ sym (settle-answer (view_map (map_at s)) (view_request q bs) _) ∙ ap (λ (x : model.Applied). x.answer) (sym (fr.decided bs))

pub decides_now : (s : List ℕ) (q : Request) → Fresh s q → (v : Verdict) → Decided (map_at s) q v → Decides s q (record { verdict = v; fresh = true })
decides_now s q fr v d = record { answer = now-answers s q fr v d; fresh = λ _. fr; told = λ e. not_both true refl e }

pub decides_told : (s : List ℕ) (q : Request) (v : Verdict) → Keeps s q (answer_of v) → Decides s q (record { verdict = v; fresh = false })
decides_told s q v k = record {
  answer = λ bs. sym (ap (λ (x : model.Applied). x.answer) (k bs));
  fresh = λ e. not_both false e refl;
  told = λ _. k;
}

-- an answer by its name
pub keeps_as : (s : List ℕ) (q : Request) (a b : tables.Answer) → b ≡ a → Keeps s q a → Keeps s q b
keeps_as s q a b e k = subst (Keeps s q) (sym e) k

-- ---- a client that the map knows

module _ (s : List ℕ) (q : Request) (place : ℕ) (k : Known s q place) where
  abbrev row : SessionRow
  row = session_at s (21416 + 80 * place)

  present : model.session_at (view_map (map_at s)).sessions q.client ≡ some (view_session row)
  unfolding map_at
  present = session_some s k.ready.few.sessions q.client place k.found k.inside

  pub older_keeps : q.seq < row.seq → Keeps s q (rejects said.older)
  older_keeps lt bs = older_seq (view_map (map_at s)) (view_request q bs) (view_session row) present lt

  pub equal_keeps : q.seq ≡ row.seq → Keeps s q (tables.outcome (view_session row).outcome)
  equal_keeps e bs = equal_seq (view_map (map_at s)) (view_request q bs) (view_session row) present e

  pub next-fresh : row.seq < q.seq → Fresh s q
  next-fresh lt = record {
    ready = k.ready;
    decided = λ bs. next_seq (view_map (map_at s)) (view_request q bs) (view_session row) present lt;
    unseen = unseen_later (map_at s) q (view_session row) present lt;
  }

-- ---- a client that the map does not know

module _ (s : List ℕ) (q : Request) (rd : Ready s q) (place : ℕ) (found : place ≡ first_at (is_client q.client) (view_sessions (sessions_at s)))
    (past : number_at 8 s 32 ≤ place) where
  absent : model.session_at (view_map (map_at s)).sessions q.client ≡ none
  unfolding map_at
  absent = session-none s rd.few.sessions q.client place found past

  sessions_are : length (view_map (map_at s)).sessions ≡ number_at 8 s 32
  sessions_are =
      ap (λ (x : tables.Map). length x.sessions) (read_as_lem s rd.few) ∙ length-map (items (number_at 8 s 32) (session_at s) 80 21416) view_session
      ∙ length-items (number_at 8 s 32) (session_at s) 80 21416

  pub full-keeps : 64 ≤ number_at 8 s 32 → Keeps s q (tables.refused said.no_room)
  full-keeps h bs = let l = sessions_are in full-clients (view_map (map_at s)) (view_request q bs) absent (omega arith)

  pub new-fresh : number_at 8 s 32 < 64 → Fresh s q
  new-fresh h = let l = sessions_are in record {
    ready = rd;
    decided = λ bs. new_client (view_map (map_at s)) (view_request q bs) absent (omega arith);
    unseen = unseen_new (map_at s) q absent;
  }
