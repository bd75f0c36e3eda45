-- A session and a version put into an image, and the map written back. Assumes nothing.
use Prim.Native.Nat.{ℕ, ◌+◌, ◌*◌, ◌^◌, ◌≤◌, ◌<◌}
use mathlib.Core.Path.{◌≡◌, sym, ap, subst, ◌∙◌}
use mathlib.Core.List.{List}
use lib.ListN.{length}
use lib.Seq.{sets}
use Rattle.spec.specs.Keys.{Key}
use Rattle.spec.specs.Lists.{put}
use Rattle.spec.specs.Layout.Format.{Bytes, bytes_of}
use Rattle.spec.specs.Map.Apply.{session_below}
use Rattle.spec.specs.Map.Tables as tables
use Rattle.map_tables.specs.View.{answer_in, view_session, view_map}
use Rattle.map_tables.specs.declared.Outcome.{Outcome}
use Rattle.map_tables.specs.declared.Refusal.{Refusal}
use Rattle.std.specs.Prelude.{Result}
use Rattle.map_tables.specs.declared.SessionRow.{SessionRow}
use Rattle.image_map.specs.Image.{map_at, MapWrites}
use Rattle.image_map.proofs.Back.{Fits}
use Rattle.image_map_put.specs.Few.{Few}
use Rattle.image_map_put.specs.Rows.{read_as}
use Rattle.image_map_put.proofs.Whole.{read_as_lem, fits}
use Rattle.image_map_edit.specs.Becomes.{Apart, SessionsBecome}
use Rattle.image_map_edit.specs.Edits.{After}
use Rattle.image_map_edit.specs.Other.{with_sessions, with_version}
use Rattle.image_map_edit.proofs.Cover.{within-then, within_version, within-sessions}
use Rattle.image_map_edit.proofs.Frames.{after-sessions, after_version, written_over}
use Rattle.calls_apply.specs.Settles.{Writes, Noted}

module _ (s : List ℕ) (few : Few s) (row : SessionRow) (room : length (put session_below (view_session row) (read_as s).sessions) ≤ 64)
    (t : List ℕ) (b : SessionsBecome s t (put session_below (view_session row) (read_as s).sessions))
    (version : ℕ) (small : version < 256 ^ 8) (u : List ℕ) (e : u ≡ sets t 0 (bytes_of 8 version)) where
  abbrev sessions : List tables.Session
  sessions = put session_below (view_session row) (read_as s).sessions

  first : After s t (with_sessions (read_as s) sessions)
  first = after-sessions s t few sessions room b

  second : After t u (with_version (read_as t) version)
  second = after_version t u first.few version small e

  view : read_as u ≡ with_version (with_sessions (read_as s) sessions) version
  view = second.view ∙ ap (λ (x : tables.Map). with_version x version) first.view

  pub remembered-few : Few u
  remembered-few = second.few

  module _ (bytes : Bytes u) (w : List ℕ) (p : MapWrites u w (map_at u)) where
    is : view_map (map_at u) ≡ with_version (with_sessions (read_as s) sessions) version
    is = read_as_lem u remembered-few ∙ view

    pub remembered-writes : Writes s w (with_version (with_sessions (read_as s) sessions) version)
    remembered-writes =
        let f = remembered-few in
        let l = f.long in
        let k : length (view_map (map_at u)).sessions ≡ length sessions = ap (λ (x : tables.Map). length x.sessions) is in
        record {
          edited = u;
          bytes = bytes;
          few = remembered-few;
          view = view;
          counted = λ h. second.counted (first.counted h);
          written =
              written_over s u w (map_at u) (subst Fits (sym (read_as_lem u remembered-few)) (fits u remembered-few bytes)) l
              (within-then (within-sessions _ _ _ _ (subst (λ (i : ℕ). Apart s t 32 21416 (21416 + 80 * i)) (sym k) b.apart)) (within_version _ _ _ _ version e))
              p;
        }

-- what was noted of an answer, by its name
pub noted_as : (s t : List ℕ) (client seq : ℕ) (k : Key) (x y : Result Outcome Refusal) (version : ℕ) → x ≡ y → Noted s client seq t (answer_in y k) version
    → Noted s client seq t (answer_in x k) version
noted_as s t client seq k x y version e w = subst (λ (a : Result Outcome Refusal). Noted s client seq t (answer_in a k) version) (sym e) w
