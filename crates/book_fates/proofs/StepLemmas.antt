-- An entry on, what is known is judged anew.
use Rattle.std.proofs.Common.{◌≡◌, Bool, true, false, cond, List, [], ◌∷◌, map, Option, Some, None, refl, sym, ap, ◌∙◌, option_map}
use Rattle.std.specs.Prelude.{unwrap_or, ◌||◌, if◌then◌else◌}
use Rattle.std.specs.List.{cons_option}
use Rattle.std.specs.Option.{option_map_or}
use Rattle.xc_base.specs.declared.names.Key.{Key}
use Rattle.xc_base.specs.declared.names.Time.{Time}
use Rattle.xc_base.specs.declared.reason.Reason.{Reason}
use Rattle.xc_keys.specs.Keys.{is_key}
use Rattle.xc_keys.proofs.KeyLemmas.{same_key}
use Rattle.xds_config.specs.declared.value.Value.{Value}
use Rattle.xds_cache.specs.declared.fate.Known.{Known}
use Rattle.xds_cache.specs.KeptFates.{Watched as Rows, after_refusal}
use Rattle.call_journal.specs.declared.entry.Entry.{Entry}
use Rattle.config_assembly.specs.Watching.{has_key, IsWatching}
use Rattle.xds_history.specs.Setting.{Setting}
use Rattle.xds_history.specs.Responses.{Came}
use Rattle.xds_history.specs.declared.page.Page.{Page}
use Rattle.xds_history.specs.declared.page.Watched.{Watched}
use Rattle.xds_history.specs.declared.page.Mark.{Mark}
use Rattle.xds_history.specs.Page.{find_watched, watched_now}
use Rattle.xds_history.specs.Fates.{judged, fate_by, last_value, last_reason, was_gone, mark, with_mark, marked, watch, watch_key}
use Rattle.book_fates.specs.FateSteps.{Knows, Stepped, after_mark, after_marks, step, mark_known}

-- ---- one mark more

refused_by : (reason : Reason) (value : Option Value) (last : Option Reason) (gone : Bool) → fate_by value (Some reason) gone ≡ after_refusal reason (fate_by value last gone)
refused_by reason (Some v) last gone = refl
refused_by reason None (Some other) gone = refl
refused_by reason None None true = refl
refused_by reason None None false = refl

pub judged_valid : (v : Value) (marks : List Mark) → judged (Mark.Valid v ∷ marks) ≡ Known.Value v
judged_valid v marks = refl

pub judged_invalid : (reason : Reason) (marks : List Mark) → judged (Mark.Invalid reason ∷ marks) ≡ after_refusal reason (judged marks)
judged_invalid reason marks = refused_by reason (last_value marks) (last_reason marks) (was_gone marks)

pub judged_gone : (marks : List Mark) → judged (Mark.Gone ∷ marks) ≡ Known.Absent
judged_gone marks = refl

pub judged_one : (m : Mark) (marks : List Mark) → judged (m ∷ marks) ≡ after_mark m (judged marks)
judged_one (Mark.Valid v) marks = refl
judged_one (Mark.Invalid reason) marks = judged_invalid reason marks
judged_one Mark.Gone marks = refl

pub judged_more : (o : Option Mark) (marks : List Mark) → judged (cons_option o marks) ≡ after_marks o (judged marks)
judged_more None marks = refl
judged_more (Some m) marks = judged_one m marks

-- ---- all marks of an entry

-- the mark of a watched key is a matter of the key and of what is known of it
pub mark_is : (s : Setting) (c : Came) (past : List Entry) (ps : List Page) (now : Time) (w : Watched) → mark s c past ps now w ≡ mark_known s c past ps now w.key (judged w.marks)
mark_is s c past ps now w = refl

judged_with : (s : Setting) (c : Came) (past : List Entry) (ps : List Page) (now : Time) (w : Watched) → judged (with_mark s c past ps now w).marks ≡ step s c past ps now w.key (judged w.marks)
judged_with s c past ps now w = judged_more (mark s c past ps now w) w.marks

found_at : (b : Bool) (s : Setting) (c : Came) (past : List Entry) (ps : List Page) (now : Time) (key : Key) (w : Watched) (rest more : Option Watched) → is_key key w.key ≡ b →
    option_map (step s c past ps now key) (option_map (λ w. judged w.marks) rest) ≡ option_map (λ w. judged w.marks) more →
    option_map (step s c past ps now key) (option_map (λ w. judged w.marks) (cond b (Some w) rest)) ≡ option_map (λ w. judged w.marks) (cond b (Some (with_mark s c past ps now w)) more)
found_at true s c past ps now key w rest more is later =
    ap (λ k. Some (step s c past ps now k (judged w.marks))) (same_key key w.key is) ∙ ap Some (sym (judged_with s c past ps now w))
found_at false s c past ps now key w rest more is later = later

pub found_marked : (s : Setting) (c : Came) (past : List Entry) (ps : List Page) (now : Time) (key : Key) (ws : List Watched) →
    option_map (step s c past ps now key) (option_map (λ w. judged w.marks) (find_watched key ws)) ≡ option_map (λ w. judged w.marks) (find_watched key (map (with_mark s c past ps now) ws))
found_marked s c past ps now key [] = refl
found_marked s c past ps now key (w ∷ ws) =
    found_at (is_key key w.key) s c past ps now key w (find_watched key ws) (find_watched key (map (with_mark s c past ps now) ws)) refl (found_marked s c past ps now key ws)

-- what is known of each key takes the entry's step: then the cache knows what is marked
pub knows_marked : (s : Setting) (c : Came) (past : List Entry) (ps : List Page) (now : Time) (old new : Rows) → Knows old (watched_now ps) → Stepped old new (step s c past ps now) → Knows new (marked s c past ps now)
knows_marked s c past ps now old new knows stepped key =
    stepped key ∙ ap (option_map (step s c past ps now key)) (knows key) ∙ found_marked s c past ps now key (watched_now ps)

-- ---- what is watched

watched_at : (b : Bool) (marks : List Watched) (key k : Key) (rest : Option Watched) (has : Bool) → is_key key k ≡ b → rest ≡ (if has then Some (watch_key marks key) else None) →
    cond b (Some (watch_key marks k)) rest ≡ (if (b || has) then Some (watch_key marks key) else None)
watched_at true marks key k rest has is later = ap (λ x. Some (watch_key marks x)) (sym (same_key key k is))
watched_at false marks key k rest has is later = later

found_watched : (marks : List Watched) (keys : List Key) (key : Key) → find_watched key (watch marks keys) ≡ (if has_key keys key then Some (watch_key marks key) else None)
found_watched marks [] key = refl
found_watched marks (k ∷ keys) key = watched_at (is_key key k) marks key k (find_watched key (watch marks keys)) (has_key keys key) refl (found_watched marks keys key)

begun : (o : Option Watched) → judged (option_map_or (λ w. w.marks) o []) ≡ unwrap_or (option_map (λ w. judged w.marks) o) Known.Wanted
begun None = refl
begun (Some w) = refl

kept_by : (b : Bool) (marks : List Watched) (key : Key) → (if b then Some (unwrap_or (option_map (λ w. judged w.marks) (find_watched key marks)) Known.Wanted) else None) ≡ option_map (λ w. judged w.marks) (if b then Some (watch_key marks key) else None)
kept_by true marks key = ap Some (sym (begun (find_watched key marks)))
kept_by false marks key = refl

-- what is known of a key that is watched from now on
pub known_watched : (marks : List Watched) (keys : List Key) (key : Key) → option_map (λ w. judged w.marks) (find_watched key (watch marks keys)) ≡ (if has_key keys key then Some (unwrap_or (option_map (λ w. judged w.marks) (find_watched key marks)) Known.Wanted) else None)
known_watched marks keys key = ap (option_map (λ w. judged w.marks)) (found_watched marks keys key) ∙ sym (kept_by (has_key keys key) marks key)

-- the cache watches these keys and no others: then it knows what is marked for them
pub knows_watched : (old new : Rows) (marks : List Watched) (keys : List Key) → Knows old marks → IsWatching old new keys → Knows new (watch marks keys)
knows_watched old new marks keys knows are key =
    are key ∙ ap (λ o. if has_key keys key then Some (unwrap_or o Known.Wanted) else None) (knows key) ∙ sym (known_watched marks keys key)
