-- The line that is told is wrong in the report of each legal history.
use Rattle.std.proofs.Common.{◌≡◌, ◌⊎◌, ◌<◌, ◌+◌, ℕ, List, [], ◌∷◌, ◌++◌, length, drop, All, Option, Some, None, Result, Ok, Err, refl, sym, ap, ◌∙◌, subst, inl, inr, append_assoc, arith}
use Rattle.std.specs.Prelude.{IfOk, IfSome}
use Rattle.std.proofs.lemmas.List.{length-append}
use Rattle.call_journal.specs.declared.entry.Entry.{Entry}
use Rattle.session_lines.specs.Lines.{lines_of}
use Rattle.session_lines.specs.declared.session.Session.{Session}
use Rattle.session_shape.specs.SessionShape.{AreLines}
use Rattle.report_replay.specs.xds_history.Pages.{pages}
use Rattle.report_replay.specs.xds_history.References.{snapshots_of}
use Rattle.report_replay.specs.xds_history.Right.{Right}
use Rattle.report_replay.specs.xds_history.Setting.{Setting, setting_of}
use Rattle.report_replay.specs.legal_history.Legal.{Legal}
use Rattle.report_replay.specs.report_writer.JournalReport.{entries_report}
use Rattle.report_replay.specs.text_law.TextLaw.{text_of}
use Rattle.report_replay.specs.turn_law.TurnLaw.{IsTurn}
use Rattle.report_replay.proofs.turn_law.PlayedTurns.{legal_are_turns}
use Rattle.report_replay.specs.front_law.FrontLaw.{IsFrontOf}
use Rattle.report_replay.proofs.front_law.FrontProofs.{front_is_reported}
use Rattle.report_replay.specs.alike_law.AlikeTexts.{GoesAlike, Parting, PartsAt}
use Rattle.report_replay.proofs.alike_law.PartingProofs.{alike_parts}
use Rattle.report_replay.proofs.alike_law.FirstEntryProofs.{first_lines_stand, front_is_written}
use Rattle.report_replay.specs.report_compare.FirstLines.{first_lines}
use Rattle.report_replay.specs.report_compare.declared.mistakes.Mistake.{Mistake}
use Rattle.report_replay.specs.xds_book.BookViews.{BookView}
use Rattle.report_replay.specs.ReplayedTurns.{IsBeyond}
use Rattle.report_replay.proofs.BeginLemmas.{some_lines, whole_report}
use Rattle.report_replay.proofs.FoundLemmas.{not_beyond}
use Rattle.judged_session.specs.JudgedTurns.{IsApart, IsWhole, IsWrongAt, IsWrongFor}
use Rattle.judged_session.proofs.JudgeLemmas.{same_text}

-- ---- texts

-- a text that parts from another behind so many lines has them
many_lines : (number : ℕ) (report text : List ℕ) → PartsAt number report text → length (lines_of report) < number → ⊥
many_lines number report text parts few =
    let many : length (lines_of report) ≡ length parts.parting.common + length parts.parting.one = ap length parts.one_is ∙ length-append parts.parting.common parts.parting.one in
    let common : length parts.parting.common ≡ number = parts.many in
    omega (arith, many, common, few)

-- what differs from a report in one of its lines hasn't the lines of a text that goes on like it to there
apart_by : (number : ℕ) (report text played : List ℕ) → PartsAt number report text → GoesAlike number report text → first_lines number text ≡ first_lines number played
    → (first_lines number report ≡ first_lines number played → length (lines_of report) < number) → ⊥
apart_by number report text played parts alike same differs = many_lines number report text parts (differs (alike.lines ∙ same))

-- ---- behind the common lines

abbrev written : Session → List Entry → List ℕ
written session past = entries_report session.boot.authorities (snapshots_of (pages (setting_of session.boot session.target) past)) past

-- the first lines of the history's report are those of its first entries
beyond_lines : (session : Session) (history : List Entry) (number : ℕ) (report : List ℕ) (parts : PartsAt number report (text_of session history)) (book : BookView) → Legal session history → All IsTurn history
    → (beyond : IsBeyond session history parts.parting book) → (rest : List ℕ) → first_lines number (text_of session history) ≡ first_lines number (written session beyond.past ++ rest)
beyond_lines session history number report parts book legal turns beyond rest =
    let s : Setting = setting_of session.boot session.target in
    let whole : List Entry = beyond.later ++ beyond.past in
    let many : length (beyond.before ++ beyond.common) ≡ number = ap length (sym beyond.split) ∙ parts.many in
    let lines : lines_of (text_of session whole) ≡ beyond.before ++ (beyond.common ++ parts.parting.other) =
    ap (λ (es : List Entry). lines_of (text_of session es)) beyond.whole
    ∙ (parts.other_is ∙ (ap (λ (ls : List (List ℕ)). ls ++ parts.parting.other) beyond.split ∙ append_assoc beyond.before beyond.common parts.parting.other)) in
    let stand : first_lines (length (beyond.before ++ beyond.common)) (text_of session whole) ≡ first_lines (length (beyond.before ++ beyond.common)) (written session beyond.past ++ rest) =
    first_lines_stand s session.boot.authorities beyond.later beyond.past beyond.before beyond.common parts.parting.other
    (subst (λ (es : List Entry). Right s es) (sym beyond.whole) legal.right)
    (lines ∙ ap (λ (ls : List (List ℕ)). beyond.before ++ ls) (sym beyond.legal_are)) beyond.legal_are beyond.on rest in
    ap (λ (es : List Entry). first_lines number (text_of session es)) (sym beyond.whole)
    ∙ subst (λ (n : ℕ). first_lines n (text_of session whole) ≡ first_lines n (written session beyond.past ++ rest)) many stand

-- ---- where the turns stopped

pub stopped_apart : (session : Session) (report : List ℕ) (number : ℕ) (book : BookView) (entries : List Entry) → Right (setting_of session.boot session.target) entries → entries ≡ book.entries
    → (first_lines number report ≡ first_lines number (written session entries) → length (lines_of report) < number) → IsApart session report number (λ history parting. IsBeyond session history parting book)
stopped_apart session report number book entries right is differs = λ history parts legal turns alike beyond.
    let s : Setting = setting_of session.boot session.target in
    let same : entries ≡ beyond.more ++ beyond.past = is ∙ beyond.entries in
    let front : IsFrontOf (written session beyond.past) (written session (beyond.more ++ beyond.past)) =
    front_is_written s session.boot.authorities beyond.more beyond.past (subst (λ (es : List Entry). Right s es) same right) in
    apart_by number report (text_of session history) (written session entries) parts alike
    (beyond_lines session history number report parts book legal turns beyond front.rest ∙ ap (λ (text : List ℕ). first_lines number text) (sym (ap (λ (es : List Entry). written session es) same ∙ front.begins)))
    differs

-- ---- where all was played

beyond_report : (session : Session) (history : List Entry) (number : ℕ) (report : List ℕ) (parts : PartsAt number report (text_of session history)) (book : BookView) (entries : List Entry) → Legal session history → All IsTurn history
    → Legal session entries → drop 1 entries ≡ book.entries → IsBeyond session history parts.parting book → first_lines number (text_of session history) ≡ first_lines number (text_of session entries)
beyond_report session history number report parts book [] legal turns own is beyond = absurd own.ends
beyond_report session history number report parts book (sweep ∷ past) legal turns own is beyond =
    let s : Setting = setting_of session.boot session.target in
    let same : sweep ∷ past ≡ (sweep ∷ beyond.more) ++ beyond.past = ap (λ (es : List Entry). sweep ∷ es) (is ∙ beyond.entries) in
    let front : IsFrontOf (written session beyond.past) (text_of session ((sweep ∷ beyond.more) ++ beyond.past)) =
    front_is_reported s session.boot.authorities (sweep ∷ beyond.more) beyond.past (subst (λ (es : List Entry). Right s es) same own.right) in
    beyond_lines session history number report parts book legal turns beyond front.rest
    ∙ ap (λ (text : List ℕ). first_lines number text) (sym (ap (λ (es : List Entry). text_of session es) same ∙ front.begins))

came_alike : (session : Session) (history : List Entry) (number : ℕ) (report : List ℕ) (parts : PartsAt number report (text_of session history)) (book : BookView) (entries : List Entry) → AreLines session.boot session.callers [] session.lines
    → Legal session history → All IsTurn history → Legal session entries → drop 1 entries ≡ book.entries → IsWhole history book ⊎ IsBeyond session history parts.parting book
    → first_lines number (text_of session history) ≡ first_lines number (text_of session entries)
came_alike session history number report parts book entries lines legal turns own is (inl whole) =
    ap (λ (text : List ℕ). first_lines number text) (sym (same_text session history book whole.seats entries (text_of session history) lines legal whole.swept own is refl))
came_alike session history number report parts book entries lines legal turns own is (inr beyond) = beyond_report session history number report parts book entries legal turns own is beyond

whole_apart : (session : Session) (report : List ℕ) (number : ℕ) (book : BookView) (entries : List Entry) → AreLines session.boot session.callers [] session.lines → Legal session entries → drop 1 entries ≡ book.entries
    → (first_lines number report ≡ first_lines number (text_of session entries) → length (lines_of report) < number) → IsApart session report number (λ history parting. IsWhole history book ⊎ IsBeyond session history parting book)
whole_apart session report number book entries lines own is differs = λ history parts legal turns alike came.
    apart_by number report (text_of session history) (text_of session entries) parts alike (came_alike session history number report parts book entries lines legal turns own is came) differs

apart_some : (session : Session) (report : List ℕ) (book : BookView) (entries : List Entry) (found : Option Mistake) → AreLines session.boot session.callers [] session.lines → Legal session entries → drop 1 entries ≡ book.entries
    → IfSome found (λ m. first_lines m.line report ≡ first_lines m.line (text_of session entries) → length (lines_of report) < m.line)
    → IfSome found (λ m. IsApart session report m.line (λ history parting. IsWhole history book ⊎ IsBeyond session history parting book))
apart_some session report book entries None lines own is differs = tt
apart_some session report book entries (Some mistake) lines own is differs = whole_apart session report mistake.line book entries lines own is differs

pub compared_apart : {E : Type 0} (session : Session) (report : List ℕ) (book : BookView) (entries : List Entry) (result : Result (Option Mistake) E) → AreLines session.boot session.callers [] session.lines → Legal session entries
    → drop 1 entries ≡ book.entries → IfOk result (λ found. IfSome found (λ m. first_lines m.line report ≡ first_lines m.line (text_of session entries) → length (lines_of report) < m.line))
    → IfOk result (λ found. IfSome found (λ m. IsApart session report m.line (λ history parting. IsWhole history book ⊎ IsBeyond session history parting book)))
compared_apart session report book entries (Ok found) lines own is differs = apart_some session report book entries found lines own is differs
compared_apart session report book entries (Err fault) lines own is differs = tt

-- ---- of any legal history

-- its report is this one, which has no mistake, or it parts from this one
by_parts : (session : Session) (report : List ℕ) (number : ℕ) (Came : List Entry → Parting → Type 0) (history : List Entry) → Legal session history → All IsTurn history → GoesAlike number report (text_of session history)
    → IsApart session report number Came → ((parts : PartsAt number report (text_of session history)) → Came history parts.parting) → (text_of session history ≡ report → ⊥)
    → (report ≡ text_of session history) ⊎ PartsAt number report (text_of session history) → ⊥
by_parts session report number Came history legal turns alike apart came other (inl is) = other (sym is)
by_parts session report number Came history legal turns alike apart came other (inr parts) = apart history parts legal turns alike (came parts)

pub wrong_at : (session : Session) (report : List ℕ) (number : ℕ) (Came : List Entry → Parting → Type 0) → IsApart session report number Came
    → ((history : List Entry) (parts : PartsAt number report (text_of session history)) → Legal session history → All IsTurn history → Came history parts.parting)
    → ((history : List Entry) → Legal session history → All IsTurn history → text_of session history ≡ report → ⊥) → IsWrongAt session report number
wrong_at session report number Came apart came other = λ history legal turns alike.
    by_parts session report number Came history legal turns alike apart (λ parts. came history parts legal turns) (other history legal turns)
    (alike_parts number report (setting_of session.boot session.target) session.boot.authorities history alike)

wrong_some : (session : Session) (report : List ℕ) (found : Option Mistake) (Came : List Entry → Parting → Type 0) → IfSome found (λ m. 0 < m.line) → IfSome found (λ m. IsApart session report m.line Came)
    → ((history : List Entry) → Legal session history → All IsTurn history → text_of session history ≡ report → found ≡ None)
    → ((history : List Entry) (number : ℕ) (parts : PartsAt number report (text_of session history)) → Legal session history → All IsTurn history → 0 < number → Came history parts.parting)
    → IfSome found (λ m. IsWrongAt session report m.line)
wrong_some session report None Came line apart none came = tt
wrong_some session report (Some mistake) Came line apart none came =
    wrong_at session report mistake.line Came apart (λ history parts legal turns. came history mistake.line parts legal turns line) (λ history legal turns is. absurd (cc (none history legal turns is)))

pub wrong_of : {E : Type 0} (session : Session) (report : List ℕ) (result : Result (Option Mistake) E) (Came : List Entry → Parting → Type 0) → IfOk result (λ found. IfSome found (λ m. 0 < m.line))
    → IfOk result (λ found. IfSome found (λ m. IsApart session report m.line Came)) → IfOk result (λ found. (history : List Entry) → Legal session history → All IsTurn history → text_of session history ≡ report → found ≡ None)
    → ((history : List Entry) (number : ℕ) (parts : PartsAt number report (text_of session history)) → Legal session history → All IsTurn history → 0 < number → Came history parts.parting)
    → IfOk result (λ found. IfSome found (λ m. IsWrongAt session report m.line))
wrong_of session report (Ok found) Came line apart none came = wrong_some session report found Came line apart none came
wrong_of session report (Err fault) Came line apart none came = tt

-- ---- the report of a legal history

whole_alone : (session : Session) (history : List Entry) (parting : Parting) (book : BookView) → parting.other ≡ [] → All IsTurn history → IsWhole history book ⊎ IsBeyond session history parting book → IsWhole history book
whole_alone session history parting book none turns (inl whole) = whole
whole_alone session history parting book none turns (inr beyond) = absurd (not_beyond session history parting book beyond none turns)

-- after its turns all is played but the last sweep
pub report_is_whole : (session : Session) (history : List Entry) (report : List ℕ) (book : BookView) → Legal session history → All IsTurn history → text_of session history ≡ report
    → ((number : ℕ) (parts : PartsAt number report (text_of session history)) → 0 < number → IsWhole history book ⊎ IsBeyond session history parts.parting book) → IsWhole history book
report_is_whole session history report book legal turns is came =
    let parts : PartsAt (length (lines_of report)) report (text_of session history) = whole_report session history report is in
    whole_alone session history parts.parting book refl turns (came (length (lines_of report)) parts (some_lines session history report legal turns is))

-- and they never stop
pub report_goes_on : (session : Session) (history : List Entry) (report : List ℕ) (book : BookView) → Legal session history → All IsTurn history → text_of session history ≡ report
    → ((number : ℕ) (parts : PartsAt number report (text_of session history)) → 0 < number → IsBeyond session history parts.parting book) → ⊥
report_goes_on session history report book legal turns is came =
    let parts : PartsAt (length (lines_of report)) report (text_of session history) = whole_report session history report is in
    not_beyond session history parts.parting book (came (length (lines_of report)) parts (some_lines session history report legal turns is)) refl turns

-- the entries of a legal history of a session that bytes spell are turns
pub wrong_for : (session : Session) (report : List ℕ) (found : Option Mistake) → IfSome found (λ mistake. IsWrongAt session report mistake.line) → IfSome found (λ mistake. IsWrongFor session report mistake.line)
wrong_for session report None wrong = tt
wrong_for session report (Some mistake) wrong = λ bytes history spells legal alike. wrong history legal (legal_are_turns bytes session history spells legal) alike
