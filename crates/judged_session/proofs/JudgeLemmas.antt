-- What is reported of a Book on which the turns of a legal history's report were played is the history.
use Rattle.std.proofs.Common.{◌≡◌, ℕ, List, [], ◌∷◌, drop, Option, Some, None, Result, Ok, Err, refl, sym, ap, ◌∙◌, subst}
use Rattle.std.specs.Prelude.{◌↔◌, IfOk}
use Rattle.std.proofs.lemmas.Option.{same_Some}
use Rattle.call_journal.specs.declared.entry.Entry.{Entry}
use Rattle.call_journal.specs.declared.entry.What.{What}
use Rattle.call_journal.specs.declared.event.DriverEvent.{DriverEvent}
use Rattle.call_journal.specs.declared.reply.DriverReply.{DriverReply}
use Rattle.session_lines.specs.declared.session.Session.{Session}
use Rattle.session_shape.specs.SessionShape.{AreLines}
use Rattle.session_script.specs.Plan.{driver_event}
use Rattle.report_replay.specs.xds_history.Responses.{refused_in}
use Rattle.report_replay.specs.xds_history.Pages.{pages}
use Rattle.report_replay.specs.xds_history.Right.{IsReply}
use Rattle.report_replay.specs.xds_history.declared.page.Page.{Page}
use Rattle.report_replay.specs.xds_history.Setting.{Setting, setting_of}
use Rattle.report_replay.specs.legal_history.Legal.{Legal}
use Rattle.closed_book.proofs.next_law.NextProofs.{next_of_legal}
use Rattle.report_replay.proofs.entry_law.EntryProofs.{next_is_one}
use Rattle.closed_book.proofs.sweep_law.SweepProofs.{sweep_stands}
use Rattle.report_replay.specs.text_law.TextLaw.{text_of}
use Rattle.report_replay.specs.report_compare.declared.mistakes.Mistake.{Mistake}
use Rattle.report_replay.specs.xds_book.BookViews.{BookView}
use Rattle.report_replay.specs.turn_player.TurnPlans.{SeatView}
use Rattle.report_replay.specs.ReplayedTurns.{HasSwept}
use Rattle.judged_session.specs.JudgedTurns.{IsWhole}

-- ---- its history

swept_none : (s : Setting) (e : Entry) (event : DriverEvent) (reply : DriverReply) (past : List Entry) (ps : List Page) → event ≡ DriverEvent.Sweep → IsReply s e (What.Driver event reply) past ps → reply.refused ≡ []
swept_none s e event reply past ps is right =
    let own : IsReply s e (What.Driver DriverEvent.Sweep reply) past ps = subst (λ (v : DriverEvent). IsReply s e (What.Driver v reply) past ps) is right in
    own.refused_is

told_none : (s : Setting) (e : Entry) (what : What) (past : List Entry) (ps : List Page) → IsReply s e what past ps → driver_event what ≡ Some DriverEvent.Sweep → refused_in what ≡ []
told_none s e (What.Driver event reply) past ps right is = swept_none s e event reply past ps (same_Some event DriverEvent.Sweep is) right
told_none s e (What.Caller event reply) past ps right is = refl

sweeps : (session : Session) (past : List Entry) (sweep : Entry) → Legal session (sweep ∷ past) → driver_event sweep.what ≡ Some DriverEvent.Sweep
sweeps session past sweep h = ap (λ (x : ℕ × Option DriverEvent). x.1) h.ends

sweep_tells : (session : Session) (past : List Entry) (sweep : Entry) → Legal session (sweep ∷ past) → refused_in sweep.what ≡ []
sweep_tells session past sweep h = told_none (setting_of session.boot session.target) sweep sweep.what past (pages (setting_of session.boot session.target) past) h.right.0 (sweeps session past sweep h)

-- over one past there is one last sweep
one_sweep : (session : Session) (past : List Entry) (one other : Entry) → AreLines session.boot session.callers [] session.lines → Legal session (one ∷ past) → Legal session (other ∷ past) → other ≡ one
one_sweep session past one other lines h k =
    next_is_one session [] past one other h k.right (next_of_legal session [] past other lines k)
    ((sweep_stands session past other k).actor_is ∙ sym (sweep_stands session past one h).actor_is)
    (sweep_tells session past other k ∙ sym (sweep_tells session past one h))

same_by : (session : Session) (past : List Entry) (sweep : Entry) (entries : List Entry) → AreLines session.boot session.callers [] session.lines → Legal session (sweep ∷ past) → Legal session entries → drop 1 entries ≡ past → entries ≡ sweep ∷ past
same_by session past sweep [] lines h k is = absurd k.ends
same_by session past sweep (other ∷ rest) lines h k is =
    let own : Legal session (other ∷ past) = subst (λ (es : List Entry). Legal session (other ∷ es)) is k in
    ap (λ (es : List Entry). other ∷ es) is ∙ ap (λ (e : Entry). e ∷ past) (one_sweep session past sweep other lines h own)

-- what the Book reports is the history whose turns were played
pub same_text : (session : Session) (history : List Entry) (book : BookView) (seats : List SeatView) (entries : List Entry) (report : List ℕ) → AreLines session.boot session.callers [] session.lines → Legal session history
    → HasSwept history book seats → Legal session entries → drop 1 entries ≡ book.entries → text_of session history ≡ report → text_of session entries ≡ report
same_text session history book seats entries report lines legal swept own past text =
    let h : Legal session (swept.sweep ∷ swept.past) = subst (λ (es : List Entry). Legal session es) (sym swept.whole) legal in
    let same : entries ≡ swept.sweep ∷ swept.past = same_by session swept.past swept.sweep entries lines h own (past ∙ swept.come.entries) in
    ap (λ (es : List Entry). text_of session es) (same ∙ swept.whole) ∙ text

-- what was played is compared with the report
pub found_by : {E : Type 0} (session : Session) (book : BookView) (entries : List Entry) (report : List ℕ) (result : Result (Option Mistake) E) → AreLines session.boot session.callers [] session.lines
    → Legal session entries → drop 1 entries ≡ book.entries → IfOk result (λ m. (m ≡ None) ↔ (text_of session entries ≡ report))
    → IfOk result (λ m. (history : List Entry) → Legal session history → text_of session history ≡ report → IsWhole history book → m ≡ None)
found_by session book entries report (Ok m) lines own past same = λ history legal text whole.
    same.1 (same_text session history book whole.seats entries report lines legal whole.swept own past text)
found_by session book entries report (Err fault) lines own past same = tt
