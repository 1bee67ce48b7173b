-- Each entry of a right history that plays the plan of a session stands after the line that gates its own.
use Rattle.std.proofs.Common.{◌≡◌, ℕ, List, [], ◌∷◌, Bool, true, false, ◌&&◌, ◌||◌, Option, Some, None, refl, sym, ap, ◌∙◌, subst}
use Rattle.std.specs.Prelude.{◌==◌}
use Rattle.xc_base.specs.declared.call.Call.{Call}
use Rattle.call_journal.specs.declared.event.CallerEvent.{CallerEvent}
use Rattle.call_journal.specs.declared.event.DriverEvent.{DriverEvent}
use Rattle.call_journal.specs.declared.reply.CallerReply.{CallerReply}
use Rattle.call_journal.specs.declared.entry.What.{What}
use Rattle.call_journal.specs.declared.entry.Entry.{Entry}
use Rattle.call_journal.specs.declared.plan.Listed.{Listed}
use Rattle.session_lines.specs.declared.session.Session.{Session}
use Rattle.session_plan.specs.PlanOfSession.{plan_of}
use Rattle.session_plan.specs.ReadablePayloads.{is_response}
use Rattle.reply_law.specs.xds_history.Setting.{Setting}
use Rattle.reply_law.specs.xds_history.Right.{IsReply, Right, pin_reply}
use Rattle.reply_law.specs.xds_history.Page.{latest_number}
use Rattle.reply_law.specs.xds_history.declared.page.Page.{Page}
use Rattle.reply_law.specs.xds_history.Pages.{pages}
use Rattle.sweep_law.specs.legal_history.Legal as legal
use Rattle.sweep_law.specs.legal_history.Legal.{AreOpen, gate_of}
use Rattle.session_shape.specs.SessionShape.{AreLines}
use Rattle.book_progress.specs.ActorCounts.{count_of}
use Rattle.book_progress.specs.EndedLines.{IsOpen, ends_line, has_ended, pin_ends}
use Rattle.book_progress.specs.PlayedPlans.{IsNextOf, IsPlanPlayed, step_in}
use Rattle.sweep_law.proofs.next_law.GateLemmas.{list_gate}
use Rattle.sweep_law.proofs.next_law.ListLemmas.{list_for}
use Rattle.completion_law.proofs.PlayedBefore.{next_of_played, played_before}

-- ---- lines that have ended, where replies are right

pin_alike : (call : Call) (number : Option ℕ) → pin_ends (pin_reply number) ≡ true → legal.ends_line (What.Caller (CallerEvent.Pin call) (pin_reply number)) ≡ true
pin_alike call None ends = refl
pin_alike call (Some number) ends = absurd (cc ends)

pin_by : (call : Call) (reply : CallerReply) (number : Option ℕ) → reply ≡ pin_reply number → pin_ends reply ≡ true → legal.ends_line (What.Caller (CallerEvent.Pin call) reply) ≡ true
pin_by call reply number is ends =
    subst (λ (r : CallerReply). legal.ends_line (What.Caller (CallerEvent.Pin call) r) ≡ true) (sym is) (pin_alike call number (sym (ap pin_ends is) ∙ ends))

-- an entry that ends its line by the definition of what has been played does so by that of legal histories
what_alike : (s : Setting) (e : Entry) (what : What) (past : List Entry) (ps : List Page) → IsReply s e what past ps → ends_line what ≡ true → legal.ends_line what ≡ true
what_alike s e (What.Driver (DriverEvent.Opened a) reply) past ps is ends = refl
what_alike s e (What.Driver (DriverEvent.Response a payload) reply) past ps is ends = absurd (cc ends)
what_alike s e (What.Driver (DriverEvent.Bytes a how) reply) past ps is ends = refl
what_alike s e (What.Driver (DriverEvent.Lost a) reply) past ps is ends = refl
what_alike s e (What.Driver (DriverEvent.Moment time) reply) past ps is ends = refl
what_alike s e (What.Driver (DriverEvent.Endpoint address state) reply) past ps is ends = refl
what_alike s e (What.Driver DriverEvent.Sweep reply) past ps is ends = refl
what_alike s e (What.Caller (CallerEvent.Pin call) reply) past ps is ends = pin_by call reply (latest_number ps) is ends
what_alike s e (What.Caller (CallerEvent.Hold call) reply) past ps is ends = refl
what_alike s e (What.Caller (CallerEvent.Pick id word) reply) past ps is ends = refl
what_alike s e (What.Caller (CallerEvent.Commit id) reply) past ps is ends = refl

right_true : (x y : Bool) → y ≡ true → (x || y) ≡ true
right_true true y h = refl
right_true false y h = h

either_alike : (a b c d e : Bool) → (b ≡ true → c ≡ true) → (d ≡ true → e ≡ true) → ((a && b) || d) ≡ true → ((a && c) || e) ≡ true
either_alike true true c d e f g is = let h : c ≡ true = f refl in cc h
either_alike true false c d e f g is = let h : e ≡ true = g is in right_true c e h
either_alike false b c d e f g is = g is

ended_alike : (s : Setting) (line : ℕ) (history : List Entry) → Right s history → has_ended line history ≡ true → legal.has_ended line history ≡ true
ended_alike s line [] right is = absurd (cc is)
ended_alike s line (e ∷ past) right is =
    either_alike (e.line == line) (ends_line e.what) (legal.ends_line e.what) (has_ended line past) (legal.has_ended line past) (what_alike s e e.what past (pages s past) right.0)
    (ended_alike s line past right.1) is

open_alike : (s : Setting) (gate : Option ℕ) (history : List Entry) → Right s history → IsOpen gate history → legal.IsOpen gate history
open_alike s None history right is = tt
open_alike s (Some line) history right is = ended_alike s line history right is

-- ---- all entries

pub gates_are_open : (s : Setting) (session : Session) (history : List Entry) → AreLines session.boot session.callers [] session.lines → Right s history
    → IsPlanPlayed (plan_of is_response session) history → AreOpen session.lines history
gates_are_open s session [] are right plays = tt
gates_are_open s session (e ∷ past) are right plays =
    let plan : List (List Listed) = plan_of is_response session in
    let next : IsNextOf plan e.actor (count_of e.actor past) e.line (step_in e.what) past = next_of_played plan e past plays in
    let of = next.is in
    let gate : gate_of session.lines e.line ≡ next.listed.after =
    ap (gate_of session.lines) next.line_is
    ∙ list_gate session e.actor of.list are (list_for session e.actor of.list of.actor_is) (count_of e.actor past).ended next.listed of.next_is in (
      subst (λ (g : Option ℕ). legal.IsOpen g past) (sym gate) (open_alike s next.listed.after past right.1 next.gate),
      gates_are_open s session past are right.1 (played_before plan e past plays),
    )
