-- Each event has a right reply, whatever came before it (this project's own). Histories have the newest entry first.
use Rattle.std.specs.Prelude.{◌≡◌, ℕ, List, []}
use Rattle.xc_base.specs.declared.call.Call.{Call}
use Rattle.call_journal.specs.declared.event.CallerEvent.{CallerEvent}
use Rattle.call_journal.specs.declared.entry.What.{What}
use Rattle.call_journal.specs.declared.entry.Entry.{Entry}
use Rattle.session_lines.specs.declared.session.Session.{Session}
use Rattle.xds_history.specs.Setting.{Setting, setting_of}
use Rattle.xds_history.specs.Responses.{refused_in}
use Rattle.xds_history.specs.Page.{latest_number}
use Rattle.xds_history.specs.Pages.{pages}
use Rattle.xds_history.specs.Right.{IsReply, pin_reply}
use Rattle.book_progress.specs.PlayedPlans.{Step, step_in}

-- an entry of this actor, line and step, whose reply is the right one over the past, and which tells no pattern text as refused
pub record HasReply (s : Setting) (past : List Entry) (actor line : ℕ) (step : Step) : Type 0 where
  pub entry : Entry
  pub actor_is : entry.actor ≡ actor
  pub line_is : entry.line ≡ line
  pub step_is : step_in entry.what ≡ step
  pub right : IsReply s entry entry.what past (pages s past)
  pub none_refused : refused_in entry.what ≡ []

-- over any past each step of an actor has a right reply that refuses no pattern text
abbrev pub EachHasReply : Type 0
EachHasReply =
    (session : Session) (past : List Entry) (actor line : ℕ) (step : Step) → HasReply (setting_of session.boot session.target) past actor line step

-- over any past a pin is rightly answered with the number of the latest snapshot, or that there is none
abbrev pub PinGetsLatest : Type 0
PinGetsLatest =
    (s : Setting) (past : List Entry) (e : Entry) (call : Call)
    → IsReply s e (What.Caller (CallerEvent.Pin call) (pin_reply (latest_number (pages s past)))) past (pages s past)
