-- A right reply to a driver's event is made in the order of its parts: the verdict, where no pattern text is refused; by the page
-- that follows, the requests and the least awaited key; and last the number, on which none of these depends.
use Rattle.std.proofs.Common.{◌≡◌, ℕ, List, [], Option, None, refl, sym}
use Rattle.call_journal.specs.declared.event.CallerEvent.{CallerEvent}
use Rattle.call_journal.specs.declared.event.DriverEvent.{DriverEvent}
use Rattle.call_journal.specs.declared.reply.DriverReply.{DriverReply}
use Rattle.call_journal.specs.declared.entry.Entry.{Entry}
use Rattle.call_journal.specs.declared.entry.What.{What}
use Rattle.xds_history.specs.Setting.{Setting, setting_of}
use Rattle.xds_history.specs.Responses.{answered, stopped_at, verdict}
use Rattle.xds_history.specs.Requests.{requests}
use Rattle.xds_history.specs.declared.responses.Told.{Told}
use Rattle.xds_history.specs.declared.page.Page.{Page}
use Rattle.xds_history.specs.Page.{latest}
use Rattle.xds_history.specs.Pages.{called, came, driven, page_of, pages, present_after}
use Rattle.xds_history.specs.Right.{Shown, caller_reply, standing}
use Rattle.book_progress.specs.PlayedPlans.{caller, driver}
use Rattle.reply_law.specs.ReplyLaw.{EachHasReply, HasReply, PinGetsLatest}
use Rattle.reply_law.proofs.ShownLemmas.{HasNumber, number_for}
use Rattle.reply_law.proofs.StoppedLemmas.{stopped_at_none}

module _ (s : Setting) (past : List Entry) where
  -- ---- the driver

  -- a reply that has its verdict alone
  abbrev verdict_alone : DriverEvent → DriverReply
  verdict_alone event = record { verdict = verdict s past event []; sent = []; missing = None; snapshot = None; refused = [] }

  -- the page that follows from it, which has all but the number
  abbrev page_by : ℕ → ℕ → DriverEvent → Page
  page_by actor line event =
      page_of s (driven actor line event (verdict_alone event)) (What.Driver event (verdict_alone event)) past (pages s past)

  abbrev stands_on : DriverEvent → Page → Option Shown
  stands_on event page = standing (present_after past event) page.config page.trees

  -- the reply with what the page says, and a number
  abbrev reply_by : DriverEvent → Page → Option ℕ → DriverReply
  reply_by event page number = record {
    verdict = verdict s past event [];
    sent = requests s (came event (verdict_alone event)) past page.watched;
    missing = page.missing;
    snapshot = number;
    refused = [];
  }

  driver_has : (actor line : ℕ) (event : DriverEvent) → ((told : Option Told) → stopped_at s [] told ≡ [])
      → HasNumber (stands_on event (page_by actor line event)) (latest (pages s past)) → HasReply s past actor line (driver event)
  driver_has actor line event stops found = record {
    entry = driven actor line event (reply_by event (page_by actor line event) found.0);
    actor_is = refl;
    line_is = refl;
    step_is = refl;
    right = record {
      verdict_is = refl;
      refused_is = sym (stops (answered s (came event (verdict_alone event))));
      sent_is = refl;
      missing_is = refl;
      number_is = found.1;
    };
    none_refused = refl;
  }

  -- ---- callers

  caller_has : (actor line : ℕ) (event : CallerEvent) → HasReply s past actor line (caller event)
  caller_has actor line event =
      record { entry = called actor line event (caller_reply (pages s past) event); actor_is = refl; line_is = refl; step_is = refl; right = refl; none_refused = refl }

pub each_has_reply : EachHasReply
each_has_reply session past actor line (driver event) =
    let s : Setting = setting_of session.boot session.target in
    driver_has s past actor line event (stopped_at_none session.boot session.target) (number_for (stands_on s past event (page_by s past actor line event)) (latest (pages s past)))
each_has_reply session past actor line (caller event) = caller_has (setting_of session.boot session.target) past actor line event

pub pin_gets_latest : PinGetsLatest
pin_gets_latest s past e call = refl
