-- What is watched and settled, through an entry.
use Rattle.std.proofs.Common.{◌≡◌, ℕ, Bool, List, [], ◌∷◌, Option, Some, None, refl, sym, ◌∙◌, subst, IsTrue}
use Rattle.std.specs.Prelude.{IfSome}
use Rattle.xc_base.specs.declared.names.Key.{Key}
use Rattle.ads_stream.specs.declared.verdict.Verdict.{Verdict}
use Rattle.book_trees.specs.resource_check.declared.delivery.Prepared.{Prepared}
use Rattle.call_journal.specs.declared.event.DriverEvent.{DriverEvent}
use Rattle.call_journal.specs.declared.event.CallerEvent.{CallerEvent}
use Rattle.call_journal.specs.declared.reply.CallerReply.{CallerReply}
use Rattle.call_journal.specs.declared.reply.DriverReply.{DriverReply}
use Rattle.call_journal.specs.declared.entry.Entry.{Entry}
use Rattle.config_assembly.specs.Orders.{Name}
use Rattle.dep_manager.specs.ServedCalls.{IsServing}
use Rattle.book_trees.specs.xds_history.Setting.{Setting}
use Rattle.book_trees.specs.xds_history.declared.page.Page.{Page}
use Rattle.book_trees.specs.xds_history.Page.{watched_now}
use Rattle.book_trees.specs.xds_history.References.{references, references_seen}
use Rattle.book_trees.specs.xds_history.Pages.{called, driven, pages}
use Rattle.book_trees.specs.xds_history.HistoryLaws.{is_report}
use Rattle.driver_step.specs.book_fates.FatesKept.{keys_in}
use Rattle.driver_step.specs.SettledKeys.{ChangesNoKey, IsSettledAt, as_settled}
use Rattle.driver_step.proofs.SettleSteps.{callers_leave_settled, drivers_settle_keys}
use Rattle.driver_step.proofs.ReportSteps.{reports_change_no_key, reports_leave_fates, reports_leave_streams}
use Rattle.driver_step.proofs.book_streams.PlaceLemmas.{callers_change_nothing}
use Rattle.driver_step.proofs.book_fates.PageLemmas.{callers_leave}
use Rattle.book_driver.specs.declared.key_renewal.Renewal.{Renewal}
use Rattle.book_driver.specs.declared.subscriptions.Settled.{Settled}
use Rattle.book_driver.specs.declared.subscriptions.Subscriptions.{Subscriptions}
use Rattle.book_driver.specs.declared.watcher.Watcher.{Watcher}
use Rattle.book_driver.specs.WatcherKept.{IsWatcherAt, assembly_with}
use Rattle.book_driver.specs.Renewals.{IsRenewalAt, IsToldBy, reply_by}
use Rattle.book_driver.specs.Subscribed.{AreSubscribedAt, CallersLeaveSubscribed, IsAnsweredAt}
use Rattle.book_driver.specs.Courses.{IsRepeated, quiet_answer}
use Rattle.book_driver.proofs.ServedLemmas.{if_serving, is_made, settled_served}

-- ---- what is reached anew

pub renewal_answers : (s : Setting) (past : List Entry) (event : DriverEvent) (prepared : Option Prepared) (r : Renewal) (w : Watcher) → IsRenewalAt s past event prepared r w →
    IsAnsweredAt s past event prepared r (record { watcher = w; last = Some record { missing = r.missing } })
renewal_answers s past event prepared r w is = record {
  told = is.told;
  reached = is.reached;
  assembly = is.assembly;
  sent_are = is.sent_are;
  kept = λ line number.
      record {
        watcher_is = is.kept line number;
        settled = drivers_settle_keys s past line event (reply_by r number) (assembly_with s past is.reached r.missing r.made) is.assembly is.sent_are;
        driven_is = refl;
      };
}

-- ---- a report that changes nothing

quiet_told : (s : Setting) (past : List Entry) (event : DriverEvent) (prepared : Option Prepared) → IsTrue (is_report event) → IsToldBy s past event prepared Verdict.Done []
quiet_told s past (DriverEvent.Opened a) prepared is = absurd (cc is)
quiet_told s past (DriverEvent.Response a payload) prepared is = absurd (cc is)
quiet_told s past (DriverEvent.Bytes a how) prepared is = record { verdict_is = refl; refused_are = refl; texts_are = refl }
quiet_told s past (DriverEvent.Lost a) prepared is = absurd (cc is)
quiet_told s past (DriverEvent.Moment time) prepared is = absurd (cc is)
quiet_told s past (DriverEvent.Endpoint address state) prepared is = record { verdict_is = refl; refused_are = refl; texts_are = refl }
quiet_told s past DriverEvent.Sweep prepared is = record { verdict_is = refl; refused_are = refl; texts_are = refl }

watched_still : (s : Setting) (past : List Entry) (line : ℕ) (event : DriverEvent) (reply : DriverReply) (least : Option Key) (w : Watcher) → IsTrue (is_report event) → IsSettledAt s past (pages s past) (references (pages s past)) least → reply.sent ≡ [] → IsWatcherAt s past w →
    IsServing w.deps (references (pages s past)) → IsWatcherAt s (driven 0 line event reply ∷ past) w
watched_still s past line event reply least w is settled none at serving = record {
  setting_is = at.setting_is;
  streams_are = at.streams_are ∙ sym (reports_leave_streams s past line event reply least is settled none);
  fates_are = reports_leave_fates s past line event reply least w.fates is settled none at.fates_are;
  keys_are = at.keys_are;
  told_are = at.told_are;
  rising = at.rising;
  right = at.right;
  serves = if_serving w.deps (references (pages s past)) serving;
  made = λ driven. is_made w.deps (references (pages s past)) serving;
}

still : (s : Setting) (past : List Entry) (event : DriverEvent) (prepared : Option Prepared) (v : Subscriptions) (kept : Settled) (marks : List Bool) → AreSubscribedAt s past v → IsTrue (is_report event) → IsSettledAt s past (pages s past) (references (pages s past)) kept.missing →
    IsServing v.watcher.deps (references (pages s past)) → IsAnsweredAt s past event prepared (quiet_answer kept.missing marks) (record { watcher = v.watcher; last = Some kept })
still s past event prepared v kept marks at is settled serving =
    let ps : List Page = pages s past in
    let r : Renewal = quiet_answer kept.missing marks in
    let no : ChangesNoKey s past ps event (reply_by r None) kept.missing = reports_change_no_key s past ps event (reply_by r None) kept.missing is settled in record {
      told = quiet_told s past event prepared is;
      reached = keys_in (watched_now ps);
      assembly = no.assembly;
      sent_are = sym no.sent;
      kept = λ line number.
          record {
            watcher_is = watched_still s past line event (reply_by r number) kept.missing v.watcher is settled refl at.watcher_is serving;
            settled = drivers_settle_keys s past line event (reply_by r number) (as_settled ps kept.missing) no.assembly (sym no.sent);
            driven_is = refl;
          };
    }

pub quiet_answer_is : (s : Setting) (past : List Entry) (event : DriverEvent) (prepared : Option Prepared) (v : Subscriptions) (kept : Settled) (marks : List Bool) → AreSubscribedAt s past v → IsRepeated s past event v kept →
    IsAnsweredAt s past event prepared (quiet_answer kept.missing marks) (record { watcher = v.watcher; last = Some kept })
quiet_answer_is s past event prepared v kept marks at by =
    let before : IsSettledAt s past (pages s past) (references_seen (pages s past)) kept.missing = subst (λ o. IfSome o (λ l. IsSettledAt s past (pages s past) (references_seen (pages s past)) l.missing)) by.last_is at.settled in
    still s past event prepared v kept marks at by.report
    (settled_served s past v.watcher (references (pages s past)) (references_seen (pages s past)) kept.missing at.watcher_is.setting_is at.watcher_is.fates_are.knows at.watcher_is.right by.serves at.watcher_is.serves before) by.serves

-- ---- a caller's entry

settled_on : (s : Setting) (past : List Entry) (actor line : ℕ) (event : CallerEvent) (reply : CallerReply) (names : List Name) (last : Option Settled) → IfSome last (λ l. IsSettledAt s past (pages s past) names l.missing) →
    IfSome last (λ l. IsSettledAt s (called actor line event reply ∷ past) (pages s (called actor line event reply ∷ past)) names l.missing)
settled_on s past actor line event reply names None is = tt
settled_on s past actor line event reply names (Some l) is = callers_leave_settled s past actor line event reply names l.missing is

pub callers_leave_subscribed : CallersLeaveSubscribed
callers_leave_subscribed s past actor line event reply v at = record {
  watcher_is = record {
    setting_is = at.watcher_is.setting_is;
    streams_are = at.watcher_is.streams_are ∙ sym (callers_change_nothing s actor line event reply past);
    fates_are = callers_leave s past actor line event reply v.watcher.fates at.watcher_is.fates_are;
    keys_are = at.watcher_is.keys_are;
    told_are = at.watcher_is.told_are;
    rising = at.watcher_is.rising;
    right = at.watcher_is.right;
    serves = at.watcher_is.serves;
    made = at.watcher_is.made;
  };
  settled = settled_on s past actor line event reply (references_seen (pages s past)) v.last at.settled;
  driven_is = at.driven_is;
}
