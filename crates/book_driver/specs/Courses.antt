-- How an event is answered: as the driver's last entry left it, or by what it brings.
use Rattle.std.specs.Prelude.{◌≡◌, List, [], Bool, true, Option, None, Some, IsTrue}
use Rattle.xc_base.specs.declared.names.Key.{Key}
use Rattle.ads_stream.specs.declared.verdict.Verdict.{Verdict}
use Rattle.call_journal.specs.declared.event.DriverEvent.{DriverEvent}
use Rattle.call_journal.specs.declared.entry.Entry.{Entry}
use Rattle.book_trees.specs.xds_history.Setting.{Setting}
use Rattle.book_trees.specs.xds_history.HistoryLaws.{is_report}
use Rattle.book_trees.specs.xds_history.Pages.{pages}
use Rattle.book_trees.specs.xds_history.References.{references, references_seen}
use Rattle.dep_manager.specs.ServedCalls.{IsServing}
use Rattle.book_driver.specs.declared.call_refs.CallRefs.{CallRefs}
use Rattle.book_driver.specs.declared.key_renewal.Renewal.{Renewal}
use Rattle.book_driver.specs.declared.subscriptions.Course.{Course}
use Rattle.book_driver.specs.declared.subscriptions.Course.TheVariants.{Repeats, Renews}
use Rattle.book_driver.specs.declared.subscriptions.Settled.{Settled}
use Rattle.book_driver.specs.declared.subscriptions.Subscriptions.{Subscriptions}
use Rattle.book_driver.specs.ReferredClusters.{AreReferredAt}
use Rattle.book_driver.specs.Subscribed.{AreSubscribedAt}
use Rattle.book_driver.specs.WatcherKept.{has_driven}

-- the event is a report, the driver has made an entry, and calls refer to the same clusters as at its last one
pub record IsRepeat (s : Setting) (past : List Entry) (event : DriverEvent) : Type 0 where
  pub report : IsTrue (is_report event)
  pub driven : has_driven past ≡ true
  pub same : references (pages s past) ≡ references_seen (pages s past)

-- the event is a report, the driver's last entry settled this, and what was made last serves calls
pub record IsRepeated (s : Setting) (past : List Entry) (event : DriverEvent) (v : Subscriptions) (last : Settled) : Type 0 where
  pub report : IsTrue (is_report event)
  pub last_is : v.last ≡ Some last
  pub serves : IsServing v.watcher.deps (references (pages s past))

-- an answer is repeated where it can be, and always where calls refer to what they referred to at the driver's last entry
abbrev pub IsCourseAt : Setting → List Entry → DriverEvent → Subscriptions → Course → Type 0
IsCourseAt s past event v (Repeats last) = IsRepeated s past event v last
IsCourseAt s past event v Renews = IsRepeat s past event → ⊥

-- so it is for all histories of which this is kept
abbrev pub IsCourse : DriverEvent → CallRefs → Subscriptions → Course → Type 0
IsCourse event calls v course = (s : Setting) (past : List Entry) → AreSubscribedAt s past v → AreReferredAt (pages s past) v.watcher.deps.shown calls → IsCourseAt s past event v course

-- the answer that changes nothing, with these marks of no configuration
abbrev pub quiet_answer : Option Key → List Bool → Renewal
quiet_answer missing marks = record { verdict = Verdict.Done; refused = []; sent = []; missing = missing; made = None; others = marks }
