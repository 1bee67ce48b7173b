-- What is kept of a channel but for its journal and its calls, and what it is of the history.
use Rattle.std.specs.Prelude.{◌≡◌, ℕ, List, ◌∷◌, ◌++◌, length, not, Option, IfSome, IsTrue, option_map}
use Rattle.std.specs.List.{list_all}
use Rattle.book_trees.specs.resource_check.declared.delivery.Prepared.{Prepared}
use Rattle.call_journal.specs.declared.event.DriverEvent.{DriverEvent}
use Rattle.call_journal.specs.declared.event.CallerEvent.{CallerEvent}
use Rattle.call_journal.specs.declared.reply.CallerReply.{CallerReply}
use Rattle.call_journal.specs.declared.reply.DriverReply.{DriverReply}
use Rattle.call_journal.specs.declared.entry.What.{What}
use Rattle.call_journal.specs.declared.entry.Entry.{Entry}
use Rattle.book_trees.specs.xds_history.Setting.{Setting}
use Rattle.book_trees.specs.xds_history.Responses.{answered_kind}
use Rattle.book_trees.specs.xds_history.declared.page.Page.{Page}
use Rattle.book_trees.specs.xds_history.Page.{latest_number}
use Rattle.book_trees.specs.xds_history.References.{references}
use Rattle.book_trees.specs.xds_history.Pages.{called, driven, page_of, pages}
use Rattle.book_trees.specs.xds_history.Right.{IsDriverReply}
use Rattle.book_trees.specs.xds_history.HistoryLaws.{is_call, is_report}
use Rattle.book_trees.specs.ReportedLaws.{ShowsWhatStands}
use Rattle.book_driver.specs.declared.call_refs.CallRefs.{CallRefs}
use Rattle.book_driver.specs.declared.channel_driver.Driver.{Driver}
use Rattle.book_driver.specs.declared.channel_driver.Stepped.{Stepped}
use Rattle.book_driver.specs.WatcherKept.{setting_by}
use Rattle.book_driver.specs.Renewals.{texts_by}
use Rattle.book_driver.specs.Subscribed.{AreSubscribedAt}
use Rattle.book_driver.specs.Courses.{IsRepeat}
use Rattle.book_driver.specs.ReferredClusters.{AreCalledAt, LatestHasAll}
use Rattle.book_driver.specs.ShownTrees.{AreConfiguredAt, IsPublication, number_in, snapshot_by}

-- between entries
pub record IsDriverAt (s : Setting) (past : List Entry) (d : Driver) : Type 0 where
  pub subscribed : AreSubscribedAt s past d.subscriptions
  pub configured : AreConfiguredAt s past d.trees
  -- the configuration that was made last is the one that stands
  pub shown_is : d.subscriptions.watcher.deps.shown ≡ d.trees.config

-- it is what is kept after some history
pub record HasDriven (d : Driver) : Type 0 where
  pub past : List Entry
  pub at : IsDriverAt (setting_by d.subscriptions.watcher) past d

-- what is kept is that of the history, and so are what is told of calls and the number of the latest snapshot, which shows
-- what stands and has the clusters to which calls refer
pub record IsDueAt (s : Setting) (past : List Entry) (calls : CallRefs) (latest : Option ℕ) (d : Driver) : Type 0 where
  pub at : IsDriverAt s past d
  pub called : AreCalledAt (pages s past) calls
  pub latest_has : LatestHasAll (pages s past)
  pub latest_is : latest ≡ latest_number (pages s past)
  pub shows : ShowsWhatStands past (pages s past)

-- the reply of a step
abbrev pub reply_in : Stepped → DriverReply
reply_in stepped = record { verdict = stepped.verdict; sent = stepped.sent; missing = stepped.missing; snapshot = number_in stepped.published; refused = stepped.refused }

-- the page of its entry
abbrev pub page_in : Setting → List Entry → ℕ → DriverEvent → Stepped → Page
page_in s past line event stepped = page_of s (driven 0 line event (reply_in stepped)) (What.Driver event (reply_in stepped)) past (pages s past)

-- a step of the driver makes the next entry of a right history
pub record IsStepAt (s : Setting) (past : List Entry) (event : DriverEvent) (prepared : Option Prepared) (stepped : Stepped) (new : Driver) : Type 0 where
  -- the reply is the right one
  pub reply_is : (line : ℕ) → IsDriverReply s event (reply_in stepped) past (pages s past) (page_in s past line event stepped)
  -- the refused pattern texts are those that were prepared with an event that is answered
  pub texts_are : stepped.refused ≡ texts_by (answered_kind stepped.verdict) prepared
  -- what is published is the snapshot of the entry's page
  pub snapshot_is : (line : ℕ) → (page_in s past line event stepped).snapshot ≡ option_map snapshot_by stepped.published
  pub published : IfSome stepped.published (IsPublication s event past new.trees.config)
  -- what is kept is that of the longer history
  pub kept : (line : ℕ) → IsDriverAt s (driven 0 line event (reply_in stepped) ∷ past) new

-- a caller's entry leaves what is kept
abbrev pub CallersLeaveDriver : Type 0
CallersLeaveDriver = (s : Setting) (past : List Entry) (actor line : ℕ) (event : CallerEvent) (reply : CallerReply) (d : Driver) → IsDriverAt s past d → IsDriverAt s (called actor line event reply ∷ past) d

-- ---- what a caller of a step can know

-- what is kept is that of some history
abbrev pub DriversHaveHistory : Type 0
DriversHaveHistory = (s : Setting) (past : List Entry) (d : Driver) → IsDriverAt s past d → HasDriven d

-- there is a stream for each authority
abbrev pub StreamsAreAll : Type 0
StreamsAreAll = (s : Setting) (past : List Entry) (d : Driver) → IsDriverAt s past d → length d.subscriptions.watcher.streams.states ≡ s.authorities

-- a report repeats what the driver's last entry settled where only calls' entries stand behind that one, and calls refer to the
-- same clusters as there
abbrev pub StillRepeats : Type 0
StillRepeats = (s : Setting) (between : List Entry) (before : Entry) (earlier : List Entry) (event : DriverEvent) → IsTrue (is_report event) → IsTrue (list_all (λ c. is_call c.what) between) → IsTrue (not (is_call before.what)) →
    references (pages s (between ++ before ∷ earlier)) ≡ references (pages s earlier) → IsRepeat s (between ++ before ∷ earlier) event
