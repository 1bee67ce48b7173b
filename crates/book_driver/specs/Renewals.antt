-- What an event comes to for streams and watched keys.
use Rattle.std.specs.Prelude.{◌≡◌, ℕ, List, [], ◌∷◌, Option, None, Some}
use Rattle.xc_base.specs.declared.names.Key.{Key}
use Rattle.xc_base.specs.declared.names.Kind.{Kind}
use Rattle.ads_stream.specs.declared.verdict.Verdict.{Verdict}
use Rattle.book_trees.specs.resource_check.declared.delivery.Prepared.{Prepared}
use Rattle.call_journal.specs.declared.event.DriverEvent.{DriverEvent}
use Rattle.call_journal.specs.declared.reply.DriverReply.{DriverReply}
use Rattle.call_journal.specs.declared.entry.Entry.{Entry}
use Rattle.config_assembly.specs.Orders.{Name}
use Rattle.book_trees.specs.xds_history.Setting.{Setting}
use Rattle.book_trees.specs.xds_history.Responses.{answered, answered_kind, stopped_at, verdict}
use Rattle.book_trees.specs.xds_history.Requests.{requests}
use Rattle.book_trees.specs.xds_history.Pages.{driven, pages}
use Rattle.driver_step.specs.book_streams.StreamsLaws.{came_with}
use Rattle.book_hearing.specs.HeardEvents.{texts_of}
use Rattle.driver_step.specs.DriverSteps.{IsAssembly, watched_by}
use Rattle.book_driver.specs.declared.watcher.Watcher.{Watcher}
use Rattle.book_driver.specs.declared.key_renewal.Renewal.{Renewal}
use Rattle.book_driver.specs.WatcherKept.{IsWatcherAt, assembly_with}

-- the pattern texts that are refused at an event: those that were prepared with it, where it is answered
abbrev pub texts_by : Option Kind → Option Prepared → List Name
texts_by None prepared = []
texts_by (Some kind) prepared = texts_of prepared

-- the verdict on an event and the pattern texts that are refused at it are those of the history
pub record IsToldBy (s : Setting) (past : List Entry) (event : DriverEvent) (prepared : Option Prepared) (v : Verdict) (refused : List Name) : Type 0 where
  pub verdict_is : v ≡ verdict s past event refused
  pub refused_are : refused ≡ stopped_at s refused (answered s (came_with event v refused))
  pub texts_are : refused ≡ texts_by (answered_kind v) prepared

-- the reply that a renewal gives, with a snapshot of this number
abbrev pub reply_by : Renewal → Option ℕ → DriverReply
reply_by r number = record { verdict = r.verdict; sent = r.sent; missing = r.missing; snapshot = number; refused = r.refused }

-- the renewal is the history's, and leaves what is kept after the entry of its reply
pub record IsRenewalAt (s : Setting) (past : List Entry) (event : DriverEvent) (prepared : Option Prepared) (r : Renewal) (w : Watcher) : Type 0 where
  pub told : IsToldBy s past event prepared r.verdict r.refused
  pub reached : List Key
  pub assembly : IsAssembly s (came_with event r.verdict r.refused) past (pages s past) (assembly_with s past reached r.missing r.made)
  pub sent_are : r.sent ≡ requests s (came_with event r.verdict r.refused) past (watched_by s (came_with event r.verdict r.refused) past (pages s past) (assembly_with s past reached r.missing r.made))
  pub kept : (line : ℕ) (number : Option ℕ) → IsWatcherAt s (driven 0 line event (reply_by r number) ∷ past) w
