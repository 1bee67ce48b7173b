-- What is kept of streams, watched keys and what the driver's last entry settled, and what it is of the history.
use Rattle.std.specs.Prelude.{◌≡◌, ℕ, List, ◌∷◌, Option, IfSome, is_some}
use Rattle.xc_base.specs.declared.names.Key.{Key}
use Rattle.book_trees.specs.resource_check.declared.delivery.Prepared.{Prepared}
use Rattle.call_journal.specs.declared.event.DriverEvent.{DriverEvent}
use Rattle.call_journal.specs.declared.event.CallerEvent.{CallerEvent}
use Rattle.call_journal.specs.declared.reply.CallerReply.{CallerReply}
use Rattle.call_journal.specs.declared.entry.Entry.{Entry}
use Rattle.book_trees.specs.xds_history.Setting.{Setting}
use Rattle.book_trees.specs.xds_history.Requests.{requests}
use Rattle.book_trees.specs.xds_history.References.{references_seen}
use Rattle.book_trees.specs.xds_history.Pages.{called, driven, pages}
use Rattle.driver_step.specs.book_streams.StreamsLaws.{came_with}
use Rattle.driver_step.specs.DriverSteps.{IsAssembly, watched_by}
use Rattle.driver_step.specs.SettledKeys.{IsSettledAt}
use Rattle.book_driver.specs.declared.key_renewal.Renewal.{Renewal}
use Rattle.book_driver.specs.declared.subscriptions.Subscriptions.{Subscriptions}
use Rattle.book_driver.specs.WatcherKept.{IsWatcherAt, assembly_with, has_driven, setting_by}
use Rattle.book_driver.specs.Renewals.{IsToldBy, reply_by}

-- between entries
pub record AreSubscribedAt (s : Setting) (past : List Entry) (v : Subscriptions) : Type 0 where
  pub watcher_is : IsWatcherAt s past v.watcher
  pub settled : IfSome v.last (λ l. IsSettledAt s past (pages s past) (references_seen (pages s past)) l.missing)
  pub driven_is : is_some v.last ≡ has_driven past

-- it is what is kept after some history
pub record HasSubscribed (v : Subscriptions) : Type 0 where
  pub past : List Entry
  pub at : AreSubscribedAt (setting_by v.watcher) past v

-- the answer to an event is the history's, and leaves what is kept after the entry of its reply
pub record IsAnsweredAt (s : Setting) (past : List Entry) (event : DriverEvent) (prepared : Option Prepared) (r : Renewal) (v : Subscriptions) : Type 0 where
  pub told : IsToldBy s past event prepared r.verdict r.refused
  pub reached : List Key
  pub assembly : IsAssembly s (came_with event r.verdict r.refused) past (pages s past) (assembly_with s past reached r.missing r.made)
  pub sent_are : r.sent ≡ requests s (came_with event r.verdict r.refused) past (watched_by s (came_with event r.verdict r.refused) past (pages s past) (assembly_with s past reached r.missing r.made))
  pub kept : (line : ℕ) (number : Option ℕ) → AreSubscribedAt s (driven 0 line event (reply_by r number) ∷ past) v

-- a caller's entry leaves what is kept
abbrev pub CallersLeaveSubscribed : Type 0
CallersLeaveSubscribed = (s : Setting) (past : List Entry) (actor line : ℕ) (event : CallerEvent) (reply : CallerReply) (v : Subscriptions) → AreSubscribedAt s past v → AreSubscribedAt s (called actor line event reply ∷ past) v
