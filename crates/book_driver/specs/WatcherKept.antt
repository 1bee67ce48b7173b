-- What is kept of streams and watched keys, and what it is of the history.
use Rattle.std.specs.Prelude.{◌≡◌, List, Option, Bool, not, true, IfSome, IsSome}
use Rattle.std.specs.List.{list_any}
use Rattle.std.specs.List.Sorted.{IsStrictlySortedBy}
use Rattle.std.specs.Option.{option_or}
use Rattle.xc_base.specs.declared.names.Key.{Key}
use Rattle.xc_base.specs.declared.names.Time.{Time}
use Rattle.xc_keys.specs.Keys.{key_cmp}
use Rattle.xds_config.specs.declared.config.Config.{Config}
use Rattle.call_journal.specs.declared.event.DriverEvent.{DriverEvent}
use Rattle.call_journal.specs.declared.entry.Entry.{Entry}
use Rattle.config_assembly.specs.Watching.{IsWatching}
use Rattle.dep_manager.specs.KeptAssemblies.{IsRightBy}
use Rattle.dep_manager.specs.ServedCalls.{Serves}
use Rattle.book_trees.specs.xds_history.Setting.{Setting, setting_of}
use Rattle.book_trees.specs.xds_history.Responses.{Came}
use Rattle.book_trees.specs.xds_history.Pages.{pages, present_after}
use Rattle.book_trees.specs.xds_history.Page.{config_now}
use Rattle.book_trees.specs.xds_history.References.{references_seen}
use Rattle.book_trees.specs.xds_history.HistoryLaws.{is_call}
use Rattle.driver_step.specs.book_streams.StreamsKept.{states_of, states_with}
use Rattle.driver_step.specs.book_fates.declared.timed_fates.Fates.{Fates}
use Rattle.driver_step.specs.book_fates.FatesKept.{IsKeptAt, IsMarkedAt, turned_by}
use Rattle.driver_step.specs.DriverSteps.{Assembly}
use Rattle.book_driver.specs.declared.call_refs.CallRefs.{CallRefs}
use Rattle.book_driver.specs.declared.watcher.Watcher.{Watcher}
use Rattle.book_driver.specs.ReferredClusters.{AreReferredAt}

-- whether the driver has made an entry
abbrev pub has_driven : List Entry → Bool
has_driven past = list_any (λ e. not (is_call e.what)) past

-- the setting of a channel with this bootstrap and target
abbrev pub setting_by : Watcher → Setting
setting_by w = setting_of w.boot w.deps.target

-- between entries
pub record IsWatcherAt (s : Setting) (past : List Entry) (w : Watcher) : Type 0 where
  pub setting_is : s ≡ setting_by w
  pub streams_are : w.streams.states ≡ states_of s past
  pub fates_are : IsKeptAt past (pages s past) w.fates
  pub keys_are : w.deps.reached ≡ w.fates.reached
  -- the streams were told these keys last
  pub told_are : w.streams.told ≡ w.fates.reached
  -- which stand in the order of keys
  pub rising : IsStrictlySortedBy key_cmp w.fates.reached
  -- what the last update made is right by what is known
  pub right : IsRightBy w.boot.authorities w.fates.cache w.deps
  -- it serves calls that refer to what they referred to at the driver's last entry
  pub serves : IfSome w.deps.last (Serves (references_seen (pages s past)))
  -- and it is there once the driver has made an entry
  pub made : has_driven past ≡ true → IsSome w.deps.last

-- within an entry, once this came, before it is known what is reached
pub record IsHeardBy (s : Setting) (past : List Entry) (c : Came) (now : Time) (w : Watcher) : Type 0 where
  pub setting_is : s ≡ setting_by w
  pub streams_are : w.streams.states ≡ states_with s c past
  pub fates_are : IsMarkedAt s c past (pages s past) now (turned_by c.event c.verdict) w.fates
  pub keys_are : w.deps.reached ≡ w.fates.reached
  pub told_are : w.streams.told ≡ w.fates.reached
  pub serves : IfSome w.deps.last (Serves (references_seen (pages s past)))

-- and once it is: these keys are watched, and nothing is asked yet
pub record IsReachedBy (s : Setting) (past : List Entry) (c : Came) (now : Time) (reached : List Key) (w : Watcher) : Type 0 where
  pub setting_is : s ≡ setting_by w
  pub streams_are : w.streams.states ≡ states_with s c past
  pub marks : Fates
  pub marked : IsMarkedAt s c past (pages s past) now (turned_by c.event c.verdict) marks
  pub timers_are : w.fates.timers ≡ marks.timers
  pub before_are : w.fates.reached ≡ marks.reached
  pub untimed_are : w.fates.untimed ≡ marks.untimed
  pub watching : IsWatching marks.cache w.fates.cache reached
  pub keys_are : w.deps.reached ≡ reached
  pub rising : IsStrictlySortedBy key_cmp reached
  pub told_are : w.streams.told ≡ w.fates.reached
  pub right : IsRightBy w.boot.authorities w.fates.cache w.deps

-- it is what is kept after some history
pub record HasWatched (w : Watcher) : Type 0 where
  pub past : List Entry
  pub at : IsWatcherAt (setting_by w) past w

-- the time that is handed in and what is told of calls are those of the history, where this configuration was handed out last
pub record IsTimely (s : Setting) (past : List Entry) (event : DriverEvent) (now : Time) (calls : CallRefs) (shown : Option Config) : Type 0 where
  pub now_is : now ≡ (present_after past event).now
  pub referred : AreReferredAt (pages s past) shown calls

-- what is reached, awaited and configured: the configuration that was made, if any was, and the one from before else
abbrev pub assembly_with : Setting → List Entry → List Key → Option Key → Option Config → Assembly
assembly_with s past reached least made = record { reached = reached; missing = least; config = option_or made (config_now (pages s past)) }
