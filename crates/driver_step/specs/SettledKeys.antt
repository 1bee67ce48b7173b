-- What is watched is settled: it is all that is reached with these references, and was asked for. Then a driver's entry that
-- brings nothing changes nothing of it.
use Rattle.std.specs.Prelude.{◌≡◌, ℕ, List, [], ◌∷◌, Option, Contains, IsTrue}
use Rattle.std.specs.List.{range_with_len}
use Rattle.xc_base.specs.declared.names.Authority.{Authority}
use Rattle.xc_base.specs.declared.names.Key.{Key}
use Rattle.call_journal.specs.declared.event.DriverEvent.{DriverEvent}
use Rattle.call_journal.specs.declared.event.CallerEvent.{CallerEvent}
use Rattle.call_journal.specs.declared.reply.CallerReply.{CallerReply}
use Rattle.call_journal.specs.declared.reply.DriverReply.{DriverReply}
use Rattle.call_journal.specs.declared.entry.Entry.{Entry}
use Rattle.book_fates.specs.config_assembly.Orders.{Name}
use Rattle.book_fates.specs.config_assembly.ReachedResources.{Resources}
use Rattle.book_fates.specs.config_assembly.Reach.{reach, missing}
use Rattle.book_fates.specs.xds_history.Setting.{Setting, known_as}
use Rattle.book_fates.specs.xds_history.Requests.{requests}
use Rattle.book_fates.specs.xds_history.declared.page.Page.{Page}
use Rattle.book_fates.specs.xds_history.Page.{config_now, watched_now}
use Rattle.book_fates.specs.xds_history.Fates.{fate_in, watch}
use Rattle.book_fates.specs.xds_history.References.{references}
use Rattle.book_fates.specs.xds_history.Pages.{came, config_after, driven, pages}
use Rattle.book_fates.specs.xds_history.HistoryLaws.{is_report}
use Rattle.book_streams.specs.StreamsKept.{states_of}
use Rattle.book_streams.specs.StreamsLaws.{IsSettled, caller_entry}
use Rattle.book_fates.specs.declared.timed_fates.Fates.{Fates}
use Rattle.book_fates.specs.FatesKept.{IsKeptAt, keys_in}
use Rattle.driver_step.specs.DriverSteps.{Assembly, IsAssembly, watched_by}

-- what is known of the keys now
abbrev pub known_now : Setting → List Page → Resources
known_now s ps = known_as s (fate_in (watched_now ps))

-- with these references, and this key awaited
pub record IsSettledAt (s : Setting) (past : List Entry) (ps : List Page) (names : List Name) (least : Option Key) : Type 0 where
  -- the watched keys are those that are reached
  pub watches : watch (watched_now ps) (reach (known_now s ps) names) ≡ watched_now ps
  pub awaits : least ≡ missing (fate_in (watched_now ps)) (reach (known_now s ps) names)
  pub stays : config_after (known_now s ps) names least (config_now ps) ≡ config_now ps
  -- on each stream their names are those that were asked for last
  pub asked : (a : Authority) → Contains (range_with_len 0 s.authorities) a.0 → IsSettled a past (watched_now ps)

-- each driver's entry settles what is watched
abbrev pub DriversSettleKeys : Type 0
DriversSettleKeys = (s : Setting) (past : List Entry) (line : ℕ) (event : DriverEvent) (reply : DriverReply) (a : Assembly) →
    IsAssembly s (came event reply) past (pages s past) a → reply.sent ≡ requests s (came event reply) past (watched_by s (came event reply) past (pages s past) a) →
    IsSettledAt s (driven 0 line event reply ∷ past) (pages s (driven 0 line event reply ∷ past)) (references (pages s past)) a.missing

-- a caller's entry leaves it settled
abbrev pub CallersLeaveSettled : Type 0
CallersLeaveSettled = (s : Setting) (past : List Entry) (actor line : ℕ) (event : CallerEvent) (reply : CallerReply) (names : List Name) (least : Option Key) →
    IsSettledAt s past (pages s past) names least → IsSettledAt s (caller_entry actor line event reply ∷ past) (pages s (caller_entry actor line event reply ∷ past)) names least

-- what is watched, awaited and configured as it is
abbrev pub as_settled : List Page → Option Key → Assembly
as_settled ps least = record { reached = keys_in (watched_now ps); missing = least; config = config_now ps }

-- a report of an endpoint's state, or a sweep, where calls refer to what they did, changes nothing and asks for nothing
pub record ChangesNoKey (s : Setting) (past : List Entry) (ps : List Page) (event : DriverEvent) (reply : DriverReply) (least : Option Key) : Type 0 where
  pub assembly : IsAssembly s (came event reply) past ps (as_settled ps least)
  pub watched : watched_by s (came event reply) past ps (as_settled ps least) ≡ watched_now ps
  pub sent : requests s (came event reply) past (watched_by s (came event reply) past ps (as_settled ps least)) ≡ []

abbrev pub ReportsChangeNoKey : Type 0
ReportsChangeNoKey = (s : Setting) (past : List Entry) (ps : List Page) (event : DriverEvent) (reply : DriverReply) (least : Option Key) →
    IsTrue (is_report event) → IsSettledAt s past ps (references ps) least → ChangesNoKey s past ps event reply least

-- nor does it change a stream
abbrev pub ReportsLeaveStreams : Type 0
ReportsLeaveStreams = (s : Setting) (past : List Entry) (line : ℕ) (event : DriverEvent) (reply : DriverReply) (least : Option Key) →
    IsTrue (is_report event) → IsSettledAt s past (pages s past) (references (pages s past)) least → reply.sent ≡ [] →
    states_of s (driven 0 line event reply ∷ past) ≡ states_of s past

-- nor what is kept of fates and timers
abbrev pub ReportsLeaveFates : Type 0
ReportsLeaveFates = (s : Setting) (past : List Entry) (line : ℕ) (event : DriverEvent) (reply : DriverReply) (least : Option Key) (f : Fates) →
    IsTrue (is_report event) → IsSettledAt s past (pages s past) (references (pages s past)) least → reply.sent ≡ [] → IsKeptAt past (pages s past) f →
    IsKeptAt (driven 0 line event reply ∷ past) (pages s (driven 0 line event reply ∷ past)) f
