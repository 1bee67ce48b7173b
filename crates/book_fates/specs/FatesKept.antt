-- What is kept of fates, and what it is of the history.
use Rattle.std.specs.Prelude.{◌≡◌, ℕ, List, ◌∷◌, map, Bool, true, false, Option, Some, None, IfSome, if◌then◌else◌}
use Rattle.xc_base.specs.declared.names.Authority.{Authority}
use Rattle.xc_base.specs.declared.names.Key.{Key}
use Rattle.xc_base.specs.declared.names.Time.{Time}
use Rattle.watch_timers.specs.Timers.{Running}
use Rattle.call_journal.specs.declared.event.DriverEvent.{DriverEvent}
use Rattle.call_journal.specs.declared.entry.Entry.{Entry}
use Rattle.call_journal.specs.declared.entry.What.{What}
use Rattle.call_journal.specs.declared.event.CallerEvent.{CallerEvent}
use Rattle.call_journal.specs.declared.reply.DriverReply.{DriverReply}
use Rattle.call_journal.specs.declared.reply.CallerReply.{CallerReply}
use Rattle.call_journal.specs.declared.reply.Sent.{Sent}
use Rattle.ads_stream.specs.declared.verdict.Verdict.{Verdict}
use Rattle.config_assembly.specs.Reach.{reach}
use Rattle.xds_history.specs.Setting.{known_as}
use Rattle.xds_history.specs.Streams.{is_unreadable, is_broken}
use Rattle.xds_history.specs.Responses.{answered}
use Rattle.xds_history.specs.declared.responses.Told.{Told}
use Rattle.xds_history.specs.References.{references}
use Rattle.xds_history.specs.Requests.{requests}
use Rattle.xds_history.specs.Pages.{pages, page_of, came, present_after}
use Rattle.xds_history.specs.Setting.{Setting}
use Rattle.xds_history.specs.Responses.{Came}
use Rattle.xds_history.specs.declared.page.Page.{Page}
use Rattle.xds_history.specs.declared.page.Watched.{Watched}
use Rattle.xds_history.specs.Page.{watched_now}
use Rattle.xds_history.specs.Fates.{marked, watch, fate_in}
use Rattle.book_fates.specs.declared.timed_fates.Fates.{Fates}
use Rattle.book_fates.specs.declared.timed_fates.Reached.{Reached}
use Rattle.book_fates.specs.FateSteps.{Knows}
use Rattle.book_fates.specs.Timing.{AreTimed, AreTimedBut, StoppedBy, lost_among, unreached_among, TurnsAt, AreAskedBy}

abbrev pub keys_in : List Watched → List Key
keys_in watched = map (λ w. w.key) watched

-- each reached key that is awaited has a timer, but those of which that isn't known
abbrev pub KnowsTimed : Fates → Type 0
KnowsTimed f = IfSome f.untimed (λ keys. AreTimedBut keys f.reached f.cache f.timers)

-- between entries
pub record IsKeptAt (past : List Entry) (ps : List Page) (f : Fates) : Type 0 where
  pub knows : Knows f.cache (watched_now ps)
  pub keys_are : f.reached ≡ keys_in (watched_now ps)
  pub timed : AreTimed past ps f.timers
  pub waits : KnowsTimed f

-- within an entry, after what came, before it is known what is reached: timers of what isn't wanted any more, or whose
-- stream turned, don't run
pub record IsMarkedAt (s : Setting) (c : Came) (past : List Entry) (ps : List Page) (now : Time) (turn : Option Authority) (f : Fates) : Type 0 where
  pub knows : Knows f.cache (marked s c past ps now)
  pub keys_are : f.reached ≡ keys_in (watched_now ps)
  pub before : Running
  pub timed : AreTimed past ps before
  pub lost : StoppedBy before f.timers (lost_among f.reached turn f.cache)
  pub waits : KnowsTimed f

-- the timers of the keys that aren't among these ended, and the keys from before stand
pub record IsLeftBy (marks left : Fates) (reached : List Key) : Type 0 where
  pub keys_are : left.reached ≡ marks.reached
  pub untimed_are : left.untimed ≡ marks.untimed
  pub stopped : StoppedBy marks.timers left.timers (unreached_among marks.reached reached)

-- where the same keys stay reached, each one that is awaited still has a timer, but those of which that isn't known
abbrev pub StayTimed : Fates → Reached → Type 0
StayTimed f next = next.stays ≡ true → IfSome f.untimed (λ keys. AreTimedBut keys next.keys f.cache f.timers)

abbrev pub is_moment : DriverEvent → Bool
is_moment (DriverEvent.Moment time) = true
is_moment _ = false

-- whose stream an event opens or ends
abbrev pub turned_by : DriverEvent → Verdict → Option Authority
turned_by (DriverEvent.Opened a) verdict = Some a
turned_by (DriverEvent.Lost a) verdict = Some a
turned_by (DriverEvent.Response a payload) verdict = if is_unreadable verdict then Some a else None
turned_by (DriverEvent.Bytes a how) verdict = if is_broken how then Some a else None
turned_by _ verdict = None

abbrev pub driven : ℕ → ℕ → DriverEvent → DriverReply → Entry
driven actor line event reply = record { actor = actor; line = line; what = What.Driver event reply }

abbrev pub called : ℕ → ℕ → CallerEvent → CallerReply → Entry
called actor line event reply = record { actor = actor; line = line; what = What.Caller event reply }

-- what `settle` asks for holds of a driver's entry with its page, where the requests are those that are due and the reached keys
-- are the history's
pub record IsSettling (s : Setting) (e : Entry) (c : Came) (turn : Option Authority) (sent : List Sent) (past : List Entry) (ps : List Page) (now : Time) (reached : List Key) (page : Page) : Type 0 where
  pub pages_are : page ∷ ps ≡ pages s (e ∷ past)
  pub entry_is : page.entry ≡ e
  pub watched : page.watched ≡ watch (marked s c past ps now) reached
  pub now_is : page.now ≡ now
  pub turns : TurnsAt turn page
  pub asks : AreAskedBy sent reached past page

abbrev pub DriversSettle : Type 0
DriversSettle = (s : Setting) (past : List Entry) (actor line : ℕ) (event : DriverEvent) (reply : DriverReply) (reached : List Key) →
    reached ≡ reach (known_as s (fate_in (marked s (came event reply) past (pages s past) (present_after past event).now))) (references (pages s past)) →
    reply.sent ≡ requests s (came event reply) past (page_of s (driven actor line event reply) (What.Driver event reply) past (pages s past)).watched →
    IsSettling s (driven actor line event reply) (came event reply) (turned_by event reply.verdict) reply.sent past (pages s past) (present_after past event).now reached (page_of s (driven actor line event reply) (What.Driver event reply) past (pages s past))

-- a caller's entry leaves what is kept as it is
abbrev pub CallersLeave : Type 0
CallersLeave = (s : Setting) (past : List Entry) (actor line : ℕ) (event : CallerEvent) (reply : CallerReply) (f : Fates) → IsKeptAt past (pages s past) f → IsKeptAt (called actor line event reply ∷ past) (pages s (called actor line event reply ∷ past)) f

-- an answered response and a moment turn no stream
abbrev pub AnsweredTurnsNone : Type 0
AnsweredTurnsNone = (s : Setting) (event : DriverEvent) (reply : DriverReply) (t : Told) → answered s (came event reply) ≡ Some t → turned_by event reply.verdict ≡ None

-- an entry that brings nothing and turns no stream asks for no call before it is known what is reached
abbrev pub QuietStays : Type 0
QuietStays = (s : Setting) (c : Came) (past : List Entry) (ps : List Page) (now : Time) (f : Fates) → answered s c ≡ None → is_moment c.event ≡ false → IsKeptAt past ps f → IsMarkedAt s c past ps now None f
