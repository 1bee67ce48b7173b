-- Laws of histories.
use Rattle.std.specs.Prelude.{◌≡◌, ℕ, List, [], ◌∷◌, ◌++◌, map, Bool, true, false, not, Option, Some, None, Contains, IsTrue, is_some}
use Rattle.std.specs.List.{list_all}
use Rattle.xc_base.specs.declared.names.CallId.{CallId}
use Rattle.xc_base.specs.declared.names.Key.{Key}
use Rattle.xds_config.specs.declared.config.Config.{Config}
use Rattle.cluster_tree.specs.declared.snapshot.Snapshot.{Snapshot}
use Rattle.call_journal.specs.declared.event.DriverEvent.{DriverEvent}
use Rattle.call_journal.specs.declared.event.CallerEvent.{CallerEvent}
use Rattle.call_journal.specs.declared.entry.What.{What}
use Rattle.call_journal.specs.declared.entry.Entry.{Entry}
use Rattle.config_assembly.specs.Orders.{Name, sorted, name_cmp}
use Rattle.config_assembly.specs.ReachedResources.{Resources}
use Rattle.config_assembly.specs.Front.{names_of_front}
use Rattle.config_assembly.specs.WholeConfigs.{whole_config}
use Rattle.xds_history.specs.Setting.{Setting}
use Rattle.xds_history.specs.Streams.{is_broken, sent_in}
use Rattle.xds_history.specs.declared.page.Page.{Page}
use Rattle.xds_history.specs.Page.{config_now, latest, watched_now}
use Rattle.xds_history.specs.References.{snapshot_at, held, pinned, names_in, references}
use Rattle.xds_history.specs.Pages.{pages, page_of}
use Rattle.xds_history.specs.Right.{Right}

-- what isn't up to the client: the actor, the line, the event, and which pattern texts are refused
pub data Given : Type 0 where
  driver : DriverEvent → List Name → Given
  caller : CallerEvent → Given

abbrev pub given_in : What → Given
given_in (What.Driver event reply) = driver event reply.refused
given_in (What.Caller event reply) = caller event

pub record Asked : Type 0 where
  pub actor : ℕ
  pub line : ℕ
  pub given : Given

abbrev pub asked_of : Entry → Asked
asked_of e = record { actor = e.actor; line = e.line; given = given_in e.what }

-- two right histories over the same events and refused texts are the same
abbrev pub OneReply : Type 0
OneReply = (s : Setting) (history other : List Entry) → Right s history → Right s other → map asked_of history ≡ map asked_of other → history ≡ other

-- the clusters of a whole configuration are those that its host names or that calls refer to, in order, each once
abbrev pub NoOthers : Type 0
NoOthers = (r : Resources) (references : List Name) (config : Config) → whole_config r references ≡ Some config → map (λ c. c.name) config.clusters ≡ sorted name_cmp (names_of_front config.front ++ references)

-- whether an entry is a driver's after which no reached key is awaited
abbrev pub is_whole : What → Bool
is_whole (What.Driver event reply) = not (is_some reply.missing)
is_whole (What.Caller event reply) = false

-- after an entry that is whole the configuration's clusters are those that its host names or that calls refer to, in order,
-- each once
abbrev pub WholeHasNoOthers : Type 0
WholeHasNoOthers = (s : Setting) (later : List Entry) (e : Entry) (past : List Entry) → Right s (later ++ e ∷ past) → IsTrue (is_whole e.what) → (config : Config) → config_now (pages s (e ∷ past)) ≡ Some config →
    map (λ c. c.name) config.clusters ≡ sorted name_cmp (names_of_front config.front ++ references (pages s past))

-- ---- what calls refer to stays

-- a snapshot has a cluster
abbrev pub HasCluster : Snapshot → Name → Type 0
HasCluster snapshot name = Contains (map (λ c. c.name) snapshot.config.clusters) name

-- there is a latest snapshot, and it has the cluster
abbrev pub LatestHas : Option Snapshot → Name → Type 0
LatestHas None name = ⊥
LatestHas (Some snapshot) name = HasCluster snapshot name

-- the latest snapshot has every cluster that a call refers to
abbrev pub LatestHasReferences : Type 0
LatestHasReferences = (s : Setting) (history : List Entry) → Right s history → (name : Name) → Contains (references (pages s history)) name → LatestHas (latest (pages s history)) name

-- the snapshot that an entry publishes
abbrev pub published : Setting → Entry → List Entry → Option Snapshot
published s e past = (page_of s e e.what past (pages s past)).snapshot

-- the snapshot of this number is there, and another one has every cluster that its host names
abbrev pub HasThoseOf : List Page → ℕ → Snapshot → Type 0
HasThoseOf ps number other = (snapshot : Snapshot) × (snapshot_at number ps ≡ Some snapshot) × ((name : Name) → Contains (names_in snapshot) name → HasCluster other name)

-- each snapshot that is published while a pin is open has every cluster that the host of the pinned one names
abbrev pub PublishedHasPinned : Type 0
PublishedHasPinned = (s : Setting) (later : List Entry) (e : Entry) (past : List Entry) → Right s (later ++ e ∷ past) → (snapshot : Snapshot) → published s e past ≡ Some snapshot →
    (call : CallId) (number : ℕ) → pinned (pages s past) call ≡ Some number → HasThoseOf (pages s past) number snapshot

-- each snapshot that is published while a call holds a cluster has it
abbrev pub PublishedHasHeld : Type 0
PublishedHasHeld = (s : Setting) (later : List Entry) (e : Entry) (past : List Entry) → Right s (later ++ e ∷ past) → (snapshot : Snapshot) → published s e past ≡ Some snapshot →
    (call : CallId) (name : Name) → held (pages s past) call ≡ Some name → HasCluster snapshot name

-- ---- what changes nothing

-- whether an event is a report of an endpoint's state or on bytes that break no stream, or a sweep
abbrev pub is_report : DriverEvent → Bool
is_report (DriverEvent.Endpoint address state) = true
is_report (DriverEvent.Bytes a how) = not (is_broken how)
is_report DriverEvent.Sweep = true
is_report event = false

abbrev pub reports : What → Bool
reports (What.Driver event reply) = is_report event
reports (What.Caller event reply) = false

abbrev pub is_call : What → Bool
is_call (What.Driver event reply) = false
is_call (What.Caller event reply) = true

-- the least awaited key that a driver's entry tells
abbrev pub awaited_in : What → Option Key
awaited_in (What.Driver event reply) = reply.missing
awaited_in (What.Caller event reply) = None

-- An entry leaves the watched keys, with what came for them, and the configuration as they were. It awaits what the driver's
-- entry before awaited, and sends no request.
pub record ChangesNothing (s : Setting) (e : Entry) (past : List Entry) (before : Entry) : Type 0 where
  pub watched : watched_now (pages s (e ∷ past)) ≡ watched_now (pages s past)
  pub config : config_now (pages s (e ∷ past)) ≡ config_now (pages s past)
  pub awaited : awaited_in e.what ≡ awaited_in before.what
  pub sent : sent_in e.what ≡ []

-- A report of an endpoint's state or on bytes that break no stream, or a sweep, where only calls' entries stand between the driver's entry before and it, and
-- calls refer to the same clusters as they did there, changes nothing.
abbrev pub ReportsChangeNothing : Type 0
ReportsChangeNothing = (s : Setting) (later : List Entry) (e : Entry) (between : List Entry) (before : Entry) (earlier : List Entry) → Right s (later ++ e ∷ (between ++ before ∷ earlier)) →
    IsTrue (reports e.what) → IsTrue (list_all (λ c. is_call c.what) between) → IsTrue (not (is_call before.what)) →
    references (pages s (between ++ before ∷ earlier)) ≡ references (pages s earlier) → ChangesNothing s e (between ++ before ∷ earlier) before
