-- Which timers run after an entry, and since when.
use Rattle.std.specs.Prelude.{◌≡◌, List, ◌∷◌, Bool, true, false, ◌&&◌, ◌||◌, not, Option, Some, None, if◌then◌else◌, option_map, unwrap_or, is_some, IsSome}
use Rattle.std.specs.List.{list_any}
use Rattle.std.specs.Option.{option_or, option_map_or}
use Rattle.xc_base.specs.declared.names.Authority.{Authority}
use Rattle.xc_base.specs.declared.names.Home.{Home}
use Rattle.xc_base.specs.declared.names.Key.{Key}
use Rattle.xc_base.specs.declared.names.Time.{Time}
use Rattle.xds_cache.specs.declared.fate.Known.{Known}
use Rattle.xds_cache.specs.KeptFates.{Watched as Rows, fate_of}
use Rattle.call_journal.specs.declared.reply.Sent.{Sent}
use Rattle.xds_history.specs.Words.{same_kind, same_authority}
use Rattle.xds_history.specs.declared.turns.Turn.{Turn}
use Rattle.xds_history.specs.declared.turns.Turn.TheVariants.{Opens, Ends, Stays}
use Rattle.watch_timers.specs.Timers.{Running, started_at}
use Rattle.config_assembly.specs.Reach.{is_wanted}
use Rattle.config_assembly.specs.Watching.{has_key}
use Rattle.call_journal.specs.declared.entry.Entry.{Entry}
use Rattle.xds_history.specs.Streams.{turn_of, is_up}
use Rattle.xds_history.specs.declared.page.Page.{Page}
use Rattle.xds_history.specs.declared.page.Watched.{Watched}
use Rattle.xds_history.specs.Page.{find_watched, watched_now}
use Rattle.xds_history.specs.Fates.{judged, first_asked, is_asked_in, is_opening, is_over}

-- what is known of a key, where it is watched
abbrev pub known_in : List Watched → Key → Option Known
known_in watched key = option_map (λ w. judged w.marks) (find_watched key watched)

abbrev pub is_awaited : Option Known → Bool
is_awaited known = option_map_or is_wanted known false

-- since when the key's timer runs: it is watched and wanted, the stream of its home is up, and it was asked for on it
abbrev pub timed_at : List Entry → List Page → Key → Home → Option Time
timed_at past ps key (Home.At a) = if is_awaited (known_in (watched_now ps) key) && is_up a past then first_asked ps a key else None
timed_at past ps key (Home.Nowhere fault) = None

abbrev pub timed : List Entry → List Page → Key → Option Time
timed past ps key = timed_at past ps key key.home

-- the timers are those of the history
abbrev pub AreTimed : List Entry → List Page → Running → Type 0
AreTimed past ps timers = (key : Key) → started_at timers key ≡ timed past ps key

-- ---- one entry on

-- the key is watched and wanted after the entry, on a stream that is up
abbrev pub is_open : List Entry → Page → Key → Home → Bool
is_open past p key (Home.At a) = is_awaited (known_in p.watched key) && is_up a (p.entry ∷ past)
is_open past p key (Home.Nowhere fault) = false

abbrev pub is_fresh : Page → Home → Bool
is_fresh p (Home.At a) = is_opening (turn_of a p.entry.what)
is_fresh p (Home.Nowhere fault) = false

abbrev pub is_asked_at : Page → Key → Home → Bool
is_asked_at p key (Home.At a) = is_asked_in a key p.entry
is_asked_at p key (Home.Nowhere fault) = false

-- the time that was kept stays, unless the stream is a new one; else the key is asked for first now
abbrev pub retimed : Bool → Bool → Bool → Time → Option Time → Option Time
retimed waits fresh asked now before = if waits then option_or (if fresh then None else before) (if asked then Some now else None) else None

-- each timer by what it was before
abbrev pub AreRetimed : List Entry → Page → Running → Running → Type 0
AreRetimed past p old new = (key : Key) → started_at new key ≡ retimed (is_open past p key key.home) (is_fresh p key.home) (is_asked_at p key key.home) p.now (started_at old key)

-- what is wanted after a page and was watched before it was wanted then
abbrev pub WasWanted : List Page → Page → Type 0
WasWanted ps p = (key : Key) → is_awaited (known_in p.watched key) ≡ true → IsSome (known_in (watched_now ps) key) → is_awaited (known_in (watched_now ps) key) ≡ true

-- of these keys no timer runs any more
abbrev pub Stopped : Running → Running → List Key → Type 0
Stopped old new keys = (key : Key) → started_at new key ≡ (if has_key keys key then None else started_at old key)

-- ---- expiries

-- the key is wanted, its stream is up, and it was asked for long ago
abbrev pub expires_at : List Entry → List Page → Time → Key → Home → Bool
expires_at past ps now key (Home.At a) = is_awaited (known_in (watched_now ps) key) && is_up a past && is_over now (first_asked ps a key)
expires_at past ps now key (Home.Nowhere fault) = false

-- ---- by tests of keys

abbrev pub StoppedBy : Running → Running → (Key → Bool) → Type 0
StoppedBy old new over = (key : Key) → started_at new key ≡ (if over key then None else started_at old key)

abbrev pub StartedBy : Running → Running → (Key → Bool) → Time → Type 0
StartedBy old new first now = (key : Key) → started_at new key ≡ (if first key then Some (unwrap_or (started_at old key) now) else started_at old key)

-- a stream of this authority was opened or ended
abbrev pub is_turned : Option Authority → Home → Bool
is_turned (Some a) (Home.At b) = same_authority a b
is_turned _ _ = false

abbrev pub is_turning : Turn → Bool
is_turning Opens = true
is_turning Ends = true
is_turning Stays = false

-- the stream of this authority is the one that an entry opens or ends
abbrev pub TurnsAt : Option Authority → Page → Type 0
TurnsAt turn p = (a : Authority) → is_turned turn (Home.At a) ≡ is_turning (turn_of a p.entry.what)

-- no longer wanted by what came, or its stream turned
abbrev pub is_lost : Option Authority → Rows → Key → Bool
is_lost turn rows key = is_turned turn key.home || not (is_wanted (fate_of rows key))

abbrev pub lost_among : List Key → Option Authority → Rows → Key → Bool
lost_among before turn rows key = has_key before key && is_lost turn rows key

abbrev pub unreached_among : List Key → List Key → Key → Bool
unreached_among before reached key = has_key before key && not (has_key reached key)

-- no key of a list is wanted
abbrev pub NoneWanted : Rows → List Key → Type 0
NoneWanted rows keys = (key : Key) → has_key keys key ≡ true → is_wanted (fate_of rows key) ≡ false

-- a request of the key's kind goes to its home
abbrev pub asks_at : List Sent → Key → Home → Bool
asks_at sent key (Home.At a) = list_any (λ x. same_authority a x.authority && same_kind x.request.kind key.kind) sent
asks_at sent key (Home.Nowhere fault) = false

abbrev pub is_first : List Sent → Rows → Key → Bool
is_first sent rows key = is_wanted (fate_of rows key) && asks_at sent key key.home

abbrev pub first_among : List Key → List Sent → Rows → Key → Bool
first_among reached sent rows key = has_key reached key && is_first sent rows key

-- one of these keys, which is asked for
abbrev pub asked_among : List Key → List Sent → Key → Bool
asked_among keys sent key = has_key keys key && asks_at sent key key.home

-- a request of a reached key's kind goes to its home where that stream is up and the key is asked for
abbrev pub AreAskedBy : List Sent → List Key → List Entry → Page → Type 0
AreAskedBy sent reached past p = (key : Key) (a : Authority) → key.home ≡ Home.At a → has_key reached key ≡ true → asks_at sent key (Home.At a) ≡ (is_up a (p.entry ∷ past) && is_asked_in a key p.entry)

-- ---- which keys have timers

-- the key has a timer, where it is wanted
abbrev pub IsTimed : Rows → Running → Key → Type 0
IsTimed rows timers key = is_wanted (fate_of rows key) ≡ true → IsSome (started_at timers key)

-- so has each of these but some of the others, which are among them
pub record AreTimedBut (others keys : List Key) (rows : Rows) (timers : Running) : Type 0 where
  pub among : (key : Key) → has_key others key ≡ true → has_key keys key ≡ true
  pub timed : (key : Key) → has_key keys key ≡ true → has_key others key ≡ false → IsTimed rows timers key

-- the key's timer doesn't run
abbrev pub is_idle : Running → Key → Bool
is_idle timers key = not (is_some (started_at timers key))
