-- What is kept, through an entry.
use Rattle.std.proofs.Common.{◌≡◌, Bool, true, false, ◌&&◌, ◌||◌, not, cond, List, [], ◌∷◌, Option, Some, None, refl, sym, ap, ◌∙◌, subst, option_map}
use Rattle.std.specs.Prelude.{if◌then◌else◌, unwrap_or, IsSome}
use Rattle.std.specs.Option.{option_or, option_and_then}
use Rattle.xc_base.specs.declared.names.Authority.{Authority}
use Rattle.xc_base.specs.declared.names.Home.{Home}
use Rattle.xc_base.specs.declared.names.Kind.{Kind}
use Rattle.xc_base.specs.declared.names.Key.{Key}
use Rattle.xc_base.specs.declared.names.Time.{Time}
use Rattle.xc_keys.specs.Keys.{is_key}
use Rattle.proto_discovery.specs.declared.response.Response.{Response}
use Rattle.xds_cache.specs.declared.fate.Known.{Known}
use Rattle.xds_cache.specs.KeptFates.{Watched as Rows, known_of, fate_at, fate_of}
use Rattle.watch_timers.specs.Timers.{Running, started_at}
use Rattle.config_assembly.specs.Orders.{Name}
use Rattle.config_assembly.specs.Reach.{is_wanted}
use Rattle.config_assembly.specs.Watching.{has_key, IsWatching}
use Rattle.call_journal.specs.declared.event.DriverEvent.{DriverEvent}
use Rattle.call_journal.specs.declared.entry.Entry.{Entry}
use Rattle.call_journal.specs.declared.reply.Sent.{Sent}
use Rattle.xds_history.specs.Setting.{Setting}
use Rattle.xds_history.specs.Responses.{Came, answered, told_by, told_in, answered_kind, parts}
use Rattle.xds_history.specs.Streams.{is_up}
use Rattle.xds_history.specs.declared.responses.Told.{Told}
use Rattle.xds_history.specs.declared.page.Page.{Page}
use Rattle.xds_history.specs.declared.page.Watched.{Watched}
use Rattle.xds_history.specs.Page.{find_watched, watched_now}
use Rattle.xds_history.specs.Fates.{judged, first_asked, marked, watch}
use Rattle.book_fates.specs.declared.timed_fates.Fates.{Fates}
use Rattle.book_fates.specs.FateSteps.{Knows, Stepped, AreApart, out_among, step, brings_timed, brings, after_marks, WatchesOnly}
use Rattle.book_fates.specs.Timing.{known_in, is_awaited, timed_at, AreTimed, Stopped, StoppedBy, StartedBy, TurnsAt, AreAskedBy, is_turned, lost_among, first_among, NoneWanted, asks_at}
use Rattle.book_fates.specs.FatesKept.{IsKeptAt, IsLeftBy, IsMarkedAt, KnowsTimed, keys_in, is_moment}
use Rattle.book_fates.proofs.StepLemmas.{knows_marked, knows_watched}
use Rattle.book_fates.proofs.PartLemmas.{apart}
use Rattle.book_fates.proofs.EntryLemmas.{entry_timed, known_awaited, runs_by}

-- ---- the keys that are watched

has_by : (b : Bool) (w : Watched) (rest : Option Watched) (more : Bool) → (IsSome (option_map (λ w. judged w.marks) rest) → more ≡ true) → IsSome (option_map (λ w. judged w.marks) (cond b (Some w) rest)) → (b || more) ≡ true
has_by true w rest more later some = refl
has_by false w rest more later some = later some

pub has_watched : (ws : List Watched) (key : Key) → IsSome (known_in ws key) → has_key (keys_in ws) key ≡ true
has_watched [] key some = absurd (cc some)
has_watched (w ∷ ws) key some = has_by (is_key key w.key) w (find_watched key ws) (has_key (keys_in ws) key) (has_watched ws key) some

pub has_kept : (ws : List Watched) (keys : List Key) (key : Key) → keys ≡ keys_in ws → IsSome (known_in ws key) → has_key keys key ≡ true
has_kept ws keys key are some = subst (λ ks. has_key ks key ≡ true) (sym are) (has_watched ws key some)

pub kept_only : (past : List Entry) (ps : List Page) (f : Fates) → IsKeptAt past ps f → WatchesOnly f.cache f.reached
kept_only past ps f kept key some = has_kept (watched_now ps) f.reached key kept.keys_are (subst (λ o. IsSome o) (kept.knows key) some)

pub keys_watched : (marks : List Watched) (keys : List Key) → keys_in (watch marks keys) ≡ keys
keys_watched marks [] = refl
keys_watched marks (k ∷ keys) = ap (λ ks. k ∷ ks) (keys_watched marks keys)

-- ---- an answered response has its parts told apart

abbrev told_made : Setting → Authority → List Name → Response → Kind → Told
told_made s a refused r kind = record { authority = a; kind = kind; version = r.version; nonce = r.nonce; resources = r.resources; parts = parts s kind r.resources refused }

apart_by : (s : Setting) (a : Authority) (refused : List Name) (r : Option Response) (kind : Option Kind) (t : Told) → told_by s a refused r kind ≡ Some t → AreApart t.parts
apart_by s a refused None kind t is = absurd (cc is)
apart_by s a refused (Some r) None t is = absurd (cc is)
apart_by s a refused (Some r) (Some kind) t is =
    let same : told_made s a refused r kind ≡ t = cc is in
    subst (λ t. AreApart t.parts) same (apart [] _)

apart_in : (s : Setting) (refused : List Name) (event : DriverEvent) (kind : Option Kind) (t : Told) → told_in s refused event kind ≡ Some t → AreApart t.parts
apart_in s refused (DriverEvent.Opened a) kind t is = absurd (cc is)
apart_in s refused (DriverEvent.Response a payload) kind t is = apart_by s a refused (s.read payload) kind t is
apart_in s refused (DriverEvent.Bytes a how) kind t is = absurd (cc is)
apart_in s refused (DriverEvent.Lost a) kind t is = absurd (cc is)
apart_in s refused (DriverEvent.Moment time) kind t is = absurd (cc is)
apart_in s refused (DriverEvent.Endpoint address state) kind t is = absurd (cc is)
apart_in s refused DriverEvent.Sweep kind t is = absurd (cc is)

pub answered_apart : (s : Setting) (c : Came) (t : Told) → answered s c ≡ Some t → AreApart t.parts
answered_apart s c t is = apart_in s c.refused c.event (answered_kind c.verdict) t is

-- ---- an entry that brings nothing

untimed : (past : List Entry) (ps : List Page) (now : Time) (key : Key) (known : Known) (event : DriverEvent) (home : Home) → is_moment event ≡ false → brings_timed past ps now key known event home ≡ None
untimed past ps now key known (DriverEvent.Opened a) home is = refl
untimed past ps now key known (DriverEvent.Response a payload) home is = refl
untimed past ps now key known (DriverEvent.Bytes a how) home is = refl
untimed past ps now key known (DriverEvent.Lost a) home is = refl
untimed past ps now key known (DriverEvent.Moment time) home is = absurd (cc is)
untimed past ps now key known (DriverEvent.Endpoint address state) home is = refl
untimed past ps now key known DriverEvent.Sweep home is = refl

unstepped : (s : Setting) (c : Came) (past : List Entry) (ps : List Page) (now : Time) (key : Key) (o : Option Known) → answered s c ≡ None → is_moment c.event ≡ false → o ≡ option_map (step s c past ps now key) o
unstepped s c past ps now key None none event = refl
unstepped s c past ps now key (Some known) none event =
    ap Some
    (ap (λ m. after_marks m known) (sym (untimed past ps now key known c.event key.home event))
    ∙ ap (λ o. after_marks (option_or (option_and_then (λ t. brings t key known) o) (brings_timed past ps now key known c.event key.home)) known) (sym none))

pub unmarked_knows : (s : Setting) (c : Came) (past : List Entry) (ps : List Page) (now : Time) (rows : Rows) → answered s c ≡ None → is_moment c.event ≡ false → Knows rows (watched_now ps) → Knows rows (marked s c past ps now)
unmarked_knows s c past ps now rows none event knows = knows_marked s c past ps now rows rows knows (λ key. unstepped s c past ps now key (known_of rows key) none event)

-- ---- a moment's expired keys are lost

lost_by : (l h : Bool) (o : Option Time) → (IsSome o → h ≡ true → l ≡ true) → (if l then None else (if h then None else o)) ≡ (if l then None else o)
lost_by true h o is = refl
lost_by false true None is = refl
lost_by false true (Some at) is = absurd (cc (is refl refl))
lost_by false false o is = refl

or_true : (b more : Bool) → more ≡ true → (b || more) ≡ true
or_true true more is = refl
or_true false more is = is

and_true : (a b : Bool) → a ≡ true → b ≡ true → (a && b) ≡ true
and_true true b x y = y
and_true false b x y = x

absent_out : (h : Bool) (o : Option Known) → IsSome o → h ≡ true → not (is_wanted (unwrap_or (option_map (λ known. if h then Known.Absent else known) o) Known.Wanted)) ≡ true
absent_out true None some is = absurd (cc some)
absent_out true (Some known) some is = refl
absent_out false o some is = absurd (cc is)

pub lost_out : (past : List Entry) (ps : List Page) (keys before : List Key) (turn : Option Authority) (old rows : Rows) (key : Key) (home : Home) → Knows old (watched_now ps) → Stepped old rows (out_among keys) → before ≡ keys_in (watched_now ps) →
    IsSome (timed_at past ps key home) → has_key keys key ≡ true → (has_key before key && (is_turned turn home || not (is_wanted (fate_at home (known_of rows key))))) ≡ true
lost_out past ps keys before turn old rows key (Home.Nowhere fault) knows stepped are runs has = absurd (cc runs)
lost_out past ps keys before turn old rows key (Home.At a) knows stepped are runs has =
    let (was, up) = runs_by (is_awaited (known_in (watched_now ps) key)) (is_up a past) (first_asked ps a key) runs in
    let some : IsSome (known_in (watched_now ps) key) = known_awaited (known_in (watched_now ps) key) was in
    and_true (has_key before key) (is_turned turn (Home.At a) || not (is_wanted (unwrap_or (known_of rows key) Known.Wanted))) (has_kept (watched_now ps) before key are some)
    (or_true (is_turned turn (Home.At a)) (not (is_wanted (unwrap_or (known_of rows key) Known.Wanted)))
    (ap (λ o. not (is_wanted (unwrap_or o Known.Wanted))) (stepped key) ∙ absent_out (has_key keys key) (known_of old key) (subst (λ o. IsSome o) (sym (knows key)) some) has))

pub moment_stops : (past : List Entry) (ps : List Page) (timers after lost : Running) (keys before : List Key) (turn : Option Authority) (old rows : Rows) → AreTimed past ps timers → Knows old (watched_now ps) → Stepped old rows (out_among keys) → before ≡ keys_in (watched_now ps) →
    Stopped timers after keys → StoppedBy after lost (lost_among before turn rows) → StoppedBy timers lost (lost_among before turn rows)
moment_stops past ps timers after lost keys before turn old rows are knows stepped keys_are due losing key =
    losing key ∙ ap (λ o. if lost_among before turn rows key then None else o) (due key)
    ∙ lost_by (lost_among before turn rows key) (has_key keys key) (started_at timers key)
    (λ runs has. lost_out past ps keys before turn old rows key key.home knows stepped keys_are (subst (λ o. IsSome o) (are key) runs) has)

-- ---- from one state to the next

pub marked_by : (s : Setting) (c : Came) (past : List Entry) (ps : List Page) (now : Time) (turn : Option Authority) (old new : Fates) → IsKeptAt past ps old → new.reached ≡ old.reached → KnowsTimed new → Knows new.cache (marked s c past ps now) → StoppedBy old.timers new.timers (lost_among old.reached turn new.cache) → IsMarkedAt s c past ps now turn new
marked_by s c past ps now turn old new kept same waits knows losing = record {
  knows = knows;
  keys_are = same ∙ kept.keys_are;
  before = old.timers;
  timed = kept.timed;
  lost = subst (λ keys. StoppedBy old.timers new.timers (lost_among keys turn new.cache)) (sym same) losing;
  waits = waits;
}

-- the state within an entry, with the cache as it was before what is reached was watched
pub settled : (s : Setting) (c : Came) (past : List Entry) (ps : List Page) (p : Page) (now : Time) (turn : Option Authority) (marks old new : Fates) (reached : List Key) (sent : List Sent) → IsMarkedAt s c past ps now turn marks →
    IsLeftBy marks old reached → IsWatching marks.cache old.cache reached → p.watched ≡ watch (marked s c past ps now) reached → p.now ≡ now → TurnsAt turn p → AreAskedBy sent reached past p →
    StartedBy old.timers new.timers (first_among reached sent old.cache) now → KnowsTimed new → new.cache ≡ old.cache → new.reached ≡ reached → IsKeptAt (p.entry ∷ past) (p ∷ ps) new
settled s c past ps p now turn marks old new reached sent was by watching watched now_is turn_is asks starting waits cache_is reached_is = record {
  knows = subst (λ rows. Knows rows p.watched) (sym cache_is) (subst (λ ws. Knows old.cache ws) (sym watched) (knows_watched marks.cache old.cache (marked s c past ps now) reached was.knows watching));
  keys_are = reached_is ∙ (sym (keys_watched (marked s c past ps now) reached) ∙ ap keys_in (sym watched));
  timed = entry_timed s c past ps p now was.before marks.timers old.timers new.timers marks.cache old.cache marks.reached reached turn sent watched now_is was.knows watching
      (λ key some. has_kept (watched_now ps) marks.reached key was.keys_are some) turn_is asks was.timed was.lost by.stopped starting;
  waits = waits;
}

-- ---- where there is nothing to look at

-- where none of the keys is wanted, none is asked for first
pub none_start : (timers : Running) (reached : List Key) (sent : List Sent) (rows : Rows) (now : Time) → NoneWanted rows reached → StartedBy timers timers (first_among reached sent rows) now
none_start timers reached sent rows now none key = none_first (has_key reached key) (is_wanted (fate_of rows key)) (asks_at sent key key.home) (started_at timers key) (none key)
  where
    none_first : (h w a : Bool) (o : Option Time) → (h ≡ true → w ≡ false) → o ≡ (if h && (w && a) then Some (unwrap_or o now) else o)
    none_first false w a o is = refl
    none_first true false a o is = refl
    none_first true true a o is = absurd (cc (is refl))
