-- What brings nothing loses nothing.
use Rattle.std.proofs.Common.{◌≡◌, Bool, true, false, ◌&&◌, ◌||◌, not, List, Option, Some, None, refl, sym, ap, ◌∙◌, subst, option_map}
use Rattle.std.specs.Prelude.{if◌then◌else◌, unwrap_or, IsSome}
use Rattle.xc_base.specs.declared.names.Home.{Home}
use Rattle.xc_base.specs.declared.names.Key.{Key}
use Rattle.xc_base.specs.declared.names.Time.{Time}
use Rattle.xds_cache.specs.declared.fate.Known.{Known}
use Rattle.xds_cache.specs.KeptFates.{Watched as Rows, known_of, fate_at}
use Rattle.watch_timers.specs.Timers.{Running, started_at}
use Rattle.config_assembly.specs.Reach.{is_wanted}
use Rattle.config_assembly.specs.Watching.{has_key}
use Rattle.call_journal.specs.declared.entry.Entry.{Entry}
use Rattle.xds_history.specs.Streams.{is_up}
use Rattle.xds_history.specs.declared.page.Page.{Page}
use Rattle.xds_history.specs.Page.{watched_now}
use Rattle.xds_history.specs.Fates.{first_asked}
use Rattle.book_fates.specs.FateSteps.{Knows, Stepped, out_among}
use Rattle.book_fates.specs.Timing.{known_in, is_awaited, timed_at, AreTimed, Stopped, StoppedBy, lost_among}
use Rattle.book_fates.specs.FatesKept.{keys_in, QuietStays}
use Rattle.book_fates.proofs.EntryLemmas.{runs_by}
use Rattle.book_fates.proofs.KeptLemmas.{lost_out, marked_by, unmarked_knows}

wanted_of : (o : Option Known) → is_awaited o ≡ true → is_wanted (unwrap_or o Known.Wanted) ≡ true
wanted_of None is = absurd (cc is)
wanted_of (Some known) is = is

-- a key that runs is wanted
pub runs_wanted : (past : List Entry) (ps : List Page) (rows : Rows) (key : Key) (home : Home) → Knows rows (watched_now ps) → IsSome (timed_at past ps key home) → is_wanted (fate_at home (known_of rows key)) ≡ true
runs_wanted past ps rows key (Home.Nowhere fault) knows runs = absurd (cc runs)
runs_wanted past ps rows key (Home.At a) knows runs =
    let (was, up) = runs_by (is_awaited (known_in (watched_now ps) key)) (is_up a past) (first_asked ps a key) runs in
    wanted_of (known_of rows key) (subst (λ o. is_awaited o ≡ true) (sym (knows key)) was)

not_lost : (h w : Bool) → w ≡ true → (h && (false || not w)) ≡ false
not_lost true true is = refl
not_lost false true is = refl
not_lost h false is = absurd (cc is)

unlost : (l : Bool) (o : Option Time) → (IsSome o → l ≡ false) → o ≡ (if l then None else o)
unlost true None is = refl
unlost true (Some at) is = absurd (cc (is refl))
unlost false o is = refl

pub quiet_stays : QuietStays
quiet_stays s c past ps now f none event kept =
    marked_by s c past ps now None f f kept refl kept.waits (unmarked_knows s c past ps now f.cache none event kept.knows)
    (λ key. unlost (lost_among f.reached None f.cache key) (started_at f.timers key)
    (λ runs. not_lost (has_key f.reached key) (is_wanted (fate_at key.home (known_of f.cache key))) (runs_wanted past ps f.cache key key.home kept.knows (subst (λ o. IsSome o) (kept.timed key) runs))))

-- ---- at a moment the keys that are due are those that are lost

pub same_stop : (h l : Bool) (o : Option Time) → (IsSome o → h ≡ true → l ≡ true) → (IsSome o → h ≡ false → l ≡ false) → (if h then None else o) ≡ (if l then None else o)
same_stop true true o hits none = refl
same_stop false false o hits none = refl
same_stop true false None hits none = refl
same_stop false true None hits none = refl
same_stop true false (Some at) hits none = absurd (cc (hits refl refl))
same_stop false true (Some at) hits none = absurd (cc (none refl refl))

pub kept_out : (h : Bool) (o : Option Known) → h ≡ false → option_map (λ known. if h then Known.Absent else known) o ≡ o
kept_out true o is = absurd (cc is)
kept_out false None is = refl
kept_out false (Some known) is = refl

pub moment_loses : (past : List Entry) (ps : List Page) (timers after : Running) (keys before : List Key) (old rows : Rows) → AreTimed past ps timers → Knows old (watched_now ps) → Stepped old rows (out_among keys) → before ≡ keys_in (watched_now ps) →
    Stopped timers after keys → StoppedBy timers after (lost_among before None rows)
moment_loses past ps timers after keys before old rows are knows stepped keys_are due key =
    due key
    ∙ same_stop (has_key keys key) (lost_among before None rows key) (started_at timers key)
    (λ runs has. lost_out past ps keys before None old rows key key.home knows stepped keys_are (subst (λ o. IsSome o) (are key) runs) has)
    (λ runs none. not_lost (has_key before key) (is_wanted (fate_at key.home (known_of rows key)))
    (ap (λ o. is_wanted (fate_at key.home o)) (stepped key ∙ kept_out (has_key keys key) (known_of old key) none) ∙ runs_wanted past ps old key key.home knows (subst (λ o. IsSome o) (are key) runs)))
