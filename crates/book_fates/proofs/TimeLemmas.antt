-- Timers, one entry on.
use Rattle.std.proofs.Common.{◌≡◌, Bool, true, false, ◌&&◌, not, cond, List, [], ◌∷◌, Option, Some, None, refl, sym, ap, ◌∙◌, subst, option_map}
use Rattle.std.specs.Prelude.{if◌then◌else◌, unwrap_or, IsSome, is_some}
use Rattle.std.specs.Option.{option_or}
use Rattle.xc_base.specs.declared.names.Authority.{Authority}
use Rattle.xc_base.specs.declared.names.Home.{Home}
use Rattle.xc_base.specs.declared.names.Key.{Key}
use Rattle.xc_base.specs.declared.names.Time.{Time}
use Rattle.xds_cache.specs.declared.fate.Known.{Known}
use Rattle.watch_timers.specs.Timers.{Running}
use Rattle.config_assembly.specs.Reach.{is_wanted}
use Rattle.config_assembly.specs.Watching.{has_key}
use Rattle.call_journal.specs.declared.entry.Entry.{Entry}
use Rattle.xds_history.specs.Setting.{Setting}
use Rattle.xds_history.specs.Responses.{Came}
use Rattle.xds_history.specs.declared.turns.Turn.{Turn}
use Rattle.xds_history.specs.declared.turns.Turn.TheVariants.{Opens, Ends, Stays}
use Rattle.xds_history.specs.Streams.{turn_of, turned, stream, is_up}
use Rattle.xds_history.specs.declared.page.Mark.{Mark}
use Rattle.xds_history.specs.declared.page.Page.{Page}
use Rattle.xds_history.specs.declared.page.Watched.{Watched}
use Rattle.xds_history.specs.Page.{find_watched, watched_now}
use Rattle.xds_history.specs.Fates.{judged, first_asked, is_asked_in, is_opening, marked, watch}
use Rattle.book_fates.specs.FateSteps.{after_mark, after_marks, step, mark_known}
use Rattle.book_fates.specs.Timing.{known_in, is_awaited, timed_at, AreTimed, is_open, is_fresh, is_asked_at, retimed, AreRetimed, WasWanted}
use Rattle.book_fates.proofs.StepLemmas.{found_marked, known_watched}

-- ---- a key that is wanted was wanted before

wanted_after : (m : Mark) (known : Known) → is_wanted (after_mark m known) ≡ true → is_wanted known ≡ true
wanted_after (Mark.Valid v) known is = absurd (cc is)
wanted_after (Mark.Invalid reason) Known.Wanted is = refl
wanted_after (Mark.Invalid reason) (Known.Value v) is = is
wanted_after (Mark.Invalid reason) (Known.Invalid other) is = absurd (cc is)
wanted_after (Mark.Invalid reason) Known.Absent is = absurd (cc is)
wanted_after Mark.Gone known is = absurd (cc is)

pub wanted_before : (m : Option Mark) (known : Known) → is_wanted (after_marks m known) ≡ true → is_wanted known ≡ true
wanted_before None known is = is
wanted_before (Some m) known is = wanted_after m known is

was_at : (h : Bool) (f : Known → Known) (o : Option Known) → ((known : Known) → is_wanted (f known) ≡ true → is_wanted known ≡ true) →
    is_awaited (if h then Some (unwrap_or (option_map f o) Known.Wanted) else None) ≡ true → IsSome o → is_awaited o ≡ true
was_at true f None before is some = absurd (cc some)
was_at true f (Some known) before is some = before known is
was_at false f o before is some = absurd (cc is)

-- after a driver's entry
pub was_wanted : (s : Setting) (c : Came) (past : List Entry) (ps : List Page) (now : Time) (keys : List Key) (p : Page) → p.watched ≡ watch (marked s c past ps now) keys → WasWanted ps p
was_wanted s c past ps now keys p watched key wanted some =
    was_at (has_key keys key) (step s c past ps now key) (known_in (watched_now ps) key) (λ known. wanted_before (mark_known s c past ps now key known) known)
    (subst (λ o. is_awaited o ≡ true)
    (ap (λ ws. known_in ws key) watched ∙ known_watched (marked s c past ps now) keys key ∙ ap (λ o. if has_key keys key then Some (unwrap_or o Known.Wanted) else None) (sym (found_marked s c past ps now key (watched_now ps))))
    wanted) some

-- after a caller's
pub still_wanted : (ps : List Page) (p : Page) → p.watched ≡ watched_now ps → WasWanted ps p
still_wanted ps p same key wanted some = subst (λ ws. is_awaited (known_in ws key) ≡ true) same wanted

-- ---- when a key was asked for first

-- a key that isn't watched was not asked for since
never_asked : (ps : List Page) (a : Authority) (key : Key) → find_watched key (watched_now ps) ≡ None → first_asked ps a key ≡ None
never_asked [] a key none = refl
never_asked (p ∷ ps) a key none = ap (λ o. if is_some o then option_or (if is_opening (turn_of a p.entry.what) then None else first_asked ps a key) (if is_asked_in a key p.entry then Some p.now else None) else None) none

is_there : (o : Option Watched) → is_awaited (option_map (λ w. judged w.marks) o) ≡ true → is_some o ≡ true
is_there None is = absurd (cc is)
is_there (Some w) is = refl

not_there : (o : Option Watched) → (IsSome (option_map (λ w. judged w.marks) o) → is_awaited (option_map (λ w. judged w.marks) o) ≡ true) → is_awaited (option_map (λ w. judged w.marks) o) ≡ false → o ≡ None
not_there None was is = refl
not_there (Some w) was is = absurd (cc (was refl, is))

was_up : (t : Turn) (o : Option (List Entry)) (e : Entry) → is_opening t ≡ false → is_some (turned t e o) ≡ true → is_some o ≡ true
was_up Opens o e fresh up = absurd (cc fresh)
was_up Ends o e fresh up = absurd (cc up)
was_up Stays None e fresh up = absurd (cc up)
was_up Stays (Some es) e fresh up = refl

-- wanted after, up after, watched after, opened now, wanted before, up before
retimed_by : (w u s o v t : Bool) (first asked : Option Time) → (w ≡ true → s ≡ true) → (o ≡ false → u ≡ true → t ≡ true) → (w ≡ true → v ≡ false → first ≡ None) →
    cond (w && u) (cond s (option_or (cond o None first) asked) None) None ≡ cond (w && u) (option_or (cond o None (cond (v && t) first None)) asked) None
retimed_by false u s o v t first asked there up never = refl
retimed_by true false s o v t first asked there up never = refl
retimed_by true true false o v t first asked there up never = absurd (cc (there refl))
retimed_by true true true true v t first asked there up never = refl
retimed_by true true true false v false first asked there up never = absurd (cc (up refl refl))
retimed_by true true true false true true first asked there up never = refl
retimed_by true true true false false true first asked there up never = ap (λ x. option_or x asked) (never refl refl)

timed_next : (past : List Entry) (ps : List Page) (p : Page) (key : Key) (home : Home) → WasWanted ps p →
    timed_at (p.entry ∷ past) (p ∷ ps) key home ≡ retimed (is_open past p key home) (is_fresh p home) (is_asked_at p key home) p.now (timed_at past ps key home)
timed_next past ps p key (Home.Nowhere fault) was = refl
timed_next past ps p key (Home.At a) was =
    retimed_by (is_awaited (known_in p.watched key)) (is_up a (p.entry ∷ past)) (is_some (find_watched key p.watched)) (is_opening (turn_of a p.entry.what)) (is_awaited (known_in (watched_now ps) key)) (is_up a past)
    (first_asked ps a key) (if is_asked_in a key p.entry then Some p.now else None)
    (is_there (find_watched key p.watched))
    (was_up (turn_of a p.entry.what) (stream a past) p.entry)
    (λ wanted not_wanted. never_asked ps a key (not_there (find_watched key (watched_now ps)) (was key wanted) not_wanted))

-- each timer that is made anew by the step is the history's
pub are_timed : (past : List Entry) (ps : List Page) (p : Page) (old new : Running) → WasWanted ps p → AreTimed past ps old → AreRetimed past p old new → AreTimed (p.entry ∷ past) (p ∷ ps) new
are_timed past ps p old new was timed_before again key =
    again key
    ∙ ap (λ o. retimed (is_open past p key key.home) (is_fresh p key.home) (is_asked_at p key key.home) p.now o) (timed_before key)
    ∙ sym (timed_next past ps p key key.home was)

-- ---- the step for one key, case by case

pub starts : (now : Time) (before : Option Time) → retimed true false true now before ≡ Some (unwrap_or before now)
starts now None = refl
starts now (Some at) = refl

pub starts_anew : (now : Time) (before : Option Time) → retimed true true true now before ≡ Some now
starts_anew now before = refl

pub is_cancelled : (fresh asked : Bool) (now : Time) (before : Option Time) → retimed false fresh asked now before ≡ None
is_cancelled fresh asked now before = refl

pub is_cancelled_anew : (now : Time) (before : Option Time) → retimed true true false now before ≡ None
is_cancelled_anew now before = refl

pub stays : (now : Time) (before : Option Time) → retimed true false false now before ≡ before
stays now None = refl
stays now (Some at) = refl

-- ---- first stop, then start

pub stopped_at : (h k : Bool) (o : Option Time) → (IsSome o → h ≡ not k) → (if h then None else o) ≡ (if k then o else None)
stopped_at true true None is = refl
stopped_at true false None is = refl
stopped_at false true None is = refl
stopped_at false false None is = refl
stopped_at true true (Some at) is = absurd (cc (is refl))
stopped_at true false (Some at) is = refl
stopped_at false true (Some at) is = refl
stopped_at false false (Some at) is = absurd (cc (is refl))

pub both_steps : (waits fresh asked : Bool) (now : Time) (before : Option Time) →
    (if (waits && asked) then Some (unwrap_or (if (waits && not fresh) then before else None) now) else (if (waits && not fresh) then before else None)) ≡ retimed waits fresh asked now before
both_steps false fresh asked now before = refl
both_steps true true true now before = refl
both_steps true true false now before = refl
both_steps true false true now None = refl
both_steps true false true now (Some at) = refl
both_steps true false false now None = refl
both_steps true false false now (Some at) = refl

pub started_if : (b : Bool) (now : Time) (mid before : Option Time) → mid ≡ before → (if b then Some (unwrap_or mid now) else mid) ≡ (if b then Some (unwrap_or before now) else before)
started_if b now mid before is = ap (λ o. if b then Some (unwrap_or o now) else o) is
