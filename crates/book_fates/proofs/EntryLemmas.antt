-- Timers after a whole entry, by what a program tests.
use Rattle.std.proofs.Common.{◌≡◌, ℕ, ◌+◌, ◌<◌, Bool, true, false, ◌&&◌, ◌||◌, not, List, length, take, get_or, Option, Some, None, refl, sym, ap, ◌∙◌, subst, ◌∷◌}
use Rattle.std.specs.Prelude.{if◌then◌else◌, unwrap_or, IsSome, is_some}
use Rattle.xc_base.specs.declared.names.Authority.{Authority}
use Rattle.xc_base.specs.declared.names.Home.{Home}
use Rattle.xc_base.specs.declared.names.Key.{Key}
use Rattle.xc_base.specs.declared.names.Time.{Time}
use Rattle.xc_keys.specs.Keys.{is_key}
use Rattle.xc_keys.proofs.KeyLemmas.{same_key}
use Rattle.xds_cache.specs.declared.fate.Known.{Known}
use Rattle.xds_cache.specs.KeptFates.{Watched as Rows, known_of, fate_at}
use Rattle.watch_timers.specs.Timers.{Running, started_at, Starts, Stops}
use Rattle.config_assembly.specs.Reach.{is_wanted}
use Rattle.config_assembly.specs.Watching.{has_key, IsWatching}
use Rattle.config_assembly.proofs.WatchLemmas.{has_next}
use Rattle.call_journal.specs.declared.reply.Sent.{Sent}
use Rattle.call_journal.specs.declared.entry.Entry.{Entry}
use Rattle.xds_history.specs.Setting.{Setting}
use Rattle.xds_history.specs.Responses.{Came}
use Rattle.xds_history.specs.declared.turns.Turn.{Turn}
use Rattle.xds_history.specs.declared.turns.Turn.TheVariants.{Opens, Ends, Stays}
use Rattle.xds_history.specs.Streams.{turn_of, turned, stream, is_up}
use Rattle.xds_history.specs.declared.page.Page.{Page}
use Rattle.xds_history.specs.declared.page.Watched.{Watched}
use Rattle.xds_history.specs.Page.{watched_now}
use Rattle.xds_history.specs.Fates.{first_asked, is_asked_in, is_opening, marked, watch}
use Rattle.book_fates.specs.FateSteps.{Knows}
use Rattle.book_fates.specs.Timing.{known_in, is_awaited, timed_at, AreTimed, is_open, is_fresh, is_asked_at, AreRetimed, StoppedBy, StartedBy, is_turned, is_turning, TurnsAt, lost_among, unreached_among, asks_at, first_among, AreAskedBy}
use Rattle.book_fates.proofs.StepLemmas.{known_watched}
use Rattle.book_fates.proofs.PlaceLemmas.{key_sym}
use Rattle.book_fates.proofs.TimeLemmas.{are_timed, was_wanted, stopped_at, both_steps, started_if}

-- ---- loops

stop_hits : (h b t : Bool) (o : Option Time) → (b ≡ true → t ≡ true) → (if b then None else (if (h && t) then None else o)) ≡ (if ((h || b) && t) then None else o)
stop_hits true true true o hits = refl
stop_hits false true true o hits = refl
stop_hits h true false o hits = absurd (cc (hits refl))
stop_hits true false t o hits = refl
stop_hits false false t o hits = refl

misses : {X : Type 0} (h b t : Bool) (x y : X) → (b ≡ true → t ≡ false) → (if (h && t) then x else y) ≡ (if ((h || b) && t) then x else y)
misses true true t x y miss = refl
misses false true true x y miss = absurd (cc (miss refl))
misses false true false x y miss = refl
misses true false t x y miss = refl
misses false false t x y miss = refl

next_is : (keys : List Key) (i : ℕ) (x other : Key) → i < length keys → x ≡ get_or keys i x → (has_key (take i keys) other || is_key x other) ≡ has_key (take (i + 1) keys) other
next_is keys i x other lt is = ap (λ b. has_key (take i keys) other || b) (key_sym x other) ∙ sym (has_next keys i x other lt is)

at_other : (test : Key → Bool) (x other : Key) (b : Bool) → test x ≡ b → is_key x other ≡ true → test other ≡ b
at_other test x other b is same = subst (λ k. test k ≡ b) (same_key x other same) is

pub stop_hit : (test : Key → Bool) (first mid new : Running) (keys : List Key) (i : ℕ) (x : Key) → i < length keys → x ≡ get_or keys i x → test x ≡ true → Stops mid new x →
    StoppedBy first mid (λ key. has_key (take i keys) key && test key) → StoppedBy first new (λ key. has_key (take (i + 1) keys) key && test key)
stop_hit test first mid new keys i x lt is tests stops before other =
    stops other ∙ ap (λ o. if is_key x other then None else o) (before other)
    ∙ stop_hits (has_key (take i keys) other) (is_key x other) (test other) (started_at first other) (at_other test x other true tests)
    ∙ ap (λ b. if (b && test other) then None else started_at first other) (next_is keys i x other lt is)

pub stop_miss : (test : Key → Bool) (first mid : Running) (keys : List Key) (i : ℕ) (x : Key) → i < length keys → x ≡ get_or keys i x → test x ≡ false →
    StoppedBy first mid (λ key. has_key (take i keys) key && test key) → StoppedBy first mid (λ key. has_key (take (i + 1) keys) key && test key)
stop_miss test first mid keys i x lt is tests before other =
    before other ∙ misses (has_key (take i keys) other) (is_key x other) (test other) None (started_at first other) (at_other test x other false tests)
    ∙ ap (λ b. if (b && test other) then None else started_at first other) (next_is keys i x other lt is)

start_hits : (h b t : Bool) (x other : Key) (mid : Running) (now : Time) (o : Option Time) → is_key x other ≡ b → (b ≡ true → t ≡ true) → started_at mid other ≡ (if (h && t) then Some (unwrap_or o now) else o) →
    (if b then Some (unwrap_or (started_at mid x) now) else started_at mid other) ≡ (if ((h || b) && t) then Some (unwrap_or o now) else o)
start_hits true true true x other mid now o same hits is = ap (λ k. Some (unwrap_or (started_at mid k) now)) (same_key x other same) ∙ ap (λ p. Some (unwrap_or p now)) is
start_hits false true true x other mid now o same hits is = ap (λ k. Some (unwrap_or (started_at mid k) now)) (same_key x other same) ∙ ap (λ p. Some (unwrap_or p now)) is
start_hits h true false x other mid now o same hits is = absurd (cc (hits refl))
start_hits true false t x other mid now o same hits is = is
start_hits false false t x other mid now o same hits is = is

pub start_hit : (test : Key → Bool) (first mid new : Running) (keys : List Key) (i : ℕ) (x : Key) (now : Time) → i < length keys → x ≡ get_or keys i x → test x ≡ true → Starts mid new x now →
    StartedBy first mid (λ key. has_key (take i keys) key && test key) now → StartedBy first new (λ key. has_key (take (i + 1) keys) key && test key) now
start_hit test first mid new keys i x now lt is tests starts before other =
    starts other
    ∙ start_hits (has_key (take i keys) other) (is_key x other) (test other) x other mid now (started_at first other) refl (at_other test x other true tests) (before other)
    ∙ ap (λ b. if (b && test other) then Some (unwrap_or (started_at first other) now) else started_at first other) (next_is keys i x other lt is)

pub start_miss : (test : Key → Bool) (first mid : Running) (keys : List Key) (i : ℕ) (x : Key) (now : Time) → i < length keys → x ≡ get_or keys i x → test x ≡ false →
    StartedBy first mid (λ key. has_key (take i keys) key && test key) now → StartedBy first mid (λ key. has_key (take (i + 1) keys) key && test key) now
start_miss test first mid keys i x now lt is tests before other =
    before other
    ∙ misses (has_key (take i keys) other) (is_key x other) (test other) (Some (unwrap_or (started_at first other) now)) (started_at first other) (at_other test x other false tests)
    ∙ ap (λ b. if (b && test other) then Some (unwrap_or (started_at first other) now) else started_at first other) (next_is keys i x other lt is)

-- ---- first stop, then start

pub stop_then_start : (past : List Entry) (p : Page) (old mid new : Running) (over first : Key → Bool) → ((key : Key) → IsSome (started_at old key) → over key ≡ not (is_open past p key key.home && not (is_fresh p key.home))) →
    ((key : Key) → first key ≡ (is_open past p key key.home && is_asked_at p key key.home)) → StoppedBy old mid over → StartedBy mid new first p.now → AreRetimed past p old new
stop_then_start past p old mid new over first are_over are_first stopped started key =
    let waits : Bool = is_open past p key key.home in
    let fresh : Bool = is_fresh p key.home in
    started key
    ∙ ap (λ b. if b then Some (unwrap_or (started_at mid key) p.now) else started_at mid key) (are_first key)
    ∙ started_if (waits && is_asked_at p key key.home) p.now (started_at mid key) (if (waits && not fresh) then started_at old key else None)
    (stopped key ∙ stopped_at (over key) (waits && not fresh) (started_at old key) (are_over key))
    ∙ both_steps waits fresh (is_asked_at p key key.home) p.now (started_at old key)

-- ---- what is over

over_bools : (b h x u o t : Bool) → b ≡ true → (u && not o) ≡ not t → ((b && (t || not x)) || (b && not h)) ≡ not (((h && x) && u) && not o)
over_bools false h x u o t has same = absurd (cc has)
over_bools true false x u o true has same = refl
over_bools true false true u o false has same = refl
over_bools true false false u o false has same = refl
over_bools true true false u o true has same = refl
over_bools true true false u o false has same = refl
over_bools true true true u o true has same = ap not (sym same)
over_bools true true true u o false has same = ap not (sym same)

turns : (t : Turn) (o : Option (List Entry)) (e : Entry) → is_some o ≡ true → (is_some (turned t e o) && not (is_opening t)) ≡ not (is_turning t)
turns Opens o e up = refl
turns Ends o e up = refl
turns Stays None e up = absurd (cc up)
turns Stays (Some es) e up = refl

pub runs_by : (w u : Bool) (o : Option Time) → IsSome (if (w && u) then o else None) → (w ≡ true) × (u ≡ true)
runs_by true true o some = (refl, refl)
runs_by true false o some = absurd (cc some)
runs_by false u o some = absurd (cc some)

-- what is awaited is known
pub known_awaited : (o : Option Known) → is_awaited o ≡ true → IsSome o
known_awaited None is = absurd (cc is)
known_awaited (Some known) is = refl

awaited_if : (h : Bool) (o : Option Known) → is_awaited (if h then Some (unwrap_or o Known.Wanted) else None) ≡ (h && is_wanted (unwrap_or o Known.Wanted))
awaited_if true o = refl
awaited_if false o = refl

over_at : (past : List Entry) (ps : List Page) (p : Page) (marks : List Watched) (rows : Rows) (before reached : List Key) (turn : Option Authority) (key : Key) (home : Home) → p.watched ≡ watch marks reached → Knows rows marks →
    (IsSome (known_in (watched_now ps) key) → has_key before key ≡ true) → TurnsAt turn p → IsSome (timed_at past ps key home) →
    ((has_key before key && (is_turned turn home || not (is_wanted (fate_at home (known_of rows key))))) || (has_key before key && not (has_key reached key))) ≡ not (is_open past p key home && not (is_fresh p home))
over_at past ps p marks rows before reached turn key (Home.Nowhere fault) watched knows has turn_is runs = absurd (cc runs)
over_at past ps p marks rows before reached turn key (Home.At a) watched knows has turn_is runs =
    let (was, up) = runs_by (is_awaited (known_in (watched_now ps) key)) (is_up a past) (first_asked ps a key) runs in
    let x : Bool = is_wanted (unwrap_or (known_of rows key) Known.Wanted) in
    let awaited : is_awaited (known_in p.watched key) ≡ (has_key reached key && x) =
    ap (λ ws. is_awaited (known_in ws key)) watched ∙ ap is_awaited (known_watched marks reached key) ∙ awaited_if (has_key reached key) (known_in marks key)
    ∙ ap (λ o. has_key reached key && is_wanted (unwrap_or o Known.Wanted)) (sym (knows key)) in
    over_bools (has_key before key) (has_key reached key) x (is_up a (p.entry ∷ past)) (is_opening (turn_of a p.entry.what)) (is_turned turn (Home.At a)) (has (known_awaited (known_in (watched_now ps) key) was))
    (turns (turn_of a p.entry.what) (stream a past) p.entry up ∙ ap not (sym (turn_is a)))
    ∙ ap (λ w. not ((w && is_up a (p.entry ∷ past)) && not (is_opening (turn_of a p.entry.what)))) (sym awaited)

-- ---- what is asked for first

first_bools : (h y u a asks : Bool) → (h ≡ true → asks ≡ (u && a)) → (h && (y && asks)) ≡ (((h && y) && u) && a)
first_bools false y u a asks is = refl
first_bools true false u a asks is = refl
first_bools true true u a asks is = is refl

none_first : (h : Bool) → (h && (false && false)) ≡ false
none_first true = refl
none_first false = refl

wanted_if : (h : Bool) (o : Option Known) → (h && is_wanted (unwrap_or (if h then Some (unwrap_or o Known.Wanted) else None) Known.Wanted)) ≡ (h && is_wanted (unwrap_or o Known.Wanted))
wanted_if true o = refl
wanted_if false o = refl

and_assoc : (a b c : Bool) → (a && (b && c)) ≡ ((a && b) && c)
and_assoc true b c = refl
and_assoc false b c = refl

first_at : (past : List Entry) (p : Page) (marks : List Watched) (rows after : Rows) (reached : List Key) (sent : List Sent) (key : Key) (home : Home) → p.watched ≡ watch marks reached → Knows rows marks → IsWatching rows after reached →
    ((a : Authority) → home ≡ Home.At a → has_key reached key ≡ true → asks_at sent key (Home.At a) ≡ (is_up a (p.entry ∷ past) && is_asked_in a key p.entry)) →
    (has_key reached key && (is_wanted (fate_at home (known_of after key)) && asks_at sent key home)) ≡ (is_open past p key home && is_asked_at p key home)
first_at past p marks rows after reached sent key (Home.Nowhere fault) watched knows watching asks = none_first (has_key reached key)
first_at past p marks rows after reached sent key (Home.At a) watched knows watching asks =
    let h : Bool = has_key reached key in
    let x : Bool = is_wanted (unwrap_or (known_of rows key) Known.Wanted) in
    let awaited : is_awaited (known_in p.watched key) ≡ (h && x) =
    ap (λ ws. is_awaited (known_in ws key)) watched ∙ ap is_awaited (known_watched marks reached key) ∙ awaited_if h (known_in marks key)
    ∙ ap (λ o. h && is_wanted (unwrap_or o Known.Wanted)) (sym (knows key)) in
    and_assoc h (is_wanted (unwrap_or (known_of after key) Known.Wanted)) (asks_at sent key (Home.At a))
    ∙ ap (λ b. b && asks_at sent key (Home.At a)) (ap (λ o. h && is_wanted (unwrap_or o Known.Wanted)) (watching key) ∙ wanted_if h (known_of rows key))
    ∙ sym (and_assoc h x (asks_at sent key (Home.At a)))
    ∙ first_bools h x (is_up a (p.entry ∷ past)) (is_asked_in a key p.entry) (asks_at sent key (Home.At a)) (asks a refl)
    ∙ ap (λ w. (w && is_up a (p.entry ∷ past)) && is_asked_in a key p.entry) (sym awaited)

-- ---- the whole entry

both_stops : (a b : Bool) (o : Option Time) → (if b then None else (if a then None else o)) ≡ (if (a || b) then None else o)
both_stops true true o = refl
both_stops true false o = refl
both_stops false true o = refl
both_stops false false o = refl

-- what a driver's entry leaves running is the history's
pub entry_timed : (s : Setting) (c : Came) (past : List Entry) (ps : List Page) (p : Page) (now : Time) (old lost mid new : Running) (rows after : Rows) (before reached : List Key) (turn : Option Authority) (sent : List Sent) →
    p.watched ≡ watch (marked s c past ps now) reached → p.now ≡ now → Knows rows (marked s c past ps now) → IsWatching rows after reached →
    ((key : Key) → IsSome (known_in (watched_now ps) key) → has_key before key ≡ true) → TurnsAt turn p → AreAskedBy sent reached past p → AreTimed past ps old →
    StoppedBy old lost (lost_among before turn rows) → StoppedBy lost mid (unreached_among before reached) → StartedBy mid new (first_among reached sent after) now → AreTimed (p.entry ∷ past) (p ∷ ps) new
entry_timed s c past ps p now old lost mid new rows after before reached turn sent watched now_is knows watching has turn_is asks are losing stopping starting =
    are_timed past ps p old new (was_wanted s c past ps now reached p watched) are
    (stop_then_start past p old mid new (λ key. lost_among before turn rows key || unreached_among before reached key) (first_among reached sent after)
    (λ key runs. over_at past ps p (marked s c past ps now) rows before reached turn key key.home watched knows (has key) turn_is (subst (λ o. IsSome o) (are key) runs))
    (λ key. first_at past p (marked s c past ps now) rows after reached sent key key.home watched knows watching (λ a home. asks key a home))
    (λ key. stopping key ∙ ap (λ o. if unreached_among before reached key then None else o) (losing key) ∙ both_stops (lost_among before turn rows key) (unreached_among before reached key) (started_at old key))
    (subst (λ t. StartedBy mid new (first_among reached sent after) t) (sym now_is) starting))
