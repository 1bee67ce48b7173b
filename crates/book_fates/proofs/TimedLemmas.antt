-- Which keys have timers, and of which keys alone timers have to be looked at.
use Rattle.std.proofs.Common.{◌≡◌, ℕ, ◌+◌, ◌≤◌, ◌<◌, Bool, true, false, cond, ◌&&◌, ◌||◌, not, List, [], ◌∷◌, ◌++◌, length, take, get_or, Option, Some, None, refl, sym, ap, ◌∙◌, subst, option_map}
use Rattle.std.specs.Prelude.{filter, if◌then◌else◌, is_some, unwrap_or, IfSome, IsSome}
use Rattle.std.specs.Map.{keys_of}
use Rattle.std.proofs.lemmas.List.Folds.{list_any-append}
use Rattle.std.proofs.lemmas.Map.Views.{any-filter_same}
use Rattle.std.proofs.lemmas.Option.{IfSome_then}
use Rattle.xc_base.specs.declared.names.Authority.{Authority}
use Rattle.xc_base.specs.declared.names.Home.{Home}
use Rattle.xc_base.specs.declared.names.Key.{Key}
use Rattle.xc_base.specs.declared.names.Time.{Time}
use Rattle.xc_keys.specs.Keys.{is_key}
use Rattle.xc_keys.proofs.KeyLemmas.{same_key}
use Rattle.xds_cache.specs.declared.fate.Known.{Known}
use Rattle.xds_cache.specs.KeptFates.{Watched as Rows, known_of, fate_at, fate_of, watched}
use Rattle.watch_timers.specs.Timers.{Running, started_at, Starts, Stops}
use Rattle.config_assembly.specs.Reach.{is_wanted}
use Rattle.config_assembly.specs.Watching.{has_key, IsWatching}
use Rattle.config_assembly.proofs.WatchLemmas.{has_next}
use Rattle.call_journal.specs.declared.reply.Sent.{Sent}
use Rattle.call_journal.specs.declared.entry.Entry.{Entry}
use Rattle.xds_history.specs.Streams.{is_up}
use Rattle.xds_history.specs.declared.page.Page.{Page}
use Rattle.xds_history.specs.declared.responses.Told.{Told}
use Rattle.xds_history.specs.Page.{watched_now}
use Rattle.xds_history.specs.Fates.{first_asked, is_over}
use Rattle.book_fates.specs.declared.answered.Answered.{Answered}
use Rattle.book_fates.specs.declared.timed_fates.Fates.{Fates}
use Rattle.book_fates.specs.Delivered.{delivered_in, told_as}
use Rattle.book_fates.specs.FateSteps.{AreListed, Knows, Stepped, brings, out_among, told_step}
use Rattle.book_fates.specs.Timing.{AreTimed, AreTimedBut, Stopped, StartedBy, StoppedBy, asked_among, asks_at, expires_at, first_among, is_awaited, is_idle, is_turned, known_in, lost_among, timed_at, unreached_among}
use Rattle.book_fates.specs.FatesKept.{IsLeftBy, KnowsTimed, keys_in}
use Rattle.book_fates.proofs.EntryLemmas.{known_awaited, runs_by, start_hit, start_miss}
use Rattle.book_fates.proofs.KeptLemmas.{has_kept}
use Rattle.book_fates.proofs.PlaceLemmas.{key_sym}
use Rattle.book_fates.proofs.QuietLemmas.{kept_out, runs_wanted, same_stop}
use Rattle.book_fates.proofs.TimeLemmas.{wanted_before}

-- ---- loops

both_ends : (b h : Bool) (o : Option Time) → (if b then None else (if h then None else o)) ≡ (if (h || b) then None else o)
both_ends true true o = refl
both_ends true false o = refl
both_ends false true o = refl
both_ends false false o = refl

-- one key more, whose timer ends
pub stopped_next : (first mid new : Running) (keys : List Key) (i : ℕ) (x : Key) → i < length keys → x ≡ get_or keys i x → Stops mid new x → Stopped first mid (take i keys) → Stopped first new (take (i + 1) keys)
stopped_next first mid new keys i x lt is stops before key =
    stops key
    ∙ ap (λ o. if is_key x key then None else o) (before key)
    ∙ both_ends (is_key x key) (has_key (take i keys) key) (started_at first key)
    ∙ ap (λ b. if (has_key (take i keys) key || b) then None else started_at first key) (key_sym x key)
    ∙ ap (λ b. if b then None else started_at first key) (sym (has_next keys i x key lt is))

-- one key more, which starts where it passes a test
pub start_next : (test : Key → Bool) (first mid new : Running) (keys : List Key) (i : ℕ) (x : Key) (now : Time) → i < length keys → x ≡ get_or keys i x → (test x ≡ true → Starts mid new x now) → (test x ≡ false → new ≡ mid) →
    StartedBy first mid (λ key. has_key (take i keys) key && test key) now → StartedBy first new (λ key. has_key (take (i + 1) keys) key && test key) now
start_next test first mid new keys i x now lt is hit miss before = by_test (test x) refl
  where
    by_test : (b : Bool) → test x ≡ b → StartedBy first new (λ key. has_key (take (i + 1) keys) key && test key) now
    by_test true tests = start_hit test first mid new keys i x now lt is tests (hit tests) before
    by_test false tests = subst (λ t. StartedBy first t (λ key. has_key (take (i + 1) keys) key && test key) now) (sym (miss tests)) (start_miss test first mid keys i x now lt is tests before)

-- ---- keys that pass a test

-- they are those of a list that do
pub has_filtered : (p : Key → Bool) (keys : List Key) (key : Key) → has_key (filter p keys) key ≡ (p key && has_key keys key)
has_filtered p keys key = any-filter_same (is_key key) p (p key) (λ k same. ap p (sym (same_key key k same))) keys

has_of : (p : Key → Bool) (keys found : List Key) (key : Key) → found ≡ filter p keys → has_key found key ≡ (p key && has_key keys key)
has_of p keys found key is = ap (λ ks. has_key ks key) is ∙ has_filtered p keys key

more_runs : (b : Bool) (at : Time) (o : Option Time) → (b || is_some o) ≡ is_some (cond b (Some at) o)
more_runs true at o = refl
more_runs false at o = refl

-- the keys whose timers run
has_running : (timers : Running) (key : Key) → has_key (keys_of timers) key ≡ is_some (started_at timers key)
has_running [] key = refl
has_running ((k, at) ∷ timers) key = ap (λ b. is_key key k || b) (has_running timers key) ∙ more_runs (is_key key k) at (started_at timers key)

-- ---- the timers that start

first_bools : (w h a : Bool) → ((w && h) && a) ≡ (h && (w && a))
first_bools true true a = refl
first_bools true false a = refl
first_bools false true a = refl
first_bools false false a = refl

-- of those that are wanted the ones that are asked for start
pub first_starts : (old new : Running) (keys wanted : List Key) (sent : List Sent) (rows : Rows) (now : Time) → wanted ≡ filter (λ key. is_wanted (fate_of rows key)) keys → StartedBy old new (asked_among wanted sent) now → StartedBy old new (first_among keys sent rows) now
first_starts old new keys wanted sent rows now are starts key =
    starts key
    ∙ ap (λ b. if b then Some (unwrap_or (started_at old key) now) else started_at old key)
    (ap (λ b. b && asks_at sent key key.home) (has_of (λ key. is_wanted (fate_of rows key)) keys wanted key are)
    ∙ first_bools (is_wanted (fate_of rows key)) (has_key keys key) (asks_at sent key key.home))

both_true : (a b : Bool) → (a && b) ≡ true → (a ≡ true) × (b ≡ true)
both_true true true is = (refl, refl)
both_true true false is = absurd (cc is)
both_true false b is = absurd (cc is)

idle_or_runs : (w h : Bool) (o : Option Time) → w ≡ true → h ≡ true → (not (is_some o) && (w && h)) ≡ false → IsSome o
idle_or_runs true true (Some at) wanted has free = refl
idle_or_runs true true None wanted has free = absurd (cc free)
idle_or_runs true false o wanted has free = absurd (cc has)
idle_or_runs false h o wanted has free = absurd (cc wanted)

-- those of the wanted ones whose timers don't run then are all that have none
pub idle_left : (timers : Running) (keys wanted idle : List Key) (rows : Rows) → wanted ≡ filter (λ key. is_wanted (fate_of rows key)) keys → idle ≡ filter (is_idle timers) wanted → AreTimedBut idle keys rows timers
idle_left timers keys wanted idle rows wants idles = record {
  among = λ key has. (both_true (is_wanted (fate_of rows key)) (has_key keys key) ((both_true (is_idle timers key) (is_wanted (fate_of rows key) && has_key keys key) (sym (is key) ∙ has)).1)).1;
  timed = λ key has free want. idle_or_runs (is_wanted (fate_of rows key)) (has_key keys key) (started_at timers key) want has (sym (is key) ∙ free);
}
  where
    is : (key : Key) → has_key idle key ≡ (is_idle timers key && (is_wanted (fate_of rows key) && has_key keys key))
    is key = has_of (is_idle timers) wanted idle key idles ∙ ap (λ b. is_idle timers key && b) (has_of (λ key. is_wanted (fate_of rows key)) keys wanted key wants)

first_of_left : (u h w a : Bool) (o : Option Time) (now : Time) → (u ≡ true → h ≡ true) → (h ≡ true → u ≡ false → w ≡ true → IsSome o) →
    (if u && (w && a) then Some (unwrap_or o now) else o) ≡ (if h && (w && a) then Some (unwrap_or o now) else o)
first_of_left true true w a o now among timed = refl
first_of_left true false w a o now among timed = absurd (cc (among refl))
first_of_left false false w a o now among timed = refl
first_of_left false true false a o now among timed = refl
first_of_left false true true false o now among timed = refl
first_of_left false true true true (Some at) now among timed = refl
first_of_left false true true true None now among timed = absurd (cc (timed refl refl refl))

-- where all but some have their timers, those of them that are asked for first are all that start
pub left_starts : (old new : Running) (left keys : List Key) (sent : List Sent) (rows : Rows) (now : Time) → AreTimedBut left keys rows old → StartedBy old new (first_among left sent rows) now → StartedBy old new (first_among keys sent rows) now
left_starts old new left keys sent rows now but starts key =
    starts key ∙ first_of_left (has_key left key) (has_key keys key) (is_wanted (fate_of rows key)) (asks_at sent key key.home) (started_at old key) now (but.among key) (but.timed key)

runs_on_if : (b : Bool) (x : Time) (o : Option Time) → IsSome o → IsSome (if b then Some x else o)
runs_on_if true x o runs = refl
runs_on_if false x o runs = runs

-- and those of them that have none then are all that have none
pub left_timed : (old new : Running) (idle left keys : List Key) (sent : List Sent) (rows : Rows) (now : Time) → AreTimedBut left keys rows old → StartedBy old new (first_among left sent rows) now → AreTimedBut idle left rows new → AreTimedBut idle keys rows new
left_timed old new idle left keys sent rows now but starts now_but = record {
  among = λ key has. but.among key (now_but.among key has);
  timed = λ key has free wanted. by_left key (has_key left key) refl has free wanted;
}
  where
    by_left : (key : Key) (b : Bool) → has_key left key ≡ b → has_key keys key ≡ true → has_key idle key ≡ false → is_wanted (fate_of rows key) ≡ true → IsSome (started_at new key)
    by_left key true is has free wanted = now_but.timed key is free wanted
    by_left key false is has free wanted =
        subst (λ o. IsSome o) (sym (starts key)) (runs_on_if (first_among left sent rows key) (unwrap_or (started_at old key) now) (started_at old key) (but.timed key has is wanted))

-- what is known of keys, where a test holds
pub known_if : (test : Bool) (o left : Option (List Key)) (P : List Key → Type 0) → left ≡ (if test then o else None) → (test ≡ true → IfSome o P) → IfSome left P
known_if test o left P is knows = subst (λ ks. IfSome ks P) (sym is) (at test knows)
  where
    at : (b : Bool) → (b ≡ true → IfSome o P) → IfSome (if b then o else None) P
    at true knows = knows refl
    at false knows = tt

-- the same, by what is known of the keys
pub known_starts : (old new : Running) (o : Option (List Key)) (keys : List Key) (sent : List Sent) (rows : Rows) (now : Time) → IfSome o (λ left. AreTimedBut left keys rows old) → StartedBy old new (first_among (unwrap_or o keys) sent rows) now → StartedBy old new (first_among keys sent rows) now
known_starts old new None keys sent rows now knows starts = starts
known_starts old new (Some left) keys sent rows now knows starts = left_starts old new left keys sent rows now knows starts

pub known_timed : (old new : Running) (idle : List Key) (o : Option (List Key)) (keys : List Key) (sent : List Sent) (rows : Rows) (now : Time) → IfSome o (λ left. AreTimedBut left keys rows old) → StartedBy old new (first_among (unwrap_or o keys) sent rows) now →
    AreTimedBut idle (unwrap_or o keys) rows new → AreTimedBut idle keys rows new
known_timed old new idle None keys sent rows now knows starts but = but
known_timed old new idle (Some left) keys sent rows now knows starts but = left_timed old new idle left keys sent rows now knows starts but

pub known_cost : (test : Bool) (o left : Option (List Key)) (keys : List Key) (before after : ℕ) → left ≡ (if test then o else None) → after ≤ before + length (unwrap_or left keys) → test ≡ true → IfSome o (λ ks. after ≤ before + length ks)
known_cost test o left keys before after is cost same = at o (subst (λ ks. after ≤ before + length (unwrap_or ks keys)) (is ∙ ap (λ b. if b then o else None) same) cost)
  where
    at : (o : Option (List Key)) → after ≤ before + length (unwrap_or o keys) → IfSome o (λ ks. after ≤ before + length ks)
    at None cost = tt
    at (Some ks) cost = cost

-- ---- where the same keys stay reached

not_unreached : (b h : Bool) (o : Option Time) → h ≡ true → IsSome o → IsSome (if b && not h then None else o)
not_unreached true true o is runs = runs
not_unreached false true o is runs = runs
not_unreached b false o is runs = absurd (cc is)

wanted_then : (h : Bool) (home : Home) (o : Option Known) → h ≡ true → is_wanted (fate_at home (if h then watched o else None)) ≡ true → is_wanted (fate_at home o) ≡ true
wanted_then true (Home.At a) o has is = is
wanted_then true (Home.Nowhere fault) o has is = is
wanted_then false home o has is = absurd (cc has)

-- they have their timers still, once the cache watches them
still_but : (marks left : Fates) (untimed reached : List Key) → IsLeftBy marks left reached → IsWatching marks.cache left.cache reached → reached ≡ marks.reached → AreTimedBut untimed marks.reached marks.cache marks.timers → AreTimedBut untimed reached left.cache left.timers
still_but marks left untimed reached by watching same but = record {
  among = λ key has. subst (λ keys. has_key keys key ≡ true) (sym same) (but.among key has);
  timed = λ key has free wanted.
      let before : is_wanted (fate_of marks.cache key) ≡ true =
      wanted_then (has_key reached key) key.home (known_of marks.cache key) has (subst (λ o. is_wanted (fate_at key.home o) ≡ true) (watching key) wanted) in
      subst (λ o. IsSome o) (sym (by.stopped key))
      (not_unreached (has_key marks.reached key) (has_key reached key) (started_at marks.timers key) has (but.timed key (subst (λ keys. has_key keys key ≡ true) same has) free before));
}

pub still_timed : (marks left : Fates) (reached : List Key) → IsLeftBy marks left reached → IsWatching marks.cache left.cache reached → reached ≡ marks.reached → KnowsTimed marks → IfSome left.untimed (λ keys. AreTimedBut keys reached left.cache left.timers)
still_timed marks left reached by watching same knows =
    IfSome_then left.untimed (subst (λ o. IfSome o (λ keys. AreTimedBut keys marks.reached marks.cache marks.timers)) (sym by.untimed_are) knows) (λ keys but. still_but marks left keys reached by watching same but)

-- without a request, no key is asked for
asks_none : (key : Key) (home : Home) → asks_at [] key home ≡ false
asks_none key (Home.At a) = refl
asks_none key (Home.Nowhere fault) = refl

-- where nothing is sent, none starts
pub unsent_starts : (timers : Running) (reached : List Key) (sent : List Sent) (rows : Rows) (now : Time) → sent ≡ [] → StartedBy timers timers (first_among reached sent rows) now
unsent_starts timers reached sent rows now none key =
    stands (has_key reached key) (is_wanted (fate_of rows key)) (asks_at sent key key.home) (started_at timers key) (ap (λ xs. asks_at xs key key.home) none ∙ asks_none key key.home)
  where
    stands : (h w a : Bool) (o : Option Time) → a ≡ false → o ≡ (if h && (w && a) then Some (unwrap_or o now) else o)
    stands false w a o is = refl
    stands true false a o is = refl
    stands true true false o is = refl
    stands true true true o is = absurd (cc is)

-- where the same keys are reached, none is left
pub none_left : (timers : Running) (keys reached : List Key) → reached ≡ keys → StoppedBy timers timers (unreached_among keys reached)
none_left timers keys reached same key = stands (has_key keys key) (has_key reached key) (started_at timers key) (ap (λ ks. has_key ks key) same)
  where
    stands : (b h : Bool) (o : Option Time) → h ≡ b → o ≡ (if b && not h then None else o)
    stands true true o is = refl
    stands true false o is = absurd (cc is)
    stands false h o is = refl

-- ---- an answered response

abbrev told_of : Answered → Told
told_of a = told_as (delivered_in a)

wanted_back : (f : Known → Known) (home : Home) (o : Option Known) → ((known : Known) → is_wanted (f known) ≡ true → is_wanted known ≡ true) → is_wanted (fate_at home (option_map f o)) ≡ true → is_wanted (fate_at home o) ≡ true
wanted_back f (Home.At a) None back is = is
wanted_back f (Home.At a) (Some known) back is = back known is
wanted_back f (Home.Nowhere fault) o back is = is

-- a key that is wanted after it was wanted before it
was_wanted_told : (a : Answered) (old rows : Rows) (key : Key) → Stepped old rows (told_step (told_of a)) → is_wanted (fate_of rows key) ≡ true → is_wanted (fate_of old key) ≡ true
was_wanted_told a old rows key stepped wanted =
    wanted_back (told_step (told_of a) key) key.home (known_of old key) (λ known. wanted_before (brings (told_of a) key known) known)
    (subst (λ o. is_wanted (fate_at key.home o) ≡ true) (stepped key) wanted)

lost_here : (t r w : Bool) → r ≡ true → (t && (false || not w)) ≡ true → (r && (false || not w)) ≡ true
lost_here true true w has is = is
lost_here false true w has is = absurd (cc is)
lost_here t false w has is = absurd (cc has)

not_lost_here : (t r w : Bool) → (t ≡ false → w ≡ true) → (t && (false || not w)) ≡ false → (r && (false || not w)) ≡ false
not_lost_here true true w is none = none
not_lost_here true false w is none = refl
not_lost_here false r w is none = out r w (is refl)
  where
    out : (r w : Bool) → w ≡ true → (r && (false || not w)) ≡ false
    out true true is = refl
    out false true is = refl
    out r false is = absurd (cc is)

runs_watched : (past : List Entry) (ps : List Page) (key : Key) (home : Home) → IsSome (timed_at past ps key home) → IsSome (known_in (watched_now ps) key)
runs_watched past ps key (Home.Nowhere fault) runs = absurd (cc runs)
runs_watched past ps key (Home.At a) runs =
    let (was, up) = runs_by (is_awaited (known_in (watched_now ps) key)) (is_up a past) (first_asked ps a key) runs in
    known_awaited (known_in (watched_now ps) key) was

-- the timers that end by it are those of keys of which something else is known
pub changed_lost : (past : List Entry) (ps : List Page) (timers after : Running) (changed before : List Key) (old rows : Rows) → AreTimed past ps timers → Knows old (watched_now ps) → before ≡ keys_in (watched_now ps) →
    AreListed old rows [] changed → StoppedBy timers after (lost_among changed None rows) → StoppedBy timers after (lost_among before None rows)
changed_lost past ps timers after changed before old rows are knows keys_are listed stops key =
    let w : Bool = is_wanted (fate_of rows key) in
    stops key
    ∙ same_stop (has_key changed key && (false || not w)) (has_key before key && (false || not w)) (started_at timers key)
    (λ runs is. lost_here (has_key changed key) (has_key before key) w
    (has_kept (watched_now ps) before key keys_are (runs_watched past ps key key.home (subst (λ o. IsSome o) (are key) runs))) is)
    (λ runs none. not_lost_here (has_key changed key) (has_key before key) w
    (λ free. ap (λ o. is_wanted (fate_at key.home o)) ((listed key free).1)
    ∙ runs_wanted past ps old key key.home knows (subst (λ o. IsSome o) (are key) runs)) none)

not_stopped : (t w : Bool) (o : Option Time) → w ≡ true → IsSome o → IsSome (if t && (false || not w) then None else o)
not_stopped true true o is runs = runs
not_stopped false true o is runs = runs
not_stopped t false o is runs = absurd (cc is)

-- what is wanted still has its timer
pub told_timed : (a : Answered) (timers after : Running) (touched untimed keys : List Key) (old rows : Rows) → Stepped old rows (told_step (told_of a)) → StoppedBy timers after (lost_among touched None rows) → AreTimedBut untimed keys old timers → AreTimedBut untimed keys rows after
told_timed a timers after touched untimed keys old rows stepped stops but = record {
  among = but.among;
  timed = λ key has free wanted.
      subst (λ o. IsSome o) (sym (stops key))
      (not_stopped (has_key touched key) (is_wanted (fate_of rows key)) (started_at timers key) wanted (but.timed key has free (was_wanted_told a old rows key stepped wanted)));
}

-- ---- a moment

-- what expires is known
expires_known : (past : List Entry) (ps : List Page) (now : Time) (key : Key) (home : Home) → expires_at past ps now key home ≡ true → IsSome (known_in (watched_now ps) key)
expires_known past ps now key (Home.Nowhere fault) is = absurd (cc is)
expires_known past ps now key (Home.At a) is =
    known_awaited (known_in (watched_now ps) key)
    ((both_true (is_awaited (known_in (watched_now ps) key)) (is_up a past) ((both_true (is_awaited (known_in (watched_now ps) key) && is_up a past) (is_over now (first_asked ps a key)) is).0)).0)

out_unwanted : (h : Bool) (home : Home) (o : Option Known) → h ≡ true → IsSome o → is_wanted (fate_at home (option_map (λ known. if h then Known.Absent else known) o)) ≡ false
out_unwanted true (Home.At a) (Some known) has some = refl
out_unwanted true (Home.At a) None has some = absurd (cc some)
out_unwanted true (Home.Nowhere fault) o has some = refl
out_unwanted false home o has some = absurd (cc has)

-- what is wanted still has its timer
pub expired_timed : (past : List Entry) (ps : List Page) (now : Time) (timers after : Running) (due untimed keys : List Key) (old rows : Rows) → Knows old (watched_now ps) → ((key : Key) → has_key due key ≡ expires_at past ps now key key.home) →
    Stepped old rows (out_among due) → Stopped timers after due → AreTimedBut untimed keys old timers → AreTimedBut untimed keys rows after
expired_timed past ps now timers after due untimed keys old rows knows expires stepped stops but = record {
  among = but.among;
  timed = λ key has free wanted. by_due key (has_key due key) refl has free wanted;
}
  where
    by_due : (key : Key) (b : Bool) → has_key due key ≡ b → has_key keys key ≡ true → has_key untimed key ≡ false → is_wanted (fate_of rows key) ≡ true → IsSome (started_at after key)
    by_due key true is has free wanted =
        let some : IsSome (known_of old key) = subst (λ o. IsSome o) (sym (knows key)) (expires_known past ps now key key.home (sym (expires key) ∙ is)) in
        let out : is_wanted (fate_of rows key) ≡ false = ap (λ o. is_wanted (fate_at key.home o)) (stepped key) ∙ out_unwanted (has_key due key) key.home (known_of old key) is some in
        absurd (cc (wanted, out))
    by_due key false is has free wanted =
        subst (λ o. IsSome o) (sym (stops key ∙ ap (λ b. if b then None else started_at timers key) is))
        (but.timed key has free (subst (λ o. is_wanted (fate_at key.home o) ≡ true) (stepped key ∙ kept_out (has_key due key) (known_of old key) is) wanted))

-- ---- a stream that turns

pub no_turn : (o : Option Authority) → is_some o ≡ false → None ≡ o
no_turn None is = refl
no_turn (Some a) is = absurd (cc is)

turned_lost : (t r h w : Bool) → h ≡ true → (t && r) ≡ true → (h && (t || not w)) ≡ true
turned_lost true r true w has is = refl
turned_lost true r false w has is = absurd (cc has)
turned_lost false r h w has is = absurd (cc is)

not_turned_lost : (t r h w : Bool) → r ≡ true → w ≡ true → (t && r) ≡ false → (h && (t || not w)) ≡ false
not_turned_lost false true true true runs wanted is = refl
not_turned_lost false true false true runs wanted is = refl
not_turned_lost true true h w runs wanted is = absurd (cc is)
not_turned_lost t false h w runs wanted is = absurd (cc runs)
not_turned_lost t r h false runs wanted is = absurd (cc wanted)

some_is : (o : Option Time) → IsSome o → is_some o ≡ true
some_is None some = absurd (cc some)
some_is (Some at) some = refl

is_some_then : (o : Option Time) → is_some o ≡ true → IsSome o
is_some_then None is = absurd (cc is)
is_some_then (Some at) is = refl

-- the timers that run at a stream that turns are those that end by it
pub turned_stops : (past : List Entry) (ps : List Page) (turn : Option Authority) (timers after : Running) (turned before : List Key) (rows : Rows) → AreTimed past ps timers → Knows rows (watched_now ps) → before ≡ keys_in (watched_now ps) →
    turned ≡ filter (λ key. is_turned turn key.home) (keys_of timers) → Stopped timers after turned → StoppedBy timers after (lost_among before turn rows)
turned_stops past ps turn timers after turned before rows are knows keys_are turns stops key =
    let t : Bool = is_turned turn key.home in
    let w : Bool = is_wanted (fate_of rows key) in
    let has : has_key turned key ≡ (t && is_some (started_at timers key)) = has_of (λ key. is_turned turn key.home) (keys_of timers) turned key turns ∙ ap (λ b. t && b) (has_running timers key) in
    stops key
    ∙ same_stop (has_key turned key) (lost_among before turn rows key) (started_at timers key)
    (λ runs is. turned_lost t (is_some (started_at timers key)) (has_key before key) w
    (has_kept (watched_now ps) before key keys_are (runs_watched past ps key key.home (subst (λ o. IsSome o) (are key) runs))) (sym has ∙ is))
    (λ runs none. not_turned_lost t (is_some (started_at timers key)) (has_key before key) w (some_is (started_at timers key) runs)
    (runs_wanted past ps rows key key.home knows (subst (λ o. IsSome o) (are key) runs)) (sym has ∙ none))

either_has : (keys more : List Key) (key : Key) → has_key (keys ++ more) key ≡ (has_key keys key || has_key more key)
either_has keys more key = list_any-append (is_key key) keys more

in_either : (goal : Type 0) (a b : Bool) → (a || b) ≡ true → (a ≡ true → goal) → (b ≡ true → goal) → goal
in_either goal true b is one other = one refl
in_either goal false b is one other = other is

in_none : (a b : Bool) → (a || b) ≡ false → (a ≡ false) × (b ≡ false)
in_none true b is = absurd (cc is)
in_none false b is = (refl, is)

turned_but : (past : List Entry) (ps : List Page) (turn : Option Authority) (timers after : Running) (turned untimed keys : List Key) (rows : Rows) → AreTimed past ps timers → keys ≡ keys_in (watched_now ps) →
    turned ≡ filter (λ key. is_turned turn key.home) (keys_of timers) → Stopped timers after turned → AreTimedBut untimed keys rows timers → AreTimedBut (untimed ++ turned) keys rows after
turned_but past ps turn timers after turned untimed keys rows are keys_are turns stops but = record {
  among = λ key has.
      in_either (has_key keys key ≡ true) (has_key untimed key) (has_key turned key) (sym (either_has untimed turned key) ∙ has) (but.among key)
      (λ is. has_kept (watched_now ps) keys key keys_are (runs_watched past ps key key.home (subst (λ o. IsSome o) (are key) (is_some_then (started_at timers key) (runs key is)))));
  timed = λ key has free wanted.
      let (out, stays) = in_none (has_key untimed key) (has_key turned key) (sym (either_has untimed turned key) ∙ free) in
      subst (λ o. IsSome o) (sym (stops key ∙ ap (λ b. if b then None else started_at timers key) stays)) (but.timed key has out wanted);
}
  where
    runs : (key : Key) → has_key turned key ≡ true → is_some (started_at timers key) ≡ true
    runs key is =
        (both_true (is_turned turn key.home) (is_some (started_at timers key))
        (sym (has_of (λ key. is_turned turn key.home) (keys_of timers) turned key turns ∙ ap (λ b. is_turned turn key.home && b) (has_running timers key)) ∙ is)).1

-- all but those whose timers end by it, and those that had none, have their timers still
pub turned_timed : (past : List Entry) (ps : List Page) (turn : Option Authority) (timers after : Running) (turned keys : List Key) (before now : Option (List Key)) (rows : Rows) → AreTimed past ps timers → keys ≡ keys_in (watched_now ps) →
    turned ≡ filter (λ key. is_turned turn key.home) (keys_of timers) → Stopped timers after turned → now ≡ option_map (λ ks. ks ++ turned) before → IfSome before (λ ks. AreTimedBut ks keys rows timers) → IfSome now (λ ks. AreTimedBut ks keys rows after)
turned_timed past ps turn timers after turned keys before now rows are keys_are turns stops is knows = subst (λ o. IfSome o (λ ks. AreTimedBut ks keys rows after)) (sym is) (at before knows)
  where
    at : (o : Option (List Key)) → IfSome o (λ ks. AreTimedBut ks keys rows timers) → IfSome (option_map (λ ks. ks ++ turned) o) (λ ks. AreTimedBut ks keys rows after)
    at None knows = tt
    at (Some ks) knows = turned_but past ps turn timers after turned ks keys rows are keys_are turns stops knows
