-- What is due has expired.
use Rattle.std.proofs.Common.{◌≡◌, ℕ, ◌+◌, ◌-◌, ◌≤◌, Bool, true, false, ◌&&◌, ◌||◌, List, [], ◌∷◌, Option, Some, None, refl, sym, ap, ◌∙◌, subst, option_map, arith, inl, inr}
use Rattle.std.specs.Prelude.{if◌then◌else◌, nat_le, Contains}
use Rattle.std.specs.Option.{option_or, option_map_or, option_and_then}
use Rattle.std.proofs.lemmas.Bool.{leb-true, le-leb}
use Rattle.xc_base.specs.declared.names.Authority.{Authority}
use Rattle.xc_base.specs.declared.names.Home.{Home}
use Rattle.xc_base.specs.declared.names.Key.{Key}
use Rattle.xc_base.specs.declared.names.Time.{Time}
use Rattle.xc_keys.specs.Keys.{is_key}
use Rattle.xc_keys.proofs.KeyLemmas.{same_key, key_itself}
use Rattle.xc_keys.proofs.MemberLemmas.{no_member, here, there, at_first, mapped, from_mapped}
use Rattle.xds_cache.specs.declared.fate.Known.{Known}
use Rattle.xds_cache.specs.KeptFates.{Watched as Rows, known_of}
use Rattle.watch_timers.specs.declared.timers.Started.{Started}
use Rattle.watch_timers.specs.Timers.{Running, started_at, has_run, runs_on, TakesDue}
use Rattle.config_assembly.specs.Watching.{has_key}
use Rattle.call_journal.specs.declared.event.DriverEvent.{DriverEvent}
use Rattle.call_journal.specs.declared.entry.Entry.{Entry}
use Rattle.xds_history.specs.Setting.{Setting}
use Rattle.xds_history.specs.Responses.{Came, answered, told_in, answered_kind}
use Rattle.xds_history.specs.Streams.{is_up}
use Rattle.xds_history.specs.declared.responses.Told.{Told}
use Rattle.xds_history.specs.declared.page.Mark.{Mark}
use Rattle.xds_history.specs.declared.page.Page.{Page}
use Rattle.xds_history.specs.declared.page.Watched.{Watched}
use Rattle.xds_history.specs.Page.{find_watched, watched_now}
use Rattle.xds_history.specs.Fates.{judged, first_asked, is_over, marked, is_expired}
use Rattle.book_fates.specs.FateSteps.{Knows, Stepped, after_marks, brings, brings_timed, is_out, step, out_among}
use Rattle.book_fates.specs.Timing.{known_in, is_awaited, timed_at, AreTimed, expires_at, Stopped}
use Rattle.book_fates.proofs.StepLemmas.{knows_marked}

by_two : (a b : Bool) → (a ≡ true → b ≡ true) → (b ≡ true → a ≡ true) → a ≡ b
by_two true b there_ back = sym (there_ refl)
by_two false true there_ back = back refl
by_two false false there_ back = refl

-- ---- keys in lists

in_list_at : (b : Bool) (key k : Key) (keys : List Key) → is_key key k ≡ b → (has_key keys key ≡ true → Contains keys key) → (b || has_key keys key) ≡ true → Contains (k ∷ keys) key
in_list_at true key k keys is more has = subst (λ x. Contains (k ∷ keys) x) (sym (same_key key k is)) (here k keys)
in_list_at false key k keys is more has = there k keys key (more has)

pub in_list : (keys : List Key) (key : Key) → has_key keys key ≡ true → Contains keys key
in_list [] key has = absurd (cc has)
in_list (k ∷ keys) key has = in_list_at (is_key key k) key k keys refl (in_list keys key) has

or_true : (b more : Bool) → more ≡ true → (b || more) ≡ true
or_true true more is = refl
or_true false more is = is

pub listed : (keys : List Key) (key : Key) → Contains keys key → has_key keys key ≡ true
listed [] key has = absurd (no_member key has)
listed (k ∷ keys) key has =
    elim (at_first k key keys has) [
      | inl is ↦ subst (λ x. (is_key key x || has_key keys key) ≡ true) (sym is) (subst (λ b. (b || has_key keys key) ≡ true) (sym (key_itself key)) refl)
      | inr later ↦ or_true (is_key key k) (has_key keys key) (listed keys key later)
    ]

-- ---- what is due

abbrev pub due_at : Time → Option Time → Bool
due_at now started = option_map_or (has_run now) started false

found_due : (old new : Running) (now : Time) (keys : List Key) (key : Key) (o : Option Time) → TakesDue old now keys new → started_at old key ≡ o → due_at now o ≡ true → Contains keys key
found_due old new now keys key None takes is due = absurd (cc due)
found_due old new now keys key (Some at) takes is due =
    let started : Started = record { at = at; key = key } in
    subst (λ ks. Contains ks key) (sym takes.keys_are) (mapped (λ s. s.key) takes.starts started ((takes.exact key at).1 (is, due)))

was_due : (old new : Running) (now : Time) (keys : List Key) (key : Key) → TakesDue old now keys new → Contains keys key → due_at now (started_at old key) ≡ true
was_due old new now keys key takes has =
    let (started, in_starts, same) = from_mapped (λ s. s.key) takes.starts key (subst (λ ks. Contains ks key) takes.keys_are has) in
    let (at, run) = (takes.exact started.key started.at).0 in_starts in
    subst (λ o. due_at now o ≡ true) (sym (subst (λ k. started_at old k ≡ Some started.at) same at)) run

pub due_keys : (old new : Running) (now : Time) (keys : List Key) (key : Key) → TakesDue old now keys new → has_key keys key ≡ due_at now (started_at old key)
due_keys old new now keys key takes =
    by_two (has_key keys key) (due_at now (started_at old key))
    (λ has. was_due old new now keys key takes (in_list keys key has))
    (λ due. listed keys key (found_due old new now keys key (started_at old key) takes refl due))

run_within : (most first now : ℕ) → nat_le (first + most) now ≡ true → nat_le most (now - first) ≡ true
run_within most first now is = let le : first + most ≤ now = leb-true (first + most) now is in le-leb most (now - first) (omega (arith, le))

within_run : (most first now : ℕ) (some : 0 + 1 ≤ most) → nat_le most (now - first) ≡ true → nat_le (first + most) now ≡ true
within_run most first now some is = let le : most ≤ now - first = leb-true most (now - first) is in le-leb (first + most) now (omega (arith, le, some))

pub over_alike : (most first now : ℕ) → 0 + 1 ≤ most → nat_le (first + most) now ≡ nat_le most (now - first)
over_alike most first now some = by_two (nat_le (first + most) now) (nat_le most (now - first)) (run_within most first now) (within_run most first now some)

due_over : (now : Time) (o : Option Time) → due_at now o ≡ is_over now o
due_over now None = refl
due_over now (Some first) = over_alike 15000 first.0 now.0 (omega (arith))

due_if : (b : Bool) (now : Time) (o : Option Time) → due_at now (if b then o else None) ≡ (b && is_over now o)
due_if true now o = due_over now o
due_if false now o = refl

timed_due : (past : List Entry) (ps : List Page) (now : Time) (key : Key) (home : Home) → due_at now (timed_at past ps key home) ≡ expires_at past ps now key home
timed_due past ps now key (Home.At a) = due_if (is_awaited (known_in (watched_now ps) key) && is_up a past) now (first_asked ps a key)
timed_due past ps now key (Home.Nowhere fault) = refl

-- the keys that are due are those that expire
pub due_expires : (past : List Entry) (ps : List Page) (timers after : Running) (now : Time) (keys : List Key) → AreTimed past ps timers → TakesDue timers now keys after → (key : Key) → has_key keys key ≡ expires_at past ps now key key.home
due_expires past ps timers after now keys are takes key =
    due_keys timers after now keys key takes ∙ ap (due_at now) (are key) ∙ timed_due past ps now key key.home

-- a watched key expires by the history's word
watched_expires : (past : List Entry) (ps : List Page) (now : Time) (a : Authority) (w : Watched) → find_watched w.key (watched_now ps) ≡ Some w → expires_at past ps now w.key (Home.At a) ≡ is_expired past ps now a w
watched_expires past ps now a w found = ap (λ o. (is_awaited (option_map (λ w. judged w.marks) o) && is_up a past) && is_over now (first_asked ps a w.key)) found

pub due_expired : (past : List Entry) (ps : List Page) (timers after : Running) (now : Time) (keys : List Key) (a : Authority) (w : Watched) → AreTimed past ps timers → TakesDue timers now keys after →
    find_watched w.key (watched_now ps) ≡ Some w → w.key.home ≡ Home.At a → has_key keys w.key ≡ is_expired past ps now a w
due_expired past ps timers after now keys a w are takes found home =
    due_expires past ps timers after now keys are takes w.key ∙ ap (expires_at past ps now w.key) home ∙ watched_expires past ps now a w found

-- ---- what runs on

stops_at : (now : Time) (o : Option Time) → runs_on now o ≡ (if due_at now o then None else o)
stops_at now None = refl
stops_at now (Some at) = refl

pub due_stops : (old new : Running) (now : Time) (keys : List Key) → TakesDue old now keys new → Stopped old new keys
due_stops old new now keys takes key = takes.others key ∙ stops_at now (started_at old key) ∙ ap (λ b. if b then None else started_at old key) (sym (due_keys old new now keys key takes))

-- ---- a moment

abbrev brought : Option Told → Key → Known → Option Mark
brought o key known = option_and_then (λ t. brings t key known) o

out_at : (past : List Entry) (ps : List Page) (now : Time) (key : Key) (known : Known) (time : Time) (home : Home) → is_awaited (Some known) ≡ is_awaited (known_in (watched_now ps) key) →
    (if expires_at past ps now key home then Known.Absent else known) ≡ after_marks (brings_timed past ps now key known (DriverEvent.Moment time) home) known
out_at past ps now key known time (Home.At a) same =
    ap (λ b. if ((b && is_up a past) && is_over now (first_asked ps a key)) then Known.Absent else known) (sym same) ∙ marked_if (is_out past ps now a key known)
  where
    marked_if : (b : Bool) → (if b then Known.Absent else known) ≡ after_marks (if b then Some Mark.Gone else None) known
    marked_if true = refl
    marked_if false = refl
out_at past ps now key known time (Home.Nowhere fault) same = refl

out_known : (s : Setting) (c : Came) (past : List Entry) (ps : List Page) (now : Time) (keys : List Key) (key : Key) (time : Time) (o : Option Known) → answered s c ≡ None → c.event ≡ DriverEvent.Moment time →
    has_key keys key ≡ expires_at past ps now key key.home → o ≡ known_in (watched_now ps) key → option_map (out_among keys key) o ≡ option_map (step s c past ps now key) o
out_known s c past ps now keys key time None none event has is = refl
out_known s c past ps now keys key time (Some known) none event has is =
    ap Some
    (ap (λ b. if b then Known.Absent else known) has
    ∙ out_at past ps now key known time key.home (ap is_awaited is)
    ∙ ap (λ e. after_marks (brings_timed past ps now key known e key.home) known) (sym event)
    ∙ ap (λ t. after_marks (option_or (brought t key known) (brings_timed past ps now key known c.event key.home)) known) (sym none))

pub moment_knows : (s : Setting) (c : Came) (past : List Entry) (ps : List Page) (now time : Time) (timers after : Running) (keys : List Key) (old new : Rows) → c.event ≡ DriverEvent.Moment time →
    AreTimed past ps timers → TakesDue timers now keys after → Stepped old new (out_among keys) → Knows old (watched_now ps) → Knows new (marked s c past ps now)
moment_knows s c past ps now time timers after keys old new event are takes stepped knows =
    knows_marked s c past ps now old new knows
    (λ key. stepped key ∙ out_known s c past ps now keys key time (known_of old key) (ap (λ e. told_in s c.refused e (answered_kind c.verdict)) event) event (due_expires past ps timers after now keys are takes key) (knows key))
