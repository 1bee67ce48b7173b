-- What is kept of streams and watched keys, through an entry.
use Rattle.std.proofs.Common.{◌≡◌, ℕ, List, [], ◌∷◌, map, Option, Some, None, refl, sym, ap, ap₂, ◌∙◌, subst}
use Rattle.std.specs.Prelude.{◌↔◌, ◌||◌, Bool, true, false, IfSome, IsNone, IsSome, is_some, if◌then◌else◌}
use Rattle.std.specs.List.{find}
use Rattle.std.specs.List.Sorted.{IsStrictlySortedBy}
use Rattle.std.specs.Option.{option_or}
use Rattle.xc_base.specs.declared.names.Home.{Home}
use Rattle.xc_base.specs.declared.names.Key.{Key}
use Rattle.xc_base.specs.declared.names.Time.{Time}
use Rattle.xds_config.specs.declared.config.Config.{Config}
use Rattle.call_journal.specs.declared.event.DriverEvent.{DriverEvent}
use Rattle.call_journal.specs.declared.reply.DriverReply.{DriverReply}
use Rattle.call_journal.specs.declared.reply.Sent.{Sent}
use Rattle.call_journal.specs.declared.entry.What.{What}
use Rattle.call_journal.specs.declared.entry.Entry.{Entry}
use Rattle.config_assembly.specs.Orders.{Name}
use Rattle.config_assembly.specs.Watching.{IsWatching, has_key}
use Rattle.dep_manager.specs.KeptAssemblies.{IsRightBy}
use Rattle.dep_manager.specs.ServedCalls.{IsServing, Serves}
use Rattle.book_trees.specs.xds_history.Setting.{Setting, setting_of}
use Rattle.book_trees.specs.xds_history.Responses.{Came}
use Rattle.book_trees.specs.xds_history.declared.page.Page.{Page}
use Rattle.xc_base.specs.declared.names.Authority.{Authority}
use Rattle.book_trees.specs.xds_history.declared.page.Watched.{Watched}
use Rattle.book_trees.specs.xds_history.Pages.{came, driven, page_of, pages, present_after}
use Rattle.book_trees.specs.xds_history.References.{references, references_seen}
use Rattle.book_trees.specs.xds_history.Requests.{requests}
use Rattle.book_trees.specs.xds_history.Fates.{marked, watch, with_mark}
use Rattle.driver_step.specs.book_streams.StreamsKept.{states_of, states_with, watched_keys}
use Rattle.driver_step.specs.book_fates.declared.timed_fates.Fates.{Fates}
use Rattle.driver_step.specs.book_fates.FateSteps.{Knows, WatchesOnly}
use Rattle.driver_step.specs.book_fates.Timing.{AreAskedBy, AreTimedBut, NoneWanted, StoppedBy, TurnsAt, timed_at, unreached_among}
use Rattle.xc_keys.specs.Keys.{is_key, key_cmp}
use Rattle.xc_keys.proofs.KeyLemmas.{same_key}
use Rattle.xds_cache.specs.declared.fate.Known.{Known}
use Rattle.xds_cache.specs.KeptFates.{Watched as Rows, fate_at, fate_of, known_of, watched}
use Rattle.config_assembly.specs.Reach.{is_wanted, missing}
use Rattle.watch_timers.specs.Timers.{started_at}
use Rattle.driver_step.specs.book_fates.FatesKept.{IsKeptAt, IsLeftBy, IsMarkedAt, keys_in, turned_by}
use Rattle.driver_step.proofs.book_fates.KeptLemmas.{has_kept, kept_only, keys_watched}
use Rattle.driver_step.proofs.book_fates.PageLemmas.{drivers_settle}
use Rattle.driver_step.specs.DriverSteps.{Assembly, IsAssembly, IsMadeOf, made_or, marks_with, page_by, watched_by}
use Rattle.book_trees.specs.xds_history.Page.{config_now, watched_now}
use Rattle.driver_step.proofs.AnswerSteps.{caches_assemble, page_by_is}
use Rattle.book_driver.specs.declared.watcher.Watcher.{Watcher}
use Rattle.book_driver.specs.WatcherKept.{IsHeardBy, IsReachedBy, IsWatcherAt, assembly_with, setting_by}
use Rattle.book_driver.proofs.ServedLemmas.{if_serving, is_made}

-- ---- what is watched after an entry

-- once something came
pub heard_by : (s : Setting) (past : List Entry) (c : Came) (now : Time) (old new : Watcher) → IsWatcherAt s past old → setting_by new ≡ setting_by old → new.deps ≡ old.deps → new.streams.states ≡ states_with s c past → new.streams.told ≡ old.streams.told →
    IsMarkedAt s c past (pages s past) now (turned_by c.event c.verdict) new.fates → IsHeardBy s past c now new
heard_by s past c now old new at same deps streams told marked = record {
  setting_is = at.setting_is ∙ sym same;
  streams_are = streams;
  fates_are = marked;
  keys_are = ap (λ d. d.reached) deps ∙ at.keys_are ∙ at.fates_are.keys_are ∙ sym marked.keys_are;
  told_are = told ∙ at.told_are ∙ at.fates_are.keys_are ∙ sym marked.keys_are;
  serves = subst (λ d. IfSome d.last (Serves (references_seen (pages s past)))) (sym deps) at.serves;
}

pub only_at : (s : Setting) (past : List Entry) (w : Watcher) → IsWatcherAt s past w → WatchesOnly w.fates.cache w.fates.reached
only_at s past w at = kept_only past (pages s past) w.fates at.fates_are

-- the marked keys are the watched ones
keys_marked : (s : Setting) (c : Came) (past : List Entry) (ps : List Page) (now : Time) (ws : List Watched) → keys_in (map (with_mark s c past ps now) ws) ≡ keys_in ws
keys_marked s c past ps now [] = refl
keys_marked s c past ps now (w ∷ ws) = ap (λ keys. w.key ∷ keys) (keys_marked s c past ps now ws)

marked_only : (s : Setting) (c : Came) (past : List Entry) (ps : List Page) (now : Time) (turn : Option Authority) (f : Fates) → IsMarkedAt s c past ps now turn f → WatchesOnly f.cache f.reached
marked_only s c past ps now turn f was key some =
    has_kept (marked s c past ps now) f.reached key (was.keys_are ∙ sym (keys_marked s c past ps now (watched_now ps))) (subst (λ o. IsSome o) (was.knows key) some)

pub only_by : (s : Setting) (past : List Entry) (c : Came) (now : Time) (w : Watcher) → IsHeardBy s past c now w → WatchesOnly w.fates.cache w.fates.reached
only_by s past c now w by = marked_only s c past (pages s past) now (turned_by c.event c.verdict) w.fates by.fates_are

-- ---- what is reached

pub none_rises : IsStrictlySortedBy key_cmp []
unfolding IsStrictlySortedBy
none_rises = tt

pub reached_by : (s : Setting) (past : List Entry) (c : Came) (now : Time) (reached : List Key) (old new : Watcher) → IsHeardBy s past c now old → new.boot ≡ old.boot → new.streams ≡ old.streams →
    new.fates.timers ≡ old.fates.timers → new.fates.reached ≡ old.fates.reached → new.fates.untimed ≡ old.fates.untimed → new.deps.target ≡ old.deps.target → new.deps.reached ≡ reached → IsStrictlySortedBy key_cmp reached → IsWatching old.fates.cache new.fates.cache reached →
    IsRightBy new.boot.authorities new.fates.cache new.deps → IsReachedBy s past c now reached new
reached_by s past c now reached old new by boot streams timers before untimed target keys rising watching right =
    let same : setting_by new ≡ setting_by old = ap₂ setting_of boot target in record {
      setting_is = by.setting_is ∙ sym same;
      streams_are = ap (λ w. w.states) streams ∙ by.streams_are;
      marks = old.fates;
      marked = by.fates_are;
      timers_are = timers;
      before_are = before;
      untimed_are = untimed;
      watching = watching;
      keys_are = keys;
      rising = rising;
      told_are = ap (λ w. w.told) streams ∙ by.told_are ∙ sym before;
      right = right;
    }

-- where none of the reached keys is awaited, none is wanted once they are watched
unfound_next : (p : Key → Bool) (x : Key) (keys : List Key) (key : Key) (b e : Bool) → p x ≡ b → is_key key x ≡ e → (find p keys ≡ None → has_key keys key ≡ true → p key ≡ false) → (if b then Some x else find p keys) ≡ None → (e || has_key keys key) ≡ true → p key ≡ false
unfound_next p x keys key true e is same later none has = absurd (cc none)
unfound_next p x keys key false true is same later none has = ap p (same_key key x same) ∙ is
unfound_next p x keys key false false is same later none has = later none has

unfound : (p : Key → Bool) (keys : List Key) (key : Key) → find p keys ≡ None → has_key keys key ≡ true → p key ≡ false
unfound p [] key none has = absurd (cc has)
unfound p (x ∷ keys) key none has = unfound_next p x keys key (p x) (is_key key x) refl refl (unfound p keys key) none has

still_known : (old new : Rows) (keys : List Key) (key : Key) (home : Home) → known_of new key ≡ (if has_key keys key then watched (known_of old key) else None) → has_key keys key ≡ true → fate_at home (known_of new key) ≡ fate_at home (known_of old key)
still_known old new keys key home is has =
    ap (fate_at home) (is ∙ ap (λ b. if b then watched (known_of old key) else None) has) ∙ watched_at home (known_of old key)
  where
    watched_at : (home : Home) (o : Option Known) → fate_at home (watched o) ≡ fate_at home o
    watched_at (Home.At a) None = refl
    watched_at (Home.At a) (Some known) = refl
    watched_at (Home.Nowhere fault) o = refl

pub none_there : (least : Option Key) → is_some least ≡ false → IsNone least
none_there None is = refl
none_there (Some key) is = absurd (cc is)

pub none_wanted : (old new : Rows) (reached : List Key) (least : Option Key) → least ≡ missing (fate_of old) reached → IsWatching old new reached → IsNone least → NoneWanted new reached
none_wanted old new reached least is watching none key has =
    ap is_wanted (still_known old new reached key key.home (watching key) has)
    ∙ unfound (λ key. is_wanted (fate_of old key)) reached key (sym is ∙ none_is least none) has
  where
    none_is : (o : Option Key) → IsNone o → o ≡ None
    none_is None none = refl
    none_is (Some key) none = absurd (cc none)

-- a configuration is made exactly where no key is awaited
made_is : (least : Option Key) (made before : Option Config) → (IsSome made ↔ IsNone least) → made_or least made before ≡ option_or made before
made_is None None before whole = absurd (cc (whole.1 refl))
made_is None (Some config) before whole = refl
made_is (Some key) None before whole = refl
made_is (Some key) (Some config) before whole = absurd (cc (whole.0 refl))

pub assembly_by : (s : Setting) (past : List Entry) (c : Came) (now : Time) (names : List Name) (w : Watcher) (reached : List Key) (least : Option Key) (made : Option Config) → IsHeardBy s past c now w → now ≡ (present_after past c.event).now → names ≡ references (pages s past) →
    IsMadeOf w.deps.target w.boot w.fates.cache names reached least made → (IsSome made ↔ IsNone least) → IsAssembly s c past (pages s past) (assembly_with s past reached least made)
assembly_by s past c now names w reached least made by now_is names_are is whole =
    let made_by : Setting → Assembly = λ t. record { reached = reached; missing = least; config = made_or least made (config_now (pages t past)) } in
    let are : IsAssembly s c past (pages s past) (made_by s) =
    subst (λ t. IsAssembly t c past (pages t past) (made_by t)) (sym by.setting_is)
    (caches_assemble w.boot w.deps.target c past (pages (setting_by w) past) w.fates.cache reached least made
    (subst (λ t. Knows w.fates.cache (marks_with t c past (pages t past))) by.setting_is (subst (λ n. Knows w.fates.cache (marked s c past (pages s past) n)) now_is by.fates_are.knows))
    (subst (λ ns. IsMadeOf w.deps.target w.boot w.fates.cache ns reached least made) (names_are ∙ ap (λ t. references (pages t past)) by.setting_is) is)) in record {
      reached_are = are.reached_are;
      missing_is = are.missing_is;
      config_is = sym (made_is least made (config_now (pages s past)) whole) ∙ are.config_is;
    }

-- ---- what is asked

pub keys_by : (s : Setting) (c : Came) (past : List Entry) (a : Assembly) (reached : List Key) → a.reached ≡ reached → reached ≡ watched_keys (watched_by s c past (pages s past) a)
keys_by s c past a reached is = sym is ∙ sym (keys_watched (marks_with s c past (pages s past)) a.reached)

-- the timers of what is no longer reached ended
pub left_by : (marks old new : Fates) (reached : List Key) → old.timers ≡ marks.timers → old.reached ≡ marks.reached → old.untimed ≡ marks.untimed → IsLeftBy old new reached → IsLeftBy marks new reached
left_by marks old new reached timers keys untimed by = record {
  keys_are = by.keys_are ∙ keys;
  untimed_are = by.untimed_are ∙ untimed;
  stopped = subst (λ ts. StoppedBy ts new.timers (unreached_among marks.reached reached)) timers (subst (λ ks. StoppedBy old.timers new.timers (unreached_among ks reached)) keys by.stopped);
}

pub settles : (s : Setting) (past : List Entry) (line : ℕ) (event : DriverEvent) (reply : DriverReply) (now : Time) (a : Assembly) (reached : List Key) (sent : List Sent) (old : Watcher) (f : Fates) →
    IsReachedBy s past (came event reply) now reached old → IsAssembly s (came event reply) past (pages s past) a → a.reached ≡ reached → now ≡ (present_after past event).now → reply.sent ≡ sent →
    sent ≡ requests s (came event reply) past (watched_by s (came event reply) past (pages s past) a) →
    ((page : Page) → page.watched ≡ watch (marked s (came event reply) past (pages s past) now) reached → page.now ≡ now → TurnsAt (turned_by event reply.verdict) page → AreAskedBy sent reached past page → IsKeptAt (page.entry ∷ past) (page ∷ pages s past) f) →
    IsKeptAt (driven 0 line event reply ∷ past) (pages s (driven 0 line event reply ∷ past)) f
settles s past line event reply now a reached sent old f by assembled_is same timely told asked settle =
    let c : Came = came event reply in
    let ps : List Page = pages s past in
    let e : Entry = driven 0 line event reply in
    let page : Page = page_of s e (What.Driver event reply) past ps in
    let is : page ≡ page_by s c past ps a e reply.snapshot = page_by_is s c past ps a e reply.snapshot assembled_is in
    let of = drivers_settle s past 0 line event reply a.reached assembled_is.reached_are (told ∙ asked ∙ ap (λ p. requests s c past p.watched) (sym is)) in
    settle page
    (of.watched ∙ ap (λ n. watch (marked s c past ps n) a.reached) (sym timely) ∙ ap (watch (marked s c past ps now)) same)
    (sym timely)
    of.turns
    (subst (λ keys. AreAskedBy sent keys past page) same (subst (λ xs. AreAskedBy xs a.reached past page) told of.asks))

pub watched_after : (s : Setting) (past : List Entry) (line : ℕ) (event : DriverEvent) (reply : DriverReply) (now : Time) (a : Assembly) (reached : List Key) (old new : Watcher) →
    IsReachedBy s past (came event reply) now reached old → IsServing old.deps (references (pages s past)) → IsAssembly s (came event reply) past (pages s past) a → a.reached ≡ reached → new.boot ≡ old.boot → new.deps ≡ old.deps → new.fates.cache ≡ old.fates.cache →
    new.streams.states ≡ states_of s (driven 0 line event reply ∷ past) → new.streams.told ≡ reached → IsKeptAt (driven 0 line event reply ∷ past) (pages s (driven 0 line event reply ∷ past)) new.fates →
    IsWatcherAt s (driven 0 line event reply ∷ past) new
watched_after s past line event reply now a reached old new by serving assembled_is same boot deps cache streams told kept =
    let c : Came = came event reply in
    let ps : List Page = pages s past in
    let e : Entry = driven 0 line event reply in
    let is : page_of s e (What.Driver event reply) past ps ≡ page_by s c past ps a e reply.snapshot = page_by_is s c past ps a e reply.snapshot assembled_is in
    let keys : new.fates.reached ≡ reached = kept.keys_are ∙ ap (λ p. keys_in p.watched) is ∙ keys_watched (marks_with s c past ps) a.reached ∙ same in record {
      setting_is = by.setting_is ∙ sym (ap₂ (λ b d. setting_of b d.target) boot deps);
      streams_are = streams;
      fates_are = kept;
      keys_are = ap (λ d. d.reached) deps ∙ by.keys_are ∙ sym keys;
      rising = subst (IsStrictlySortedBy key_cmp) (sym keys) by.rising;
      told_are = told ∙ sym keys;
      right = subst (λ b. IsRightBy b.authorities new.fates.cache new.deps) (sym boot) (subst (λ rows. IsRightBy old.boot.authorities rows new.deps) (sym cache) (subst (IsRightBy old.boot.authorities old.fates.cache) (sym deps) by.right));
      serves = subst (λ d. IfSome d.last (Serves (references (pages s past)))) (sym deps) (if_serving old.deps (references (pages s past)) serving);
      made = λ driven. subst (λ d. IsSome d.last) (sym deps) (is_made old.deps (references (pages s past)) serving);
    }

-- ---- before the first entry

first_timed : (key : Key) (home : Home) → None ≡ timed_at [] [] key home
first_timed key (Home.At a) = refl
first_timed key (Home.Nowhere fault) = refl

pub first_kept : (f : Fates) → f.cache ≡ [] → f.timers ≡ [] → f.reached ≡ [] → f.untimed ≡ None → IsKeptAt [] [] f
first_kept f cache timers reached untimed = record {
  knows = λ key. ap (λ rows. known_of rows key) cache;
  keys_are = reached;
  timed = λ key. ap (λ running. started_at running key) timers ∙ first_timed key key.home;
  waits = subst (λ o. IfSome o (λ keys. AreTimedBut keys f.reached f.cache f.timers)) (sym untimed) tt;
}
