-- A report of an endpoint's state, or a sweep, where what is watched is settled.
use Rattle.std.proofs.Common.{◌≡◌, ℕ, Bool, true, false, ◌&&◌, List, [], ◌∷◌, map, Option, Some, None, refl, sym, ap, ap₂, ◌∙◌, subst, IsTrue, is_some, option_map}
use Rattle.std.specs.Prelude.{Contains, if◌then◌else◌}
use Rattle.std.specs.List.{find, range_with_len}
use Rattle.std.specs.Option.{option_map_or}
use Rattle.xc_base.specs.declared.names.Authority.{Authority}
use Rattle.xc_base.specs.declared.names.Home.{Home}
use Rattle.xc_base.specs.declared.names.Key.{Key}
use Rattle.xc_base.specs.declared.names.Time.{Time}
use Rattle.xc_keys.proofs.MemberLemmas.{here, there}
use Rattle.call_journal.specs.declared.event.DriverEvent.{DriverEvent}
use Rattle.call_journal.specs.declared.entry.What.{What}
use Rattle.call_journal.specs.declared.entry.Entry.{Entry}
use Rattle.book_fates.specs.config_assembly.Orders.{Name}
use Rattle.book_fates.specs.config_assembly.Reach.{missing, reach}
use Rattle.book_fates.specs.xds_history.Setting.{known_as}
use Rattle.book_fates.specs.xds_history.declared.turns.Turn.{Turn}
use Rattle.book_fates.specs.xds_history.declared.turns.Turn.TheVariants.{Stays}
use Rattle.book_fates.specs.xds_history.Words.{among, same_authority, same_kind}
use Rattle.book_fates.specs.xds_history.Streams.{is_broken, is_up, sent_in, stream, turn_of, turned}
use Rattle.book_fates.specs.xds_history.Requests.{requests}
use Rattle.book_fates.specs.xds_history.declared.page.Page.{Page}
use Rattle.book_fates.specs.xds_history.declared.page.Watched.{Watched}
use Rattle.book_fates.specs.xds_history.Page.{config_now, watched_now}
use Rattle.book_fates.specs.xds_history.Fates.{fate_in, first_asked, is_asked_in, is_opening, watch}
use Rattle.book_fates.specs.xds_history.References.{references}
use Rattle.book_fates.specs.xds_history.Pages.{came, config_after, driven, page_of, pages, present_after}
use Rattle.book_fates.specs.xds_history.HistoryLaws.{is_report}
use Rattle.book_fates.proofs.xds_history.AskLemmas.{none_sent}
use Rattle.book_fates.proofs.xds_history.WatchLemmas.{none_turned, same_marks, unbroken}
use Rattle.book_streams.specs.StreamsKept.{place_of, state_of}
use Rattle.book_streams.specs.StreamsLaws.{is_about}
use Rattle.book_streams.proofs.QuietLemmas.{quiet_stands}
use Rattle.book_fates.specs.declared.timed_fates.Fates.{Fates}
use Rattle.book_fates.specs.FateSteps.{Knows}
use Rattle.book_fates.specs.Timing.{known_in, is_awaited, timed_at, is_open, is_fresh, is_asked_at, retimed}
use Rattle.book_fates.specs.FatesKept.{IsKeptAt, keys_in}
use Rattle.book_fates.proofs.KeptLemmas.{keys_watched}
use Rattle.book_fates.proofs.TimeLemmas.{are_timed, still_wanted}
use Rattle.driver_step.specs.DriverSteps.{marks_with, watched_by}
use Rattle.driver_step.specs.SettledKeys.{ReportsChangeNoKey, ReportsLeaveFates, ReportsLeaveStreams, as_settled, known_now}
use Rattle.driver_step.proofs.AnswerSteps.{page_by_is}

-- ---- keys

pub reports_change_no_key : ReportsChangeNoKey
reports_change_no_key s past ps event reply least is settled =
    let ws : List Watched = watched_now ps in
    let names : List Name = references ps in
    let marks : marks_with s (came event reply) past ps ≡ ws = same_marks s event reply past ps (present_after past event).now is in
    let keys : keys_in ws ≡ reach (known_now s ps) names = ap keys_in (sym settled.watches) ∙ keys_watched ws (reach (known_now s ps) names) in
    let watched : watched_by s (came event reply) past ps (as_settled ps least) ≡ ws = ap (λ ms. watch ms (keys_in ws)) marks ∙ ap (watch ws) keys ∙ settled.watches in record {
      assembly = record {
        reached_are = keys ∙ ap (λ ms. reach (known_as s (fate_in ms)) names) (sym marks);
        missing_is = settled.awaits ∙ ap (missing (fate_in ws)) (sym keys) ∙ ap (λ ms. missing (fate_in ms) (keys_in ws)) (sym marks);
        config_is = sym settled.stays ∙ ap (λ ms. config_after (known_as s (fate_in ms)) names least (config_now ps)) (sym marks);
      };
      watched = watched;
      sent = ap (requests s (came event reply) past) watched ∙ none_sent s past event reply ws is settled.asked;
    }

-- ---- streams

never_about : (own broken : Bool) → broken ≡ false → (own && broken) ≡ false
never_about true broken is = is
never_about false broken is = refl

about_none : (a : Authority) (event : DriverEvent) → IsTrue (is_report event) → is_about a event ≡ false
about_none a (DriverEvent.Opened b) is = absurd (cc is)
about_none a (DriverEvent.Response b payload) is = absurd (cc is)
about_none a (DriverEvent.Bytes b how) is = never_about (same_authority a b) (is_broken how) (unbroken how is)
about_none a (DriverEvent.Lost b) is = absurd (cc is)
about_none a (DriverEvent.Moment time) is = absurd (cc is)
about_none a (DriverEvent.Endpoint address state) is = refl
about_none a DriverEvent.Sweep is = refl

same_at_all : {X : Type 0} (f g : ℕ → X) (places : List ℕ) → ((place : ℕ) → Contains places place → f place ≡ g place) → map f places ≡ map g places
same_at_all f g [] same = refl
same_at_all f g (place ∷ places) same = ap₂ (λ x xs. x ∷ xs) (same place (here place places)) (same_at_all f g places (λ n has. same n (there place places n has)))

pub reports_leave_streams : ReportsLeaveStreams
reports_leave_streams s past line event reply least is settled none =
    let e : Entry = driven 0 line event reply in
    let ws : List Watched = watched_now (pages s past) in
    let sent : reply.sent ≡ requests s (came event reply) past ws = none ∙ sym (none_sent s past event reply ws is settled.asked) in
    same_at_all (λ place. state_of s (place_of place) (e ∷ past)) (λ place. state_of s (place_of place) past) (range_with_len 0 s.authorities)
    (λ place has. (quiet_stands s 0 line event reply (place_of place) past ws (about_none (place_of place) event is) (settled.asked (place_of place) has) has sent).1)

-- ---- fates

still_up : (t : Turn) (o : Option (List Entry)) (e : Entry) → t ≡ Stays → is_some o ≡ is_some (turned t e o)
still_up t None e stays = ap (λ t. is_some (turned t e None)) (sym stays)
still_up t (Some es) e stays = ap (λ t. is_some (turned t e (Some es))) (sym stays)

waits_on : (w u v fresh asked : Bool) (first : Option Time) (now : Time) → u ≡ v → fresh ≡ false → asked ≡ false → (if (w && u) then first else None) ≡ retimed (w && v) fresh asked now (if (w && u) then first else None)
waits_on w u v true asked first now same opened none = absurd (cc opened)
waits_on w u v false true first now same opened none = absurd (cc none)
waits_on false u v false false first now same opened none = refl
waits_on true true true false false None now same opened none = refl
waits_on true true true false false (Some at) now same opened none = refl
waits_on true true false false false first now same opened none = absurd (cc same)
waits_on true false true false false first now same opened none = absurd (cc same)
waits_on true false false false false first now same opened none = refl

never_asked : (a : Authority) (key : Key) (e : Entry) → sent_in e.what ≡ [] → is_asked_in a key e ≡ false
never_asked a key e none =
    ap (λ xs. option_map_or (among key.name) (option_map (λ x. x.request.names) (find (λ x. same_authority a x.authority && same_kind x.request.kind key.kind) xs)) false) none

left_at : (past : List Entry) (ps : List Page) (p : Page) (key : Key) (home : Home) → p.watched ≡ watched_now ps → ((a : Authority) → turn_of a p.entry.what ≡ Stays) → sent_in p.entry.what ≡ [] →
    timed_at past ps key home ≡ retimed (is_open past p key home) (is_fresh p home) (is_asked_at p key home) p.now (timed_at past ps key home)
left_at past ps p key (Home.Nowhere fault) watched turns none = refl
left_at past ps p key (Home.At a) watched turns none =
    waits_on (is_awaited (known_in (watched_now ps) key)) (is_up a past) (is_up a (p.entry ∷ past)) (is_opening (turn_of a p.entry.what)) (is_asked_in a key p.entry) (first_asked ps a key) p.now
    (still_up (turn_of a p.entry.what) (stream a past) p.entry (turns a)) (ap is_opening (turns a)) (never_asked a key p.entry none)
    ∙ ap (λ ws. retimed (is_awaited (known_in ws key) && is_up a (p.entry ∷ past)) (is_fresh p (Home.At a)) (is_asked_at p key (Home.At a)) p.now (timed_at past ps key (Home.At a))) (sym watched)

left : (past : List Entry) (ps : List Page) (p : Page) (f : Fates) → p.watched ≡ watched_now ps → ((a : Authority) → turn_of a p.entry.what ≡ Stays) → sent_in p.entry.what ≡ [] →
    IsKeptAt past ps f → IsKeptAt (p.entry ∷ past) (p ∷ ps) f
left past ps p f watched turns none kept = record {
  knows = subst (λ ws. Knows f.cache ws) (sym watched) kept.knows;
  keys_are = kept.keys_are ∙ ap keys_in (sym watched);
  timed = are_timed past ps p f.timers f.timers (still_wanted ps p watched) kept.timed
      (λ key. kept.timed key ∙ left_at past ps p key key.home watched turns none
      ∙ ap (λ o. retimed (is_open past p key key.home) (is_fresh p key.home) (is_asked_at p key key.home) p.now o) (sym (kept.timed key)));
  waits = kept.waits;
}

pub reports_leave_fates : ReportsLeaveFates
reports_leave_fates s past line event reply least f is settled none kept =
    let ps : List Page = pages s past in
    let e : Entry = driven 0 line event reply in
    let p : Page = page_of s e (What.Driver event reply) past ps in
    let still = reports_change_no_key s past ps event reply least is settled in
    let page = page_by_is s (came event reply) past ps (as_settled ps least) e reply.snapshot still.assembly in
    left past ps p f (ap (λ p. p.watched) page ∙ still.watched) (λ a. none_turned a event reply.verdict is) none kept
