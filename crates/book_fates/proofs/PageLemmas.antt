-- Pages of a history keep what is kept.
use Rattle.std.proofs.Common.{◌≡◌, ℕ, Bool, true, false, ◌&&◌, List, ◌∷◌, Option, Some, None, refl, sym, ap, ◌∙◌, ◌==◌, eq-eqb, eqb-true}
use Rattle.std.specs.Prelude.{if◌then◌else◌, is_some}
use Rattle.xc_base.specs.declared.names.Authority.{Authority}
use Rattle.xc_base.specs.declared.names.Home.{Home}
use Rattle.xc_base.specs.declared.names.Key.{Key}
use Rattle.xc_base.specs.declared.names.Time.{Time}
use Rattle.ads_stream.specs.declared.verdict.Verdict.{Verdict}
use Rattle.call_journal.specs.declared.event.DriverEvent.{DriverEvent}
use Rattle.call_journal.specs.declared.event.CallerEvent.{CallerEvent}
use Rattle.call_journal.specs.declared.reply.CallerReply.{CallerReply}
use Rattle.call_journal.specs.declared.entry.What.{What}
use Rattle.call_journal.specs.declared.entry.Entry.{Entry}
use Rattle.xds_history.specs.Setting.{Setting}
use Rattle.xds_history.specs.Words.{same_authority}
use Rattle.xds_history.specs.declared.turns.Turn.TheVariants.{Opens, Ends, Stays}
use Rattle.xds_history.specs.Streams.{turn_by, turn_if, turned, stream, is_up, is_unreadable, is_broken}
use Rattle.xds_history.specs.Responses.{told_in, told_by, answered_kind}
use Rattle.xds_history.specs.declared.responses.Told.{Told}
use Rattle.xds_history.specs.declared.page.Page.{Page}
use Rattle.xds_history.specs.Page.{watched_now}
use Rattle.xds_history.specs.Fates.{marked, watch, first_asked}
use Rattle.xds_history.specs.Requests.{requests}
use Rattle.xds_history.specs.Pages.{pages, page_of, came, present_after, caller_page}
use Rattle.book_fates.specs.Timing.{known_in, is_awaited, timed_at, is_open, is_fresh, is_asked_at, retimed, is_turned, is_turning}
use Rattle.book_fates.specs.FatesKept.{turned_by, driven, called, DriversSettle, CallersLeave, AnsweredTurnsNone}
use Rattle.book_fates.proofs.TimeLemmas.{are_timed, still_wanted}
use Rattle.book_fates.proofs.AskedLemmas.{are_asked_by}

-- ---- whose stream turns

same_both : (a b : ℕ) → (a == b) ≡ (b == a)
same_both a b = by_two (a == b) (b == a) (λ is. eq-eqb b a (sym (eqb-true a b is))) (λ is. eq-eqb a b (sym (eqb-true b a is)))
  where
    by_two : (a b : Bool) → (a ≡ true → b ≡ true) → (b ≡ true → a ≡ true) → a ≡ b
    by_two true b there back = sym (there refl)
    by_two false true there back = back refl
    by_two false false there back = refl

opens_if : (b : Bool) → b ≡ is_turning (turn_if b Opens)
opens_if true = refl
opens_if false = refl

ends_if : (b : Bool) → b ≡ is_turning (turn_if b Ends)
ends_if true = refl
ends_if false = refl

ends_where : (t : Bool) (a b : Authority) → is_turned (if t then Some b else None) (Home.At a) ≡ is_turning (turn_if (same_authority a b && t) Ends)
ends_where true a b = same_both b.0 a.0 ∙ ends_both (a.0 == b.0)
  where
    ends_both : (x : Bool) → x ≡ is_turning (turn_if (x && true) Ends)
    ends_both true = refl
    ends_both false = refl
ends_where false a b = ends_none (a.0 == b.0)
  where
    ends_none : (x : Bool) → false ≡ is_turning (turn_if (x && false) Ends)
    ends_none true = refl
    ends_none false = refl

turned_is : (event : DriverEvent) (verdict : Verdict) (a : Authority) → is_turned (turned_by event verdict) (Home.At a) ≡ is_turning (turn_by a event verdict)
turned_is (DriverEvent.Opened b) verdict a = same_both b.0 a.0 ∙ opens_if (a.0 == b.0)
turned_is (DriverEvent.Lost b) verdict a = same_both b.0 a.0 ∙ ends_if (a.0 == b.0)
turned_is (DriverEvent.Response b payload) verdict a = ends_where (is_unreadable verdict) a b
turned_is (DriverEvent.Bytes b how) verdict a = ends_where (is_broken how) a b
turned_is (DriverEvent.Moment time) verdict a = refl
turned_is (DriverEvent.Endpoint address state) verdict a = refl
turned_is DriverEvent.Sweep verdict a = refl

-- ---- a driver's entry

pub drivers_settle : DriversSettle
drivers_settle s past actor line event reply reached reached_is sent_is =
    let marks = marked s (came event reply) past (pages s past) (present_after past event).now in
    let page : Page = page_of s (driven actor line event reply) (What.Driver event reply) past (pages s past) in
    let watched : page.watched ≡ watch marks reached = ap (λ keys. watch marks keys) (sym reached_is) in record {
      pages_are = refl;
      entry_is = refl;
      watched = watched;
      now_is = refl;
      turns = λ a. turned_is event reply.verdict a;
      asks = are_asked_by s (came event reply) past marks reached page reply.sent (sent_is ∙ ap (λ ws. requests s (came event reply) past ws) watched) refl (λ a. refl);
    }

answered_turns : (s : Setting) (refused : List (List ℕ)) (event : DriverEvent) (verdict : Verdict) (t : Told) → told_in s refused event (answered_kind verdict) ≡ Some t → turned_by event verdict ≡ None
answered_turns s refused (DriverEvent.Opened a) verdict t is = absurd (cc is)
answered_turns s refused (DriverEvent.Lost a) verdict t is = absurd (cc is)
answered_turns s refused (DriverEvent.Response a payload) (Verdict.Ack kind) t is = refl
answered_turns s refused (DriverEvent.Response a payload) (Verdict.Nack kind) t is = refl
answered_turns s refused (DriverEvent.Response a payload) Verdict.Done t is = refl
answered_turns s refused (DriverEvent.Response a payload) Verdict.Closed t is = refl
answered_turns s refused (DriverEvent.Response a payload) Verdict.Ignored t is = refl
answered_turns s refused (DriverEvent.Response a payload) Verdict.Unreadable t is = none_told (s.read payload) is
  where
    none_told : (r : Option _) → told_by s a refused r None ≡ Some t → Some a ≡ None
    none_told None is = absurd (cc is)
    none_told (Some r) is = absurd (cc is)
answered_turns s refused (DriverEvent.Bytes a how) verdict t is = absurd (cc is)
answered_turns s refused (DriverEvent.Moment time) verdict t is = refl
answered_turns s refused (DriverEvent.Endpoint address state) verdict t is = refl
answered_turns s refused DriverEvent.Sweep verdict t is = refl

pub answered_turns_none : AnsweredTurnsNone
answered_turns_none s event reply t is = answered_turns s reply.refused event reply.verdict t is

-- ---- a caller's entry

still_up : (o : Option (List Entry)) (e : Entry) → is_some o ≡ is_some (turned Stays e o)
still_up None e = refl
still_up (Some es) e = refl

waits_on : (w u v : Bool) (first : Option Time) (now : Time) → u ≡ v → (if (w && u) then first else None) ≡ retimed (w && v) false false now (if (w && u) then first else None)
waits_on false u v first now same = refl
waits_on true true true None now same = refl
waits_on true true true (Some at) now same = refl
waits_on true true false first now same = absurd (cc same)
waits_on true false true first now same = absurd (cc same)
waits_on true false false first now same = refl

called_at : (s : Setting) (past : List Entry) (actor line : ℕ) (event : CallerEvent) (reply : CallerReply) (key : Key) (home : Home) →
    timed_at past (pages s past) key home ≡ retimed (is_open past (caller_page (called actor line event reply) past (pages s past)) key home) (is_fresh (caller_page (called actor line event reply) past (pages s past)) home)
    (is_asked_at (caller_page (called actor line event reply) past (pages s past)) key home) (caller_page (called actor line event reply) past (pages s past)).now (timed_at past (pages s past) key home)
called_at s past actor line event reply key (Home.At a) =
    waits_on (is_awaited (known_in (watched_now (pages s past)) key)) (is_up a past) (is_up a (called actor line event reply ∷ past)) (first_asked (pages s past) a key)
    (caller_page (called actor line event reply) past (pages s past)).now (still_up (stream a past) (called actor line event reply))
called_at s past actor line event reply key (Home.Nowhere fault) = refl

pub callers_leave : CallersLeave
callers_leave s past actor line event reply f kept =
    let page : Page = caller_page (called actor line event reply) past (pages s past) in record {
      knows = kept.knows;
      keys_are = kept.keys_are;
      timed = are_timed past (pages s past) page f.timers f.timers (still_wanted (pages s past) page refl) kept.timed
          (λ key. kept.timed key ∙ called_at s past actor line event reply key key.home
          ∙ ap (λ o. retimed (is_open past page key key.home) (is_fresh page key.home) (is_asked_at page key key.home) page.now o) (sym (kept.timed key)));
      waits = kept.waits;
    }
