-- What is heard of an event, and what it comes to.
use Rattle.std.proofs.Common.{◌≡◌, Bool, true, false, List, Option, Some, None, refl, sym, ap, ◌∙◌, subst, option_map}
use Rattle.std.specs.Prelude.{if◌then◌else◌}
use Rattle.xc_base.specs.declared.names.Authority.{Authority}
use Rattle.xc_base.specs.declared.names.Kind.{Kind}
use Rattle.xds_bootstrap.specs.declared.bootstrap.Bootstrap.{Bootstrap}
use Rattle.xds_name.specs.declared.target.Target.{Target}
use Rattle.ads_stream.specs.declared.verdict.Verdict.{Verdict}
use Rattle.ads_stream.specs.declared.stream.StreamState.{StreamState}
use Rattle.proto_discovery.specs.declared.response.Response.{Response}
use Rattle.book_trees.specs.resource_check.declared.delivery.Prepared.{Prepared}
use Rattle.call_journal.specs.declared.event.DriverEvent.{DriverEvent}
use Rattle.call_journal.specs.declared.entry.Entry.{Entry}
use Rattle.config_assembly.specs.Orders.{Name}
use Rattle.book_trees.specs.xds_history.Setting.{Setting, setting_of}
use Rattle.book_trees.specs.xds_history.Streams.{is_up}
use Rattle.book_trees.specs.xds_history.Responses.{answered_kind, told_by, told_in, verdict, verdict_on_reading}
use Rattle.driver_step.specs.book_streams.StreamsKept.{states_of}
use Rattle.driver_step.proofs.book_streams.TurnLemmas.{none_in}
use Rattle.driver_step.specs.book_fates.declared.answered.Answered.{Answered}
use Rattle.driver_step.specs.book_fates.Delivered.{Delivered, delivered_by, delivered_in}
use Rattle.book_hearing.specs.declared.event_hearing.Heard.{Heard}
use Rattle.book_hearing.specs.HeardEvents.{IsHeard, texts_told}
use Rattle.book_driver.specs.declared.watcher.Watcher.{Watcher}
use Rattle.book_driver.specs.WatcherKept.{IsWatcherAt}
use Rattle.book_driver.specs.Renewals.{IsToldBy, texts_by}

-- ---- what an event brings

-- an answered response is brought exactly where one is answered by the verdict
unanswered : (o : Option Answered) → option_map delivered_in o ≡ None → o ≡ None
unanswered None is = refl
unanswered (Some a) is = absurd (cc is)

told_texts : (o : Option Answered) (d : Delivered) (kind : Kind) (prepared : Option Prepared) → option_map delivered_in o ≡ Some d → texts_told o prepared ≡ texts_by (Some kind) prepared
told_texts None d kind prepared is = absurd (cc is)
told_texts (Some a) d kind prepared is = refl

-- whether a response was read where its verdict answers it
texts_read : (s : Setting) (a : Authority) (refused : List Name) (r : Option Response) (kind : Kind) (o : Option Answered) (prepared : Option Prepared) →
    (r ≡ None → ⊥) → option_map delivered_in o ≡ option_map delivered_by (told_by s a refused r (Some kind)) → texts_told o prepared ≡ texts_by (Some kind) prepared
texts_read s a refused None kind o prepared read is = absurd (read refl)
texts_read s a refused (Some r) kind o prepared read is = told_texts o _ kind prepared is

unread : (up : Bool) → answered_kind (if up then Verdict.Unreadable else Verdict.Closed) ≡ None
unread true = refl
unread false = refl

lost : (up : Bool) → answered_kind (if up then Verdict.Done else Verdict.Closed) ≡ None
lost true = refl
lost false = refl

not_answered : {T : Type 0} (v w : Verdict) (kind : Kind) → answered_kind v ≡ Some kind → v ≡ w → answered_kind w ≡ None → T
not_answered v w kind is same none =
    let clash : Some kind ≡ None = sym is ∙ ap answered_kind same ∙ none in
    absurd (cc clash)

texts_where : (s : Setting) (past : List Entry) (event : DriverEvent) (v : Verdict) (refused : List Name) (o : Option Answered) (prepared : Option Prepared) (k : Option Kind) → answered_kind v ≡ k → v ≡ verdict s past event refused →
    option_map delivered_in o ≡ option_map delivered_by (told_in s refused event k) → texts_told o prepared ≡ texts_by k prepared
texts_where s past event v refused o prepared None is by same = ap (λ o. texts_told o prepared) (unanswered o (same ∙ ap (λ t. option_map delivered_by t) (none_in s refused event)))
texts_where s past (DriverEvent.Response a payload) v refused o prepared (Some kind) is by same =
    texts_read s a refused (s.read payload) kind o prepared
    (λ none. not_answered v (if is_up a past then Verdict.Unreadable else Verdict.Closed) kind is (by ∙ ap (λ r. if is_up a past then verdict_on_reading s past a refused r else Verdict.Closed) none) (unread (is_up a past)))
    same
texts_where s past (DriverEvent.Lost a) v refused o prepared (Some kind) is by same = not_answered v (if is_up a past then Verdict.Done else Verdict.Closed) kind is by (lost (is_up a past))
texts_where s past (DriverEvent.Opened a) v refused o prepared (Some kind) is by same = not_answered v Verdict.Done kind is by refl
texts_where s past (DriverEvent.Bytes a how) v refused o prepared (Some kind) is by same = not_answered v Verdict.Done kind is by refl
texts_where s past (DriverEvent.Moment time) v refused o prepared (Some kind) is by same = not_answered v Verdict.Done kind is by refl
texts_where s past (DriverEvent.Endpoint address state) v refused o prepared (Some kind) is by same = not_answered v Verdict.Done kind is by refl
texts_where s past DriverEvent.Sweep v refused o prepared (Some kind) is by same = not_answered v Verdict.Done kind is by refl

pub told_at : (s : Setting) (past : List Entry) (event : DriverEvent) (new : List StreamState) (heard : Heard) (prepared : Option Prepared) → IsHeard s past event new heard → heard.refused ≡ texts_told heard.answered prepared →
    IsToldBy s past event prepared heard.verdict heard.refused
told_at s past event new heard prepared is texts = record {
  verdict_is = is.verdict_is;
  refused_are = is.refused_are;
  texts_are = texts ∙ texts_where s past event heard.verdict heard.refused heard.answered prepared (answered_kind heard.verdict) refl is.verdict_is is.answered_is;
}

-- ---- by what is kept

pub heard_at : (s : Setting) (past : List Entry) (w : Watcher) (new : List StreamState) (event : DriverEvent) (heard : Heard) → IsWatcherAt s past w →
    ((boot : Bootstrap) (target : Target) (past : List Entry) → w.streams.states ≡ states_of (setting_of boot target) past → IsHeard (setting_of boot target) past event new heard) → IsHeard s past event new heard
heard_at s past w new event heard at hears =
    subst (λ s. IsHeard s past event new heard) (sym at.setting_is) (hears w.boot w.deps.target past (at.streams_are ∙ ap (λ s. states_of s past) at.setting_is))
