-- What is heard of an answered response, in the words of the history.
use Rattle.std.proofs.Common.{◌≡◌, Bool, true, false, List, Option, Some, None, refl, sym, ap, ◌∙◌, is_some, is_ok, option_map, option_and_then}
use Rattle.std.specs.Prelude.{if◌then◌else◌}
use Rattle.std.specs.List.{list_all}
use Rattle.xc_base.specs.declared.names.Kind.{Kind}
use Rattle.xc_base.specs.declared.names.Authority.{Authority}
use Rattle.book_fates.specs.resource_check.declared.delivery.Delivery.{Delivery}
use Rattle.ads_stream.specs.declared.stream.StreamState.{StreamState}
use Rattle.ads_stream.specs.declared.verdict.Verdict.{Verdict}
use Rattle.call_journal.specs.declared.event.DriverEvent.{DriverEvent}
use Rattle.call_journal.specs.declared.entry.Entry.{Entry}
use Rattle.book_fates.specs.config_assembly.Orders.{Name}
use Rattle.book_fates.specs.xds_history.Setting.{Setting}
use Rattle.book_fates.specs.xds_history.Streams.{stream, asked}
use Rattle.book_fates.specs.xds_history.declared.responses.Told.{Told}
use Rattle.book_fates.specs.xds_history.Responses as history
use Rattle.book_fates.specs.declared.part_names.PartNames.{PartNames}
use Rattle.book_fates.specs.Delivered.{Delivered, delivered_by}
use Rattle.book_streams.specs.StreamsKept.{states_with}
use Rattle.book_streams.specs.StreamsLaws.{IsTold, came_with, error_in}
use Rattle.book_hearing.specs.HeardEvents.{IsAnswerable, IsHeard}
use Rattle.book_hearing.specs.declared.judging.Answerable.{Answerable}

abbrev deliver : Authority → Kind → List Delivery → Delivered
deliver a kind ps = record { authority = a; kind = kind; parts = ps }

up_if : {X Y : Type 0} (f : X → Option Y) (o : Option X) → is_some (option_and_then f o) ≡ true → is_some o ≡ true
up_if f None is = absurd (cc is)
up_if f (Some x) is = refl

kind_by : (kind : Kind) (b : Bool) → history.answered_kind (if b then Verdict.Ack kind else Verdict.Nack kind) ≡ Some kind
kind_by kind true = refl
kind_by kind false = refl

module _ (s : Setting) (past : List Entry) (event : DriverEvent) (a : Answerable) (are : IsAnswerable s past event a) where
  abbrev ps : List Delivery
  ps = history.parts s a.kind are.response.resources a.refused

  abbrev told_now : Told
  told_now = record { authority = a.authority; kind = a.kind; version = are.response.version; nonce = are.response.nonce; resources = are.response.resources; parts = ps }

  verdict_read : history.verdict s past (DriverEvent.Response a.authority are.payload) a.refused ≡ history.verdict_on_parts a.kind ps
  verdict_read =
      ap (λ b. if b then history.verdict_on_reading s past a.authority a.refused (s.read are.payload) else Verdict.Closed) (up_if (asked a.authority a.kind) (stream a.authority past) are.was_asked)
      ∙ ap (history.verdict_on_reading s past a.authority a.refused) are.reads
      ∙ ap (history.verdict_on_kind s past a.authority are.response a.refused) are.kind_is
      ∙ ap (λ b. if b then history.verdict_on_parts a.kind ps else Verdict.Ignored) are.was_asked

  answered_now : (v : Verdict) → v ≡ history.verdict s past (DriverEvent.Response a.authority are.payload) a.refused → history.answered s (came_with event v a.refused) ≡ Some told_now
  answered_now v is =
      ap (λ e. history.told_in s a.refused e (history.answered_kind v)) are.event_is
      ∙ ap (λ o. history.told_by s a.authority a.refused o (history.answered_kind v)) are.reads
      ∙ ap (λ v. history.told_by s a.authority a.refused (Some are.response) (history.answered_kind v)) (is ∙ verdict_read)
      ∙ ap (history.told_by s a.authority a.refused (Some are.response)) (kind_by a.kind (list_all (λ p. is_ok p.result) ps))

  pub told_is : (error : Option Name) → error ≡ error_in a.parts → IsTold s a.authority past are.payload are.response a.kind a.version a.nonce a.refused error
  told_is error is = record {
    reads = are.reads;
    kind_is = are.kind_is;
    version_is = are.version_is;
    nonce_is = are.nonce_is;
    error_is = λ was. is ∙ ap error_in are.parts_are;
  }

  pub answered_heard : (v : Verdict) (names : PartNames) (new : List StreamState) → v ≡ history.verdict s past (DriverEvent.Response a.authority are.payload) a.refused →
      new ≡ states_with s (came_with (DriverEvent.Response a.authority are.payload) (history.verdict s past (DriverEvent.Response a.authority are.payload) a.refused) a.refused) past →
      IsHeard s past event new (record { verdict = v; refused = a.refused; answered = Some (record { authority = a.authority; kind = a.kind; parts = a.parts; names = names }) })
  answered_heard v names new is after =
      let found : history.answered s (came_with event v a.refused) ≡ Some told_now = answered_now v is in
      record {
        verdict_is = is ∙ ap (λ e. history.verdict s past e a.refused) (sym are.event_is);
        refused_are = are.stops_are ∙ ap (history.stopped_at s a.refused) (sym found);
        answered_is = ap (λ xs. Some (deliver a.authority a.kind xs)) are.parts_are ∙ ap (option_map delivered_by) (sym found);
        streams_are =
            after
            ∙ ap (λ v. states_with s (came_with (DriverEvent.Response a.authority are.payload) v a.refused) past) (sym is)
            ∙ ap (λ e. states_with s (came_with e v a.refused) past) (sym are.event_is);
      }
