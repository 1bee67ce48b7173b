-- Streams on which nothing changes.
use Rattle.std.proofs.Common.{◌≡◌, ◌==◌, Bool, true, false, ◌||◌, not, if◌then◌else◌, Option, Some, None, List, [], ◌∷◌, ◌++◌, map, length, refl, sym, ap, ap₂, ◌∙◌, is_some, unwrap_or}
use Rattle.xc_base.specs.declared.names.Kind.{Kind}
use Rattle.xc_base.specs.declared.names.Authority.{Authority}
use Rattle.proto_discovery.specs.declared.request.Request.{Request}
use Rattle.call_journal.specs.declared.entry.Entry.{Entry}
use Rattle.ads_stream.specs.declared.stream.StreamState.{StreamState}
use Rattle.ads_stream.specs.declared.subscription.Subscription.{Subscription}
use Rattle.ads_stream.specs.StreamSteps as step
use Rattle.xds_history.specs.Words.{all_kinds}
use Rattle.xds_history.specs.Setting.{Setting}
use Rattle.xds_history.specs.Streams.{before_turn, stream, asked}
use Rattle.xds_history.specs.Responses.{Came, answered_kind}
use Rattle.xds_history.specs.Requests.{watched_names, same_names, request_for, request_due, is_silent, with_node, sent_to, requests_on}
use Rattle.xds_history.specs.declared.page.Watched.{Watched}
use Rattle.xds_history.specs.Pages.{came}
use Rattle.book_streams.specs.StreamsKept.{names_at, state_on, subscription_on}
use Rattle.book_streams.specs.StreamsLaws.{AskedIsKept, BringsNothing, QuietStands, SettledAfter}
use Rattle.xds_history.proofs.AskLemmas.{asked_after, none_of}
use Rattle.book_streams.proofs.TurnLemmas.{of_state}
use Rattle.book_streams.proofs.RequestLemmas.{differs_is, names_follow}
use Rattle.book_streams.proofs.PlaceLemmas.{brings_nothing, turns_nothing, others_stand}

pub asked_is_kept : AskedIsKept
asked_is_kept s a past kind = ap (λ x. is_some x.asked) (of_state s a (stream a past) (subscription_on s a past (stream a past)) kind)

-- ---- nothing is due

none_due : (s : Setting) (c : Came) (past before : List Entry) (watched : List Watched) (a : Authority) (kind : Kind) → BringsNothing s c a → same_names (watched_names a kind watched) (unwrap_or (asked a kind before) []) ≡ true → request_due s c past watched before a kind ≡ None
none_due s c past before watched a kind nothing same =
    ap₂ (λ o b. if is_some o || not b then Some (request_for s c past before a kind (watched_names a kind watched)) else None) (nothing kind) same

none_on : (s : Setting) (c : Came) (past : List Entry) (watched : List Watched) (a : Authority) (on : Option (List Entry)) → BringsNothing s c a →
    ((kind : Kind) (entries : List Entry) → on ≡ Some entries → same_names (watched_names a kind watched) (unwrap_or (asked a kind entries) []) ≡ true) → requests_on s c past watched a on ≡ []
none_on s c past watched a None nothing settled = refl
none_on s c past watched a (Some before) nothing settled =
    ap (λ rs. map (sent_to a) (with_node s (is_silent a before) rs))
    (none_of (request_due s c past watched before a) all_kinds (λ kind. none_due s c past before watched a kind nothing (settled kind before refl)))

-- ---- the stream stands

or_false : (b : Bool) → (b || false) ≡ b
or_false true = refl
or_false false = refl

module _ (s : Setting) (a : Authority) (past before : List Entry) (watched : List Watched) (same : (kind : Kind) → same_names (watched_names a kind watched) (unwrap_or (asked a kind before) []) ≡ true) where
  abbrev st : StreamState
  st = state_on s a past (Some before)

  abbrev sub : Kind → Subscription
  sub kind = subscription_on s a past (Some before) kind

  not_due : (kind : Kind) → step.is_due (sub kind) (watched_names a kind watched) ≡ false
  not_due kind = differs_is (asked a kind before) (watched_names a kind watched) ∙ ap not (same kind)

  no_request : (kind : Kind) (rs : List Request) → step.with_request st kind (watched_names a kind watched) rs ≡ rs
  no_request kind rs =
      ap (λ b. if b then rs ++ step.request_of (step.of_kind st kind) kind (watched_names a kind watched) (step.greeting st rs) ∷ [] else rs)
      (ap (λ x. step.is_due x (watched_names a kind watched)) (of_state s a (Some before) sub kind) ∙ not_due kind)

  no_requests : step.requests_on st (names_at a watched) ≡ []
  no_requests =
      ap (λ rs. step.with_request st Kind.Endpoint (watched_names a Kind.Endpoint watched) (step.with_request st Kind.Cluster (watched_names a Kind.Cluster watched) (step.with_request st Kind.Route (watched_names a Kind.Route watched) rs))) (no_request Kind.Listener [])
      ∙ ap (λ rs. step.with_request st Kind.Endpoint (watched_names a Kind.Endpoint watched) (step.with_request st Kind.Cluster (watched_names a Kind.Cluster watched) rs)) (no_request Kind.Route [])
      ∙ ap (λ rs. step.with_request st Kind.Endpoint (watched_names a Kind.Endpoint watched) rs) (no_request Kind.Cluster [])
      ∙ no_request Kind.Endpoint []

  asked_same : (kind : Kind) → step.names_after_request (sub kind) (watched_names a kind watched) ≡ asked a kind before
  asked_same kind = ap (λ b. if b then Some (watched_names a kind watched) else asked a kind before) (not_due kind)

  greeted_same : (not (is_silent a before) || not (length (step.requests_on st (names_at a watched)) == 0)) ≡ not (is_silent a before)
  greeted_same = ap (λ rs. not (is_silent a before) || not (length rs == 0)) no_requests ∙ or_false (not (is_silent a before))

  told_same : step.names_told st (names_at a watched) ≡ st
  told_same = rw (asked_same Kind.Listener, asked_same Kind.Route, asked_same Kind.Cluster, asked_same Kind.Endpoint, greeted_same) refl

told_still : (s : Setting) (a : Authority) (past : List Entry) (watched : List Watched) (on : Option (List Entry)) →
    ((kind : Kind) (entries : List Entry) → on ≡ Some entries → same_names (watched_names a kind watched) (unwrap_or (asked a kind entries) []) ≡ true) →
    step.names_told (state_on s a past on) (names_at a watched) ≡ state_on s a past on
told_still s a past watched None settled = refl
told_still s a past watched (Some before) settled = told_same s a past before watched (λ kind. settled kind before refl)

pub quiet_stands : QuietStands
quiet_stands s actor line event reply a past watched other settled has sent =
    let c : Came = came event reply in (
      ap (λ t. requests_on s c past watched a (before_turn t (stream a past))) (turns_nothing a event reply.verdict other)
          ∙ none_on s c past watched a (stream a past) (brings_nothing s a event reply.refused (answered_kind reply.verdict) other) settled,
      sym (names_follow s actor line event reply a past watched has sent)
          ∙ ap (λ x. step.names_told x (names_at a watched)) (others_stand s c a past other)
          ∙ told_still s a past watched (stream a past) settled,
    )

pub settled_after : SettledAfter
settled_after s actor line event reply a past watched has sent kind entries up = asked_after s past actor line event reply watched sent a has kind entries up
