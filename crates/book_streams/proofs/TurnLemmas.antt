-- Turns of a stream, and responses on it.
use Rattle.std.proofs.Common.{◌≡◌, ℕ, Bool, true, false, ◌&&◌, cond, if◌then◌else◌, Option, Some, None, List, [], refl, sym, ap, ◌∙◌, subst, eq-eqb, is_some, is_ok, option_map, option_and_then}
use Rattle.std.specs.List.{list_all}
use Rattle.std.specs.Option.{option_map_or}
use Rattle.xc_base.specs.declared.names.Kind.{Kind}
use Rattle.xc_base.specs.declared.names.Authority.{Authority}
use Rattle.proto_discovery.specs.declared.response.Response.{Response}
use Rattle.call_journal.specs.declared.event.DriverEvent.{DriverEvent}
use Rattle.call_journal.specs.declared.entry.Entry.{Entry}
use Rattle.config_assembly.specs.Orders.{Name}
use Rattle.ads_stream.specs.declared.stream.StreamState.{StreamState}
use Rattle.ads_stream.specs.declared.subscription.Subscription.{Subscription}
use Rattle.ads_stream.specs.declared.verdict.Verdict.{Verdict}
use Rattle.ads_stream.specs.StreamSteps as step
use Rattle.xds_history.specs.Words.{same_kind, same_authority}
use Rattle.xds_history.specs.Setting.{Setting}
use Rattle.xds_history.specs.declared.turns.Turn.{Turn}
use Rattle.xds_history.specs.declared.turns.Turn.TheVariants.{Opens, Ends, Stays}
use Rattle.xds_history.specs.Streams.{turn_by, turn_if, before_turn, stream, asked, is_unreadable}
use Rattle.xds_history.specs.resource_check.declared.delivery.Delivery.{Delivery}
use Rattle.xds_history.specs.declared.responses.Told.{Told}
use Rattle.xds_history.specs.Responses.{Came, answered, accepted, answered_kind, accepted_kind, told_in, told_by, told_of, version, nonce_on, verdict, verdict_on_parts, verdict_on_kind, verdict_on_reading, is_asked, parts}
use Rattle.xds_history.specs.Requests.{error_text, is_nack}
use Rattle.book_streams.specs.StreamsKept.{state_by, state_of, state_on, state_with, on_after, subscription_on}
use Rattle.book_streams.specs.StreamsLaws.{TurnsFollow, BringsNothing, turned_state, error_in, response_came, ResponseFollows}

-- ---- what stands between, by what of an answered and of an accepted response is this authority's

abbrev known_from : Setting → Authority → List Entry → Option (List Entry) → (Kind → Option Told) → (Kind → Option Told) → Bool → Kind → Subscription
known_from s a past on told took nack kind = record {
  version = option_map_or (λ t. t.version) (took kind) (version s a kind past);
  nonce = option_map_or (λ before. option_map_or (λ t. t.nonce) (told kind) (nonce_on s a kind before)) on [];
  asked = option_and_then (asked a kind) on;
  answer = option_and_then (λ before. option_map (λ t. record { error = if nack then option_map (λ t. error_text t.parts) (told kind) else None }) (told kind)) on;
}

abbrev state_from : Setting → Authority → List Entry → Option (List Entry) → (Kind → Option Told) → (Kind → Option Told) → Bool → StreamState
state_from s a past on told took nack = state_by s a on (known_from s a past on told took nack)

same_known : (s : Setting) (a : Authority) (past : List Entry) (on : Option (List Entry)) (told told' took took' : Kind → Option Told) (nack : Bool) →
    ((k : Kind) → told k ≡ told' k) → ((k : Kind) → took k ≡ took' k) → state_from s a past on told took nack ≡ state_from s a past on told' took' nack
same_known s a past on told told' took took' nack tells takes =
    rw (tells Kind.Listener, tells Kind.Route, tells Kind.Cluster, tells Kind.Endpoint, takes Kind.Listener, takes Kind.Route, takes Kind.Cluster, takes Kind.Endpoint) refl

-- ---- nothing is brought

none_by : (s : Setting) (a : Authority) (refused : List Name) (o : Option Response) → told_by s a refused o None ≡ None
none_by s a refused None = refl
none_by s a refused (Some r) = refl

pub none_in : (s : Setting) (refused : List Name) (event : DriverEvent) → told_in s refused event None ≡ None
none_in s refused (DriverEvent.Response a payload) = none_by s a refused (s.read payload)
none_in s refused (DriverEvent.Opened a) = refl
none_in s refused (DriverEvent.Bytes a how) = refl
none_in s refused (DriverEvent.Lost a) = refl
none_in s refused (DriverEvent.Moment time) = refl
none_in s refused (DriverEvent.Endpoint address state) = refl
none_in s refused DriverEvent.Sweep = refl

-- what isn't answered isn't accepted
none_taken_by : (s : Setting) (refused : List Name) (event : DriverEvent) (a : Authority) (kind : Kind) (v : Verdict) → told_of a kind (told_in s refused event (answered_kind v)) ≡ None → told_of a kind (told_in s refused event (accepted_kind v)) ≡ None
none_taken_by s refused event a kind (Verdict.Ack k) none = none
none_taken_by s refused event a kind (Verdict.Nack k) none = ap (told_of a kind) (none_in s refused event)
none_taken_by s refused event a kind Verdict.Done none = none
none_taken_by s refused event a kind Verdict.Closed none = none
none_taken_by s refused event a kind Verdict.Ignored none = none
none_taken_by s refused event a kind Verdict.Unreadable none = none

none_taken : (s : Setting) (c : Came) (a : Authority) → BringsNothing s c a → (kind : Kind) → told_of a kind (accepted s c) ≡ None
none_taken s c a none kind = none_taken_by s c.refused c.event a kind c.verdict (none kind)

turned_by : (s : Setting) (a : Authority) (past : List Entry) (t : Turn) (on : Option (List Entry)) (nack : Bool) → state_from s a past (before_turn t on) (λ k. None) (λ k. None) nack ≡ turned_state t (state_on s a past on)
turned_by s a past Opens None nack = refl
turned_by s a past Opens (Some entries) nack = refl
turned_by s a past Ends on nack = refl
turned_by s a past Stays None nack = refl
turned_by s a past Stays (Some entries) nack = refl

pub turns_follow : TurnsFollow
turns_follow s c a past none =
    same_known s a past (on_after c a past) (λ k. told_of a k (answered s c)) (λ k. None) (λ k. told_of a k (accepted s c)) (λ k. None) (is_nack c.verdict) none (none_taken s c a none)
    ∙ turned_by s a past (turn_by a c.event c.verdict) (stream a past) (is_nack c.verdict)

-- ---- a response

pub of_state : (s : Setting) (a : Authority) (on : Option (List Entry)) (known : Kind → Subscription) (kind : Kind) → step.of_kind (state_by s a on known) kind ≡ known kind
of_state s a on known Kind.Listener = refl
of_state s a on known Kind.Route = refl
of_state s a on known Kind.Cluster = refl
of_state s a on known Kind.Endpoint = refl

with_same : (state : StreamState) (kind : Kind) → step.with_kind state kind (step.of_kind state kind) ≡ state
with_same state Kind.Listener = refl
with_same state Kind.Route = refl
with_same state Kind.Cluster = refl
with_same state Kind.Endpoint = refl

stays_if : (b : Bool) → turn_if (b && false) Ends ≡ Stays
stays_if true = refl
stays_if false = refl

abbrev verdict_at : Bool → Bool → Verdict → Verdict
verdict_at up was v = if up then (if was then v else Verdict.Ignored) else Verdict.Closed

same_verdict : (up was : Bool) (v v' : Verdict) → (was ≡ true → v ≡ v') → verdict_at up was v ≡ verdict_at up was v'
same_verdict false was v v' same = refl
same_verdict true false v v' same = refl
same_verdict true true v v' same = same refl

by_parts : (kind : Kind) (ps : List Delivery) (b : Bool) → step.verdict_by kind (if b then None else Some (error_text ps)) ≡ (if b then Verdict.Ack kind else Verdict.Nack kind)
by_parts kind ps true = refl
by_parts kind ps false = refl

abbrev told_when : Told → Kind → Bool → Kind → Option Told
told_when t kind b k = if b && same_kind kind k then Some t else None

accepted_at : (s : Setting) (a : Authority) (past es : List Entry) (t : Told) (kind : Kind) →
    step.with_kind (state_on s a past (Some es)) kind (step.with_response (step.of_kind (state_on s a past (Some es)) kind) t.version t.nonce None)
    ≡ state_from s a past (Some es) (told_when t kind true) (told_when t kind true) false
accepted_at s a past es t Kind.Listener = refl
accepted_at s a past es t Kind.Route = refl
accepted_at s a past es t Kind.Cluster = refl
accepted_at s a past es t Kind.Endpoint = refl

refused_at : (s : Setting) (a : Authority) (past es : List Entry) (t : Told) (kind : Kind) →
    step.with_kind (state_on s a past (Some es)) kind (step.with_response (step.of_kind (state_on s a past (Some es)) kind) t.version t.nonce (Some (error_text t.parts)))
    ≡ state_from s a past (Some es) (told_when t kind true) (λ k. None) true
refused_at s a past es t Kind.Listener = refl
refused_at s a past es t Kind.Route = refl
refused_at s a past es t Kind.Cluster = refl
refused_at s a past es t Kind.Endpoint = refl

module _ (s : Setting) (a : Authority) (past : List Entry) (payload : List ℕ) (r : Response) (kind : Kind) (refused : List Name) (reads : s.read payload ≡ Some r) where
  abbrev ps : List Delivery
  ps = parts s kind r.resources refused

  abbrev told_now : Told
  told_now = record { authority = a; kind = kind; version = r.version; nonce = r.nonce; resources = r.resources; parts = ps }

  abbrev Follows : Option Name → Verdict → Option (List Entry) → Type 0
  Follows error v on =
      step.response_taken (state_on s a past on) kind r.version r.nonce error
      ≡ state_from s a past (before_turn (turn_by a (DriverEvent.Response a payload) v) on)
      (λ k. told_of a k (told_by s a refused (s.read payload) (answered_kind v)))
      (λ k. told_of a k (told_by s a refused (s.read payload) (accepted_kind v)))
      (is_nack v)

  abbrev none_told : Kind → Option Told
  none_told k = told_of a k (told_by s a refused (s.read payload) None)

  none_told_is : (k : Kind) → none_told k ≡ None
  none_told_is k = ap (told_of a k) (none_by s a refused (s.read payload))

  stands : (on : Option (List Entry)) (nack : Bool) →
      state_from s a past (before_turn (turn_if (same_authority a a && false) Ends) on) none_told none_told nack ≡ state_on s a past on
  stands on nack =
      same_known s a past (before_turn (turn_if (same_authority a a && false) Ends) on) none_told (λ k. None) none_told (λ k. None) nack none_told_is none_told_is
      ∙ ap (λ t. state_from s a past (before_turn t on) (λ k. None) (λ k. None) nack) (stays_if (same_authority a a))
      ∙ turned_by s a past Stays on nack

  abbrev told_if : Bool → Kind → Option Told
  told_if b k = told_when told_now kind b k

  told_is : (k : Kind) → told_of a k (told_by s a refused (s.read payload) (Some kind)) ≡ told_if true k
  told_is k = ap (λ o. told_of a k (told_by s a refused o (Some kind))) reads ∙ ap (λ b. told_if b k) (eq-eqb a.0 a.0 refl)

  -- answered with an Ack or a Nack
  moved : (v : Verdict) (es : List Entry) (took : Kind → Option Told) → answered_kind v ≡ Some kind → is_unreadable v ≡ false →
      ((k : Kind) → told_of a k (told_by s a refused (s.read payload) (accepted_kind v)) ≡ took k) →
      state_from s a past (before_turn (turn_by a (DriverEvent.Response a payload) v) (Some es))
      (λ k. told_of a k (told_by s a refused (s.read payload) (answered_kind v)))
      (λ k. told_of a k (told_by s a refused (s.read payload) (accepted_kind v)))
      (is_nack v)
      ≡ state_from s a past (Some es) (told_if true) took (is_nack v)
  moved v es took is readable takes =
      same_known s a past (before_turn (turn_by a (DriverEvent.Response a payload) v) (Some es))
      (λ k. told_of a k (told_by s a refused (s.read payload) (answered_kind v))) (told_if true)
      (λ k. told_of a k (told_by s a refused (s.read payload) (accepted_kind v))) took (is_nack v)
      (λ k. ap (λ o. told_of a k (told_by s a refused (s.read payload) o)) is ∙ told_is k) takes
      ∙ ap (λ b. state_from s a past (before_turn (turn_if (same_authority a a && b) Ends) (Some es)) (told_if true) took (is_nack v)) readable
      ∙ ap (λ t. state_from s a past (before_turn t (Some es)) (told_if true) took (is_nack v)) (stays_if (same_authority a a))

  -- the error is the text of the refusal
  taken_at : (es : List Entry) (error : Option Name) → is_some (step.of_kind (state_on s a past (Some es)) kind).asked ≡ true →
      step.response_taken (state_on s a past (Some es)) kind r.version r.nonce error
      ≡ step.with_kind (state_on s a past (Some es)) kind (step.with_response (step.of_kind (state_on s a past (Some es)) kind) r.version r.nonce error)
  taken_at es error was = ap (λ b. step.with_kind (state_on s a past (Some es)) kind (cond b (step.with_response (step.of_kind (state_on s a past (Some es)) kind) r.version r.nonce error) (step.of_kind (state_on s a past (Some es)) kind))) was

  follows_asked : (es : List Entry) (b : Bool) → is_some (step.of_kind (state_on s a past (Some es)) kind).asked ≡ true →
      Follows (if b then None else Some (error_text ps)) (if b then Verdict.Ack kind else Verdict.Nack kind) (Some es)
  follows_asked es true was = taken_at es None was ∙ accepted_at s a past es told_now kind ∙ sym (moved (Verdict.Ack kind) es (told_if true) refl refl told_is)
  follows_asked es false was = taken_at es (Some (error_text ps)) was ∙ refused_at s a past es told_now kind ∙ sym (moved (Verdict.Nack kind) es (λ k. None) refl refl none_told_is)

  unasked_at : (es : List Entry) (error : Option Name) → is_some (step.of_kind (state_on s a past (Some es)) kind).asked ≡ false →
      step.response_taken (state_on s a past (Some es)) kind r.version r.nonce error ≡ state_on s a past (Some es)
  unasked_at es error was =
      ap (λ b. step.with_kind (state_on s a past (Some es)) kind (cond b (step.with_response (step.of_kind (state_on s a past (Some es)) kind) r.version r.nonce error) (step.of_kind (state_on s a past (Some es)) kind))) was
      ∙ with_same (state_on s a past (Some es)) kind

  follows_up : (es : List Entry) (error : Option Name) (b : Bool) → is_some (asked a kind es) ≡ b → (b ≡ true → error ≡ error_in ps) →
      Follows error (verdict_at true b (verdict_on_parts kind ps)) (Some es)
  follows_up es error true was tell =
      subst (λ e. Follows e (verdict_on_parts kind ps) (Some es)) (sym (tell refl))
      (follows_asked es (list_all (λ p. is_ok p.result) ps) (ap (λ x. is_some x.asked) (of_state s a (Some es) (subscription_on s a past (Some es)) kind) ∙ was))
  follows_up es error false was tell =
      unasked_at es error (ap (λ x. is_some x.asked) (of_state s a (Some es) (subscription_on s a past (Some es)) kind) ∙ was) ∙ sym (stands (Some es) false)

  follows_on : (on : Option (List Entry)) (error : Option Name) → (is_some (option_and_then (asked a kind) on) ≡ true → error ≡ error_in ps) →
      Follows error (verdict_at (is_some on) (is_some (option_and_then (asked a kind) on)) (verdict_on_parts kind ps)) on
  follows_on None error tell = sym (stands None false)
  follows_on (Some es) error tell = follows_up es error (is_some (asked a kind es)) refl tell

  same_error : (error : Option Name) → error ≡ error_in ps → step.verdict_by kind error ≡ verdict_on_parts kind ps
  same_error error is = ap (step.verdict_by kind) is ∙ by_parts kind ps (list_all (λ p. is_ok p.result) ps)

  verdict_of_state : (on : Option (List Entry)) (error : Option Name) →
      step.verdict_of (state_on s a past on) kind error ≡ verdict_at (is_some on) (is_some (option_and_then (asked a kind) on)) (step.verdict_by kind error)
  verdict_of_state on error = ap (λ x. if is_some on then (if is_some x.asked then step.verdict_by kind error else Verdict.Ignored) else Verdict.Closed) (of_state s a on (subscription_on s a past on) kind)

  verdict_read : s.kind_of r.type_url ≡ Some kind →
      verdict s past (DriverEvent.Response a payload) refused ≡ verdict_at (is_some (stream a past)) (is_asked a kind past) (verdict_on_parts kind ps)
  verdict_read is =
      ap (λ o. if is_some (stream a past) then verdict_on_reading s past a refused o else Verdict.Closed) reads
      ∙ ap (λ o. if is_some (stream a past) then verdict_on_kind s past a r refused o else Verdict.Closed) is

pub response_follows : ResponseFollows
response_follows s a past payload r kind refused error reads is tell =
    let on : Option (List Entry) = stream a past in
    let seen = verdict_read s a past payload r kind refused reads is in (
      verdict_of_state s a past payload r kind refused reads on error
          ∙ same_verdict (is_some on) (is_asked a kind past) (step.verdict_by kind error) (verdict_on_parts kind (parts s kind r.resources refused)) (λ was. same_error s a past payload r kind refused reads error (tell was))
          ∙ sym seen,
      subst (λ v. step.response_taken (state_of s a past) kind r.version r.nonce error ≡ state_with s (response_came a payload v refused) a past) (sym seen)
          (follows_on s a past payload r kind refused reads on error tell),
    )
