-- Streams on which at most a request of one kind is due.
use Rattle.std.proofs.Common.{◌≡◌, ◌==◌, ◌||◌, not, Bool, true, false, if◌then◌else◌, List, [], ◌∷◌, ◌++◌, length, Option, Some, None, refl, sym, ap, ap₂, ◌∙◌, is_some}
use Rattle.proto_discovery.specs.declared.request.Request.{Request}
use Rattle.xc_base.specs.declared.names.Kind.{Kind}
use Rattle.xc_base.specs.declared.names.Kind.TheVariants.{Listener, Route, Cluster, Endpoint}
use Rattle.ads_stream.specs.declared.request_names.Names.{Names}
use Rattle.ads_stream.specs.declared.stream.StreamState.{StreamState}
use Rattle.ads_stream.specs.declared.subscription.Answer.{Answer}
use Rattle.ads_stream.specs.declared.subscription.Subscription.{Subscription}
use Rattle.ads_stream.specs.StreamSteps.{Text, after_request, differs, greeting, is_due, names_of, names_sent, names_told, of_kind, request_of, requests_due, requests_on, with_kind, with_request, IsSettledBut}

-- ---- one kind

no_answer : (answer : Option Answer) (other : Bool) → (is_some answer || other) ≡ false → answer ≡ None
no_answer None other is = refl
no_answer (Some answer) other is = absurd (cc is)

-- what nothing is due for stays as it is
stays : (s : Subscription) (names : List Text) → is_due s names ≡ false → after_request s names ≡ s
stays s names none =
    ap₂ (λ due answer. record { version = s.version; nonce = s.nonce; asked = if due then Some names else s.asked; answer = answer }) none
    (sym (no_answer s.answer (differs s.asked names) none))

-- ---- a stream

module _ (state : StreamState) (names : Names) where
  no_request : (kind : Kind) (before : List Request) → is_due (of_kind state kind) (names_of names kind) ≡ false → with_request state kind (names_of names kind) before ≡ before
  no_request kind before none =
      ap (λ due. if due then before ++ request_of (of_kind state kind) kind (names_of names kind) (greeting state before) ∷ [] else before) none

  abbrev AreOthersSettled : Kind → Type 0
  AreOthersSettled kind = (other : Kind) → (other ≡ kind → ⊥) → is_due (of_kind state other) (names_of names other) ≡ false

  abbrev sent_once : Kind → List Request
  sent_once kind = with_request state kind (names_of names kind) []

  abbrev add : Kind → List Request → List Request
  add kind before = with_request state kind (names_of names kind) before

  one_sent : (kind : Kind) → AreOthersSettled kind → requests_on state names ≡ sent_once kind
  one_sent Listener settled =
      no_request Endpoint _ (settled Endpoint (λ e. cc e)) ∙ no_request Cluster _ (settled Cluster (λ e. cc e)) ∙ no_request Route _ (settled Route (λ e. cc e))
  one_sent Route settled =
      no_request Endpoint _ (settled Endpoint (λ e. cc e)) ∙ no_request Cluster _ (settled Cluster (λ e. cc e)) ∙ ap (λ before. add Route before) (no_request Listener [] (settled Listener (λ e. cc e)))
  one_sent Cluster settled =
      no_request Endpoint _ (settled Endpoint (λ e. cc e))
      ∙ ap (λ before. add Cluster before) (no_request Route _ (settled Route (λ e. cc e)) ∙ no_request Listener [] (settled Listener (λ e. cc e)))
  one_sent Endpoint settled =
      ap (λ before. add Endpoint before)
      (no_request Cluster _ (settled Cluster (λ e. cc e)) ∙ no_request Route _ (settled Route (λ e. cc e)) ∙ no_request Listener [] (settled Listener (λ e. cc e)))

  abbrev made : Bool → Subscription → Subscription → Subscription → Subscription → StreamState
  made greeted l r c e = record { node = state.node; is_up = state.is_up; is_greeted = greeted; listener = l; route = r; cluster = c; endpoint = e }

  -- what is known of a kind once its request has been sent
  abbrev next : Kind → Subscription
  next kind = after_request (of_kind state kind) (names_of names kind)

  next_is : (kind : Kind) → is_due (of_kind state kind) (names_of names kind) ≡ false → next kind ≡ of_kind state kind
  next_is kind none = stays (of_kind state kind) (names_of names kind) none

  one_renewed : (kind : Kind) (greeted : Bool) → AreOthersSettled kind → made greeted (next Listener) (next Route) (next Cluster) (next Endpoint) ≡ with_kind (record state { is_greeted = greeted }) kind (next kind)
  one_renewed Listener greeted settled =
      ap₂ (λ r c. made greeted (next Listener) r c (next Endpoint)) (next_is Route (settled Route (λ e. cc e))) (next_is Cluster (settled Cluster (λ e. cc e)))
      ∙ ap (λ e. made greeted (next Listener) state.route state.cluster e) (next_is Endpoint (settled Endpoint (λ e. cc e)))
  one_renewed Route greeted settled =
      ap₂ (λ l c. made greeted l (next Route) c (next Endpoint)) (next_is Listener (settled Listener (λ e. cc e))) (next_is Cluster (settled Cluster (λ e. cc e)))
      ∙ ap (λ e. made greeted state.listener (next Route) state.cluster e) (next_is Endpoint (settled Endpoint (λ e. cc e)))
  one_renewed Cluster greeted settled =
      ap₂ (λ l r. made greeted l r (next Cluster) (next Endpoint)) (next_is Listener (settled Listener (λ e. cc e))) (next_is Route (settled Route (λ e. cc e)))
      ∙ ap (λ e. made greeted state.listener state.route (next Cluster) e) (next_is Endpoint (settled Endpoint (λ e. cc e)))
  one_renewed Endpoint greeted settled =
      ap₂ (λ l r. made greeted l r (next Cluster) (next Endpoint)) (next_is Listener (settled Listener (λ e. cc e))) (next_is Route (settled Route (λ e. cc e)))
      ∙ ap (λ c. made greeted state.listener state.route c (next Endpoint)) (next_is Cluster (settled Cluster (λ e. cc e)))

  -- ---- one that is up

  module _ (kind : Kind) (is_up : state.is_up ≡ true) (settled : IsSettledBut state names kind) where
    one_due : requests_due state names ≡ sent_once kind
    one_due = ap (λ b. if b then requests_on state names else []) is_up ∙ one_sent kind (settled is_up)

    pub answer_sends : (asked : List Text) (before requests : List Request) → asked ≡ names_of names kind → before ≡ [] → requests ≡ with_request state kind asked before → requests ≡ requests_due state names
    answer_sends asked before requests named none is = is ∙ ap₂ (λ asked before. with_request state kind asked before) named none ∙ sym one_due

    one_told : names_told state names ≡ with_kind (record state { is_greeted = state.is_greeted || not (length (sent_once kind) == 0) }) kind (next kind)
    one_told =
        ap (λ b. if b then names_sent state names else state) is_up
        ∙ one_renewed kind (state.is_greeted || not (length (requests_on state names) == 0)) (settled is_up)
        ∙ ap (λ sent. with_kind (record state { is_greeted = state.is_greeted || not (length sent == 0) }) kind (next kind)) (one_sent kind (settled is_up))

    pub answer_leaves : (known known_next : Subscription) (asked : List Text) (requests : List Request) (greeted : Bool) (new : StreamState) → known ≡ of_kind state kind → asked ≡ names_of names kind →
        requests ≡ requests_due state names → known_next ≡ after_request known asked → greeted ≡ (state.is_greeted || not (length requests == 0)) →
        new ≡ with_kind (record state { is_greeted = greeted }) kind known_next → new ≡ names_told state names
    answer_leaves known known_next asked requests greeted new is named due renewed greets kept =
        kept
        ∙ ap₂ (λ g s. with_kind (record state { is_greeted = g }) kind s) (greets ∙ ap (λ sent. state.is_greeted || not (length sent == 0)) (due ∙ one_due)) (renewed ∙ ap₂ (λ s asked. after_request s asked) is named)
        ∙ sym one_told
