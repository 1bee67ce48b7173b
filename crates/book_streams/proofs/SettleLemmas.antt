-- Streams on which nothing is due once names were told.
use Rattle.std.proofs.Common.{◌≡◌, ◌==◌, Bool, true, false, ◌||◌, not, if◌then◌else◌, Option, Some, None, List, [], ◌∷◌, ◌++◌, length, refl, sym, subst, ap, ap₂, ◌∙◌, is_some}
use Rattle.std.specs.Cmp.Lexicographic.{pointwise}
use Rattle.std.proofs.lemmas.Bool.Decides.{Decides-eqb}
use Rattle.std.proofs.lemmas.Slice.Eq.{slice_eq-Decides}
use Rattle.xc_base.specs.declared.names.Kind.{Kind}
use Rattle.proto_discovery.specs.declared.request.Request.{Request}
use Rattle.config_assembly.specs.Orders.{Name}
use Rattle.ads_stream.specs.declared.request_names.Names.{Names}
use Rattle.ads_stream.specs.declared.stream.StreamState.{StreamState}
use Rattle.ads_stream.specs.declared.subscription.Subscription.{Subscription}
use Rattle.ads_stream.specs.StreamSteps as step
use Rattle.book_streams.specs.Settling.{IsSettledBy}

-- ---- one kind

same_self : (names : List Name) → step.are_same names names ≡ true
same_self names = (slice_eq-Decides (λ a b. slice_eq-Decides Decides-eqb a b (pointwise ◌==◌ a b) refl) names names (pointwise (pointwise ◌==◌) names names) refl).1 refl

no_more : (answered due : Bool) → false ≡ (answered || due) → due ≡ false
no_more true due is = absurd (cc is)
no_more false due is = sym is

differs_no_more : (due answered : Bool) (last : Option (List Name)) (names : List Name) → due ≡ (answered || step.differs last names) → step.differs (if due then Some names else last) names ≡ false
differs_no_more true answered last names is = ap not (same_self names)
differs_no_more false answered last names is = no_more answered (step.differs last names) is

due_no_more : (s : Subscription) (names : List Name) → step.is_due (step.after_request s names) names ≡ false
due_no_more s names = differs_no_more (step.is_due s names) (is_some s.answer) s.asked names refl

asked_again : (s : Subscription) (names : List Name) → step.after_request (step.after_request s names) names ≡ step.after_request s names
asked_again s names =
    ap (λ b. record { version = s.version; nonce = s.nonce; asked = if b then Some names else step.names_after_request s names; answer = None }) (due_no_more s names)

-- ---- a stream

abbrev made : StreamState → Bool → Subscription → Subscription → Subscription → Subscription → StreamState
made state greeted l r c e = record { node = state.node; is_up = state.is_up; is_greeted = greeted; listener = l; route = r; cluster = c; endpoint = e }

or_false : (b : Bool) → (b || false) ≡ b
or_false true = refl
or_false false = refl

module _ (state : StreamState) (names : Names) (greeted : Bool) where
  abbrev after : StreamState
  after = step.state_after_requests state names greeted

  no_request : (kind : Kind) (asked : List Name) (rs : List Request) → step.is_due (step.of_kind after kind) asked ≡ false → step.with_request after kind asked rs ≡ rs
  no_request kind asked rs none =
      ap (λ b. if b then rs ++ step.request_of (step.of_kind after kind) kind asked (step.greeting after rs) ∷ [] else rs) none

  no_requests : step.requests_on after names ≡ []
  no_requests =
      ap (λ rs. step.with_request after Kind.Endpoint names.endpoint (step.with_request after Kind.Cluster names.cluster (step.with_request after Kind.Route names.route rs))) (no_request Kind.Listener names.listener [] (due_no_more state.listener names.listener))
      ∙ ap (λ rs. step.with_request after Kind.Endpoint names.endpoint (step.with_request after Kind.Cluster names.cluster rs)) (no_request Kind.Route names.route [] (due_no_more state.route names.route))
      ∙ ap (λ rs. step.with_request after Kind.Endpoint names.endpoint rs) (no_request Kind.Cluster names.cluster [] (due_no_more state.cluster names.cluster))
      ∙ no_request Kind.Endpoint names.endpoint [] (due_no_more state.endpoint names.endpoint)

  greeted_again : (greeted || not (length (step.requests_on after names) == 0)) ≡ greeted
  greeted_again = ap (λ rs. greeted || not (length rs == 0)) no_requests ∙ or_false greeted

  sent_again : step.names_sent after names ≡ after
  sent_again =
      ap₂ (λ g l. made state g l (step.after_request after.route names.route) (step.after_request after.cluster names.cluster) (step.after_request after.endpoint names.endpoint)) greeted_again (asked_again state.listener names.listener)
      ∙ ap₂ (λ r c. made state greeted after.listener r c (step.after_request after.endpoint names.endpoint)) (asked_again state.route names.route) (asked_again state.cluster names.cluster)
      ∙ ap (λ e. made state greeted after.listener after.route after.cluster e) (asked_again state.endpoint names.endpoint)

pub settled_down : (state : StreamState) (names : Names) → state.is_up ≡ false → IsSettledBy state names
settled_down state names down = record {
  stands = ap (λ b. if b then step.names_sent state names else state) down;
  quiet = ap (λ b. if b then step.requests_on state names else []) down;
}

settled_if : (state : StreamState) (names : Names) (up : Bool) → state.is_up ≡ up → IsSettledBy (step.names_told state names) names
settled_if state names false is =
    let told : step.names_told state names ≡ state = ap (λ b. if b then step.names_sent state names else state) is in
    subst (λ x. IsSettledBy x names) (sym told) (settled_down state names is)
settled_if state names true is =
    let greeted : Bool = state.is_greeted || not (length (step.requests_on state names) == 0) in
    let sent : StreamState = step.state_after_requests state names greeted in
    let told : step.names_told state names ≡ sent = ap (λ b. if b then step.names_sent state names else state) is in
    subst (λ x. IsSettledBy x names) (sym told) (record {
      stands = ap (λ b. if b then step.names_sent sent names else sent) is ∙ sent_again state names greeted;
      quiet = ap (λ b. if b then step.requests_on sent names else []) is ∙ no_requests state names greeted;
    })

-- to be told names settles a stream by them
pub settled_after : (state : StreamState) (names : Names) → IsSettledBy (step.names_told state names) names
settled_after state names = settled_if state names state.is_up refl
