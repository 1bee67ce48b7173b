-- The requests that every list of calls makes due.
use Rattle.std.proofs.Common.{◌≡◌, Bool, true, false, cond, List, [], ◌∷◌, ◌++◌, Option, Some, None, refl, sym, ap, ◌∙◌}
use Rattle.std.specs.Prelude.{◌||◌, is_some}
use Rattle.std.specs.Option.{option_or}
use Rattle.proto_discovery.specs.declared.request.Request.{Request}
use Rattle.xc_base.specs.declared.call.Node.{Node}
use Rattle.xc_base.specs.declared.names.Kind.{Kind}
use Rattle.xc_base.specs.declared.names.Kind.TheVariants.{Listener, Route, Cluster, Endpoint}
use Rattle.ads_stream.specs.declared.request_names.Names.{Names}
use Rattle.ads_stream.specs.declared.stream.StreamState.{StreamState}
use Rattle.ads_stream.specs.declared.subscription.Answer.{Answer}
use Rattle.ads_stream.specs.declared.subscription.Subscription.{Subscription}
use Rattle.ads_stream.specs.declared.verdict.Verdict.{Verdict}
use Rattle.ads_stream.specs.declared.verdict.Verdict.TheVariants.{Closed, Ignored}
use Rattle.ads_stream.specs.StreamSteps as step
use Rattle.ads_stream.specs.StreamSteps.{Text, is_due, of_kind, with_kind, with_response, verdict_by, with_request, requests_on, names_after_request, after_request}
use Rattle.ads_stream.specs.StreamCalls.{Event, opened, lost, response, names, After, is_up, is_kind, names_in, version, nonce, asked, answer_to, answer, is_greeted, subscription, state_by, AreAnswered, FollowCalls}

-- ---- the names of the requests that are due

names_append : (kind : Kind) (before : List Request) (request : Request) → names_in kind (before ++ request ∷ []) ≡ option_or (names_in kind before) (names_in kind (request ∷ []))
names_append kind [] request = refl
names_append kind (first ∷ before) request = by (is_kind kind first.kind) (names_append kind before request)
  where
    by : (b : Bool) → names_in kind (before ++ request ∷ []) ≡ option_or (names_in kind before) (names_in kind (request ∷ [])) →
        cond b (Some first.names) (names_in kind (before ++ request ∷ [])) ≡ option_or (cond b (Some first.names) (names_in kind before)) (names_in kind (request ∷ []))
    by true is = refl
    by false is = is

or_none : {X : Type 0} (o : Option X) → option_or o None ≡ o
or_none None = refl
or_none (Some x) = refl

-- a request of another kind
passes : (kind other : Kind) (state : StreamState) (ns : List Text) (before : List Request) → is_kind kind other ≡ false → names_in kind (with_request state other ns before) ≡ names_in kind before
passes kind other state ns before differ = by (is_due (of_kind state other) ns)
  where
    by : (b : Bool) → names_in kind (cond b (before ++ step.request_of (of_kind state other) other ns (step.greeting state before) ∷ []) before) ≡ names_in kind before
    by true =
        names_append kind before (step.request_of (of_kind state other) other ns (step.greeting state before))
        ∙ ap (λ b. option_or (names_in kind before) (cond b (Some ns) None)) differ ∙ or_none (names_in kind before)
    by false = refl

-- one of the kind, where there was none before
finds : (kind : Kind) (state : StreamState) (ns : List Text) (before : List Request) → is_kind kind kind ≡ true → names_in kind before ≡ None →
    names_in kind (with_request state kind ns before) ≡ cond (is_due (of_kind state kind) ns) (Some ns) None
finds kind state ns before same none = by (is_due (of_kind state kind) ns)
  where
    by : (b : Bool) → names_in kind (cond b (before ++ step.request_of (of_kind state kind) kind ns (step.greeting state before) ∷ []) before) ≡ cond b (Some ns) None
    by true =
        names_append kind before (step.request_of (of_kind state kind) kind ns (step.greeting state before))
        ∙ ap (λ b. option_or (names_in kind before) (cond b (Some ns) None)) same ∙ ap (λ o. option_or o (Some ns)) none
    by false = none

abbrev after_listener : StreamState → Names → List Request
after_listener state ns = with_request state Listener ns.listener []

abbrev after_route : StreamState → Names → List Request
after_route state ns = with_request state Route ns.route (after_listener state ns)

abbrev after_cluster : StreamState → Names → List Request
after_cluster state ns = with_request state Cluster ns.cluster (after_route state ns)

listener_names : (state : StreamState) (ns : Names) → names_in Listener (requests_on state ns) ≡ cond (is_due state.listener ns.listener) (Some ns.listener) None
listener_names state ns =
    passes Listener Endpoint state ns.endpoint (after_cluster state ns) refl ∙ passes Listener Cluster state ns.cluster (after_route state ns) refl
    ∙ passes Listener Route state ns.route (after_listener state ns) refl ∙ finds Listener state ns.listener [] refl refl

route_names : (state : StreamState) (ns : Names) → names_in Route (requests_on state ns) ≡ cond (is_due state.route ns.route) (Some ns.route) None
route_names state ns =
    passes Route Endpoint state ns.endpoint (after_cluster state ns) refl ∙ passes Route Cluster state ns.cluster (after_route state ns) refl
    ∙ finds Route state ns.route (after_listener state ns) refl (passes Route Listener state ns.listener [] refl)

cluster_names : (state : StreamState) (ns : Names) → names_in Cluster (requests_on state ns) ≡ cond (is_due state.cluster ns.cluster) (Some ns.cluster) None
cluster_names state ns =
    passes Cluster Endpoint state ns.endpoint (after_cluster state ns) refl
    ∙ finds Cluster state ns.cluster (after_route state ns) refl (passes Cluster Route state ns.route (after_listener state ns) refl ∙ passes Cluster Listener state ns.listener [] refl)

endpoint_names : (state : StreamState) (ns : Names) → names_in Endpoint (requests_on state ns) ≡ cond (is_due state.endpoint ns.endpoint) (Some ns.endpoint) None
endpoint_names state ns =
    finds Endpoint state ns.endpoint (after_cluster state ns) refl
    (passes Endpoint Cluster state ns.cluster (after_route state ns) refl ∙ passes Endpoint Route state ns.route (after_listener state ns) refl ∙ passes Endpoint Listener state ns.listener [] refl)

-- ---- one kind after names were told

or_if : (b : Bool) (ns : List Text) (o : Option (List Text)) → option_or (cond b (Some ns) None) o ≡ cond b (Some ns) o
or_if true ns o = refl
or_if false ns o = refl

asked_since : (kind : Kind) (past : List Event) (watched : Names) (requests : List Request) (ns : List Text) → names_in kind requests ≡ cond (is_due (subscription kind past) ns) (Some ns) None →
    subscription kind (names watched requests ∷ past) ≡ after_request (subscription kind past) ns
asked_since kind past watched requests ns is =
    let make : Option (List Text) → Subscription = λ o. record { version = version kind past; nonce = nonce kind past; asked = o; answer = None } in
    ap (λ o. make (option_or o (asked kind past))) is ∙ ap make (or_if (is_due (subscription kind past) ns) ns (asked kind past))

-- ---- a call after others

abbrev stands_of : Node → Bool → Bool → Subscription → Subscription → Subscription → Subscription → StreamState
stands_of node up greeted listener route cluster endpoint =
    record { node = node; is_up = up; is_greeted = greeted; listener = listener; route = route; cluster = cluster; endpoint = endpoint }

same_parts : (node : Node) (up greeted greeted2 : Bool) (l l2 r r2 c c2 e e2 : Subscription) → greeted ≡ greeted2 → l ≡ l2 → r ≡ r2 → c ≡ c2 → e ≡ e2 →
    stands_of node up greeted l r c e ≡ stands_of node up greeted2 l2 r2 c2 e2
same_parts node up greeted greeted2 l l2 r r2 c c2 e e2 gs ls rs cs es =
    let make : Bool → Subscription → Subscription → Subscription → Subscription → StreamState = stands_of node up in
    ap (λ g. make g l r c e) gs ∙ ap (λ s. make greeted2 s r c e) ls ∙ ap (λ s. make greeted2 l2 s c e) rs ∙ ap (λ s. make greeted2 l2 r2 s e) cs ∙ ap (λ s. make greeted2 l2 r2 c2 s) es

with_itself : (state : StreamState) (kind : Kind) → with_kind state kind (of_kind state kind) ≡ state
with_itself state Listener = refl
with_itself state Route = refl
with_itself state Cluster = refl
with_itself state Endpoint = refl

answers_one : (node : Node) (past : List Event) (kind : Kind) (v n : Text) (error : Option Text) →
    state_by node (response kind v n error (verdict_by kind error) ∷ past) ≡ with_kind (state_by node past) kind (with_response (of_kind (state_by node past) kind) v n error)
answers_one node past Listener v n None = refl
answers_one node past Listener v n (Some error) = refl
answers_one node past Route v n None = refl
answers_one node past Route v n (Some error) = refl
answers_one node past Cluster v n None = refl
answers_one node past Cluster v n (Some error) = refl
answers_one node past Endpoint v n None = refl
answers_one node past Endpoint v n (Some error) = refl

taken : (up asks : Bool) (node : Node) (past : List Event) (kind : Kind) (v n : Text) (error : Option Text) (verdict : Verdict) → verdict ≡ cond up (cond asks (verdict_by kind error) Ignored) Closed →
    state_by node (response kind v n error verdict ∷ past) ≡
    cond up (with_kind (state_by node past) kind (cond asks (with_response (of_kind (state_by node past) kind) v n error) (of_kind (state_by node past) kind))) (state_by node past)
taken false asks node past kind v n error verdict is = ap (λ w. state_by node (response kind v n error w ∷ past)) is
taken true false node past kind v n error verdict is = ap (λ w. state_by node (response kind v n error w ∷ past)) is ∙ sym (with_itself (state_by node past) kind)
taken true true node past kind v n error verdict is = ap (λ w. state_by node (response kind v n error w ∷ past)) is ∙ answers_one node past kind v n error

-- nothing is to be answered where no stream is up
down_none : (node : Node) (past : List Event) (kind : Kind) → AreAnswered node past → is_up past ≡ false → answer kind past ≡ None
down_none node [] kind answers down = refl
down_none node (opened ∷ past) kind answers down = cc
down_none node (lost was_up ∷ past) kind answers down = refl
down_none node (response other v n error verdict ∷ past) kind (is, answers) down =
    let closed : verdict ≡ Closed = is ∙ ap (λ up. cond up (step.verdict_on (of_kind (state_by node past) other) other error) Closed) down in
    ap (λ w. option_or (answer_to kind w error) (answer kind past)) closed ∙ down_none node past kind answers down
down_none node (names watched requests ∷ past) kind answers down = refl

untold : (node : Node) (past : List Event) (kind : Kind) (watched : Names) → AreAnswered node past → is_up past ≡ false → subscription kind (names watched [] ∷ past) ≡ subscription kind past
untold node past kind watched answers down =
    let make : Option Answer → Subscription = λ o. record { version = version kind past; nonce = nonce kind past; asked = asked kind past; answer = o } in
    ap make (sym (down_none node past kind answers down))

or_false : (b : Bool) → b || false ≡ b
or_false true = refl
or_false false = refl

state_after_requests : (up : Bool) (node : Node) (past : List Event) (watched : Names) (requests : List Request) → is_up past ≡ up → AreAnswered node past →
    requests ≡ cond up (requests_on (state_by node past) watched) [] → state_by node (names watched requests ∷ past) ≡ cond up (step.names_sent (state_by node past) watched) (state_by node past)
state_after_requests true node past watched requests up answers is =
    let state = state_by node past in
    ap (λ rs. state_by node (names watched rs ∷ past)) is
    ∙ same_parts node (is_up past) _ _ _ _ _ _ _ _ _ _ refl
    (asked_since Listener past watched (requests_on state watched) watched.listener (listener_names state watched))
    (asked_since Route past watched (requests_on state watched) watched.route (route_names state watched))
    (asked_since Cluster past watched (requests_on state watched) watched.cluster (cluster_names state watched))
    (asked_since Endpoint past watched (requests_on state watched) watched.endpoint (endpoint_names state watched))
state_after_requests false node past watched requests down answers is =
    ap (λ rs. state_by node (names watched rs ∷ past)) is
    ∙ same_parts node (is_up past) _ _ _ _ _ _ _ _ _ _ (or_false (is_greeted past))
    (untold node past Listener watched answers down) (untold node past Route watched answers down) (untold node past Cluster watched answers down) (untold node past Endpoint watched answers down)

-- ---- the law

pub follow_calls : (node : Node) (events : List Event) (state : StreamState) → After node events state → FollowCalls node events state
follow_calls node [] state after = record { answers = tt; stands = after }
follow_calls node (opened ∷ past) state (before, after, is) =
    let earlier = follow_calls node past before after in
    record { answers = (tt, earlier.answers); stands = is ∙ ap (λ s. step.opened s) earlier.stands }
follow_calls node (lost was_up ∷ past) state (before, after, (was, is)) =
    let earlier = follow_calls node past before after in
    record { answers = (was ∙ ap (λ s. s.is_up) earlier.stands, earlier.answers); stands = is ∙ ap (λ s. step.lost s) earlier.stands }
follow_calls node (response kind v n error verdict ∷ past) state (before, after, (was, is)) =
    let earlier = follow_calls node past before after in
    let told_is : verdict ≡ step.verdict_of (state_by node past) kind error = was ∙ ap (λ s. step.verdict_of s kind error) earlier.stands in
    record {
      answers = (told_is, earlier.answers);
      stands = is ∙ ap (λ s. step.response_taken s kind v n error) earlier.stands ∙ sym (taken (is_up past) (is_some (of_kind (state_by node past) kind).asked) node past kind v n error verdict told_is);
    }
follow_calls node (names watched requests ∷ past) state (before, after, (was, is)) =
    let earlier = follow_calls node past before after in
    let told_is : requests ≡ step.requests_due (state_by node past) watched = was ∙ ap (λ s. step.requests_due s watched) earlier.stands in
    record {
      answers = (told_is, earlier.answers);
      stands = is ∙ ap (λ s. step.names_told s watched) earlier.stands ∙ sym (state_after_requests (is_up past) node past watched requests refl earlier.answers told_is);
    }
