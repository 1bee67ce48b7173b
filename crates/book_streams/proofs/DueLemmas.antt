-- Streams on which at most the answer to a response is due.
use Rattle.std.proofs.Common.{◌≡◌, ◌==◌, ℕ, ◌<◌, Bool, true, false, if◌then◌else◌, Option, Some, None, Result, Ok, Err, List, [], ◌∷◌, ◌++◌, length, get_or, slice_set, refl, sym, subst, ap, ◌∙◌, eqb-true, arith}
use Rattle.std.specs.Prelude.{slice_get, IfSome, OnOk, OnErr}
use Rattle.std.proofs.lemmas.Option.{same_Some, slice_get-get_or}
use Rattle.xc_base.specs.declared.names.Authority.{Authority}
use Rattle.xc_base.specs.declared.names.Key.{Key}
use Rattle.xc_base.specs.declared.names.Kind.{Kind}
use Rattle.proto_discovery.specs.declared.request.Request.{Request}
use Rattle.config_assembly.specs.Orders.{Name}
use Rattle.ads_stream.specs.declared.request_names.Names.{Names}
use Rattle.ads_stream.specs.declared.stream.StreamState.{StreamState}
use Rattle.ads_stream.specs.declared.subscription.Subscription.{Subscription}
use Rattle.ads_stream.specs.StreamSteps.{greeting, is_due, names_of, of_kind, request_of, requests_due, requests_on, responded, response_taken, with_kind, with_request, IsSettledBut}
use Rattle.call_journal.specs.declared.reply.Sent.{Sent}
use Rattle.book_streams.specs.declared.due_requests.Due.{Due}
use Rattle.book_streams.specs.DueRequests.{due_after, kind_due_at, AreSettledBut}
use Rattle.book_streams.specs.StreamsKept.{names_among, place_of}
use Rattle.book_streams.specs.Settling.{AreKept, IsTelling}
use Rattle.book_streams.proofs.MarkLemmas.{set_here}
use Rattle.book_streams.proofs.StepLemmas.{later_same}

-- ---- one stream

not_added : (due : Bool) (before : List Request) (request : Request) → (if due then before ++ request ∷ [] else before) ≡ [] → (due ≡ false) × (before ≡ [])
not_added true [] request is = absurd (cc is)
not_added true (first ∷ before) request is = absurd (cc is)
not_added false before request is = (refl, is)

not_sent : (state : StreamState) (kind : Kind) (asked : List Name) (before : List Request) → with_request state kind asked before ≡ [] → (is_due (of_kind state kind) asked ≡ false) × (before ≡ [])
not_sent state kind asked before none = not_added (is_due (of_kind state kind) asked) before (request_of (of_kind state kind) kind asked (greeting state before)) none

none_due : (state : StreamState) (names : Names) → requests_on state names ≡ [] → (kind : Kind) → is_due (of_kind state kind) (names_of names kind) ≡ false
none_due state names none kind =
    let first : List Request = with_request state Kind.Listener names.listener [] in
    let second : List Request = with_request state Kind.Route names.route first in
    let third : List Request = with_request state Kind.Cluster names.cluster second in
    let endpoint : (is_due state.endpoint names.endpoint ≡ false) × (third ≡ []) = not_sent state Kind.Endpoint names.endpoint third none in
    let cluster : (is_due state.cluster names.cluster ≡ false) × (second ≡ []) = not_sent state Kind.Cluster names.cluster second endpoint.1 in
    let route : (is_due state.route names.route ≡ false) × (first ≡ []) = not_sent state Kind.Route names.route first cluster.1 in
    by kind (not_sent state Kind.Listener names.listener [] route.1).0 route.0 cluster.0 endpoint.0
  where
    by : (kind : Kind) → is_due state.listener names.listener ≡ false → is_due state.route names.route ≡ false → is_due state.cluster names.cluster ≡ false → is_due state.endpoint names.endpoint ≡ false →
        is_due (of_kind state kind) (names_of names kind) ≡ false
    by Kind.Listener l r c e = l
    by Kind.Route l r c e = r
    by Kind.Cluster l r c e = c
    by Kind.Endpoint l r c e = e

-- where nothing is due, nothing of another kind is
settled_but : (state : StreamState) (names : Names) (kind : Kind) → requests_due state names ≡ [] → IsSettledBut state names kind
settled_but state names kind quiet is_up other apart =
    none_due state names (ap (λ b. if b then requests_on state names else []) (sym is_up) ∙ quiet) other

other_kind : (state : StreamState) (s : Subscription) (kind other : Kind) → (other ≡ kind → ⊥) → of_kind (with_kind state kind s) other ≡ of_kind state other
other_kind state s Kind.Listener Kind.Listener apart = absurd (apart refl)
other_kind state s Kind.Listener Kind.Route apart = refl
other_kind state s Kind.Listener Kind.Cluster apart = refl
other_kind state s Kind.Listener Kind.Endpoint apart = refl
other_kind state s Kind.Route Kind.Listener apart = refl
other_kind state s Kind.Route Kind.Route apart = absurd (apart refl)
other_kind state s Kind.Route Kind.Cluster apart = refl
other_kind state s Kind.Route Kind.Endpoint apart = refl
other_kind state s Kind.Cluster Kind.Listener apart = refl
other_kind state s Kind.Cluster Kind.Route apart = refl
other_kind state s Kind.Cluster Kind.Cluster apart = absurd (apart refl)
other_kind state s Kind.Cluster Kind.Endpoint apart = refl
other_kind state s Kind.Endpoint Kind.Listener apart = refl
other_kind state s Kind.Endpoint Kind.Route apart = refl
other_kind state s Kind.Endpoint Kind.Cluster apart = refl
other_kind state s Kind.Endpoint Kind.Endpoint apart = absurd (apart refl)

-- a response changes its own kind alone
changed_but : (state : StreamState) (names : Names) (kind : Kind) (s : Subscription) (up : Bool) → state.is_up ≡ up → IsSettledBut state names kind → IsSettledBut (if up then with_kind state kind s else state) names kind
changed_but state names kind s false is settled = settled
changed_but state names kind s true is settled = λ up other apart. ap (λ known. is_due known (names_of names other)) (other_kind state s kind other apart) ∙ settled is other apart

responded_but : (state new : StreamState) (names : Names) (kind : Kind) (version nonce : Name) (error : Option Name) {X Y : Type 0} (result : Result X Y) →
    OnOk result (new ≡ response_taken state kind version nonce error) → OnErr result (new ≡ state) → IsSettledBut state names kind → IsSettledBut new names kind
responded_but state new names kind version nonce error (Ok verdict) taken kept settled =
    subst (λ x. IsSettledBut x names kind) (sym taken) (changed_but state names kind (responded (of_kind state kind) version nonce error) state.is_up refl settled)
responded_but state new names kind version nonce error (Err fault) taken kept settled = subst (λ x. IsSettledBut x names kind) (sym kept) settled

-- ---- all of them

pub any_settled : (states : List StreamState) (names : Authority → Names) → AreSettledBut states names Due.Any
any_settled states names place kind state is at = absurd (cc is)

same_place : (here place : ℕ) (kind other : Kind) (same : Bool) → (here == place) ≡ same → (if same then Some kind else None) ≡ Some other → (here ≡ place) × (kind ≡ other)
same_place here place kind other true test is = (eqb-true here place test, same_Some kind other is)
same_place here place kind other false test is = absurd (cc is)

-- only the answer to a response is due on a stream on which nothing was
pub settled_responded : (states : List StreamState) (marks : List Bool) (told : List Key) (place : ℕ) (kind : Kind) (item new : StreamState) (was_marked : Bool) (version nonce : Name) (error : Option Name) {X Y : Type 0} (result : Result X Y) →
    AreKept states marks told → place < length states → item ≡ get_or states place item → slice_get marks place ≡ Some was_marked →
    OnOk result (new ≡ response_taken item kind version nonce error) → OnErr result (new ≡ item) → AreSettledBut (slice_set states place new) (names_among told) (due_after place kind was_marked)
settled_responded states marks told place kind item new true version nonce error result kept lt is mark taken stays p other state at found = absurd (cc at)
settled_responded states marks told place kind item new false version nonce error result kept lt is mark taken stays p other state at found =
    let same : (place ≡ p) × (kind ≡ other) = same_place place p kind other (place == p) refl at in
    let here : slice_get states place ≡ Some item = slice_get-get_or states place item lt ∙ ap (λ x. Some x) (sym is) in
    let before : IsSettledBut item (names_among told (place_of place)) kind = settled_but item (names_among told (place_of place)) kind (kept.settled place item here mark).quiet in
    let new_is : new ≡ state = same_Some new state (sym (set_here states place new lt) ∙ ap (λ n. slice_get (slice_set states place new) n) same.0 ∙ found) in
    let after : IsSettledBut new (names_among told (place_of place)) kind = responded_but item new (names_among told (place_of place)) kind version nonce error result taken stays before in
    subst (λ x. IsSettledBut x (names_among told (place_of p)) other) new_is
    (subst (λ k. IsSettledBut new (names_among told (place_of p)) k) same.1 (subst (λ n. IsSettledBut new (names_among told (place_of n)) kind) same.0 after))

-- the next stream that is told is as it was
pub settled_next : (names : Authority → Names) (before states : List StreamState) (marks : List Bool) (sent : List Sent) (place end : ℕ) (due : Due) (item : StreamState) (kind : Kind) →
    IsTelling names before states marks sent place end → AreSettledBut before names due → place < end → item ≡ get_or states place item → kind_due_at due place ≡ Some kind → IsSettledBut item (names (place_of place)) kind
settled_next names before states marks sent place end due item kind t settled lt is at =
    let inside : place < length before = omega (arith, lt, t.within) in
    let was : item ≡ get_or before place item = is ∙ ap (λ xs. get_or xs place item) t.stand ∙ later_same names 0 place before item in
    settled place kind item at (slice_get-get_or before place item inside ∙ ap (λ x. Some x) (sym was))

pub settled_given : (names : Authority → Names) (before states : List StreamState) (marks : List Bool) (sent : List Sent) (place end : ℕ) (due : Due) (item : StreamState) (given : Option Kind) →
    IsTelling names before states marks sent place end → AreSettledBut before names due → place < end → item ≡ get_or states place item → given ≡ kind_due_at due place → IfSome given (λ kind. IsSettledBut item (names (place_of place)) kind)
settled_given names before states marks sent place end due item None t settled lt at is = tt
settled_given names before states marks sent place end due item (Some kind) t settled lt at is = settled_next names before states marks sent place end due item kind t settled lt at (sym is)
