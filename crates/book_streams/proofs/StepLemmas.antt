-- The streams of all authorities, step by step.
use Rattle.std.proofs.Common.{◌≡◌, ℕ, zero, suc, ◌+◌, ◌<◌, ◌≤◌, Bool, false, if◌then◌else◌, Some, None, List, [], ◌∷◌, ◌++◌, map, length, get_or, slice_set, refl, sym, ap, ap₂, ◌∙◌, append_assoc, append-nil, arith}
use Rattle.std.specs.Prelude.{Contains}
use Rattle.std.specs.List.{cons_option, flat_map, range_with_len}
use Rattle.xc_keys.proofs.MemberLemmas.{here, there}
use Rattle.xc_base.specs.declared.call.Node.{Node}
use Rattle.xc_base.specs.declared.names.Kind.{Kind}
use Rattle.xc_base.specs.declared.names.Authority.{Authority}
use Rattle.xc_base.specs.declared.names.Key.{Key}
use Rattle.proto_discovery.specs.declared.request.Request.{Request}
use Rattle.config_assembly.specs.Orders.{Name}
use Rattle.ads_stream.specs.declared.stream.StreamState.{StreamState}
use Rattle.ads_stream.specs.declared.request_names.Names.{Names}
use Rattle.ads_stream.specs.StreamSteps.{names_told, names_sent, requests_due, requests_on, unopened}
use Rattle.call_journal.specs.declared.reply.Sent.{Sent}
use Rattle.xds_history.specs.declared.page.Watched.{Watched}
use Rattle.std.proofs.lemmas.List.FromFn.{length-map-range_with_len, map-range_with_len_more}
use Rattle.call_journal.specs.declared.event.DriverEvent.{DriverEvent}
use Rattle.call_journal.specs.declared.reply.DriverReply.{DriverReply}
use Rattle.call_journal.specs.declared.entry.Entry.{Entry}
use Rattle.xds_history.specs.Setting.{Setting}
use Rattle.xds_history.specs.Responses.{Came}
use Rattle.xds_history.specs.Requests.{requests, requests_to, sent_to, watched_names}
use Rattle.xds_history.specs.Pages.{came}
use Rattle.book_streams.specs.StreamsKept.{place_of, names_at, is_asked_of, key_names, names_among, watched_keys, state_of, state_with, states_of, states_with}
use Rattle.book_streams.specs.StreamsLaws.{entry_of}
use Rattle.book_streams.proofs.RequestLemmas.{requests_follow, names_follow}
use Rattle.book_streams.specs.Telling.{told_first, sent_first}

module _ (names : Authority → Names) where
  -- those that come later are as they were
  pub later_same : (p n : ℕ) (states : List StreamState) (d : StreamState) → get_or (told_first p n names states) n d ≡ get_or states n d
  later_same p zero states d = refl
  later_same p (suc n) [] d = refl
  later_same p (suc n) (state ∷ states) d = later_same (p + 1) n states d

  pub told_more : (p n j : ℕ) (states : List StreamState) (d : StreamState) → p + n ≡ j → n < length states →
      slice_set (told_first p n names states) n (names_told (get_or states n d) (names (place_of j))) ≡ told_first p (suc n) names states
  told_more p n j [] d is lt = absurd (omega (arith, lt))
  told_more p zero j (state ∷ states) d is lt =
      let same : p ≡ j = omega (arith, is) in ap (λ k. names_told state (names (place_of k)) ∷ states) (sym same)
  told_more p (suc n) j (state ∷ states) d is lt =
      ap (λ xs. names_told state (names (place_of p)) ∷ xs) (told_more (p + 1) n j states d (omega (arith, is)) (omega (arith, lt)))

  pub sent_more : (p n j : ℕ) (states : List StreamState) (d : StreamState) → p + n ≡ j → n < length states →
      sent_first p n names states ++ map (sent_to (place_of j)) (requests_due (get_or states n d) (names (place_of j))) ≡ sent_first p (suc n) names states
  sent_more p n j [] d is lt = absurd (omega (arith, lt))
  sent_more p zero j (state ∷ states) d is lt =
      let same : p ≡ j = omega (arith, is) in
      ap (λ k. map (sent_to (place_of k)) (requests_due state (names (place_of k)))) (sym same)
      ∙ sym (append-nil (map (sent_to (place_of p)) (requests_due state (names (place_of p)))))
  sent_more p (suc n) j (state ∷ states) d is lt =
      append_assoc (map (sent_to (place_of p)) (requests_due state (names (place_of p)))) (sent_first (p + 1) n names states) (map (sent_to (place_of j)) (requests_due (get_or states n d) (names (place_of j))))
      ∙ ap (λ xs. map (sent_to (place_of p)) (requests_due state (names (place_of p))) ++ xs) (sent_more (p + 1) n j states d (omega (arith, is)) (omega (arith, lt)))

  -- over a list made from the places
  pub told_all : (f g : ℕ → StreamState) (p n : ℕ) → ((i : ℕ) → Contains (range_with_len p n) i → names_told (f i) (names (place_of i)) ≡ g i) →
      told_first p n names (map f (range_with_len p n)) ≡ map g (range_with_len p n)
  told_all f g p zero each = refl
  told_all f g p (suc n) each =
      ap₂ (λ x xs. x ∷ xs) (each p (here p (range_with_len (p + 1) n)))
      (told_all f g (p + 1) n (λ i has. each i (there p (range_with_len (p + 1) n) i has)))

  pub sent_all : (f : ℕ → StreamState) (h : ℕ → List Sent) (p n : ℕ) → ((i : ℕ) → map (sent_to (place_of i)) (requests_due (f i) (names (place_of i))) ≡ h i) →
      sent_first p n names (map f (range_with_len p n)) ≡ flat_map h (range_with_len p n)
  sent_all f h p zero each = refl
  sent_all f h p (suc n) each = ap₂ (λ xs ys. xs ++ ys) (each p) (sent_all f h (p + 1) n each)

  -- one turn of the loop over the places
  pub told_next : (n : ℕ) (states now : List StreamState) (item next : StreamState) → now ≡ told_first 0 n names states → n < length states →
      item ≡ get_or now n item → next ≡ names_told item (names (place_of n)) → slice_set now n next ≡ told_first 0 (n + 1) names states
  told_next n states now item next is lt value state =
      let same : item ≡ get_or states n item = value ∙ ap (λ xs. get_or xs n item) is ∙ later_same 0 n states item in
      let on : suc n ≡ n + 1 = omega arith in
      ap₂ (λ xs x. slice_set xs n x) is (state ∙ ap (λ x. names_told x (names (place_of n))) same)
      ∙ told_more 0 n n states item (omega arith) lt ∙ ap (λ m. told_first 0 m names states) on

  pub sent_next : (n : ℕ) (states now : List StreamState) (item : StreamState) (sent next : List Sent) → now ≡ told_first 0 n names states → n < length states →
      item ≡ get_or now n item → sent ≡ sent_first 0 n names states → next ≡ sent ++ map (sent_to (place_of n)) (requests_due item (names (place_of n))) →
      next ≡ sent_first 0 (n + 1) names states
  sent_next n states now item sent next is lt value was more =
      let same : item ≡ get_or states n item = value ∙ ap (λ xs. get_or xs n item) is ∙ later_same 0 n states item in
      let on : suc n ≡ n + 1 = omega arith in
      more ∙ ap₂ (λ xs x. xs ++ map (sent_to (place_of n)) (requests_due x (names (place_of n)))) was same
      ∙ sent_more 0 n n states item (omega arith) lt ∙ ap (λ m. sent_first 0 m names states) on

-- ---- the history's words

names_same : (a : Authority) (kind : Kind) (watched : List Watched) → key_names a kind (watched_keys watched) ≡ watched_names a kind watched
names_same a kind [] = refl
names_same a kind (w ∷ watched) = ap (cons_option (if is_asked_of a kind w.key then Some w.key.name else None)) (names_same a kind watched)

abbrev names_made : List Name → List Name → List Name → List Name → Names
names_made listener route cluster endpoint = record { listener = listener; route = route; cluster = cluster; endpoint = endpoint }

-- the names of the watched keys are those that are watched
names_alike : (a : Authority) (watched : List Watched) (keys : List Key) → keys ≡ watched_keys watched → names_among keys a ≡ names_at a watched
names_alike a watched keys are =
    ap (λ ks. names_among ks a) are
    ∙ ap₂ (λ l r. names_made l r (key_names a Kind.Cluster (watched_keys watched)) (key_names a Kind.Endpoint (watched_keys watched))) (names_same a Kind.Listener watched) (names_same a Kind.Route watched)
    ∙ ap₂ (λ c e. names_made (watched_names a Kind.Listener watched) (watched_names a Kind.Route watched) c e) (names_same a Kind.Cluster watched) (names_same a Kind.Endpoint watched)

pub all_sent : (s : Setting) (c : Came) (past : List Entry) (watched : List Watched) (keys : List Key) (states : List StreamState) → keys ≡ watched_keys watched → states ≡ states_with s c past →
    sent_first 0 (length states) (names_among keys) states ≡ requests s c past watched
all_sent s c past watched keys states are is =
    let f : ℕ → StreamState = λ place. state_with s c (place_of place) past in
    ap (λ xs. sent_first 0 (length xs) (names_among keys) xs) is
    ∙ ap (λ n. sent_first 0 n (names_among keys) (states_with s c past)) (length-map-range_with_len f 0 s.authorities)
    ∙ sent_all (names_among keys) f (requests_to s c past watched) 0 s.authorities
    (λ i. ap (λ names. map (sent_to (place_of i)) (requests_due (f i) names)) (names_alike (place_of i) watched keys are) ∙ requests_follow s c (place_of i) past watched)

pub all_told : (s : Setting) (actor line : ℕ) (event : DriverEvent) (reply : DriverReply) (past : List Entry) (watched : List Watched) (keys : List Key) (states : List StreamState) → keys ≡ watched_keys watched → states ≡ states_with s (came event reply) past →
    reply.sent ≡ requests s (came event reply) past watched →
    told_first 0 (length states) (names_among keys) states ≡ states_of s (entry_of actor line event reply ∷ past)
all_told s actor line event reply past watched keys states are is sent =
    let c : Came = came event reply in
    let f : ℕ → StreamState = λ place. state_with s c (place_of place) past in
    let g : ℕ → StreamState = λ place. state_of s (place_of place) (entry_of actor line event reply ∷ past) in
    ap (λ xs. told_first 0 (length xs) (names_among keys) xs) is
    ∙ ap (λ n. told_first 0 n (names_among keys) (states_with s c past)) (length-map-range_with_len f 0 s.authorities)
    ∙ told_all (names_among keys) f g 0 s.authorities
    (λ i has. ap (names_told (f i)) (names_alike (place_of i) watched keys are) ∙ names_follow s actor line event reply (place_of i) past watched has sent)

-- ---- a stream that is down

pub down_sends : (state : StreamState) (names : Names) (f : Request → Sent) (sent : List Sent) (r : Bool) → r ≡ state.is_up → r ≡ false → sent ≡ sent ++ map f (requests_due state names)
down_sends state names f sent r same test = sym (append-nil sent) ∙ ap (λ b. sent ++ map f (if b then requests_on state names else [])) (sym test ∙ same)

pub down_stands : (state : StreamState) (names : Names) (r : Bool) → r ≡ state.is_up → r ≡ false → state ≡ names_told state names
down_stands state names r same test = ap (λ b. if b then names_sent state names else state) (sym test ∙ same)

-- ---- streams that were never opened

abbrev pub unopened_to : Node → ℕ → List StreamState
unopened_to node n = map (λ i. unopened node) (range_with_len 0 n)

pub new_more : (node : Node) (items : List StreamState) (n : ℕ) (x : StreamState) → items ≡ unopened_to node n → x ≡ unopened node → items ++ x ∷ [] ≡ unopened_to node (n + 1)
new_more node items n x is new = ap₂ (λ xs y. xs ++ y ∷ []) is new ∙ sym (map-range_with_len_more (λ i. unopened node) 0 n n (omega arith))

pub new_few : (node : Node) (items : List StreamState) (n m : ℕ) → items ≡ unopened_to node n → n ≤ m → length items ≤ m
new_few node items n m is few = let long : length items ≡ n = ap length is ∙ length-map-range_with_len (λ i. unopened node) 0 n in omega (arith, long, few)

pub new_all : (s : Setting) (node : Node) (items : List StreamState) (n : ℕ) → items ≡ unopened_to node n → s.node ≡ node → s.authorities ≡ n → items ≡ states_of s []
new_all s node items n is whose many = is ∙ ap₂ (λ k m. unopened_to k m) (sym whose) (sym many)
