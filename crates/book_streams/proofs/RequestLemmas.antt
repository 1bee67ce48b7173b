-- The requests that are due on a stream, and what stands once they have been sent.
use Rattle.std.proofs.Common.{◌≡◌, ℕ, suc, ne_eqb, ◌==◌, Bool, true, false, ◌&&◌, ◌||◌, not, if◌then◌else◌, Option, Some, None, List, [], ◌∷◌, ◌++◌, map, length, refl, sym, ap, ap₂, ◌∙◌, append_assoc, append-nil, is_some, option_map, option_and_then, unwrap_or}
use Rattle.std.specs.Cmp.Lexicographic.{pointwise}
use Rattle.std.specs.List.{cons_option, find, filter_map}
use Rattle.std.specs.Option.{option_map_or, option_or}
use Rattle.std.proofs.lemmas.Bool.Decides.{Decides-eqb}
use Rattle.std.proofs.lemmas.Slice.Eq.{bytes_eq-Decides, slice_eq-Decides}
use Rattle.xc_base.specs.declared.names.Kind.{Kind}
use Rattle.xc_base.specs.declared.names.Authority.{Authority}
use Rattle.xc_base.specs.declared.call.Node.{Node}
use Rattle.proto_discovery.specs.declared.request.Request.{Request}
use Rattle.call_journal.specs.declared.entry.Entry.{Entry}
use Rattle.config_assembly.specs.Orders.{Name}
use Rattle.ads_stream.specs.declared.stream.StreamState.{StreamState}
use Rattle.ads_stream.specs.declared.subscription.Subscription.{Subscription}
use Rattle.ads_stream.specs.StreamSteps as step
use Rattle.xds_history.specs.Words.{first_some, all_kinds}
use Rattle.xds_history.specs.Setting.{Setting}
use Rattle.xds_history.specs.declared.turns.Turn.{Turn}
use Rattle.xds_history.specs.declared.turns.Turn.TheVariants.{Opens, Ends, Stays}
use Rattle.xds_history.specs.Streams.{turn_by, before_turn, turned, stream, asked, asked_in}
use Rattle.xds_history.specs.declared.responses.Told.{Told}
use Rattle.xds_history.specs.Responses.{Came, came_in, answered, accepted, accepted_version, answered_nonce, told_of, version, nonce_on}
use Rattle.xds_history.specs.Requests.{watched_names, same_names, version_with, nonce_with, error_with, error_text, is_nack, is_due, request_for, request_due, is_silent, with_node, sent_to, requests_on}
use Rattle.xds_history.specs.declared.page.Watched.{Watched}
use Rattle.xds_history.specs.Pages.{came}
use Rattle.book_streams.specs.StreamsKept.{state_on, state_with_on, on_after, subscription_on, subscription_with, names_at}
use Rattle.book_streams.specs.StreamsLaws.{RequestsFollow, NamesFollow, entry_of}
use Rattle.book_streams.proofs.TurnLemmas.{of_state}
use Rattle.xds_history.proofs.AskLemmas.{asked_now, names_of, is_for}

-- ---- a request is due by the stream exactly where it is by the history

same_by : (x y : Bool) → (x ≡ true → y ≡ true) → (y ≡ true → x ≡ true) → x ≡ y
same_by true y there back = sym (there refl)
same_by false true there back = back refl
same_by false false there back = refl

same_test : (names others : List Name) → step.are_same names others ≡ same_names others names
same_test names others =
    let left = slice_eq-Decides (λ a b. slice_eq-Decides Decides-eqb a b (pointwise ◌==◌ a b) refl) names others (pointwise (pointwise ◌==◌) names others) refl in
    let right = slice_eq-Decides bytes_eq-Decides others names (same_names others names) refl in
    same_by (step.are_same names others) (same_names others names) (λ is. right.1 (sym (left.0 is))) (λ is. left.1 (sym (right.0 is)))

some_many : (n : ℕ) → (suc n == 0) ≡ false
some_many n = ne_eqb (suc n) 0 (λ e. cc e)

pub differs_is : (last : Option (List Name)) (names : List Name) → step.differs last names ≡ not (same_names names (unwrap_or last []))
differs_is None [] = refl
differs_is None (name ∷ names) = ap not (some_many (length names))
differs_is (Some last) names = ap not (same_test last names)

is_some_map : {X Y : Type 0} (f : X → Y) (o : Option X) → is_some (option_map f o) ≡ is_some o
is_some_map f None = refl
is_some_map f (Some x) = refl

due_is : (s : Setting) (c : Came) (a : Authority) (past before : List Entry) (kind : Kind) (names : List Name) →
    step.is_due (subscription_with s c a past (Some before) kind) names ≡ is_due s c before a kind names
due_is s c a past before kind names =
    ap₂ (λ x y. x || y) (is_some_map (λ t. record { error = error_with s c a kind }) (told_of a kind (answered s c))) (differs_is (asked a kind before) names)

-- ---- the request

error_by : (nack : Bool) (o : Option Told) → step.error_in (option_map (λ t. record { error = if nack then option_map (λ t. error_text t.parts) o else None }) o) ≡ (if nack then option_map (λ t. error_text t.parts) o else None)
error_by true None = refl
error_by false None = refl
error_by nack (Some t) = refl

request_is : (s : Setting) (c : Came) (a : Authority) (past before : List Entry) (kind : Kind) (names : List Name) (node : Option Node) →
    step.request_of (subscription_with s c a past (Some before) kind) kind names node ≡ record (request_for s c past before a kind names) { node = node }
request_is s c a past before kind names node =
    let made : Option Name → Request = λ e. record (request_for s c past before a kind names) { node = node; error = e } in
    ap made (error_by (is_nack c.verdict) (told_of a kind (answered s c)))

-- ---- kind by kind

module _ (s : Setting) (c : Came) (a : Authority) (past before : List Entry) (watched : List Watched) where
  abbrev st : StreamState
  st = state_with_on s c a past (Some before)

  abbrev sub : Kind → Subscription
  sub k = subscription_with s c a past (Some before) k

  abbrev names : Kind → List Name
  names k = watched_names a k watched

  abbrev due : Kind → Bool
  due k = is_due s c before a k (names k)

  abbrev made : Kind → Request
  made k = request_for s c past before a k (names k)

  abbrev greeted : Bool
  greeted = not (is_silent a before)

  -- the next request isn't the first
  abbrev follows : List Request → Bool
  follows rs = greeted || not (length rs == 0)

  abbrev made_as : Kind → Bool → Request
  made_as k later = record (made k) { node = if later then None else Some s.node }

  with_due : (k : Kind) (rs : List Request) → step.with_request st k (names k) rs ≡ (if due k then rs ++ made_as k (follows rs) ∷ [] else rs)
  with_due k rs =
      ap (λ x. if step.is_due x (names k) then rs ++ step.request_of x k (names k) (if follows rs then None else Some s.node) ∷ [] else rs) (of_state s a (Some before) sub k)
      ∙ ap₂ (λ b r. if b then rs ++ r ∷ [] else rs) (due_is s c a past before k (names k)) (request_is s c a past before k (names k) (if follows rs then None else Some s.node))

  abbrev all_with : List Kind → List Request → List Request
  all_with [] rs = rs
  all_with (k ∷ ks) rs = all_with ks (step.with_request st k (names k) rs)

  later_by : (b : Bool) (rs : List Request) (r : Request) → (b || not (length (rs ++ r ∷ []) == 0)) ≡ true
  later_by true rs r = refl
  later_by false [] r = ap not (some_many 0)
  later_by false (q ∷ rs) r = ap not (some_many (length (rs ++ r ∷ [])))

  with_node_none : (rs : List Request) → with_node s false rs ≡ rs
  with_node_none [] = refl
  with_node_none (r ∷ rs) = refl

  made_first : (k : Kind) (later : Bool) (rs : List Request) → made_as k later ∷ rs ≡ with_node s (not later) (made k ∷ rs)
  made_first k true rs = refl
  made_first k false rs = refl

  abbrev are_due : List Kind → List Request
  are_due ks = filter_map (request_due s c past watched before a) ks

  due_by : (k : Kind) (ks : List Kind) (rs : List Request) (b : Bool) →
      ((rs : List Request) → all_with ks rs ≡ rs ++ with_node s (not (follows rs)) (are_due ks)) →
      all_with ks (if b then rs ++ made_as k (follows rs) ∷ [] else rs) ≡ rs ++ with_node s (not (follows rs)) (cons_option (if b then Some (made k) else None) (are_due ks))
  due_by k ks rs true again =
      again (rs ++ made_as k (follows rs) ∷ [])
      ∙ ap (λ b. (rs ++ made_as k (follows rs) ∷ []) ++ with_node s (not b) (are_due ks)) (later_by greeted rs (made_as k (follows rs)))
      ∙ ap (λ xs. (rs ++ made_as k (follows rs) ∷ []) ++ xs) (with_node_none (are_due ks))
      ∙ append_assoc rs (made_as k (follows rs) ∷ []) (are_due ks)
      ∙ ap (λ xs. rs ++ xs) (made_first k (follows rs) (are_due ks))
  due_by k ks rs false again = again rs

  all_due : (ks : List Kind) (rs : List Request) → all_with ks rs ≡ rs ++ with_node s (not (follows rs)) (are_due ks)
  all_due [] rs = sym (append-nil rs)
  all_due (k ∷ ks) rs = ap (all_with ks) (with_due k rs) ∙ due_by k ks rs (due k) (all_due ks)

requests_by : (s : Setting) (c : Came) (a : Authority) (past : List Entry) (watched : List Watched) (on : Option (List Entry)) →
    map (sent_to a) (step.requests_due (state_with_on s c a past on) (names_at a watched)) ≡ requests_on s c past watched a on
requests_by s c a past watched None = refl
requests_by s c a past watched (Some before) =
    ap (map (sent_to a)) (all_due s c a past before watched all_kinds [] ∙ ap (λ b. with_node s b (filter_map (request_due s c past watched before a) all_kinds)) (silent_again (is_silent a before)))
  where
    silent_again : (b : Bool) → not (not b || false) ≡ b
    silent_again true = refl
    silent_again false = refl

pub requests_follow : RequestsFollow
requests_follow s c a past watched = requests_by s c a past watched (on_after c a past)

-- ---- what stands once they have been sent

taken_by : {X : Type 0} (f : Told → X) (o : Option Told) (rest : Option X) (none : X) → unwrap_or (option_or (option_map f o) rest) none ≡ option_map_or f o (unwrap_or rest none)
taken_by f None rest none = refl
taken_by f (Some t) rest none = refl

-- where one is due the names are asked for, else those that were before
asked_by : (b : Bool) (names : List Name) (last : Option (List Name)) → (if b then Some names else last) ≡ option_or (if b then Some names else None) last
asked_by true names last = refl
asked_by false names last = refl

silent_step : (due : Bool) (last : Option (List Name)) (names : List Name) (silent was more : Bool) → not silent ≡ (not was || more) →
    not (not (is_some (option_or (if due then Some names else None) last)) && silent) ≡ (not (not (is_some last) && was) || (due || more))
silent_step true None names silent true more is = refl
silent_step true None names silent false more is = refl
silent_step true (Some last) names silent was more is = refl
silent_step false None names silent was more is = is
silent_step false (Some last) names silent was more is = refl

module _ (s : Setting) (c : Came) (a : Authority) (past before : List Entry) (watched : List Watched) (e : Entry)
    (what : came_in e.what ≡ Some c)
    (asks : (k : Kind) → asked_in a k e ≡ (if is_due s c before a k (watched_names a k watched) then Some (watched_names a k watched) else None)) where
  version_then : (k : Kind) → version_with s c past a k ≡ version s a k (e ∷ past)
  version_then k =
      sym (taken_by (λ t. t.version) (told_of a k (accepted s c)) (first_some (λ e. accepted_version s a k e.what) past) [])
      ∙ ap (λ o. unwrap_or (option_or (option_map (λ t. t.version) (told_of a k (option_and_then (accepted s) o))) (first_some (λ e. accepted_version s a k e.what) past)) []) (sym what)

  nonce_then : (k : Kind) → nonce_with s c before a k ≡ nonce_on s a k (e ∷ before)
  nonce_then k =
      sym (taken_by (λ t. t.nonce) (told_of a k (answered s c)) (first_some (λ e. answered_nonce s a k e.what) before) [])
      ∙ ap (λ o. unwrap_or (option_or (option_map (λ t. t.nonce) (told_of a k (option_and_then (answered s) o))) (first_some (λ e. answered_nonce s a k e.what) before)) []) (sym what)

  asked_then : (k : Kind) → step.names_after_request (sub s c a past before watched k) (names s c a past before watched k) ≡ asked a k (e ∷ before)
  asked_then k =
      ap (λ b. if b then Some (watched_names a k watched) else asked a k before) (due_is s c a past before k (watched_names a k watched))
      ∙ asked_by (is_due s c before a k (watched_names a k watched)) (watched_names a k watched) (asked a k before)
      ∙ ap (λ o. option_or o (asked a k before)) (sym (asks k))

  subscription_then : (k : Kind) → step.after_request (sub s c a past before watched k) (names s c a past before watched k) ≡ subscription_on s a (e ∷ past) (Some (e ∷ before)) k
  subscription_then k = rw (version_then k, nonce_then k, asked_then k) refl

  abbrev is_asking : Kind → Bool
  is_asking k = is_due s c before a k (watched_names a k watched)

  silent_then : not (is_silent a (e ∷ before)) ≡ (not (is_silent a before) || (is_asking Kind.Listener || (is_asking Kind.Route || (is_asking Kind.Cluster || (is_asking Kind.Endpoint || false)))))
  silent_then =
      rw (asks Kind.Listener, asks Kind.Route, asks Kind.Cluster, asks Kind.Endpoint)
      (silent_step (is_asking Kind.Listener) (asked a Kind.Listener before) (watched_names a Kind.Listener watched) _ _ _
      (silent_step (is_asking Kind.Route) (asked a Kind.Route before) (watched_names a Kind.Route watched) _ _ _
      (silent_step (is_asking Kind.Cluster) (asked a Kind.Cluster before) (watched_names a Kind.Cluster watched) _ _ _
      (silent_step (is_asking Kind.Endpoint) (asked a Kind.Endpoint before) (watched_names a Kind.Endpoint watched) true true false refl))))

  -- whether any is due
  any_due : (bl br bc be : Bool) (rl rr rc re : Request) →
      not (length (cons_option (if bl then Some rl else None) (cons_option (if br then Some rr else None) (cons_option (if bc then Some rc else None) (cons_option (if be then Some re else None) [])))) == 0)
      ≡ (bl || (br || (bc || (be || false))))
  any_due true br bc be rl rr rc re = ap not (some_many (length (cons_option (if br then Some rr else None) (cons_option (if bc then Some rc else None) (cons_option (if be then Some re else None) [])))))
  any_due false true bc be rl rr rc re = ap not (some_many (length (cons_option (if bc then Some rc else None) (cons_option (if be then Some re else None) []))))
  any_due false false true be rl rr rc re = ap not (some_many (length (cons_option (if be then Some re else None) [])))
  any_due false false false true rl rr rc re = ap not (some_many 0)
  any_due false false false false rl rr rc re = refl

  length_kept : (first : Bool) (rs : List Request) → length (with_node s first rs) ≡ length rs
  length_kept first [] = refl
  length_kept true (r ∷ rs) = refl
  length_kept false (r ∷ rs) = refl

  greeted_then : (not (is_silent a before) || not (length (step.requests_on (state_with_on s c a past (Some before)) (names_at a watched)) == 0)) ≡ not (is_silent a (e ∷ before))
  greeted_then =
      ap (λ rs. not (is_silent a before) || not (length rs == 0)) (all_due s c a past before watched all_kinds [])
      ∙ ap (λ n. not (is_silent a before) || not (n == 0)) (length_kept (not (follows s c a past before watched [])) (are_due s c a past before watched all_kinds))
      ∙ ap (λ b. not (is_silent a before) || b) (any_due (is_asking Kind.Listener) (is_asking Kind.Route) (is_asking Kind.Cluster) (is_asking Kind.Endpoint)
      (made s c a past before watched Kind.Listener) (made s c a past before watched Kind.Route) (made s c a past before watched Kind.Cluster) (made s c a past before watched Kind.Endpoint))
      ∙ sym silent_then

  told_then : step.names_told (state_with_on s c a past (Some before)) (names_at a watched) ≡ state_on s a (e ∷ past) (Some (e ∷ before))
  told_then =
      rw (subscription_then Kind.Listener, subscription_then Kind.Route, subscription_then Kind.Cluster, subscription_then Kind.Endpoint, greeted_then) refl

-- no stream is up after the entry
down_then : (s : Setting) (c : Came) (a : Authority) (past : List Entry) (watched : List Watched) (e : Entry) → came_in e.what ≡ Some c →
    step.names_told (state_with_on s c a past None) (names_at a watched) ≡ state_on s a (e ∷ past) None
down_then s c a past watched e what =
    rw (version_of Kind.Listener, version_of Kind.Route, version_of Kind.Cluster, version_of Kind.Endpoint) refl
  where
    version_of : (k : Kind) → version_with s c past a k ≡ version s a k (e ∷ past)
    version_of k =
        sym (taken_by (λ t. t.version) (told_of a k (accepted s c)) (first_some (λ e. accepted_version s a k e.what) past) [])
        ∙ ap (λ o. unwrap_or (option_or (option_map (λ t. t.version) (told_of a k (option_and_then (accepted s) o))) (first_some (λ e. accepted_version s a k e.what) past)) []) (sym what)

turned_is : (t : Turn) (e : Entry) (on : Option (List Entry)) → turned t e on ≡ option_map (λ before. e ∷ before) (before_turn t on)
turned_is Opens e on = refl
turned_is Ends e on = refl
turned_is Stays e on = refl

names_by : (s : Setting) (c : Came) (a : Authority) (past : List Entry) (watched : List Watched) (e : Entry) (on : Option (List Entry)) →
    came_in e.what ≡ Some c →
    ((before : List Entry) → on ≡ Some before → (k : Kind) → asked_in a k e ≡ (if is_due s c before a k (watched_names a k watched) then Some (watched_names a k watched) else None)) →
    step.names_told (state_with_on s c a past on) (names_at a watched) ≡ state_on s a (e ∷ past) (option_map (λ before. e ∷ before) on)
names_by s c a past watched e None what asks = down_then s c a past watched e what
names_by s c a past watched e (Some before) what asks = told_then s c a past before watched e what (asks before refl)

pub names_follow : NamesFollow
names_follow s actor line event reply a past watched has sent =
    let c : Came = came event reply in
    let e : Entry = entry_of actor line event reply in
    names_by s c a past watched e (on_after c a past) refl
    (λ before up k. ap (λ xs. names_of (find (is_for a k) xs)) sent ∙ asked_now s c past watched a k before has up)
    ∙ ap (state_on s a (e ∷ past)) (sym (turned_is (turn_by a event reply.verdict) e (stream a past)))
