-- The streams that are told, place by place.
use Rattle.std.proofs.Common.{◌≡◌, ℕ, zero, suc, ◌+◌, ◌<◌, ◌≤◌, Bool, true, false, Some, List, [], ◌∷◌, ◌++◌, map, length, get_or, slice_set, refl, sym, subst, ap, ap₂, ◌∙◌, arith}
use Rattle.std.specs.Prelude.{slice_get, replicate}
use Rattle.std.specs.List.{range_with_len}
use Rattle.std.proofs.lemmas.List.{length-replicate}
use Rattle.std.proofs.lemmas.Option.{same_Some, slice_get-get_or}
use Rattle.std.proofs.lemmas.List.FromFn.{length-map-range_with_len}
use Rattle.xc_base.specs.declared.call.Node.{Node}
use Rattle.xc_base.specs.declared.names.Authority.{Authority}
use Rattle.xc_base.specs.declared.names.Key.{Key}
use Rattle.xc_base.specs.declared.names.Kind.{Kind}
use Rattle.ads_stream.specs.declared.request_names.Names.{Names}
use Rattle.ads_stream.specs.declared.stream.StreamState.{StreamState}
use Rattle.ads_stream.specs.StreamSteps.{names_told, requests_due, unopened}
use Rattle.call_journal.specs.declared.reply.Sent.{Sent}
use Rattle.xds_history.specs.Requests.{sent_to}
use Rattle.book_streams.specs.StreamsKept.{place_of, key_names, names_among}
use Rattle.book_streams.specs.Settling.{AreKept, HaveSameNames, IsSettledBy, IsTelling, KeepsMarks, NoneBelow, NoneFrom}
use Rattle.book_streams.specs.Telling.{told_first, sent_first}
use Rattle.book_streams.proofs.MarkLemmas.{in_range, set_here, set_elsewhere, set_long, unmarked_at, unmarked_before, other_place, below_passed, from_passed}
use Rattle.book_streams.proofs.SettleLemmas.{settled_after, settled_down}
use Rattle.book_streams.proofs.StepLemmas.{told_next, sent_next, unopened_to}

some_apart : Some true ≡ Some false → ⊥
some_apart is = cc is

place_or : (p q : ℕ) (Y : Type 0) → (p ≡ q → Y) → ((p ≡ q → ⊥) → Y) → Y
place_or zero zero Y here there = here refl
place_or zero (suc q) Y here there = there (λ e. omega (arith, e))
place_or (suc p) zero Y here there = there (λ e. omega (arith, e))
place_or (suc p) (suc q) Y here there = place_or p q Y (λ e. here (ap suc e)) (λ other. there (λ e. other (omega (arith, e))))

-- ---- streams that aren't told

module _ (names : Authority → Names) where
  -- the streams at places from n up to m are settled
  abbrev AreQuiet : ℕ → ℕ → ℕ → List StreamState → Type 0
  AreQuiet p n m states = (i j : ℕ) (state : StreamState) → p + i ≡ j → n ≤ i → i < m → slice_get states i ≡ Some state → IsSettledBy state (names (place_of j))

  quiet_first : (p m : ℕ) (state : StreamState) (states : List StreamState) → AreQuiet p 0 (suc m) (state ∷ states) → IsSettledBy state (names (place_of p))
  quiet_first p m state states quiet = quiet 0 p state (omega arith) (omega arith) (omega arith) refl

  quiet_rest : (p n m : ℕ) (state : StreamState) (states : List StreamState) → AreQuiet p n (suc m) (state ∷ states) → AreQuiet (p + 1) n m states
  quiet_rest p n m state states quiet i j x is low high at = quiet (suc i) j x (omega (arith, is)) (omega (arith, low)) (omega (arith, high)) at

  quiet_later : (p n m : ℕ) (state : StreamState) (states : List StreamState) → AreQuiet p (suc n) (suc m) (state ∷ states) → AreQuiet (p + 1) n m states
  quiet_later p n m state states quiet i j x is low high at = quiet (suc i) j x (omega (arith, is)) (omega (arith, low)) (omega (arith, high)) at

  pub quiet_told : (p n m : ℕ) (states : List StreamState) → n ≤ m → AreQuiet p n m states → told_first p m names states ≡ told_first p n names states
  quiet_told p zero zero states le quiet = refl
  quiet_told p zero (suc m) [] le quiet = refl
  quiet_told p zero (suc m) (state ∷ states) le quiet =
      ap₂ (λ x xs. x ∷ xs) (quiet_first p m state states quiet).stands (quiet_told (p + 1) zero m states (omega arith) (quiet_rest p zero m state states quiet))
  quiet_told p (suc n) zero states le quiet = absurd (omega (arith, le))
  quiet_told p (suc n) (suc m) [] le quiet = refl
  quiet_told p (suc n) (suc m) (state ∷ states) le quiet =
      ap (λ xs. names_told state (names (place_of p)) ∷ xs) (quiet_told (p + 1) n m states (omega (arith, le)) (quiet_later p n m state states quiet))

  pub quiet_sent : (p n m : ℕ) (states : List StreamState) → n ≤ m → AreQuiet p n m states → sent_first p m names states ≡ sent_first p n names states
  quiet_sent p zero zero states le quiet = refl
  quiet_sent p zero (suc m) [] le quiet = refl
  quiet_sent p zero (suc m) (state ∷ states) le quiet =
      ap₂ (λ rs xs. map (sent_to (place_of p)) rs ++ xs) (quiet_first p m state states quiet).quiet (quiet_sent (p + 1) zero m states (omega arith) (quiet_rest p zero m state states quiet))
  quiet_sent p (suc n) zero states le quiet = absurd (omega (arith, le))
  quiet_sent p (suc n) (suc m) [] le quiet = refl
  quiet_sent p (suc n) (suc m) (state ∷ states) le quiet =
      ap (λ xs. map (sent_to (place_of p)) (requests_due state (names (place_of p))) ++ xs) (quiet_sent (p + 1) n m states (omega (arith, le)) (quiet_later p n m state states quiet))

  -- those that come later are as they were
  later_kept : (p n i : ℕ) (states : List StreamState) → n ≤ i → slice_get (told_first p n names states) i ≡ slice_get states i
  later_kept p zero i states le = refl
  later_kept p (suc n) i [] le = refl
  later_kept p (suc n) zero (state ∷ states) le = absurd (omega (arith, le))
  later_kept p (suc n) (suc i) (state ∷ states) le = later_kept (p + 1) n i states (omega (arith, le))

  -- ---- the loop over the places

  module _ (before states : List StreamState) (marks : List Bool) (sent : List Sent) (place end : ℕ) (t : IsTelling names before states marks sent place end) where
    quiet_from : (m : ℕ) → ((i : ℕ) → place ≤ i → i < m → i < length marks → slice_get marks i ≡ Some false) → AreQuiet 0 place m before
    quiet_from m none i j state is low high at =
        let now : slice_get states i ≡ Some state = ap (λ xs. slice_get xs i) t.stand ∙ later_kept 0 place i before low ∙ at in
        let long : length marks ≡ length states = t.long in
        let lt : i < length marks = omega (arith, long, in_range states i state now) in
        let same : i ≡ j = omega (arith, is) in
        subst (λ k. IsSettledBy state (names (place_of k))) same (t.settled i state now (none i low high lt))

    -- the next stream isn't marked
    pub telling_passed : (next : ℕ) → place + 1 ≡ next → place < end → slice_get marks place ≡ Some false → IsTelling names before states (slice_set marks place false) sent next end
    telling_passed next on lt is =
        let quiet : AreQuiet 0 place next before = quiet_from next (λ i low high inside. subst (λ k. slice_get marks k ≡ Some false) (same_place i low high) is) in record {
          few = t.few;
          long = set_long marks place false ∙ t.long;
          within = t.within;
          reaches = omega (arith, on, lt, t.within);
          stand = t.stand ∙ sym (quiet_told 0 place next before (omega (arith, on)) quiet);
          sends = t.sends ∙ sym (quiet_sent 0 place next before (omega (arith, on)) quiet);
          settled = λ p state at unmarked. t.settled p state at (still p unmarked);
          below = below_passed marks place next on t.below;
          from = from_passed marks place end t.from;
        }
      where
        same_place : (i : ℕ) → place ≤ i → i < next → place ≡ i
        same_place i low high = omega (arith, on, low, high)

        still : (p : ℕ) → slice_get (slice_set marks place false) p ≡ Some false → slice_get marks p ≡ Some false
        still p unmarked = place_or p place (slice_get marks p ≡ Some false) (λ e. subst (λ k. slice_get marks k ≡ Some false) (sym e) is) (λ other. sym (set_elsewhere marks place p false other) ∙ unmarked)

    -- the next stream is told
    pub telling_told : (next : ℕ) (item after : StreamState) (more : List Sent) → place + 1 ≡ next → place < end → item ≡ get_or states place item → after ≡ names_told item (names (place_of place)) →
        more ≡ sent ++ map (sent_to (place_of place)) (requests_due item (names (place_of place))) → IsTelling names before (slice_set states place after) (slice_set marks place false) more next end
    telling_told next item after more on lt value told sends =
        let inside : place < length before = omega (arith, lt, t.within) in
        let inside' : place < length states = omega (arith, inside, t.few) in record {
          few = set_long states place after ∙ t.few;
          long = set_long marks place false ∙ t.long ∙ sym (set_long states place after);
          within = t.within;
          reaches = omega (arith, on, lt, t.within);
          stand = told_next names place before states item after t.stand inside value told ∙ ap (λ n. told_first 0 n names before) on;
          sends = sent_next names place before states item sent more t.stand inside value t.sends sends ∙ ap (λ n. sent_first 0 n names before) on;
          settled = λ p state at unmarked. place_or p place (IsSettledBy state (names (place_of p))) (λ e. settled_here p state e inside' at) (λ other. t.settled p state (sym (set_elsewhere states place p after other) ∙ at) (sym (set_elsewhere marks place p false other) ∙ unmarked));
          below = below_passed marks place next on t.below;
          from = from_passed marks place end t.from;
        }
      where
        settled_here : (p : ℕ) (state : StreamState) → p ≡ place → place < length states → slice_get (slice_set states place after) p ≡ Some state → IsSettledBy state (names (place_of p))
        settled_here p state e lt at =
            let is : Some after ≡ Some state = sym (set_here states place after lt) ∙ ap (λ k. slice_get (slice_set states place after) k) (sym e) ∙ at in
            let same : names_told item (names (place_of p)) ≡ state = ap (λ k. names_told item (names (place_of k))) e ∙ sym told ∙ same_Some (after) state is in
            subst (λ x. IsSettledBy x (names (place_of p))) same (settled_after item (names (place_of p)))

    -- all streams were told, or are settled
    no_mark : end ≤ place → (i : ℕ) → slice_get marks i ≡ Some true → ⊥
    no_mark past i is = let low : place ≤ i = t.below i is in let high : i < end = t.from i is in absurd (omega (arith, past, low, high))

    quiet_all : end ≤ place → AreQuiet 0 place (length before) before
    quiet_all past = quiet_from (length before) (λ i low high inside. unmarked_at marks i inside (no_mark past i))

    pub all_told_now : end ≤ place → states ≡ told_first 0 (length before) names before
    all_told_now past = t.stand ∙ sym (quiet_told 0 place (length before) before t.reaches (quiet_all past))

    pub all_sent_now : end ≤ place → sent ≡ sent_first 0 (length before) names before
    all_sent_now past = t.sends ∙ sym (quiet_sent 0 place (length before) before t.reaches (quiet_all past))

-- ---- what is kept

-- a marked stream may become any
pub kept_but : (states : List StreamState) (marks : List Bool) (told : List Key) (place : ℕ) (state : StreamState) → AreKept states marks told → slice_get marks place ≡ Some true → AreKept (slice_set states place state) marks told
kept_but states marks told place state kept is =
    let long : length (slice_set states place state) ≡ length states = set_long states place state in record {
      few = omega (arith, long, kept.few);
      long = kept.long ∙ sym long;
      settled = λ p x at unmarked.
          let other : p ≡ place → ⊥ = λ e. some_apart (sym is ∙ ap (slice_get marks) (sym e) ∙ unmarked) in
          kept.settled p x (sym (set_elsewhere states place p state other) ∙ at) unmarked;
    }

-- a stream that is marked may become any
pub kept_marked : (states : List StreamState) (marks : List Bool) (told : List Key) (place : ℕ) (state : StreamState) → AreKept states marks told → AreKept (slice_set states place state) (slice_set marks place true) told
kept_marked states marks told place state kept =
    let long : length (slice_set states place state) ≡ length states = set_long states place state in record {
      few = omega (arith, long, kept.few);
      long = set_long marks place true ∙ kept.long ∙ sym long;
      settled = λ p x at unmarked. kept.settled p x (sym (set_elsewhere states place p state (other_place marks place p unmarked)) ∙ at) (unmarked_before marks place p unmarked);
    }

abbrev names_made : List (List ℕ) → List (List ℕ) → List (List ℕ) → List (List ℕ) → Names
names_made listener route cluster endpoint = record { listener = listener; route = route; cluster = cluster; endpoint = endpoint }

names_same : (marks : List Bool) (keys others : List Key) (a : Authority) → HaveSameNames marks keys others → slice_get marks a.0 ≡ Some false → names_among keys a ≡ names_among others a
names_same marks keys others a same is =
    ap₂ (λ l r. names_made l r (key_names a Kind.Cluster keys) (key_names a Kind.Endpoint keys)) (same a Kind.Listener is) (same a Kind.Route is)
    ∙ ap₂ (λ c e. names_made (key_names a Kind.Listener others) (key_names a Kind.Route others) c e) (same a Kind.Cluster is) (same a Kind.Endpoint is)

-- other keys are watched from now on
pub kept_anew : (states : List StreamState) (marks next : List Bool) (told keys : List Key) → AreKept states marks told → KeepsMarks marks next → HaveSameNames next told keys → AreKept states next keys
kept_anew states marks next told keys kept keeps same = record {
  few = kept.few;
  long = keeps.long ∙ kept.long;
  settled = λ p state at unmarked. subst (λ names. IsSettledBy state names) (names_same next told keys (place_of p) same unmarked) (kept.settled p state at (keeps.unmarked p unmarked));
}

-- streams that were never opened
unopened_at : (node : Node) (n p i : ℕ) (state : StreamState) → slice_get (map (λ i. unopened node) (range_with_len p n)) i ≡ Some state → state ≡ unopened node
unopened_at node zero p i state is = absurd (cc is)
unopened_at node (suc n) p zero state is = sym (same_Some (unopened node) state is)
unopened_at node (suc n) p (suc i) state is = unopened_at node n (p + 1) i state is

pub kept_new : (node : Node) (states : List StreamState) (marks : List Bool) (told : List Key) (n : ℕ) → states ≡ unopened_to node n → marks ≡ replicate n false → n ≤ 65536 → AreKept states marks told
kept_new node states marks told n is are few =
    let long : length states ≡ n = ap length is ∙ length-map-range_with_len (λ i. unopened node) 0 n in record {
      few = omega (arith, long, few);
      long = ap length are ∙ length-replicate n false ∙ sym long;
      settled = λ p state at unmarked. settled_down state (names_among told (place_of p)) (ap (λ x. x.is_up) (unopened_at node n 0 p state (ap (λ xs. slice_get xs p) (sym is) ∙ at)));
    }

-- ---- the loop begins and ends

pub telling_begins : (states : List StreamState) (marks : List Bool) (keys : List Key) (first end : ℕ) → AreKept states marks keys → NoneBelow marks first → NoneFrom marks end → first ≤ length marks → end ≤ length marks →
    IsTelling (names_among keys) states states marks [] first end
telling_begins states marks keys first end kept below from reaches within =
    let quiet : AreQuiet (names_among keys) 0 0 first states = λ i j state is low high at.
    let same : i ≡ j = omega (arith, is) in
    let long : length marks ≡ length states = kept.long in
    let lt : i < length marks = omega (arith, long, in_range states i state at) in
    subst (λ k. IsSettledBy state (names_among keys (place_of k))) same
    (kept.settled i state at (unmarked_at marks i lt (λ marked. let past : first ≤ i = below i marked in absurd (omega (arith, past, high))))) in record {
      few = refl;
      long = kept.long;
      within = omega (arith, within, kept.long);
      reaches = omega (arith, reaches, kept.long);
      stand = sym (quiet_told (names_among keys) 0 0 first states (omega arith) quiet);
      sends = sym (quiet_sent (names_among keys) 0 0 first states (omega arith) quiet);
      settled = kept.settled;
      below = below;
      from = from;
    }

pub telling_keeps : (before states : List StreamState) (marks : List Bool) (keys : List Key) (sent : List Sent) (place end : ℕ) → length before ≤ 65536 → IsTelling (names_among keys) before states marks sent place end → AreKept states marks keys
telling_keeps before states marks keys sent place end few t = record { few = omega (arith, few, t.few); long = t.long; settled = t.settled }

pub telling_same : (names : Authority → Names) (before states states' : List StreamState) (marks marks' : List Bool) (sent sent' : List Sent) (place end : ℕ) → states' ≡ states → marks' ≡ marks → sent' ≡ sent →
    IsTelling names before states marks sent place end → IsTelling names before states' marks' sent' place end
telling_same names before states states' marks marks' sent sent' place end are marked is t =
    subst (λ xs. IsTelling names before xs marks' sent' place end) (sym are)
    (subst (λ ms. IsTelling names before states ms sent' place end) (sym marked) (subst (λ rs. IsTelling names before states marks rs place end) (sym is) t))

-- the stream at a place
pub item_at : (states items : List StreamState) (place : ℕ) (item state : StreamState) → items ≡ states → place < length states → item ≡ get_or items place item → slice_get states place ≡ Some state → item ≡ state
item_at states items place item state are lt value at =
    value ∙ ap (λ xs. get_or xs place item) are ∙ same_Some (get_or states place item) state (sym (slice_get-get_or states place item lt) ∙ at)
