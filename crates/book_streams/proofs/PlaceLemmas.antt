-- Events of one authority among the streams of all.
use Rattle.std.proofs.Common.{◌≡◌, ℕ, zero, suc, ◌+◌, ◌<◌, Bool, true, false, ◌&&◌, if◌then◌else◌, Option, Some, None, List, [], ◌∷◌, map, length, get_or, slice_set, option_map, refl, sym, ap, ap₂, ◌∙◌, eq-eqb, eqb-true, ne_eqb, arith}
use Rattle.std.specs.Prelude.{slice_get}
use Rattle.std.specs.List.{range_with_len}
use Rattle.std.specs.Option.{option_map_or}
use Rattle.std.proofs.lemmas.Option.{slice_get-get_or}
use Rattle.std.proofs.lemmas.List.FromFn.{length-map-range_with_len, get_or-map-range_with_len}
use Rattle.xc_base.specs.declared.names.Kind.{Kind}
use Rattle.xc_base.specs.declared.names.Authority.{Authority}
use Rattle.proto_discovery.specs.declared.response.Response.{Response}
use Rattle.call_journal.specs.declared.event.DriverEvent.{DriverEvent}
use Rattle.call_journal.specs.declared.event.BytesHow.{BytesHow}
use Rattle.call_journal.specs.declared.event.CallerEvent.{CallerEvent}
use Rattle.call_journal.specs.declared.reply.CallerReply.{CallerReply}
use Rattle.call_journal.specs.declared.entry.Entry.{Entry}
use Rattle.config_assembly.specs.Orders.{Name}
use Rattle.ads_stream.specs.declared.stream.StreamState.{StreamState}
use Rattle.ads_stream.specs.declared.verdict.Verdict.{Verdict}
use Rattle.ads_stream.specs.StreamSteps as step
use Rattle.xds_history.specs.Words.{same_kind, same_authority}
use Rattle.xds_history.specs.Setting.{Setting}
use Rattle.xds_history.specs.declared.turns.Turn.{Turn}
use Rattle.xds_history.specs.declared.turns.Turn.TheVariants.{Opens, Ends, Stays}
use Rattle.xds_history.specs.Streams.{turn_by, turn_if, stream, is_unreadable, is_broken}
use Rattle.xds_history.specs.Responses.{Came, answered_kind, told_in, told_by, told_of, parts, is_asked, verdict}
use Rattle.book_streams.specs.StreamsKept.{place_of, state_of, state_on, state_with, states_of, states_with}
use Rattle.book_streams.specs.StreamsLaws.{OthersStand, AllStand, CallersChangeNothing, caller_entry, error_in, is_about, response_came, authority_in, came_with, turned_state}
use Rattle.book_streams.proofs.TurnLemmas.{turns_follow, response_follows, none_in}

-- ---- what is about another authority

not_theirs : (s : Setting) (a b : Authority) (kind : Kind) (refused : List Name) (o : Option Response) (k : Option Kind) → same_authority a b ≡ false → told_of a kind (told_by s b refused o k) ≡ None
not_theirs s a b kind refused None None other = refl
not_theirs s a b kind refused None (Some k) other = refl
not_theirs s a b kind refused (Some r) None other = refl
not_theirs s a b kind refused (Some r) (Some k) other =
    ap (λ x. if x && same_kind k kind then Some (record { authority = b; kind = k; version = r.version; nonce = r.nonce; resources = r.resources; parts = parts s k r.resources refused }) else None) other

pub brings_nothing : (s : Setting) (a : Authority) (event : DriverEvent) (refused : List Name) (k : Option Kind) → is_about a event ≡ false → (kind : Kind) → told_of a kind (told_in s refused event k) ≡ None
brings_nothing s a (DriverEvent.Response b payload) refused k other kind = not_theirs s a b kind refused (s.read payload) k other
brings_nothing s a (DriverEvent.Opened b) refused k other kind = refl
brings_nothing s a (DriverEvent.Bytes b how) refused k other kind = refl
brings_nothing s a (DriverEvent.Lost b) refused k other kind = refl
brings_nothing s a (DriverEvent.Moment time) refused k other kind = refl
brings_nothing s a (DriverEvent.Endpoint address state) refused k other kind = refl
brings_nothing s a DriverEvent.Sweep refused k other kind = refl

pub turns_nothing : (a : Authority) (event : DriverEvent) (v : Verdict) → is_about a event ≡ false → turn_by a event v ≡ Stays
turns_nothing a (DriverEvent.Response b payload) v other = ap (λ x. turn_if (x && is_unreadable v) Ends) other
turns_nothing a (DriverEvent.Opened b) v other = ap (λ x. turn_if x Opens) other
turns_nothing a (DriverEvent.Bytes b how) v other = ap (λ x. turn_if x Ends) other
turns_nothing a (DriverEvent.Lost b) v other = ap (λ x. turn_if x Ends) other
turns_nothing a (DriverEvent.Moment time) v other = refl
turns_nothing a (DriverEvent.Endpoint address state) v other = refl
turns_nothing a DriverEvent.Sweep v other = refl

pub others_stand : OthersStand
others_stand s c a past other =
    turns_follow s c a past (brings_nothing s a c.event c.refused (answered_kind c.verdict) other)
    ∙ ap (λ t. turned_state t (state_of s a past)) (turns_nothing a c.event c.verdict other)

-- ---- lists made from the places

module _ {X : Type 0} (f g : ℕ → X) where
  all_same : (p n : ℕ) → ((i : ℕ) → g i ≡ f i) → map g (range_with_len p n) ≡ map f (range_with_len p n)
  all_same p zero same = refl
  all_same p (suc n) same = ap₂ (λ x xs. x ∷ xs) (same p) (all_same (p + 1) n same)

  same_later : (a p n : ℕ) → a < p → ((i : ℕ) → (i ≡ a → ⊥) → g i ≡ f i) → map f (range_with_len p n) ≡ map g (range_with_len p n)
  same_later a p zero lt same = refl
  same_later a p (suc n) lt same = ap₂ (λ x xs. x ∷ xs) (sym (same p (λ e. absurd (omega (arith, lt, e))))) (same_later a (p + 1) n (omega (arith, lt)) same)

  pub set_one : (p n k a : ℕ) → p + k ≡ a → k < n → ((i : ℕ) → (i ≡ a → ⊥) → g i ≡ f i) → slice_set (map f (range_with_len p n)) k (g a) ≡ map g (range_with_len p n)
  set_one p zero k a is lt same = absurd (omega (arith, lt))
  set_one p (suc n) zero a is lt same =
      let at : p ≡ a = omega (arith, is) in
      ap₂ (λ x xs. x ∷ xs) (ap g (sym at)) (same_later a (p + 1) n (omega (arith, at)) same)
  set_one p (suc n) (suc k) a is lt same =
      ap₂ (λ x xs. x ∷ xs) (sym (same p (λ e. absurd (omega (arith, is, e))))) (set_one (p + 1) n k a (omega (arith, is)) (omega (arith, lt)) same)

pub all_stand : AllStand
all_stand s c past other =
    all_same (λ place. state_of s (place_of place) past) (λ place. state_with s c (place_of place) past) 0 s.authorities (λ i. others_stand s c (place_of i) past (other (place_of i)))

caller_by : (s : Setting) (a : Authority) (actor line : ℕ) (event : CallerEvent) (reply : CallerReply) (past : List Entry) (on : Option (List Entry)) →
    state_on s a (caller_entry actor line event reply ∷ past) (option_map (λ xs. caller_entry actor line event reply ∷ xs) on) ≡ state_on s a past on
caller_by s a actor line event reply past None = refl
caller_by s a actor line event reply past (Some entries) = refl

pub callers_change_nothing : CallersChangeNothing
callers_change_nothing s actor line event reply past =
    all_same (λ place. state_of s (place_of place) past) (λ place. state_of s (place_of place) (caller_entry actor line event reply ∷ past)) 0 s.authorities
    (λ i. caller_by s (place_of i) actor line event reply past (stream (place_of i) past))

-- ---- what turns a stream

both : (x y : Bool) (t : Turn) → (turn_if (x && y) t ≡ Stays → ⊥) → (x ≡ true) × (y ≡ true)
both true true t moves = (refl, refl)
both true false t moves = absurd (moves refl)
both false y t moves = absurd (moves refl)

one : (x : Bool) (t : Turn) → (turn_if x t ≡ Stays → ⊥) → x ≡ true
one true t moves = refl
one false t moves = absurd (moves refl)

apart : (a b c : Authority) → same_authority a b ≡ true → (c.0 ≡ a.0 → ⊥) → same_authority c b ≡ false
apart a b c same other = ne_eqb c.0 b.0 (λ e. other (e ∙ sym (eqb-true a.0 b.0 same)))

about_others : (a c : Authority) (event : DriverEvent) (v : Verdict) → (turn_by a event v ≡ Stays → ⊥) → (c.0 ≡ a.0 → ⊥) → is_about c event ≡ false
about_others a c (DriverEvent.Opened b) v moves other = apart a b c (one (same_authority a b) Opens moves) other
about_others a c (DriverEvent.Response b payload) v moves other = apart a b c (both (same_authority a b) (is_unreadable v) Ends moves).0 other
about_others a c (DriverEvent.Bytes b how) v moves other = ap (λ x. x && is_broken how) (apart a b c (both (same_authority a b) (is_broken how) Ends moves).0 other)
about_others a c (DriverEvent.Lost b) v moves other = apart a b c (one (same_authority a b) Ends moves) other
about_others a c (DriverEvent.Moment time) v moves other = refl
about_others a c (DriverEvent.Endpoint address state) v moves other = refl
about_others a c DriverEvent.Sweep v moves other = refl

unanswered : (s : Setting) (refused : List Name) (event : DriverEvent) (v : Verdict) → is_unreadable v ≡ true → told_in s refused event (answered_kind v) ≡ None
unanswered s refused event Verdict.Unreadable is = none_in s refused event
unanswered s refused event (Verdict.Ack kind) is = absurd (cc is)
unanswered s refused event (Verdict.Nack kind) is = absurd (cc is)
unanswered s refused event Verdict.Done is = absurd (cc is)
unanswered s refused event Verdict.Closed is = absurd (cc is)
unanswered s refused event Verdict.Ignored is = absurd (cc is)

turn_answers_nothing : (s : Setting) (a : Authority) (event : DriverEvent) (v : Verdict) (refused : List Name) → (turn_by a event v ≡ Stays → ⊥) → told_in s refused event (answered_kind v) ≡ None
turn_answers_nothing s a (DriverEvent.Response b payload) v refused moves = unanswered s refused (DriverEvent.Response b payload) v (both (same_authority a b) (is_unreadable v) Ends moves).1
turn_answers_nothing s a (DriverEvent.Opened b) v refused moves = refl
turn_answers_nothing s a (DriverEvent.Bytes b how) v refused moves = refl
turn_answers_nothing s a (DriverEvent.Lost b) v refused moves = refl
turn_answers_nothing s a (DriverEvent.Moment time) v refused moves = refl
turn_answers_nothing s a (DriverEvent.Endpoint address state) v refused moves = refl
turn_answers_nothing s a DriverEvent.Sweep v refused moves = refl

-- ---- one of the streams changes

pub state_at : (s : Setting) (past : List Entry) (states : List StreamState) (a : Authority) → states ≡ states_of s past → a.0 < length states → slice_get states a.0 ≡ Some (state_of s a past)
state_at s past states a is lt =
    let f : ℕ → StreamState = λ place. state_of s (place_of place) past in
    let long : length states ≡ s.authorities = ap length is ∙ length-map-range_with_len f 0 s.authorities in
    slice_get-get_or states a.0 (state_of s a past) lt
    ∙ ap (λ xs. Some (get_or xs a.0 (state_of s a past))) is
    ∙ ap (λ x. Some x) (get_or-map-range_with_len f 0 s.authorities a.0 a.0 (state_of s a past) (omega (arith, long, lt)) (omega arith))

one_changed : (s : Setting) (c : Came) (past : List Entry) (states : List StreamState) (a : Authority) (next : StreamState) → states ≡ states_of s past → a.0 < length states →
    ((b : Authority) → (b.0 ≡ a.0 → ⊥) → is_about b c.event ≡ false) → next ≡ state_with s c a past → slice_set states a.0 next ≡ states_with s c past
one_changed s c past states a next is lt others now =
    let f : ℕ → StreamState = λ place. state_of s (place_of place) past in
    let g : ℕ → StreamState = λ place. state_with s c (place_of place) past in
    let long : length states ≡ s.authorities = ap length is ∙ length-map-range_with_len f 0 s.authorities in
    ap₂ (λ xs x. slice_set xs a.0 x) is now
    ∙ set_one f g 0 s.authorities a.0 a.0 (omega arith) (omega (arith, long, lt)) (λ i apart. others_stand s c (place_of i) past (others (place_of i) apart))

-- a stream is opened, or ends
pub turned_all : (s : Setting) (c : Came) (past : List Entry) (states after : List StreamState) (a : Authority) (t : Turn) → states ≡ states_of s past → a.0 < length states →
    turn_by a c.event c.verdict ≡ t → (t ≡ Stays → ⊥) →
    ((state : StreamState) → slice_get states a.0 ≡ Some state → after ≡ slice_set states a.0 (turned_state t state)) → after ≡ states_with s c past
turned_all s c past states after a t is lt turns moves step =
    let moves' : turn_by a c.event c.verdict ≡ Stays → ⊥ = λ e. moves (sym turns ∙ e) in
    step (state_of s a past) (state_at s past states a is lt)
    ∙ one_changed s c past states a (turned_state t (state_of s a past)) is lt (λ b other. about_others a b c.event c.verdict moves' other)
    (sym (turns_follow s c a past (λ k. ap (told_of a k) (turn_answers_nothing s a c.event c.verdict c.refused moves')) ∙ ap (λ t. turned_state t (state_of s a past)) turns))

pub opened_all : (s : Setting) (c : Came) (past : List Entry) (states after : List StreamState) (a : Authority) → c.event ≡ DriverEvent.Opened a → states ≡ states_of s past → a.0 < length states →
    ((state : StreamState) → slice_get states a.0 ≡ Some state → after ≡ slice_set states a.0 (step.opened state)) → after ≡ states_with s c past
opened_all s c past states after a event is lt steps =
    turned_all s c past states after a Opens is lt (ap (λ e. turn_by a e c.verdict) event ∙ ap (λ b. turn_if b Opens) (eq-eqb a.0 a.0 refl)) (λ e. cc e) steps

pub ended_all : (s : Setting) (c : Came) (past : List Entry) (states after : List StreamState) (a : Authority) → turn_by a c.event c.verdict ≡ Ends → states ≡ states_of s past → a.0 < length states →
    ((state : StreamState) → slice_get states a.0 ≡ Some state → after ≡ slice_set states a.0 (step.lost state)) → after ≡ states_with s c past
ended_all s c past states after a turns is lt steps = turned_all s c past states after a Ends is lt turns (λ e. cc e) steps

pub lost_turns : (c : Came) (a : Authority) → c.event ≡ DriverEvent.Lost a → turn_by a c.event c.verdict ≡ Ends
lost_turns c a event = ap (λ e. turn_by a e c.verdict) event ∙ ap (λ b. turn_if b Ends) (eq-eqb a.0 a.0 refl)

pub broken_turns : (c : Came) (a : Authority) (how : BytesHow) → c.event ≡ DriverEvent.Bytes a how → is_broken how ≡ true → turn_by a c.event c.verdict ≡ Ends
broken_turns c a how event broken = ap (λ e. turn_by a e c.verdict) event ∙ ap₂ (λ x y. turn_if (x && y) Ends) (eq-eqb a.0 a.0 refl) broken

pub unreadable_turns : (c : Came) (a : Authority) (payload : List ℕ) → c.event ≡ DriverEvent.Response a payload → c.verdict ≡ Verdict.Unreadable → turn_by a c.event c.verdict ≡ Ends
unreadable_turns c a payload event bad = ap₂ (λ e v. turn_by a e v) event bad ∙ ap (λ x. turn_if (x && true) Ends) (eq-eqb a.0 a.0 refl)

pub lost_verdict : (s : Setting) (past : List Entry) (states : List StreamState) (a : Authority) (refused : List Name) (was : Bool) → states ≡ states_of s past → a.0 < length states →
    ((state : StreamState) → slice_get states a.0 ≡ Some state → was ≡ state.is_up) → (if was then Verdict.Done else Verdict.Closed) ≡ verdict s past (DriverEvent.Lost a) refused
lost_verdict s past states a refused was is lt up = ap (λ b. if b then Verdict.Done else Verdict.Closed) (up (state_of s a past) (state_at s past states a is lt))

-- a response that was read
pub responded_all : (s : Setting) (past : List Entry) (states after : List StreamState) (a : Authority) (payload : List ℕ) (r : Response) (kind : Kind) (refused : List Name) (error : Option Name) →
    states ≡ states_of s past → a.0 < length states → s.read payload ≡ Some r → s.kind_of r.type_url ≡ Some kind →
    (is_asked a kind past ≡ true → error ≡ error_in (parts s kind r.resources refused)) →
    ((state : StreamState) → slice_get states a.0 ≡ Some state → after ≡ slice_set states a.0 (step.response_taken state kind r.version r.nonce error)) →
    after ≡ states_with s (response_came a payload (verdict s past (DriverEvent.Response a payload) refused) refused) past
responded_all s past states after a payload r kind refused error is lt reads of_kind tell steps =
    let c : Came = response_came a payload (verdict s past (DriverEvent.Response a payload) refused) refused in
    steps (state_of s a past) (state_at s past states a is lt)
    ∙ one_changed s c past states a (step.response_taken (state_of s a past) kind r.version r.nonce error) is lt
    (λ b other. ne_eqb b.0 a.0 other) (response_follows s a past payload r kind refused error reads of_kind tell).1

pub responded_verdict : (s : Setting) (past : List Entry) (states : List StreamState) (v : Verdict) (a : Authority) (payload : List ℕ) (r : Response) (kind : Kind) (refused : List Name) (error : Option Name) →
    states ≡ states_of s past → a.0 < length states → s.read payload ≡ Some r → s.kind_of r.type_url ≡ Some kind →
    (is_asked a kind past ≡ true → error ≡ error_in (parts s kind r.resources refused)) →
    ((state : StreamState) → slice_get states a.0 ≡ Some state → v ≡ step.verdict_of state kind error) →
    v ≡ verdict s past (DriverEvent.Response a payload) refused
responded_verdict s past states v a payload r kind refused error is lt reads of_kind tell steps =
    steps (state_of s a past) (state_at s past states a is lt) ∙ (response_follows s a past payload r kind refused error reads of_kind tell).0

-- ---- an event that isn't answered

set_same : {X : Type 0} (xs : List X) (i : ℕ) (x : X) → slice_get xs i ≡ Some x → xs ≡ slice_set xs i x
set_same [] i x is = absurd (cc is)
set_same (y ∷ xs) zero x is = let same : y ≡ x = cc is in ap (λ z. z ∷ xs) same
set_same (y ∷ xs) (suc i) x is = ap (λ zs. y ∷ zs) (set_same xs i x is)

pub stays_all : {X : Type 0} (xs : List X) (i : ℕ) (x : X) → slice_get xs i ≡ Some x → xs ≡ slice_set xs i x
stays_all xs i x is = set_same xs i x is

about_no_other : (b : Authority) (event : DriverEvent) → option_map_or (λ a. same_authority b a) (authority_in event) false ≡ false → is_about b event ≡ false
about_no_other b (DriverEvent.Opened a) other = other
about_no_other b (DriverEvent.Response a payload) other = other
about_no_other b (DriverEvent.Bytes a how) other = ap (λ x. x && is_broken how) other
about_no_other b (DriverEvent.Lost a) other = other
about_no_other b (DriverEvent.Moment time) other = refl
about_no_other b (DriverEvent.Endpoint address state) other = refl
about_no_other b DriverEvent.Sweep other = refl

pub unanswered_none : (s : Setting) (past : List Entry) (refused : List Name) (states : List StreamState) (event : DriverEvent) (v : Verdict) → authority_in event ≡ None → states ≡ states_of s past →
    states ≡ states_with s (came_with event v refused) past
unanswered_none s past refused states event v none is =
    is ∙ sym (all_stand s (came_with event v refused) past (λ b. about_no_other b event (ap (λ o. option_map_or (λ a. same_authority b a) o false) none)))

pub unanswered_some : (s : Setting) (past : List Entry) (refused : List Name) (states after : List StreamState) (event : DriverEvent) (v : Verdict) (a : Authority) (t : Turn) →
    authority_in event ≡ Some a → a.0 < length states → answered_kind v ≡ None → t ≡ turn_by a event v → states ≡ states_of s past →
    ((state : StreamState) → slice_get states a.0 ≡ Some state → after ≡ slice_set states a.0 (turned_state t state)) → after ≡ states_with s (came_with event v refused) past
unanswered_some s past refused states after event v a t whose lt unanswered turns is steps =
    let c : Came = came_with event v refused in
    steps (state_of s a past) (state_at s past states a is lt)
    ∙ one_changed s c past states a (turned_state t (state_of s a past)) is lt
    (λ b other. about_no_other b event (ap (λ o. option_map_or (λ a. same_authority b a) o false) whose ∙ ne_eqb b.0 a.0 other))
    (ap (λ t. turned_state t (state_of s a past)) turns
    ∙ sym (turns_follow s c a past (λ k. ap (λ o. told_of a k (told_in s refused event o)) unanswered ∙ ap (told_of a k) (none_in s refused event))))
