-- Which keys the requests of an entry ask for.
use Rattle.std.proofs.Common.{◌≡◌, ◌⊎◌, inl, inr, ℕ, ◌==◌, Bool, true, false, ◌&&◌, ◌||◌, cond, if◌then◌else◌, Option, Some, None, List, [], ◌∷◌, refl, sym, ap, ◌∙◌, subst, eq-eqb, eqb-true, is_some}
use Rattle.std.specs.Prelude.{Contains}
use Rattle.std.specs.List.{cons_option, find, filter_map, flat_map, range_with_len}
use Rattle.std.specs.Option.{option_or}
use Rattle.std.proofs.lemmas.Bool.{eqb-false}
use Rattle.std.proofs.lemmas.List.Folds.{find-append}
use Rattle.std.proofs.lemmas.Slice.Eq.{bytes_eq-Decides}
use Rattle.xc_base.specs.declared.names.Kind.{Kind}
use Rattle.xc_base.specs.declared.names.Authority.{Authority}
use Rattle.xc_keys.proofs.MemberLemmas.{no_member, here, there, at_first}
use Rattle.call_journal.specs.declared.reply.Sent.{Sent}
use Rattle.call_journal.specs.declared.entry.Entry.{Entry}
use Rattle.config_assembly.specs.Orders.{Name}
use Rattle.xds_history.specs.Words.{same_kind, all_kinds}
use Rattle.xds_history.specs.Setting.{Setting}
use Rattle.xds_history.specs.declared.turns.Turn.{Turn}
use Rattle.xds_history.specs.declared.turns.Turn.TheVariants.{Opens, Ends, Stays}
use Rattle.xds_history.specs.Streams.{turn_by, turned, stream, before_turn}
use Rattle.xds_history.specs.Responses.{Came}
use Rattle.xds_history.specs.Requests.{watched_names, is_due, request_for, request_due, is_silent, with_node, requests_on, requests_to, requests}
use Rattle.xds_history.specs.declared.page.Watched.{Watched}
use Rattle.std.specs.List.{list_any}
use Rattle.std.specs.Option.{option_map_or}
use Rattle.std.specs.Str.{bytes_eq}
use Rattle.xc_base.specs.declared.names.Home.{Home}
use Rattle.xc_base.specs.declared.names.Key.{Key}
use Rattle.xc_keys.specs.Keys.{is_key}
use Rattle.xc_keys.proofs.KeyLemmas.{same_key}
use Rattle.config_assembly.specs.Watching.{has_key}
use Rattle.xds_history.specs.Words.{among, lives_at}
use Rattle.xds_history.specs.Streams.{turn_of, is_up, sent_in}
use Rattle.xds_history.specs.declared.page.Page.{Page}
use Rattle.xds_history.specs.Fates.{is_asked_in, watch}
use Rattle.book_fates.specs.Timing.{asks_at, AreAskedBy}
use Rattle.xds_history.proofs.AskLemmas.{names_of, is_for, theirs, with_node_kept, of_kind, found, other_place}

-- ---- the same where the stream may be down

asked_of : (s : Setting) (c : Came) (past : List Entry) (watched : List Watched) (a : Authority) (kind : Kind) (o : Option (List Entry)) → Contains (range_with_len 0 s.authorities) a.0 → before_turn (turn_by a c.event c.verdict) (stream a past) ≡ o →
    names_of (find (is_for a kind) (requests s c past watched)) ≡ names_of (find (is_for a kind) (requests_on s c past watched a o))
asked_of s c past watched a kind o has is =
    ap names_of (found (is_for a kind) (requests_to s c past watched) a.0 (λ place other. other_place s c past watched a kind place (before_turn (turn_by (record { 0 = place }) c.event c.verdict) (stream (record { 0 = place }) past)) other) (range_with_len 0 s.authorities) has)
    ∙ ap (λ o. names_of (find (is_for a kind) (requests_on s c past watched a o))) is

asked_on : (s : Setting) (c : Came) (past : List Entry) (watched : List Watched) (a : Authority) (kind : Kind) (before : List Entry) →
    names_of (find (is_for a kind) (requests_on s c past watched a (Some before))) ≡ (if is_due s c before a kind (watched_names a kind watched) then Some (watched_names a kind watched) else None)
asked_on s c past watched a kind before =
    let rs = filter_map (request_due s c past watched before a) all_kinds in
    theirs a kind (with_node s (is_silent a before) rs)
    ∙ with_node_kept s (is_silent a before) kind rs
    ∙ of_kind (λ k. is_due s c before a k (watched_names a k watched)) (λ k. request_for s c past before a k (watched_names a k watched)) (λ k. refl) kind

-- ---- the names of watched keys

named_at : Authority → Kind → Watched → Option Name
named_at a kind w = if same_kind w.key.kind kind && lives_at a w.key.home then Some w.key.name else None

own_home : (a : Authority) (home : Home) → home ≡ Home.At a → lives_at a home ≡ true
own_home a home is = subst (λ h. lives_at a h ≡ true) (sym is) (eq-eqb a.0 a.0 refl)

named_first : (b l : Bool) (name own : Name) (rest : List Name) → b ≡ true → l ≡ true → bytes_eq name own ≡ true → among name (cons_option (if b && l then Some own else None) rest) ≡ true
named_first true true name own rest x y z = subst (λ t. (t || among name rest) ≡ true) (sym z) refl
named_first true false name own rest x y z = absurd (cc y)
named_first false l name own rest x y z = absurd (cc x)

or_later : (b more : Bool) → more ≡ true → (b || more) ≡ true
or_later true more is = refl
or_later false more is = is

named_later : (name : Name) (o : Option Name) (rest : List Name) → among name rest ≡ true → among name (cons_option o rest) ≡ true
named_later name None rest has = has
named_later name (Some other) rest has = or_later (bytes_eq name other) (among name rest) has

named_by : (b : Bool) (a : Authority) (key k : Key) (rest : List Name) (has : Bool) → is_key key k ≡ b → key.home ≡ Home.At a → (has ≡ true → among key.name rest ≡ true) → (b || has) ≡ true →
    among key.name (cons_option (if same_kind k.kind key.kind && lives_at a k.home then Some k.name else None) rest) ≡ true
named_by true a key k rest has is home later any =
    subst (λ x. among key.name (cons_option (if same_kind x.kind key.kind && lives_at a x.home then Some x.name else None) rest) ≡ true) (same_key key k is)
    (named_first (same_kind key.kind key.kind) (lives_at a key.home) key.name key.name rest (eq-eqb _ _ refl) (own_home a key.home home) ((bytes_eq-Decides key.name key.name).1 refl))
named_by false a key k rest has is home later any = named_later key.name (if same_kind k.kind key.kind && lives_at a k.home then Some k.name else None) rest (later any)

among_watched : (marks : List Watched) (reached : List Key) (a : Authority) (key : Key) → key.home ≡ Home.At a → has_key reached key ≡ true → among key.name (watched_names a key.kind (watch marks reached)) ≡ true
among_watched marks [] a key home has = absurd (cc has)
among_watched marks (k ∷ keys) a key home has =
    named_by (is_key key k) a key k (watched_names a key.kind (watch marks keys)) (has_key keys key) refl home (among_watched marks keys a key home) has

-- ---- a request of a kind asks for every watched key of that kind and home

any_found : (p : Sent → Bool) (xs : List Sent) → list_any p xs ≡ is_some (names_of (find p xs))
any_found p [] = refl
any_found p (x ∷ xs) = by (p x) (any_found p xs)
  where
    by : (b : Bool) → list_any p xs ≡ is_some (names_of (find p xs)) → (b || list_any p xs) ≡ is_some (names_of (cond b (Some x) (find p xs)))
    by true same = refl
    by false same = same

up_alike : (t : Turn) (o : Option (List Entry)) (e : Entry) → is_some (turned t e o) ≡ is_some (before_turn t o)
up_alike Opens o e = refl
up_alike Ends o e = refl
up_alike Stays None e = refl
up_alike Stays (Some es) e = refl

asked_due : (due : Bool) (name : Name) (names : List Name) (f : Option (List Name)) → f ≡ (if due then Some names else None) → among name names ≡ true → is_some f ≡ (true && option_map_or (among name) f false)
asked_due true name names f is has = subst (λ g. is_some g ≡ (true && option_map_or (among name) g false)) (sym is) (sym has)
asked_due false name names f is has = subst (λ g. is_some g ≡ (true && option_map_or (among name) g false)) (sym is) refl

asked_where : (s : Setting) (c : Came) (past : List Entry) (watched : List Watched) (a : Authority) (key : Key) (o : Option (List Entry)) (f : Option (List Name)) → f ≡ names_of (find (is_for a key.kind) (requests_on s c past watched a o)) → among key.name (watched_names a key.kind watched) ≡ true →
    is_some f ≡ (is_some o && option_map_or (among key.name) f false)
asked_where s c past watched a key None f is has = ap is_some is
asked_where s c past watched a key (Some before) f is has =
    asked_due (is_due s c before a key.kind (watched_names a key.kind watched)) key.name (watched_names a key.kind watched) f (is ∙ asked_on s c past watched a key.kind before) has

-- a place is in a list or it isn't
member_by : (b : Bool) (place a : ℕ) (places : List ℕ) → (place == a) ≡ b → Contains places a ⊎ (Contains places a → ⊥) → Contains (place ∷ places) a ⊎ (Contains (place ∷ places) a → ⊥)
member_by true place a places is rest = inl (subst (λ n. Contains (place ∷ places) n) (eqb-true place a is) (here place places))
member_by false place a places is (inl has) = inl (there place places a has)
member_by false place a places is (inr none) = inr (λ has. elim (at_first place a places has) [ inl same ↦ eqb-false place a is same | inr later ↦ none later ])

member : (places : List ℕ) (a : ℕ) → Contains places a ⊎ (Contains places a → ⊥)
member [] a = inr (λ has. no_member a has)
member (place ∷ places) a = member_by (place == a) place a places refl (member places a)

or_none : (o rest : Option Sent) → o ≡ None → rest ≡ None → option_or o rest ≡ None
or_none None rest first later = later
or_none (Some x) rest first later = absurd (cc first)

none_to : (p : Sent → Bool) (f : ℕ → List Sent) (a : ℕ) (others : (place : ℕ) → (place ≡ a → ⊥) → find p (f place) ≡ None) (places : List ℕ) → (Contains places a → ⊥) → find p (flat_map f places) ≡ None
none_to p f a others [] none = refl
none_to p f a others (place ∷ places) none =
    find-append p (f place) (flat_map f places)
    ∙ or_none (find p (f place)) (find p (flat_map f places)) (others place (λ is. none (subst (λ n. Contains (place ∷ places) n) is (here place places)))) (none_to p f a others places (λ has. none (there place places a has)))

-- nothing is asked of an authority that isn't there
and_none : (b : Bool) → false ≡ (b && false)
and_none true = refl
and_none false = refl

asked_none : (key : Key) (f : Option (List Name)) (u : Bool) → f ≡ None → is_some f ≡ (u && option_map_or (among key.name) f false)
asked_none key f u is = subst (λ g. is_some g ≡ (u && option_map_or (among key.name) g false)) (sym is) (and_none u)

asked_within : (s : Setting) (c : Came) (past : List Entry) (marks : List Watched) (reached : List Key) (key : Key) (a : Authority) (sent : List Sent) (o : Option (List Entry)) → sent ≡ requests s c past (watch marks reached) → before_turn (turn_by a c.event c.verdict) (stream a past) ≡ o →
    key.home ≡ Home.At a → has_key reached key ≡ true → Contains (range_with_len 0 s.authorities) a.0 ⊎ (Contains (range_with_len 0 s.authorities) a.0 → ⊥) →
    is_some (names_of (find (is_for a key.kind) sent)) ≡ (is_some o && option_map_or (among key.name) (names_of (find (is_for a key.kind) sent)) false)
asked_within s c past marks reached key a sent o sent_is o_is home has (inl within) =
    asked_where s c past (watch marks reached) a key o (names_of (find (is_for a key.kind) sent))
    (ap (λ xs. names_of (find (is_for a key.kind) xs)) sent_is ∙ asked_of s c past (watch marks reached) a key.kind o within o_is) (among_watched marks reached a key home has)
asked_within s c past marks reached key a sent o sent_is o_is home has (inr outside) =
    asked_none key (names_of (find (is_for a key.kind) sent)) (is_some o)
    (ap (λ xs. names_of (find (is_for a key.kind) xs)) sent_is
    ∙ ap names_of (none_to (is_for a key.kind) (requests_to s c past (watch marks reached)) a.0
    (λ place other. other_place s c past (watch marks reached) a key.kind place (before_turn (turn_by (record { 0 = place }) c.event c.verdict) (stream (record { 0 = place }) past)) other) (range_with_len 0 s.authorities) outside))

asked_at : (s : Setting) (c : Came) (past : List Entry) (marks : List Watched) (reached : List Key) (key : Key) (a : Authority) (e : Entry) (sent : List Sent) → sent ≡ requests s c past (watch marks reached) → sent_in e.what ≡ sent → turn_of a e.what ≡ turn_by a c.event c.verdict →
    key.home ≡ Home.At a → has_key reached key ≡ true → asks_at sent key (Home.At a) ≡ (is_up a (e ∷ past) && is_asked_in a key e)
asked_at s c past marks reached key a e sent sent_is in_entry turn_is home has =
    let f : Option (List Name) = names_of (find (is_for a key.kind) sent) in
    let o : Option (List Entry) = before_turn (turn_by a c.event c.verdict) (stream a past) in
    any_found (is_for a key.kind) sent
    ∙ asked_within s c past marks reached key a sent o sent_is refl home has (member (range_with_len 0 s.authorities) a.0)
    ∙ ap (λ t. is_some (before_turn t (stream a past)) && option_map_or (among key.name) f false) (sym turn_is)
    ∙ ap (λ u. u && option_map_or (among key.name) f false) (sym (up_alike (turn_of a e.what) (stream a past) e))
    ∙ ap (λ xs. is_up a (e ∷ past) && option_map_or (among key.name) (names_of (find (is_for a key.kind) xs)) false) (sym in_entry)

-- the requests of a driver's entry are its due ones: then one of a kind asks for all keys of the kind and home
pub are_asked_by : (s : Setting) (c : Came) (past : List Entry) (marks : List Watched) (reached : List Key) (p : Page) (sent : List Sent) → sent ≡ requests s c past (watch marks reached) → sent_in p.entry.what ≡ sent → ((a : Authority) → turn_of a p.entry.what ≡ turn_by a c.event c.verdict) →
    AreAskedBy sent reached past p
are_asked_by s c past marks reached p sent sent_is in_entry turn_is key a home has = asked_at s c past marks reached key a p.entry sent sent_is in_entry (turn_is a) home has
