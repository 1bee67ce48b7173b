-- After each driver's entry the watched names are those that were asked for last.
use Rattle.std.proofs.Common.{◌≡◌, ◌⊎◌, inl, inr, ℕ, ◌==◌, Bool, true, false, ◌&&◌, ◌||◌, not, cond, if◌then◌else◌, Option, Some, None, List, [], ◌∷◌, ◌++◌, map, refl, sym, ap, ◌∙◌, subst, eq-eqb, eqb-true, ne_eqb, IsTrue, is_some, option_map, unwrap_or}
use Rattle.std.specs.Prelude.{Contains}
use Rattle.std.specs.List.{cons_option, find, filter_map, flat_map, range_with_len}
use Rattle.std.specs.Option.{option_or}
use Rattle.std.proofs.lemmas.Bool.{eqb-false}
use Rattle.std.proofs.lemmas.List.Folds.{find-append}
use Rattle.std.proofs.lemmas.Slice.Eq.{bytes_eq-Decides, slice_eq-Decides}
use Rattle.xc_base.specs.declared.names.Kind.{Kind}
use Rattle.xc_base.specs.declared.names.Authority.{Authority}
use Rattle.xc_keys.proofs.MemberLemmas.{no_member, here, there, at_first}
use Rattle.proto_discovery.specs.declared.request.Request.{Request}
use Rattle.call_journal.specs.declared.event.DriverEvent.{DriverEvent}
use Rattle.call_journal.specs.declared.reply.DriverReply.{DriverReply}
use Rattle.call_journal.specs.declared.reply.Sent.{Sent}
use Rattle.call_journal.specs.declared.entry.What.{What}
use Rattle.call_journal.specs.declared.entry.Entry.{Entry}
use Rattle.config_assembly.specs.Orders.{Name}
use Rattle.xds_history.specs.Words.{same_kind, same_authority, all_kinds}
use Rattle.xds_history.specs.Setting.{Setting}
use Rattle.xds_history.specs.declared.turns.Turn.{Turn}
use Rattle.xds_history.specs.declared.turns.Turn.TheVariants.{Opens, Ends, Stays}
use Rattle.xds_history.specs.Streams.{turn_by, turned, stream, before_turn, asked_in, asked}
use Rattle.xds_history.specs.Responses.{Came, answered, told_of}
use Rattle.xds_history.specs.Requests.{watched_names, same_names, is_due, request_for, request_due, is_silent, with_node, sent_to, requests_on, requests_to, requests}
use Rattle.xds_history.specs.declared.page.Watched.{Watched}
use Rattle.xds_history.specs.Pages.{came}
use Rattle.xds_history.specs.HistoryLaws.{is_report, is_call}
use Rattle.xds_history.proofs.LawProofs.{entry_of}
use Rattle.xds_history.proofs.WatchLemmas.{none_answered, none_turned}

-- ---- the names of the first request of a kind

abbrev pub names_for : Kind → List Request → Option (List Name)
names_for kind rs = option_map (λ r. r.names) (find (λ r. same_kind r.kind kind) rs)

-- whether a request is for this authority and kind
abbrev pub is_for : Authority → Kind → Sent → Bool
is_for a kind x = same_authority a x.authority && same_kind x.request.kind kind

abbrev pub names_of : Option Sent → Option (List Name)
names_of o = option_map (λ x. x.request.names) o

pub not_theirs : (a b : Authority) (kind : Kind) (rs : List Request) → same_authority a b ≡ false → find (is_for a kind) (map (sent_to b) rs) ≡ None
not_theirs a b kind [] other = refl
not_theirs a b kind (r ∷ rs) other =
    subst (λ t. cond (t && same_kind r.kind kind) (Some (sent_to b r)) (find (is_for a kind) (map (sent_to b) rs)) ≡ None) (sym other) (not_theirs a b kind rs other)

pub theirs_at : (b : Bool) (a : Authority) (r : Request) (rest : Option Sent) (more : Option Request) → names_of rest ≡ option_map (λ r. r.names) more → names_of (cond b (Some (sent_to a r)) rest) ≡ option_map (λ r. r.names) (cond b (Some r) more)
theirs_at true a r rest more same = refl
theirs_at false a r rest more same = same

pub theirs : (a : Authority) (kind : Kind) (rs : List Request) → names_of (find (is_for a kind) (map (sent_to a) rs)) ≡ names_for kind rs
theirs a kind [] = refl
theirs a kind (r ∷ rs) =
    subst (λ t. names_of (cond (t && same_kind r.kind kind) (Some (sent_to a r)) (find (is_for a kind) (map (sent_to a) rs))) ≡ names_for kind (r ∷ rs)) (sym (eq-eqb a.0 a.0 refl))
    (theirs_at (same_kind r.kind kind) a r (find (is_for a kind) (map (sent_to a) rs)) (find (λ r. same_kind r.kind kind) rs) (theirs a kind rs))

pub node_at : (s : Setting) (b : Bool) (r : Request) (rest : Option Request) → option_map (λ r. r.names) (cond b (Some (record r { node = Some s.node })) rest) ≡ option_map (λ r. r.names) (cond b (Some r) rest)
node_at s true r rest = refl
node_at s false r rest = refl

pub with_node_kept : (s : Setting) (first : Bool) (kind : Kind) (rs : List Request) → names_for kind (with_node s first rs) ≡ names_for kind rs
with_node_kept s first kind [] = refl
with_node_kept s true kind (r ∷ rs) = node_at s (same_kind r.kind kind) r (find (λ r. same_kind r.kind kind) rs)
with_node_kept s false kind (r ∷ rs) = refl

-- ---- the requests of a stream, kind by kind

module _ (due : Kind → Bool) (made : Kind → Request) (its_kind : (kind : Kind) → (made kind).kind ≡ kind) where
  abbrev pub made_if : Kind → Option Request
  made_if kind = if due kind then Some (made kind) else None

  pub other_kind : (kind k : Kind) (b : Bool) (rest : List Request) → same_kind k kind ≡ false → names_for kind (cons_option (if b then Some (made k) else None) rest) ≡ names_for kind rest
  other_kind kind k true rest other =
      subst (λ t. option_map (λ r. r.names) (cond t (Some (made k)) (find (λ r. same_kind r.kind kind) rest)) ≡ names_for kind rest)
      (sym (ap (λ x. same_kind x kind) (its_kind k) ∙ other)) refl
  other_kind kind k false rest other = refl

  pub own_kind : (kind : Kind) (b : Bool) (rest : List Request) → same_kind kind kind ≡ true → names_for kind rest ≡ None → names_for kind (cons_option (if b then Some (made kind) else None) rest) ≡ (if b then Some (made kind).names else None)
  own_kind kind true rest own none =
      subst (λ t. option_map (λ r. r.names) (cond t (Some (made kind)) (find (λ r. same_kind r.kind kind) rest)) ≡ Some (made kind).names)
      (sym (ap (λ x. same_kind x kind) (its_kind kind) ∙ own)) refl
  own_kind kind false rest own none = none

  pub of_kind : (kind : Kind) → names_for kind (filter_map made_if all_kinds) ≡ (if due kind then Some (made kind).names else None)
  of_kind Kind.Listener =
      own_kind Kind.Listener (due Kind.Listener) (filter_map made_if (Kind.Route ∷ Kind.Cluster ∷ Kind.Endpoint ∷ [])) refl
      (other_kind Kind.Listener Kind.Route (due Kind.Route) (filter_map made_if (Kind.Cluster ∷ Kind.Endpoint ∷ [])) refl
      ∙ other_kind Kind.Listener Kind.Cluster (due Kind.Cluster) (filter_map made_if (Kind.Endpoint ∷ [])) refl
      ∙ other_kind Kind.Listener Kind.Endpoint (due Kind.Endpoint) [] refl)
  of_kind Kind.Route =
      other_kind Kind.Route Kind.Listener (due Kind.Listener) (filter_map made_if (Kind.Route ∷ Kind.Cluster ∷ Kind.Endpoint ∷ [])) refl
      ∙ own_kind Kind.Route (due Kind.Route) (filter_map made_if (Kind.Cluster ∷ Kind.Endpoint ∷ [])) refl
      (other_kind Kind.Route Kind.Cluster (due Kind.Cluster) (filter_map made_if (Kind.Endpoint ∷ [])) refl
      ∙ other_kind Kind.Route Kind.Endpoint (due Kind.Endpoint) [] refl)
  of_kind Kind.Cluster =
      other_kind Kind.Cluster Kind.Listener (due Kind.Listener) (filter_map made_if (Kind.Route ∷ Kind.Cluster ∷ Kind.Endpoint ∷ [])) refl
      ∙ other_kind Kind.Cluster Kind.Route (due Kind.Route) (filter_map made_if (Kind.Cluster ∷ Kind.Endpoint ∷ [])) refl
      ∙ own_kind Kind.Cluster (due Kind.Cluster) (filter_map made_if (Kind.Endpoint ∷ [])) refl
      (other_kind Kind.Cluster Kind.Endpoint (due Kind.Endpoint) [] refl)
  of_kind Kind.Endpoint =
      other_kind Kind.Endpoint Kind.Listener (due Kind.Listener) (filter_map made_if (Kind.Route ∷ Kind.Cluster ∷ Kind.Endpoint ∷ [])) refl
      ∙ other_kind Kind.Endpoint Kind.Route (due Kind.Route) (filter_map made_if (Kind.Cluster ∷ Kind.Endpoint ∷ [])) refl
      ∙ other_kind Kind.Endpoint Kind.Cluster (due Kind.Cluster) (filter_map made_if (Kind.Endpoint ∷ [])) refl
      ∙ own_kind Kind.Endpoint (due Kind.Endpoint) [] refl refl

-- ---- the requests to one of the authorities

module _ (p : Sent → Bool) (f : ℕ → List Sent) (a : ℕ) (others : (place : ℕ) → (place ≡ a → ⊥) → find p (f place) ≡ None) where
  same_or_none : (o rest : Option Sent) → (rest ≡ o) ⊎ (rest ≡ None) → option_or o rest ≡ o
  same_or_none None rest either = elim either [ inl is ↦ is | inr is ↦ is ]
  same_or_none (Some x) rest either = refl

  passed : (place : ℕ) (places : List ℕ) → (place ≡ a → ⊥) → find p (flat_map f (place ∷ places)) ≡ find p (flat_map f places)
  passed place places other = find-append p (f place) (flat_map f places) ∙ ap (λ o. option_or o (find p (flat_map f places))) (others place other)

  at_place : (place : ℕ) (places : List ℕ) → place ≡ a → (find p (flat_map f places) ≡ find p (f a)) ⊎ (find p (flat_map f places) ≡ None) → find p (flat_map f (place ∷ places)) ≡ find p (f a)
  at_place place places same either =
      find-append p (f place) (flat_map f places) ∙ ap (λ n. option_or (find p (f n)) (find p (flat_map f places))) same ∙ same_or_none (find p (f a)) (find p (flat_map f places)) either

  at_or_none_by : (b : Bool) (place : ℕ) (places : List ℕ) → (place == a) ≡ b → (find p (flat_map f places) ≡ find p (f a)) ⊎ (find p (flat_map f places) ≡ None) →
      (find p (flat_map f (place ∷ places)) ≡ find p (f a)) ⊎ (find p (flat_map f (place ∷ places)) ≡ None)
  at_or_none_by true place places test either = inl (at_place place places (eqb-true place a test) either)
  at_or_none_by false place places test either =
      let passes = passed place places (eqb-false place a test) in
      elim either [ inl is ↦ inl (passes ∙ is) | inr is ↦ inr (passes ∙ is) ]

  at_or_none : (places : List ℕ) → (find p (flat_map f places) ≡ find p (f a)) ⊎ (find p (flat_map f places) ≡ None)
  at_or_none [] = inr refl
  at_or_none (place ∷ places) = at_or_none_by (place == a) place places refl (at_or_none places)

  found_by : (b : Bool) (place : ℕ) (places : List ℕ) → (place == a) ≡ b → (Contains places a → find p (flat_map f places) ≡ find p (f a)) → Contains (place ∷ places) a → find p (flat_map f (place ∷ places)) ≡ find p (f a)
  found_by true place places test more has = at_place place places (eqb-true place a test) (at_or_none places)
  found_by false place places test more has =
      elim (at_first place a places has) [
        | inl same ↦ absurd (eqb-false place a test same)
        | inr later ↦ passed place places (eqb-false place a test) ∙ more later
      ]

  pub found : (places : List ℕ) → Contains places a → find p (flat_map f places) ≡ find p (f a)
  found [] has = absurd (no_member a has)
  found (place ∷ places) has = found_by (place == a) place places refl (found places) has

pub other_place : (s : Setting) (c : Came) (past : List Entry) (watched : List Watched) (a : Authority) (kind : Kind) (place : ℕ) (o : Option (List Entry)) → (place ≡ a.0 → ⊥) → find (is_for a kind) (requests_on s c past watched (record { 0 = place }) o) ≡ None
other_place s c past watched a kind place None other = refl
other_place s c past watched a kind place (Some before) other =
    not_theirs a (record { 0 = place }) kind (with_node s (is_silent (record { 0 = place }) before) (filter_map (request_due s c past watched before (record { 0 = place })) all_kinds))
    (ne_eqb a.0 place (λ e. other (sym e)))

-- the names for which the requests of an entry ask an authority
pub asked_now : (s : Setting) (c : Came) (past : List Entry) (watched : List Watched) (a : Authority) (kind : Kind) (before : List Entry) → Contains (range_with_len 0 s.authorities) a.0 → before_turn (turn_by a c.event c.verdict) (stream a past) ≡ Some before →
    names_of (find (is_for a kind) (requests s c past watched)) ≡ (if is_due s c before a kind (watched_names a kind watched) then Some (watched_names a kind watched) else None)
asked_now s c past watched a kind before has up =
    let rs = filter_map (request_due s c past watched before a) all_kinds in
    ap names_of (found (is_for a kind) (requests_to s c past watched) a.0 (λ place other. other_place s c past watched a kind place (before_turn (turn_by (record { 0 = place }) c.event c.verdict) (stream (record { 0 = place }) past)) other) (range_with_len 0 s.authorities) has)
    ∙ ap (λ o. names_of (find (is_for a kind) (requests_on s c past watched a o))) up
    ∙ theirs a kind (with_node s (is_silent a before) rs)
    ∙ with_node_kept s (is_silent a before) kind rs
    ∙ of_kind (λ k. is_due s c before a k (watched_names a k watched)) (λ k. request_for s c past before a k (watched_names a k watched)) (λ k. refl) kind

-- ---- what holds after each driver's entry

-- on each stream that is up the watched names of each kind are those that were asked for last
abbrev pub AreAsked : Setting → List Entry → List Watched → Type 0
AreAsked s past watched = (a : Authority) → Contains (range_with_len 0 s.authorities) a.0 → (kind : Kind) (entries : List Entry) → stream a past ≡ Some entries →
    same_names (watched_names a kind watched) (unwrap_or (asked a kind entries) []) ≡ true

pub on_stream : (t : Turn) (o : Option (List Entry)) (e : Entry) (entries : List Entry) → turned t e o ≡ Some entries → (before : List Entry) × (before_turn t o ≡ Some before) × (entries ≡ e ∷ before)
on_stream Opens o e entries is = ([], refl, sym (cc is))
on_stream Ends o e entries is = absurd (cc is)
on_stream Stays None e entries is = absurd (cc is)
on_stream Stays (Some xs) e entries is = (xs, refl, sym (cc is))

pub same_themselves : (names : List Name) → same_names names names ≡ true
same_themselves names = (slice_eq-Decides bytes_eq-Decides names names (same_names names names) refl).1 refl

pub settled_by : (b same : Bool) → (b || not same) ≡ false → same ≡ true
settled_by true same is = absurd (cc is)
settled_by false true is = refl
settled_by false false is = absurd (cc is)

pub settled_at : (due b : Bool) (names : List Name) (now last : Option (List Name)) → (b || not (same_names names (unwrap_or last []))) ≡ due → now ≡ (if due then Some names else None) → same_names names (unwrap_or (option_or now last) []) ≡ true
settled_at true b names now last is asked = subst (λ o. same_names names (unwrap_or (option_or o last) []) ≡ true) (sym asked) (same_themselves names)
settled_at false b names now last is asked = subst (λ o. same_names names (unwrap_or (option_or o last) []) ≡ true) (sym asked) (settled_by b (same_names names (unwrap_or last [])) is)

pub asked_after : (s : Setting) (past : List Entry) (actor line : ℕ) (event : DriverEvent) (reply : DriverReply) (watched : List Watched) → reply.sent ≡ requests s (came event reply) past watched → AreAsked s (entry_of actor line (What.Driver event reply) ∷ past) watched
asked_after s past actor line event reply watched sent a has kind entries up =
    let e : Entry = entry_of actor line (What.Driver event reply) in
    let (before, was, are) = on_stream (turn_by a event reply.verdict) (stream a past) e entries up in
    let now : asked_in a kind e ≡ (if is_due s (came event reply) before a kind (watched_names a kind watched) then Some (watched_names a kind watched) else None) = ap (λ xs. names_of (find (is_for a kind) xs)) sent ∙ asked_now s (came event reply) past watched a kind before has was in
    subst (λ es. same_names (watched_names a kind watched) (unwrap_or (asked a kind es) []) ≡ true) (sym are)
    (settled_at (is_due s (came event reply) before a kind (watched_names a kind watched)) (is_some (told_of a kind (answered s (came event reply)))) (watched_names a kind watched) (asked_in a kind e) (asked a kind before) refl now)

pub asked_still : (s : Setting) (past : List Entry) (actor line : ℕ) (what : What) (watched : List Watched) → IsTrue (is_call what) → AreAsked s past watched → AreAsked s (entry_of actor line what ∷ past) watched
asked_still s past actor line (What.Driver event reply) watched is are a has kind entries up = absurd (cc is)
asked_still s past actor line (What.Caller event reply) watched is are a has kind entries up =
    let e : Entry = entry_of actor line (What.Caller event reply) in
    let (before, was, same) = on_stream Stays (stream a past) e entries up in
    subst (λ es. same_names (watched_names a kind watched) (unwrap_or (asked a kind es) []) ≡ true) (sym same) (are a has kind before was)

-- ---- a report asks for nothing

pub nothing_due : (s : Setting) (event : DriverEvent) (reply : DriverReply) (before : List Entry) (a : Authority) (kind : Kind) (names : List Name) → IsTrue (is_report event) → same_names names (unwrap_or (asked a kind before) []) ≡ true → is_due s (came event reply) before a kind names ≡ false
nothing_due s event reply before a kind names report same =
    ap (λ o. is_some (told_of a kind o) || not (same_names names (unwrap_or (asked a kind before) []))) (none_answered s event reply report) ∙ ap not same

pub none_of : (f : Kind → Option Request) (kinds : List Kind) → ((kind : Kind) → f kind ≡ None) → filter_map f kinds ≡ []
none_of f [] none = refl
none_of f (kind ∷ kinds) none = ap (λ o. cons_option o (filter_map f kinds)) (none kind) ∙ none_of f kinds none

pub none_due : (s : Setting) (past : List Entry) (event : DriverEvent) (reply : DriverReply) (watched : List Watched) (before : List Entry) (a : Authority) (kind : Kind) → is_due s (came event reply) before a kind (watched_names a kind watched) ≡ false → request_due s (came event reply) past watched before a kind ≡ None
none_due s past event reply watched before a kind is = ap (λ b. if b then Some (request_for s (came event reply) past before a kind (watched_names a kind watched)) else None) is

pub none_on : (s : Setting) (past : List Entry) (event : DriverEvent) (reply : DriverReply) (watched : List Watched) (a : Authority) (o : Option (List Entry)) → IsTrue (is_report event) →
    ((kind : Kind) (entries : List Entry) → o ≡ Some entries → same_names (watched_names a kind watched) (unwrap_or (asked a kind entries) []) ≡ true) → requests_on s (came event reply) past watched a o ≡ []
none_on s past event reply watched a None report are = refl
none_on s past event reply watched a (Some before) report are =
    ap (λ rs. map (sent_to a) (with_node s (is_silent a before) rs))
    (none_of (request_due s (came event reply) past watched before a) all_kinds
    (λ kind. none_due s past event reply watched before a kind (nothing_due s event reply before a kind (watched_names a kind watched) report (are kind before refl))))

pub none_joined : (f : ℕ → List Sent) (places : List ℕ) → ((place : ℕ) → Contains places place → f place ≡ []) → flat_map f places ≡ []
none_joined f [] none = refl
none_joined f (place ∷ places) none = ap (λ xs. xs ++ flat_map f places) (none place (here place places)) ∙ none_joined f places (λ n has. none n (there place places n has))

pub none_sent : (s : Setting) (past : List Entry) (event : DriverEvent) (reply : DriverReply) (watched : List Watched) → IsTrue (is_report event) → AreAsked s past watched → requests s (came event reply) past watched ≡ []
none_sent s past event reply watched report are =
    none_joined (requests_to s (came event reply) past watched) (range_with_len 0 s.authorities)
    (λ place has.
    let a : Authority = record { 0 = place } in
    ap (λ t. requests_on s (came event reply) past watched a (before_turn t (stream a past))) (none_turned a event reply.verdict report)
    ∙ none_on s past event reply watched a (stream a past) report (are a has))
