-- The entries of a legal history are turns.
use Rattle.std.proofs.Common.{◌≡◌, ℕ, zero, suc, ◌<◌, ◌≤◌, ◌^◌, List, [], ◌∷◌, All, map, reverse, Bool, true, false, cond, eqb, eq-eqb, inl, inr, Option, Some, None, refl, sym, subst, arith}
use Rattle.std.proofs.lemmas.Bool.{cond-true}
use Rattle.std.proofs.lemmas.List.{reverse-reverse}
use Rattle.std.proofs.lemmas.List.Elements.{All-append, All-cons, All-filter, All-head, All-map, All-nil, All-tail}
use Rattle.xc_base.specs.declared.names.Authority.{Authority}
use Rattle.call_journal.specs.declared.event.BytesHow.{BytesHow}
use Rattle.call_journal.specs.declared.event.CallerEvent.{CallerEvent}
use Rattle.call_journal.specs.declared.event.DriverEvent.{DriverEvent}
use Rattle.call_journal.specs.declared.entry.Entry.{Entry}
use Rattle.call_journal.specs.declared.entry.What.{What}
use Rattle.session_lines.specs.declared.session.Act.{Act}
use Rattle.session_lines.specs.declared.session.DriverLine.{DriverLine}
use Rattle.session_lines.specs.declared.session.Line.{Line}
use Rattle.session_lines.specs.declared.session.Work.{Work}
use Rattle.session_script.specs.Plan.{ActEvents, AreListed, ArePlayed, Listed, Streams, WorkEvents, all, caller_event, data_events, driver_event, driver_list, ended_in, entries_by, entry_event, how_of, is_of_caller, last_sweep, lines_by, listed_event, listed_for, next, none_up, played_of, work_events, work_streams}
use Rattle.text_law.specs.legal_history.Legal.{is_read}
use Rattle.text_law.specs.xds_history.Setting.{setting_of}
use Rattle.text_law.proofs.SessionLemmas.{read_few}
use Rattle.turn_law.specs.TurnLaw.{IsActor, IsTurn, LegalAreTurns, address_in, event_address}
use Rattle.turn_law.proofs.FeedLemmas.{NoFeed, in_names, nothing}
use Rattle.turn_law.proofs.SpelledLines.{IsPlainLine, IsPlainWork}
use Rattle.turn_law.proofs.SpelledSession.{all_reverse, spelled_plain}

-- ---- the driver's events

abbrev IsPlainEvent : DriverEvent → Type 0
IsPlainEvent event = NoFeed (event_address event)

plain_data : (readable : List ℕ → Bool) (authority : Authority) (came : Option (List ℕ)) (bytes : List ℕ) → All IsPlainEvent (data_events readable authority came bytes)
plain_data readable authority None bytes = All-cons IsPlainEvent (DriverEvent.Bytes authority BytesHow.Closed) [] nothing (All-nil IsPlainEvent)
plain_data readable authority (Some before) bytes =
    let payloads : List (List ℕ) = played_of readable (ended_in before bytes) in
    All-append IsPlainEvent (map (DriverEvent.Response authority) payloads) (DriverEvent.Bytes authority (how_of readable before bytes) ∷ []) (plain_responses payloads)
    (All-cons IsPlainEvent (DriverEvent.Bytes authority (how_of readable before bytes)) [] nothing (All-nil IsPlainEvent))
  where
    plain_responses : (payloads : List (List ℕ)) → All IsPlainEvent (map (DriverEvent.Response authority) payloads)
    plain_responses [] = All-nil IsPlainEvent
    plain_responses (p ∷ ps) = All-cons IsPlainEvent (DriverEvent.Response authority p) (map (DriverEvent.Response authority) ps) nothing (plain_responses ps)

plain_one : (event : DriverEvent) → NoFeed (event_address event) → All IsPlainEvent (event ∷ [])
plain_one event h = All-cons IsPlainEvent event [] h (All-nil IsPlainEvent)

plain_events : (readable : List ℕ → Bool) (streams : Streams) (work : Work) → IsPlainWork work → All IsPlainEvent (work_events readable streams work)
plain_events readable streams (Work.Driver (DriverLine.Opened a)) h = plain_one (DriverEvent.Opened a) nothing
plain_events readable streams (Work.Driver (DriverLine.Bytes a bytes)) h = plain_data readable a (streams a.0) bytes
plain_events readable streams (Work.Driver (DriverLine.Lost a)) h = plain_one (DriverEvent.Lost a) nothing
plain_events readable streams (Work.Driver (DriverLine.Moment t)) h = plain_one (DriverEvent.Moment t) nothing
plain_events readable streams (Work.Driver (DriverLine.Endpoint address state)) h = plain_one (DriverEvent.Endpoint address state) h
plain_events readable streams (Work.Driver DriverLine.Sweep) h = plain_one DriverEvent.Sweep nothing
plain_events readable streams (Work.Caller caller what) h = All-nil IsPlainEvent

-- a line and an event that the driver can play
abbrev IsDriven : ℕ × Option DriverEvent → Type 0
IsDriven p = (p.0 < 2 ^ 32) × IsPlain p.1
  where
    IsPlain : Option DriverEvent → Type 0
    IsPlain None = ⊥
    IsPlain (Some event) = IsPlainEvent event

abbrev IsDrivenListed : Listed → Type 0
IsDrivenListed l = IsDriven (listed_event l)

listed_plain : (line : Line) (events : List DriverEvent) → IsPlainLine line → All IsPlainEvent events → All IsDrivenListed (map (listed_for line) events)
listed_plain line [] h are = All-nil IsDrivenListed
listed_plain line (e ∷ es) h are =
    All-cons IsDrivenListed (listed_for line e) (map (listed_for line) es) (h.few, All-head IsPlainEvent e es are) (listed_plain line es h (All-tail IsPlainEvent e es are))

list_plain : (readable : List ℕ → Bool) (streams : Streams) (lines : List Line) → All IsPlainLine lines → All IsDrivenListed (driver_list readable streams lines)
unfolding driver_list
list_plain readable streams [] are = All-cons IsDrivenListed last_sweep [] (omega arith, nothing) (All-nil IsDrivenListed)
list_plain readable streams (line ∷ lines) are =
    let here = All-head IsPlainLine line lines are in
    All-append IsDrivenListed (map (listed_for line) (work_events readable streams line.work)) (driver_list readable (work_streams readable streams line.work) lines)
    (listed_plain line (work_events readable streams line.work) here (plain_events readable streams line.work here.work))
    (list_plain readable (work_streams readable streams line.work) lines (All-tail IsPlainLine line lines are))

-- ---- the entries of an actor

-- an entry that this actor can have played
abbrev Acts : ℕ → What → Type 0
Acts zero (What.Driver event reply) = IsPlainEvent event
Acts zero (What.Caller event reply) = ⊥
Acts (suc n) (What.Driver event reply) = ⊥
Acts (suc n) (What.Caller event reply) = Unit {0}

abbrev Plays : ℕ → Entry → Type 0
Plays actor e = (e.line < 2 ^ 32) × Acts actor e.what

all_mapped : {X Y : Type 0} (P : Y → Type 0) (f : X → Y) (xs : List X) → All P (map f xs) → All (λ x. P (f x)) xs
all_mapped P f [] h = All-nil (λ x. P (f x))
all_mapped P f (x ∷ xs) h = All-cons (λ y. P (f y)) x xs (All-head P (f x) (map f xs) h) (all_mapped P f xs (All-tail P (f x) (map f xs) h))

driven_by : (e : Entry) (what : What) → e.what ≡ what → IsDriven (e.line, driver_event what) → Plays 0 e
driven_by e (What.Driver event reply) is h = (h.0, subst (Acts 0) (sym is) h.1)
driven_by e (What.Caller event reply) is h = absurd h.1

all_driven : (es : List Entry) → All (λ e. IsDriven (entry_event e)) es → All (Plays 0) es
all_driven [] h = All-nil (Plays 0)
all_driven (e ∷ es) h =
    All-cons (Plays 0) e es (driven_by e e.what refl (All-head (λ x. IsDriven (entry_event x)) e es h)) (all_driven es (All-tail (λ x. IsDriven (entry_event x)) e es h))

driver_plays : (readable : List ℕ → Bool) (lines : List Line) (entries : List Entry) → All IsPlainLine lines → map entry_event (entries_by 0 entries) ≡ map listed_event (driver_list readable none_up lines)
    → All (Plays 0) (entries_by 0 entries)
driver_plays readable lines entries are is =
    let listed : All IsDriven (map listed_event (driver_list readable none_up lines)) = All-map IsDriven listed_event (driver_list readable none_up lines) (list_plain readable none_up lines are) in
    all_driven (entries_by 0 entries) (all_mapped IsDriven entry_event (entries_by 0 entries) (subst (All IsDriven) (sym is) listed))

abbrev IsCalled : Option CallerEvent → Type 0
IsCalled None = ⊥
IsCalled (Some event) = Unit {0}

called_one : (event : CallerEvent) → All IsCalled (Some event ∷ [])
called_one event = All-cons IsCalled (Some event) [] tt (All-nil IsCalled)

called_act : (act : Act) (events : List (Option CallerEvent)) → ActEvents act events → All IsCalled events
called_act (Act.Start call) events (inl is) = subst (All IsCalled) (sym is) (called_one (CallerEvent.Pin call))
called_act (Act.Start call) events (inr is) =
    subst (All IsCalled) (sym is) (All-cons IsCalled (Some (CallerEvent.Pin call)) (Some (CallerEvent.Hold call) ∷ []) tt (called_one (CallerEvent.Hold call)))
called_act (Act.Pick id word) events is = subst (All IsCalled) (sym is) (called_one (CallerEvent.Pick id word))
called_act (Act.Commit id) events is = subst (All IsCalled) (sym is) (called_one (CallerEvent.Commit id))

called_work : (work : Work) (events : List (Option CallerEvent)) → WorkEvents work events → All IsCalled events
called_work (Work.Driver what) events h = absurd h
called_work (Work.Caller caller what) events h = called_act what events h

called_by : (n : ℕ) (e : Entry) (what : What) → e.what ≡ what → e.line < 2 ^ 32 → IsCalled (caller_event what) → Plays (suc n) e
called_by n e (What.Driver event reply) is lt h = absurd h
called_by n e (What.Caller event reply) is lt h = (lt, subst (Acts (suc n)) (sym is) tt)

now_plays : (n number : ℕ) (now : List Entry) → number < 2 ^ 32 → All (λ entry. entry.line ≡ number) now → All (λ entry. IsCalled (caller_event entry.what)) now → All (Plays (suc n)) now
now_plays n number [] lt at are = All-nil (Plays (suc n))
now_plays n number (e ∷ es) lt at are =
    let line : e.line ≡ number = All-head (λ entry. entry.line ≡ number) e es at in
    All-cons (Plays (suc n)) e es (called_by n e e.what refl (subst (λ m. m < 2 ^ 32) (sym line) lt) (All-head (λ entry. IsCalled (caller_event entry.what)) e es are))
    (now_plays n number es lt (All-tail (λ entry. entry.line ≡ number) e es at) (All-tail (λ entry. IsCalled (caller_event entry.what)) e es are))

caller_plays : (n : ℕ) (lines : List Line) (es : List Entry) → All IsPlainLine lines → ArePlayed lines es → All (Plays (suc n)) es
caller_plays n [] _ are all = All-nil (Plays (suc n))
caller_plays n (line ∷ lines) _ are (next _ _ now later numbers events rest) =
    let called = all_mapped IsCalled (λ entry. caller_event entry.what) now (called_work line.work (map (λ entry. caller_event entry.what) now) events) in
    All-append (Plays (suc n)) now later (now_plays n line.number now (All-head IsPlainLine line lines are).few numbers called) (caller_plays n lines later (All-tail IsPlainLine line lines are) rest)

-- ---- the entries of all actors

tail_by : (b : Bool) (P : Entry → Type 0) (e : Entry) (es : List Entry) → All P (cond b (e ∷ es) es) → All P es
tail_by true P e es h = All-tail P e es h
tail_by false P e es h = h

by_here : (actor : ℕ) (e : Entry) (es : List Entry) → e.actor ≡ actor → entries_by actor (e ∷ es) ≡ e ∷ entries_by actor es
by_here actor e es is = cond-true _ _ _ (eq-eqb e.actor actor is)

-- what holds of the entries of each actor, of which there are so many, holds of all
each_actor : (callers : ℕ) (es : List Entry) → All (λ e. e.actor ≤ callers) es → ((actor : ℕ) → actor ≤ callers → All (Plays actor) (entries_by actor es)) → All (λ e. Plays e.actor e) es
each_actor callers [] few each = All-nil (λ e. Plays e.actor e)
each_actor callers (e ∷ es) few each =
    let is_few : e.actor ≤ callers = All-head (λ x. x.actor ≤ callers) e es few in
    let mine : All (Plays e.actor) (e ∷ entries_by e.actor es) = subst (All (Plays e.actor)) (by_here e.actor e es refl) (each e.actor is_few) in
    All-cons (λ x. Plays x.actor x) e es (All-head (Plays e.actor) e (entries_by e.actor es) mine)
    (each_actor callers es (All-tail (λ x. x.actor ≤ callers) e es few) (λ actor lt. tail_by (eqb e.actor actor) (Plays actor) e (entries_by actor es) (each actor lt)))

plays_each : (readable : List ℕ → Bool) (callers : ℕ) (lines : List Line) (entries : List Entry) → All IsPlainLine lines → AreListed readable callers lines entries
    → (actor : ℕ) → actor ≤ callers → All (Plays actor) (entries_by actor entries)
plays_each readable callers lines entries are h zero lt = driver_plays readable lines entries are h.driver
plays_each readable callers lines entries are h (suc n) lt = caller_plays n (lines_by (suc n) lines) (entries_by (suc n) entries) (All-filter (λ line. is_of_caller (suc n) line.work) IsPlainLine lines are) (h.each_caller (suc n) (omega arith) lt)

is_actor : (actor : ℕ) (what : What) → actor ≤ 16 → Acts actor what → IsActor actor what × NoFeed (address_in what)
is_actor zero (What.Driver event reply) few h = (refl, h)
is_actor zero (What.Caller event reply) few h = absurd h
is_actor (suc n) (What.Driver event reply) few h = absurd h
is_actor (suc n) (What.Caller event reply) few h = ((omega arith, omega (arith, few)), nothing)

is_turn : (e : Entry) → e.actor ≤ 16 → Plays e.actor e → IsTurn e
is_turn e few h = let acts = is_actor e.actor e.what few h.1 in record { actor = acts.0; line = h.0; one_line = in_names (address_in e.what) acts.1 }

are_turns : (callers : ℕ) (es : List Entry) → callers ≤ 16 → All (λ e. e.actor ≤ callers) es → All (λ e. Plays e.actor e) es → All IsTurn es
are_turns callers [] few at h = All-nil IsTurn
are_turns callers (e ∷ es) few at h =
    let here : e.actor ≤ callers = All-head (λ x. x.actor ≤ callers) e es at in
    All-cons IsTurn e es (is_turn e (omega (arith, here, few)) (All-head (λ x. Plays x.actor x) e es h))
    (are_turns callers es few (All-tail (λ x. x.actor ≤ callers) e es at) (All-tail (λ x. Plays x.actor x) e es h))

pub legal_are_turns : LegalAreTurns
legal_are_turns bytes session history read legal =
    let lines = spelled_plain bytes session read in
    let readable : List ℕ → Bool = is_read (setting_of session.boot session.target) in
    let each = plays_each readable session.callers session.lines (reverse history) lines legal.listed in
    let turned = are_turns session.callers (reverse history) (read_few bytes session read) legal.listed.actors (each_actor session.callers (reverse history) legal.listed.actors each) in
    subst (All IsTurn) (reverse-reverse history) (all_reverse IsTurn (reverse history) turned)
