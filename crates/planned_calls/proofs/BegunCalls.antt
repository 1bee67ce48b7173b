-- Each call that has begun plays a start of the plan.
use Rattle.std.proofs.Common.{◌≡◌, ◌<◌, ◌≤◌, ℕ, ◌+◌, Bool, true, false, ◌==◌, List, [], ◌∷◌, Some, refl, sym, ap, ◌∙◌, subst, arith, eqb-true, eq-eqb, if◌then◌else◌}
use Rattle.std.specs.Prelude.{slice_get}
use Rattle.xc_base.specs.declared.call.Call.{Call}
use Rattle.call_journal.specs.declared.event.CallerEvent.{CallerEvent}
use Rattle.call_journal.specs.declared.entry.What.{What}
use Rattle.call_journal.specs.declared.entry.Entry.{Entry}
use Rattle.call_journal.specs.declared.plan.Listed.{Listed}
use Rattle.call_journal.specs.declared.plan.ListedEvent.{ListedEvent}
use Rattle.book_progress.specs.ActorCounts.{actor_entries, count_of}
use Rattle.book_progress.specs.PlayedPlans.{AreGated, HasPlayed, IsHold, IsOne, IsPin, caller_event}
use Rattle.book_progress.specs.PlayedPlans as played
use Rattle.planned_calls.specs.PlannedCalls.{IsStartAt, IsStartOf}

-- ---- entries that begin a call

-- an event begins the call of this number: it pins or holds for it
abbrev pub begun_by : ℕ → CallerEvent → Bool
begun_by number (CallerEvent.Pin call) = call.id.0 == number
begun_by number (CallerEvent.Hold call) = call.id.0 == number
begun_by number (CallerEvent.Pick id word) = false
begun_by number (CallerEvent.Commit id) = false

abbrev pub begins : ℕ → What → Bool
begins number (What.Driver event reply) = false
begins number (What.Caller event reply) = begun_by number event

-- each of these entries
abbrev pub Each : (Entry → Type 0) → List Entry → Type 0
Each P [] = Unit {0}
Each P (e ∷ es) = P e × Each P es

pub each_map : (P Q : Entry → Type 0) → ((e : Entry) → P e → Q e) → (es : List Entry) → Each P es → Each Q es
each_map P Q f [] each = tt
each_map P Q f (e ∷ es) each = (f e each.0, each_map P Q f es each.1)

newest : (P : Entry → Type 0) (b : Bool) (e : Entry) (es : List Entry) → b ≡ true → Each P (if b then e ∷ es else es) → P e
newest P true e es is each = each.0
newest P false e es is each = absurd (cc is)

earlier : (P : Entry → Type 0) (b : Bool) (e : Entry) (es : List Entry) → Each P (if b then e ∷ es else es) → Each P es
earlier P true e es each = each.1
earlier P false e es each = each

-- ---- one list

-- among the first so many events of a list is a start of the call of this number
pub record IsStartedBy (list : List Listed) (first number : ℕ) : Type 0 where
  pub place : ℕ
  pub before : place < first
  pub listed : Listed
  pub place_is : slice_get list place ≡ Some listed
  pub start : IsStartOf number listed.event

-- the call that an entry begins, if it begins one, is started by the first so many events of a list
abbrev pub IsFrom : List Listed → ℕ → Entry → Type 0
IsFrom list first e = (number : ℕ) → begins number e.what ≡ true → IsStartedBy list first number

later : (list : List Listed) (m n : ℕ) → m ≤ n → (e : Entry) → IsFrom list m e → IsFrom list n e
later list m n le e from = λ number begun.
    let by = from number begun in
    record { place = by.place; before = omega (arith, by.before, le); listed = by.listed; place_is = by.place_is; start = by.start }

each_later : (list : List Listed) (m n : ℕ) (es : List Entry) → m ≤ n → Each (λ e. IsFrom list m e) es → Each (λ e. IsFrom list n e) es
each_later list m n es le each = each_map (λ e. IsFrom list m e) (λ e. IsFrom list n e) (later list m n le) es each

one_begins : (event : ListedEvent) (what : What) (number : ℕ) → IsOne event what → begins number what ≡ false
one_begins event (What.Driver e reply) number is = refl
one_begins event (What.Caller (CallerEvent.Pick id word) reply) number is = refl
one_begins event (What.Caller (CallerEvent.Commit id) reply) number is = refl
one_begins (ListedEvent.Driver e) (What.Caller (CallerEvent.Pin call) reply) number is = absurd (cc is)
one_begins (ListedEvent.Start c) (What.Caller (CallerEvent.Pin call) reply) number is = absurd is
one_begins (ListedEvent.Pick id word) (What.Caller (CallerEvent.Pin call) reply) number is = absurd (cc is)
one_begins (ListedEvent.Commit id) (What.Caller (CallerEvent.Pin call) reply) number is = absurd (cc is)
one_begins (ListedEvent.Driver e) (What.Caller (CallerEvent.Hold call) reply) number is = absurd (cc is)
one_begins (ListedEvent.Start c) (What.Caller (CallerEvent.Hold call) reply) number is = absurd is
one_begins (ListedEvent.Pick id word) (What.Caller (CallerEvent.Hold call) reply) number is = absurd (cc is)
one_begins (ListedEvent.Commit id) (What.Caller (CallerEvent.Hold call) reply) number is = absurd (cc is)

-- an entry of this event begins what the event begins
begun_alike : (what : What) (event : CallerEvent) (number : ℕ) → caller_event what ≡ Some event → begins number what ≡ begun_by number event
begun_alike (What.Driver e reply) event number is = absurd (cc is)
begun_alike (What.Caller own reply) event number is = let same : own ≡ event = cc is in ap (begun_by number) same

none_from : (list : List Listed) (first : ℕ) (next : Listed) (e : Entry) → IsOne next.event e.what → IsFrom list first e
none_from list first next e one = λ number begun. let none = one_begins next.event e.what number one in absurd (cc (none, begun))

start_from : (list : List Listed) (n first : ℕ) (next : Listed) (e : Entry) (call : Call) (event : CallerEvent) → slice_get list n ≡ Some next → n < first → next.event ≡ ListedEvent.Start call
    → caller_event e.what ≡ Some event → ((number : ℕ) → begun_by number event ≡ (call.id.0 == number)) → IsFrom list first e
start_from list n first next e call event get less start is alike = λ number begun.
    let own : (call.id.0 == number) ≡ true = sym (alike number) ∙ (sym (begun_alike e.what event number is) ∙ begun) in
    record {
      place = n;
      before = less;
      listed = next;
      place_is = get;
      start = subst (λ (l : ListedEvent). IsStartOf number l) (sym start) (eqb-true call.id.0 number own);
    }

pin_from : (list : List Listed) (n first : ℕ) (next : Listed) (e : Entry) (got : Bool) → slice_get list n ≡ Some next → n < first → IsPin next.event e.what got → IsFrom list first e
pin_from list n first next e got get less pin = start_from list n first next e pin.call (CallerEvent.Pin pin.call) get less pin.start pin.pin (λ number. refl)

hold_from : (list : List Listed) (n first : ℕ) (next : Listed) (e : Entry) → slice_get list n ≡ Some next → n < first → IsHold next.event e.what → IsFrom list first e
hold_from list n first next e get less hold = start_from list n first next e hold.call (CallerEvent.Hold hold.call) get less hold.start hold.hold (λ number. refl)

-- each call that an actor has begun is started by an event of its list that it has played, or whose pin is up
played_from : (list : List Listed) (n pins : ℕ) (es : List Entry) → HasPlayed list n pins es → Each (λ e. IsFrom list (n + pins) e) es
played_from list _ _ _ played.none = tt
played_from list _ _ _ (played.one n next e past get line one rest) =
    (none_from list (n + 1 + 0) next e one, each_later list (n + 0) (n + 1 + 0) past (omega arith) (played_from list n 0 past rest))
played_from list _ _ _ (played.pin n next e past get line pin rest) =
    (pin_from list n (n + 1 + 0) next e false get (omega arith) pin, each_later list (n + 0) (n + 1 + 0) past (omega arith) (played_from list n 0 past rest))
played_from list _ _ _ (played.up n next e past get line pin rest) =
    (pin_from list n (n + 1) next e true get (omega arith) pin, each_later list (n + 0) (n + 1) past (omega arith) (played_from list n 0 past rest))
played_from list _ _ _ (played.held n next e past get line hold rest) =
    (hold_from list n (n + 1 + 0) next e get (omega arith) hold, each_later list (n + 1) (n + 1 + 0) past (omega arith) (played_from list n 1 past rest))

-- ---- a whole history

abbrev pub first_of : List Entry → ℕ → ℕ
first_of history actor = (count_of actor history).ended + (count_of actor history).pins

-- an actor's list has a start of the call of this number, which the actor has played, or whose pin is up
pub record IsPlannedFor (plan : List (List Listed)) (history : List Entry) (number actor : ℕ) : Type 0 where
  pub place : ℕ
  pub before : place < first_of history actor
  pub at : IsStartAt plan number actor place

abbrev pub IsPlanned : List (List Listed) → List Entry → Entry → Type 0
IsPlanned plan history e = (number : ℕ) → begins number e.what ≡ true → IsPlannedFor plan history number e.actor

planned_by : (plan : List (List Listed)) (history : List Entry) (e : Entry) (list : List Listed) → slice_get plan e.actor ≡ Some list → IsFrom list (first_of history e.actor) e → IsPlanned plan history e
planned_by plan history e list get from = λ number begun.
    let by = from number begun in
    record { place = by.place; before = by.before; at = record { list = list; actor_is = get; listed = by.listed; place_is = by.place_is; start = by.start } }

each_from : (plan : List (List Listed)) (history es : List Entry) → AreGated plan es
    → ((actor : ℕ) (list : List Listed) → slice_get plan actor ≡ Some list → Each (λ e. IsFrom list (first_of history actor) e) (actor_entries actor es)) → Each (λ e. IsPlanned plan history e) es
each_from plan history [] gated from = tt
each_from plan history (e ∷ past) gated from =
    let of = gated.0.is in
    let own : IsFrom of.list (first_of history e.actor) e =
    newest (λ x. IsFrom of.list (first_of history e.actor) x) (e.actor == e.actor) e (actor_entries e.actor past) (eq-eqb e.actor e.actor refl) (from e.actor of.list of.actor_is) in (
      planned_by plan history e of.list of.actor_is own,
      each_from plan history past gated.1 (λ actor list get. earlier (λ x. IsFrom list (first_of history actor) x) (e.actor == actor) e (actor_entries actor past) (from actor list get)),
    )

-- each call that has begun is started by the plan, by the actor of its entries
pub each_planned : (plan : List (List Listed)) (history : List Entry) → played.IsPlanPlayed plan history → Each (λ e. IsPlanned plan history e) history
each_planned plan history is =
    each_from plan history history is.gated
    (λ actor list get. played_from list (count_of actor history).ended (count_of actor history).pins (actor_entries actor history) (is.played actor list get))
