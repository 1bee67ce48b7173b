-- An actor that has played an item has ended its line where the item does, and has a next step where an item is left.
use Rattle.std.proofs.Common.{◌≡◌, ◌≢◌, ◌≤◌, ◌<◌, ◌+◌, ℕ, List, [], ◌∷◌, length, Bool, true, false, ◌&&◌, ◌||◌, Some, refl, sym, ap, ◌∙◌, ⊎_elim, arith, eq-eqb, ne_eqb}
use Rattle.std.specs.Prelude.{◌==◌, slice_get, if◌then◌else◌}
use Rattle.std.proofs.lemmas.Bool.{cases_lt}
use Rattle.std.proofs.lemmas.List.Elements.{All-head, All-tail}
use Rattle.std.proofs.lemmas.Option.{slice_get_within}
use Rattle.xc_base.specs.declared.call.Call.{Call}
use Rattle.call_journal.specs.declared.event.CallerEvent.{CallerEvent}
use Rattle.call_journal.specs.declared.event.DriverEvent.{DriverEvent}
use Rattle.call_journal.specs.declared.reply.CallerReply.{CallerReply}
use Rattle.call_journal.specs.declared.entry.Entry.{Entry}
use Rattle.call_journal.specs.declared.entry.What.{What}
use Rattle.call_journal.specs.declared.plan.Listed.{Listed}
use Rattle.call_journal.specs.declared.plan.ListedEvent.{ListedEvent}
use Rattle.book_progress.specs.ActorCounts.{actor_entries}
use Rattle.book_progress.specs.EndedLines.{call_ends, ends_line, event_ends, has_ended, pin_ends}
use Rattle.book_progress.specs.PlayedPlans as played
use Rattle.book_progress.specs.PlayedPlans.{HasPlayed, IsHold, IsOne, IsPin, IsStep, Step, caller, driver, is_pinned}
use Rattle.completion_law.specs.CompletionLaw.{HasNoSweep}
use Rattle.completion_law.proofs.LineItems.{item_ends}

-- ---- entries that end their line

one_ends : (event : ListedEvent) (what : What) → IsOne event what → item_ends event ≡ true → ends_line what ≡ true
one_ends (ListedEvent.Driver e) (What.Driver other reply) is ends = let same : other ≡ e = cc is in ap event_ends same ∙ ends
one_ends (ListedEvent.Driver e) (What.Caller other reply) is ends = absurd (cc is)
one_ends (ListedEvent.Start call) what is ends = absurd is
one_ends (ListedEvent.Pick id word) (What.Driver other reply) is ends = absurd (cc is)
one_ends (ListedEvent.Pick id word) (What.Caller other reply) is ends = let same : other ≡ CallerEvent.Pick id word = cc is in ap (λ (x : CallerEvent). call_ends x reply) same
one_ends (ListedEvent.Commit id) (What.Driver other reply) is ends = absurd (cc is)
one_ends (ListedEvent.Commit id) (What.Caller other reply) is ends = let same : other ≡ CallerEvent.Commit id = cc is in ap (λ (x : CallerEvent). call_ends x reply) same

not_pinned : (reply : CallerReply) → is_pinned reply ≡ false → pin_ends reply ≡ true
not_pinned (CallerReply.Pinned number) is = absurd (cc is)
not_pinned reply is = refl

pin_ends_line : (event : ListedEvent) (what : What) → IsPin event what false → ends_line what ≡ true
pin_ends_line event (What.Driver e reply) pin = absurd (let k = pin.pin in cc k)
pin_ends_line event (What.Caller e reply) pin =
    let is = pin.pin in
    let same : e ≡ CallerEvent.Pin pin.call = cc is in
    ap (λ (x : CallerEvent). call_ends x reply) same ∙ not_pinned reply pin.reply

hold_ends_line : (event : ListedEvent) (what : What) → IsHold event what → ends_line what ≡ true
hold_ends_line event (What.Driver e reply) hold = absurd (let k = hold.hold in cc k)
hold_ends_line event (What.Caller e reply) hold =
    let is = hold.hold in
    let same : e ≡ CallerEvent.Hold hold.call = cc is in
    ap (λ (x : CallerEvent). call_ends x reply) same

-- ---- lines that have ended

or_right : (a b : Bool) → b ≡ true → (a || b) ≡ true
or_right true b is = refl
or_right false b is = is

either : (a b c : Bool) → a ≡ true → b ≡ true → ((a && b) || c) ≡ true
either true true c first second = refl
either true false c first second = absurd (cc second)
either false b c first second = absurd (cc first)

ended_here : (line : ℕ) (e : Entry) (past : List Entry) → e.line ≡ line → ends_line e.what ≡ true → has_ended line (e ∷ past) ≡ true
ended_here line e past is ends = either (e.line == line) (ends_line e.what) (has_ended line past) (eq-eqb e.line line is) ends

ended_before : (line : ℕ) (e : Entry) (past : List Entry) → has_ended line past ≡ true → has_ended line (e ∷ past) ≡ true
ended_before line e past is = or_right ((e.line == line) && ends_line e.what) (has_ended line past) is

-- an actor's entries are among all
either_ends : (a b c : Bool) → (b ≡ true → c ≡ true) → (a || b) ≡ true → (a || c) ≡ true
either_ends true b c f is = refl
either_ends false b c f is = f is

own_by : (line : ℕ) (b : Bool) (e : Entry) (own past : List Entry) → (has_ended line own ≡ true → has_ended line past ≡ true)
    → has_ended line (if b then e ∷ own else own) ≡ true → has_ended line (e ∷ past) ≡ true
own_by line true e own past f is = either_ends ((e.line == line) && ends_line e.what) (has_ended line own) (has_ended line past) f is
own_by line false e own past f is = ended_before line e past (f is)

pub own_ended : (actor line : ℕ) (history : List Entry) → has_ended line (actor_entries actor history) ≡ true → has_ended line history ≡ true
own_ended actor line [] is = is
own_ended actor line (e ∷ past) is = own_by line (e.actor == actor) e (actor_entries actor past) past (own_ended actor line past) is

neither : (a b c : Bool) → a ≡ false → c ≡ false → ((a && b) || c) ≡ false
neither true b c first second = absurd (cc first)
neither false b c first second = second

-- line 0 hasn't ended where there is no last sweep
pub not_swept : (past : List Entry) → HasNoSweep past → has_ended 0 past ≡ false
not_swept [] none = refl
not_swept (e ∷ past) none =
    neither (e.line == 0) (ends_line e.what) (has_ended 0 past) (ne_eqb e.line 0 (All-head (λ (x : Entry). x.line ≢ 0) e past none))
    (not_swept past (All-tail (λ (x : Entry). x.line ≢ 0) e past none))

-- ---- items that have been played

one_at : (list : List Listed) (n place : ℕ) (next item : Listed) → slice_get list n ≡ Some next → slice_get list place ≡ Some item → n ≤ place → place < n + 1 → next ≡ item
one_at list n place next item get at most less =
    let same : n ≡ place = omega (arith, most, less) in
    let both : Some next ≡ Some item = sym get ∙ (ap (slice_get list) same ∙ at) in
    cc both

-- by its newest entry, or by an earlier one
ended_by : (list : List Listed) (n place : ℕ) (next item : Listed) (e : Entry) (past : List Entry)
    → slice_get list n ≡ Some next → e.line ≡ next.line → slice_get list place ≡ Some item → place < n + 1
    → (next ≡ item → ends_line e.what ≡ true) → (place < n → has_ended item.line past ≡ true) → has_ended item.line (e ∷ past) ≡ true
ended_by list n place next item e past get line at less ends before =
    ⊎_elim
    (λ (lt : place < n). ended_before item.line e past (before lt))
    (λ (le : n ≤ place).
    let same : next ≡ item = one_at list n place next item get at le less in
    ended_here item.line e past (line ∙ ap (λ (l : Listed). l.line) same) (ends same))
    (cases_lt place n)

pub item_ended : (list : List Listed) (n pins : ℕ) (es : List Entry) (place : ℕ) (item : Listed) → HasPlayed list n pins es → slice_get list place ≡ Some item
    → place < n → item_ends item.event ≡ true → has_ended item.line es ≡ true
item_ended list _ _ _ place item played.none at less ends = absurd (omega (arith, less))
item_ended list _ _ _ place item (played.one n next e past get line event rest) at less ends =
    ended_by list n place next item e past get line at less
    (λ same. one_ends next.event e.what event (ap (λ (l : Listed). item_ends l.event) same ∙ ends)) (λ lt. item_ended list n 0 past place item rest at lt ends)
item_ended list _ _ _ place item (played.pin n next e past get line event rest) at less ends =
    ended_by list n place next item e past get line at less (λ same. pin_ends_line next.event e.what event) (λ lt. item_ended list n 0 past place item rest at lt ends)
item_ended list _ _ _ place item (played.up n next e past get line event rest) at less ends = ended_before item.line e past (item_ended list n 0 past place item rest at less ends)
item_ended list _ _ _ place item (played.held n next e past get line event rest) at less ends =
    ended_by list n place next item e past get line at less (λ same. hold_ends_line next.event e.what event) (λ lt. item_ended list n 1 past place item rest at lt ends)

-- no more items have been played than there are
pub played_within : (list : List Listed) (n pins : ℕ) (es : List Entry) → HasPlayed list n pins es → n + pins ≤ length list
played_within list _ _ _ played.none = omega arith
played_within list _ _ _ (played.one n next e past get line event rest) = let within = slice_get_within list n next get in omega (arith, within)
played_within list _ _ _ (played.pin n next e past get line event rest) = let within = slice_get_within list n next get in omega (arith, within)
played_within list _ _ _ (played.up n next e past get line event rest) = let within = slice_get_within list n next get in omega (arith, within)
played_within list _ _ _ (played.held n next e past get line event rest) = let within = slice_get_within list n next get in omega (arith, within)

-- ---- the next item

-- an item has a next step, where so many pins of its actor are up
pub record HasStep (event : ListedEvent) (pins : ℕ) : Type 0 where
  pub step : Step
  pub is : IsStep step event pins

first_step : (event : ListedEvent) → HasStep event 0
first_step (ListedEvent.Driver e) = record { step = driver e; is = (refl, refl) }
first_step (ListedEvent.Start call) = record { step = caller (CallerEvent.Pin call); is = (refl, refl) }
first_step (ListedEvent.Pick id word) = record { step = caller (CallerEvent.Pick id word); is = (refl, refl) }
first_step (ListedEvent.Commit id) = record { step = caller (CallerEvent.Commit id); is = (refl, refl) }

-- the item of a pin that is up is a start
start_is : (list : List Listed) (n : ℕ) (next item : Listed) (call : Call) → slice_get list n ≡ Some next → slice_get list n ≡ Some item → next.event ≡ ListedEvent.Start call
    → item.event ≡ ListedEvent.Start call
start_is list n next item call get at start =
    let both : Some item ≡ Some next = sym at ∙ get in
    let same : item ≡ next = cc both in
    ap (λ (l : Listed). l.event) same ∙ start

pub next_step : (list : List Listed) (n pins : ℕ) (es : List Entry) (item : Listed) → HasPlayed list n pins es → slice_get list n ≡ Some item → HasStep item.event pins
next_step list _ _ _ item played.none at = first_step item.event
next_step list _ _ _ item (played.one n next e past get line event rest) at = first_step item.event
next_step list _ _ _ item (played.pin n next e past get line event rest) at = first_step item.event
next_step list _ _ _ item (played.up n next e past get line event rest) at =
    record { step = caller (CallerEvent.Hold event.call); is = (start_is list n next item event.call get at event.start, refl) }
next_step list _ _ _ item (played.held n next e past get line event rest) at = first_step item.event

-- no pin is up where an event of the driver is next
pub none_up : (list : List Listed) (n pins : ℕ) (es : List Entry) (item : Listed) (event : DriverEvent) → HasPlayed list n pins es → slice_get list n ≡ Some item
    → item.event ≡ ListedEvent.Driver event → pins ≡ 0
none_up list _ _ _ item driven played.none at is = refl
none_up list _ _ _ item driven (played.one n next e past get line event rest) at is = refl
none_up list _ _ _ item driven (played.pin n next e past get line event rest) at is = refl
none_up list _ _ _ item driven (played.up n next e past get line event rest) at is =
    let apart : ListedEvent.Start event.call ≡ ListedEvent.Driver driven = sym (start_is list n next item event.call get at event.start) ∙ is in
    absurd (cc apart)
none_up list _ _ _ item driven (played.held n next e past get line event rest) at is = refl
