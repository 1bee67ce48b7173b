-- The entries of a legal history play the lists of the plan.
use Rattle.std.proofs.Common.{◌≡◌, ◌<◌, ◌≤◌, ℕ, zero, suc, List, [], ◌∷◌, ◌++◌, length, map, All, true, false, Option, Some, None, refl, sym, ap, ◌∙◌, subst, inl, inr, arith}
use Rattle.std.specs.List.{range_with_len, slice_get}
use Rattle.std.proofs.lemmas.List.Elements.{All-head, All-tail}
use Rattle.std.proofs.lemmas.List.FromFn.{length-map-range_with_len}
use Rattle.std.proofs.lemmas.Option.{slice_get_within}
use Rattle.xc_base.specs.declared.call.Call.{Call}
use Rattle.call_journal.specs.declared.event.CallerEvent.{CallerEvent}
use Rattle.call_journal.specs.declared.event.DriverEvent.{DriverEvent}
use Rattle.call_journal.specs.declared.reply.CallerReply.{CallerReply}
use Rattle.call_journal.specs.declared.entry.Entry.{Entry}
use Rattle.call_journal.specs.declared.entry.What.{What}
use Rattle.call_journal.specs.declared.plan.Listed.{Listed}
use Rattle.call_journal.specs.declared.plan.ListedEvent.{ListedEvent}
use Rattle.session_lines.specs.declared.session.Act.{Act}
use Rattle.session_lines.specs.declared.session.Act.TheVariants as act
use Rattle.session_lines.specs.declared.session.Line.{Line}
use Rattle.session_lines.specs.declared.session.Session.{Session}
use Rattle.session_lines.specs.declared.session.Work.{Work}
use Rattle.session_lines.specs.declared.session.Work.TheVariants as work
use Rattle.session_script.specs.Plan as plan
use Rattle.session_script.specs.Plan.{ActEvents, AreListed, ArePlayed, WorkEvents, caller_event, driver_list, entries_by, entry_event, lines_by, listed_event, none_up}
use Rattle.legal_plan.specs.session_plan.PlanOfSession.{act_event, caller_plan, driver_plan, events_in, events_on, plan_item, plan_of}
use Rattle.legal_plan.specs.session_plan.PlayedEvents.{IsOne, IsPin, IsHold, Plays, got_snapshot, is_snapshot}
use Rattle.legal_plan.specs.session_plan.PlayedEvents as played
use Rattle.legal_plan.specs.session_plan.ReadablePayloads.{is_response}
use Rattle.legal_plan.proofs.session_plan.LawProofs.{caller_at}
use Rattle.legal_plan.specs.legal_history.Legal.{AreStarted, IsStarted, begins_with_hold, is_hold, is_pinned}
use Rattle.legal_plan.proofs.LegalityProofs.{plays_are_started}

-- ---- the driver

driver_plays : (made : List plan.Listed) (es : List Entry) → map entry_event es ≡ map listed_event made → Plays (map plan_item made) es
driver_plays [] [] is = played.all
driver_plays [] (e ∷ es) is = absurd (cc is)
driver_plays (m ∷ ms) [] is = absurd (cc is)
driver_plays (m ∷ ms) (e ∷ es) is =
    let here : entry_event e ≡ listed_event m = cc is in
    let rest : map entry_event es ≡ map listed_event ms = cc is in
    played.one (plan_item m) (map plan_item ms) e es (ap (λ (x : ℕ × Option DriverEvent). x.0) here) (ap (λ (x : ℕ × Option DriverEvent). x.1) here) (driver_plays ms es rest)

-- ---- starts

same_reply : (r : CallerReply) → is_snapshot r ≡ is_pinned r
same_reply (CallerReply.Pinned number) = refl
same_reply CallerReply.NoSnapshot = refl
same_reply (CallerReply.Routed number answer) = refl
same_reply (CallerReply.Endpoint number child locality place) = refl
same_reply (CallerReply.Queue number) = refl
same_reply (CallerReply.Fail number reason) = refl
same_reply (CallerReply.Drop number rule) = refl
same_reply CallerReply.NotHeld = refl
same_reply CallerReply.Released = refl

-- a pin got a snapshot where a hold comes next
pin_got : (w : What) (call : Call) (later : List Entry) → caller_event w ≡ Some (CallerEvent.Pin call) → IsStarted w later → got_snapshot w ≡ begins_with_hold later
pin_got (What.Driver event reply) call later is started = absurd (cc is)
pin_got (What.Caller (CallerEvent.Pin other) reply) call later is started = same_reply reply ∙ sym started
pin_got (What.Caller (CallerEvent.Hold other) reply) call later is started = absurd (cc is)
pin_got (What.Caller (CallerEvent.Pick id word) reply) call later is started = absurd (cc is)
pin_got (What.Caller (CallerEvent.Commit id) reply) call later is started = absurd (cc is)

hold_is : (w : What) (call : Call) → caller_event w ≡ Some (CallerEvent.Hold call) → is_hold w ≡ true
hold_is (What.Driver event reply) call is = absurd (cc is)
hold_is (What.Caller (CallerEvent.Pin other) reply) call is = absurd (cc is)
hold_is (What.Caller (CallerEvent.Hold other) reply) call is = refl
hold_is (What.Caller (CallerEvent.Pick id word) reply) call is = absurd (cc is)
hold_is (What.Caller (CallerEvent.Commit id) reply) call is = absurd (cc is)

-- a start, and a pin for it that got no snapshot
abbrev start_of : Call → Listed
start_of call = record { line = 0; after = None; event = ListedEvent.Start call }

abbrev pin_of : Call → Entry
pin_of call = record { actor = 0; line = 0; what = What.Caller (CallerEvent.Pin call) CallerReply.NoSnapshot }

-- what plays a list begins with no hold, since it may follow such a pin
no_hold : (call : Call) (ls : List Listed) (es : List Entry) → Plays ls es → begins_with_hold es ≡ false
no_hold call ls es h =
    let started : AreStarted (pin_of call ∷ es) =
    plays_are_started (start_of call ∷ ls) (pin_of call ∷ es) (played.pin (start_of call) ls (pin_of call) es refl (record { call = call; start = refl; pin = refl; reply = refl }) h) in
    started.0

-- ---- a caller's line

abbrev line_is : ℕ → Entry → Type 0
line_is number entry = entry.line ≡ number

abbrev item : ℕ → Option ℕ → ListedEvent → Listed
item number gate event = record { line = number; after = gate; event = event }

one_plays : (number : ℕ) (gate : Option ℕ) (event : ListedEvent) (made : CallerEvent) (now later : List Entry) (ls : List Listed) → All (line_is number) now
    → map (λ entry. caller_event entry.what) now ≡ Some made ∷ [] → ((w : What) → caller_event w ≡ Some made → IsOne event w) → Plays ls later
    → Plays (item number gate event ∷ ls) (now ++ later)
one_plays number gate event made [] later ls lines is ones rest = absurd (cc is)
one_plays number gate event made (a ∷ b ∷ cs) later ls lines is ones rest = absurd (cc is)
one_plays number gate event made (a ∷ []) later ls lines is ones rest =
    played.one (item number gate event) ls a later (All-head (line_is number) a [] lines) (ones a.what (cc is)) rest

pin_plays : (number : ℕ) (gate : Option ℕ) (call : Call) (now later : List Entry) (ls : List Listed) → All (line_is number) now
    → map (λ entry. caller_event entry.what) now ≡ Some (CallerEvent.Pin call) ∷ [] → AreStarted (now ++ later) → Plays ls later
    → Plays (item number gate (ListedEvent.Start call) ∷ ls) (now ++ later)
pin_plays number gate call [] later ls lines is started rest = absurd (cc is)
pin_plays number gate call (a ∷ b ∷ cs) later ls lines is started rest = absurd (cc is)
pin_plays number gate call (a ∷ []) later ls lines is started rest =
    let pin : caller_event a.what ≡ Some (CallerEvent.Pin call) = cc is in
    played.pin (item number gate (ListedEvent.Start call)) ls a later (All-head (line_is number) a [] lines)
    (record { call = call; start = refl; pin = pin; reply = pin_got a.what call later pin started.0 ∙ no_hold call ls later rest }) rest

start_plays : (number : ℕ) (gate : Option ℕ) (call : Call) (now later : List Entry) (ls : List Listed) → All (line_is number) now
    → map (λ entry. caller_event entry.what) now ≡ Some (CallerEvent.Pin call) ∷ Some (CallerEvent.Hold call) ∷ [] → AreStarted (now ++ later) → Plays ls later
    → Plays (item number gate (ListedEvent.Start call) ∷ ls) (now ++ later)
start_plays number gate call [] later ls lines is started rest = absurd (cc is)
start_plays number gate call (a ∷ []) later ls lines is started rest = absurd (cc is)
start_plays number gate call (a ∷ b ∷ c ∷ cs) later ls lines is started rest = absurd (cc is)
start_plays number gate call (a ∷ b ∷ []) later ls lines is started rest =
    let pin : caller_event a.what ≡ Some (CallerEvent.Pin call) = cc is in
    let hold : caller_event b.what ≡ Some (CallerEvent.Hold call) = cc is in
    played.start (item number gate (ListedEvent.Start call)) ls a b later (All-head (line_is number) a (b ∷ []) lines)
    (record { call = call; start = refl; pin = pin; reply = pin_got a.what call (b ∷ later) pin started.0 ∙ hold_is b.what call hold })
    (All-head (line_is number) b [] (All-tail (line_is number) a (b ∷ []) lines)) (record { call = call; start = refl; hold = hold }) rest

act_plays : (number : ℕ) (gate : Option ℕ) (what : Act) (now later : List Entry) (ls : List Listed) → All (line_is number) now
    → ActEvents what (map (λ entry. caller_event entry.what) now) → AreStarted (now ++ later) → Plays ls later → Plays (item number gate (act_event what) ∷ ls) (now ++ later)
act_plays number gate (act.Start call) now later ls lines (inl is) started rest = pin_plays number gate call now later ls lines is started rest
act_plays number gate (act.Start call) now later ls lines (inr is) started rest = start_plays number gate call now later ls lines is started rest
act_plays number gate (act.Pick id word) now later ls lines is started rest =
    one_plays number gate (ListedEvent.Pick id word) (CallerEvent.Pick id word) now later ls lines is (λ w made. made) rest
act_plays number gate (act.Commit id) now later ls lines is started rest =
    one_plays number gate (ListedEvent.Commit id) (CallerEvent.Commit id) now later ls lines is (λ w made. made) rest

work_plays : (line : Line) (w : Work) (now later : List Entry) (ls : List Listed) → All (line_is line.number) now → WorkEvents w (map (λ entry. caller_event entry.what) now)
    → AreStarted (now ++ later) → Plays ls later → Plays (events_on line w ++ ls) (now ++ later)
work_plays line (work.Driver what) now later ls lines events started rest = absurd events
work_plays line (work.Caller caller what) now later ls lines events started rest = act_plays line.number line.gate what now later ls lines events started rest

started_later : (now later : List Entry) → AreStarted (now ++ later) → AreStarted later
started_later [] later started = started
started_later (e ∷ es) later started = started_later es later started.1

caller_plays : (lines : List Line) (es : List Entry) → ArePlayed lines es → AreStarted es → Plays (events_in lines) es
caller_plays [] _ plan.all started = played.all
caller_plays (line ∷ lines) _ (plan.next _ _ now later numbers events rest) started =
    work_plays line line.work now later (events_in lines) numbers events started (caller_plays lines later rest (started_later now later started))

-- ---- the lists of a plan

-- a list of the plan is the driver's, or that of a caller
pub data IsListFor (session : Session) : ℕ → List Listed → Type 0 where
  driver : IsListFor session 0 (driver_plan is_response session.lines)
  caller : (k : ℕ) → k < session.callers → IsListFor session (suc k) (caller_plan session.lines (suc k))

some_same : {X : Type 0} (x y : X) → Some x ≡ Some y → x ≡ y
some_same x y is = cc is

pub list_for : (session : Session) (actor : ℕ) (list : List Listed) → slice_get (plan_of is_response session) actor ≡ Some list → IsListFor session actor list
list_for session zero list get = subst (λ (ls : List Listed). IsListFor session 0 ls) (some_same (driver_plan is_response session.lines) list get) driver
list_for session (suc k) list get =
    let within : k < length (map (caller_plan session.lines) (range_with_len 1 session.callers)) = slice_get_within (map (caller_plan session.lines) (range_with_len 1 session.callers)) k list get in
    let less : k < session.callers = subst (λ (n : ℕ). k < n) (length-map-range_with_len (caller_plan session.lines) 1 session.callers) within in
    subst (λ (ls : List Listed). IsListFor session (suc k) ls) (some_same (caller_plan session.lines (suc k)) list (sym (caller_at session.lines session.callers k less) ∙ get)) (caller k less)

-- each actor has one
pub list_of : (session : Session) (actor : ℕ) → actor ≤ session.callers → (list : List Listed) × (slice_get (plan_of is_response session) actor ≡ Some list)
list_of session zero few = (driver_plan is_response session.lines, refl)
list_of session (suc k) few = (caller_plan session.lines (suc k), caller_at session.lines session.callers k few)

one_least : (k : ℕ) → 1 ≤ suc k
one_least k = omega arith

-- entries that are listed play each list
pub list_plays : (session : Session) (actor : ℕ) (list : List Listed) (entries : List Entry) → IsListFor session actor list
    → AreListed is_response session.callers session.lines entries → AreStarted (entries_by actor entries) → Plays list (entries_by actor entries)
list_plays session _ _ entries driver listed started = driver_plays (driver_list is_response none_up session.lines) (entries_by 0 entries) listed.driver
list_plays session _ _ entries (caller k less) listed started =
    caller_plays (lines_by (suc k) session.lines) (entries_by (suc k) entries) (listed.each_caller (suc k) (one_least k) less) started
