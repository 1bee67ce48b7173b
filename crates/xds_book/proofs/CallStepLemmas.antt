-- The steps of callers.
use Rattle.std.proofs.Common.{◌≡◌, ◌<◌, ◌≤◌, ℕ, ◌+◌, ◌-◌, ◌==◌, Bool, true, false, List, ◌∷◌, length, Option, Some, None, refl, sym, ap, ◌∙◌, subst, if◌then◌else◌, eq-eqb, append-nil, arith}
use Rattle.std.specs.Option.{option_map_or, option_or}
use Rattle.std.specs.Prelude.{All, slice_get, option_map, option_and_then, IfSome, unwrap_or}
use Rattle.std.proofs.lemmas.List.Elements.{All-get_or}
use Rattle.std.proofs.lemmas.Option.{get_or_from_slice_get, slice_get_within}
use Rattle.boxcar.specs.Table.{Shelves, Where}
use Rattle.xc_base.specs.declared.call.Call.{Call}
use Rattle.xc_base.specs.declared.names.CallId.{CallId}
use Rattle.cluster_tree.specs.declared.snapshot.Snapshot.{Snapshot}
use Rattle.call_journal.specs.declared.event.CallerEvent.{CallerEvent}
use Rattle.call_journal.specs.declared.reply.CallerReply.{CallerReply}
use Rattle.call_journal.specs.declared.entry.What.{What}
use Rattle.call_journal.specs.declared.entry.Entry.{Entry}
use Rattle.call_journal.specs.declared.plan.Listed.{Listed}
use Rattle.book_driver.specs.config_assembly.Orders.{Name}
use Rattle.route_match.specs.declared.answer.RouteAnswer.{RouteAnswer}
use Rattle.route_match.specs.Routes.{route}
use Rattle.book_calls.specs.xds_history.Setting.{Setting}
use Rattle.book_calls.specs.xds_history.declared.page.Page.{Page}
use Rattle.book_calls.specs.xds_history.Page.{latest}
use Rattle.book_calls.specs.xds_history.Pages.{pages}
use Rattle.book_calls.specs.xds_history.References.{pinned, pins_after, snapshot_at}
use Rattle.book_calls.specs.xds_history.Words.{first_some}
use Rattle.book_calls.specs.xds_history.Right.{Right, caller_reply, hold_reply, pin_reply}
use Rattle.snapshot_store.specs.Tickets.{AreTicketsOf, IsTicketOf}
use Rattle.call_journal.specs.declared.plan.Count.{Count}
use Rattle.book_progress.specs.ActorCounts.{count_after}
use Rattle.book_progress.specs.PlayedPlans.{IsNext}
use Rattle.book_progress.specs.PlayedPlans as played
use Rattle.book_progress.specs.ProgressKept.{CountedView, counts_of, most_entries}
use Rattle.book_calls.specs.CallsKept.{AreCallsAt, IsRouted, IsTicketAt}
use Rattle.book_calls.specs.declared.calls.Calls.{Calls}
use Rattle.book_picks.specs.declared.kept_turns.Turns.{Turns}
use Rattle.book_driver.specs.declared.channel_driver.Driver.{Driver}
use Rattle.book_calls.specs.declared.pinning.Pinning.{Pinning}
use Rattle.book_picks.specs.TurnsKept.{AreTurnsAt}
use Rattle.book_picks.specs.TurnsLaws.{IsNoPick}
use Rattle.book_picks.proofs.RenewedLemmas.{callers_leave}
use Rattle.book_calls.proofs.CallsProofs.{picks_leave}
use Rattle.book_driver.proofs.SteppedLemmas.{callers_leave_driver}
use Rattle.xds_book.specs.BookViews.{BookView, LaneView, PinnedView}
use Rattle.xds_book.specs.BookEntries.{IsAnswerIn, IsLaneOf, IsTokenOf, Makes, MakesNone, answered_call, entry_of, lane_after, ticket_at}
use Rattle.xds_book.specs.BookKept.{IsBook, IsKeptIn, IsLawfulShown, IsReady}
use Rattle.xds_book.specs.PinSteps.{IsOwnPin, token_with}
use Rattle.xds_book.proofs.MakeLemmas.{IsNextEntry, book_with_call, next_call}

-- ---- what is kept with a call's entry

pub kept_after_call : (plan : Option (List (List Listed))) (archive : Shelves) (s : Setting) (own : Shelves) (old new : CountedView) (calls after : Calls) (turns turned : Turns) (driver : Driver) (refused : List Name) (spent : Bool) (actor line : ℕ) (event : CallerEvent) (reply : CallerReply)
    → IsKeptIn plan archive s own old calls turns driver refused spent → IsNextEntry plan s (length old.counts) (entry_of actor line (What.Caller event reply)) old.entries
    → new.counts ≡ counts_of (length old.counts) new.entries → new.entries ≡ entry_of actor line (What.Caller event reply) ∷ old.entries → after.tickets ≡ calls.tickets
    → (spent ≡ false → IsReady archive s (entry_of actor line (What.Caller event reply) ∷ old.entries) after turned driver) → IsKeptIn plan archive s own new after turned driver refused spent
kept_after_call plan archive s own old new calls after turns turned driver refused spent actor line event reply kept next counts entries tickets ready = record {
  book = subst (λ (ts : List (Where Snapshot)). IsBook plan archive s own new ts refused) (sym tickets)
      (book_with_call plan archive s own old calls.tickets refused actor line event reply new kept.book next (counts ∙ ap (λ (h : List Entry). counts_of (length old.counts) h) entries) entries);
  ready = λ going. subst (λ (h : List Entry). IsReady archive s h after turned driver) (sym entries) (ready going);
}

-- ---- tokens

pub all_at : {X : Type 0} (P : X → Type 0) (xs : List X) (i : ℕ) (x : X) → All P xs → slice_get xs i ≡ Some x → P x
all_at P xs i x all at = subst P (get_or_from_slice_get xs i x x at) (All-get_or P xs i x (slice_get_within xs i x at) all)

pin_is_own : (s : Setting) (old : List Entry) (actor line : ℕ) (call : Call) (number : ℕ) → pinned (pages s (entry_of actor line (What.Caller (CallerEvent.Pin call) (CallerReply.Pinned number)) ∷ old)) call.id ≡ Some number
pin_is_own s old actor line call number =
    own_pin (call.id.0 == call.id.0) (first_some (λ p. pins_after call.id p.entry.what) (pages s old)) number (eq-eqb call.id.0 call.id.0 refl)
  where
    own_pin : (b : Bool) (before : Option (Option ℕ)) (number : ℕ) → b ≡ true → unwrap_or (option_or (if b then Some (Some number) else None) before) None ≡ Some number
    own_pin true before number is = refl
    own_pin false before number is = absurd (cc is)

-- a pin of a call, with the reply that it is given
token_by : (s : Setting) (old new : BookView) (actor line : ℕ) (call : Call) (pin : Option Pinning) → new.entries ≡ entry_of actor line (What.Caller (CallerEvent.Pin call) (pin_reply (option_map (λ p. p.number) pin))) ∷ old.entries
    → new.tickets ≡ old.tickets → option_map (λ p. p.ticket.value) pin ≡ latest (pages s old.entries) → IfSome pin (λ p. IsTicketAt old.tickets p.number p.ticket) → IsTokenOf s old new call (option_map (token_with call) pin)
token_by s old new actor line call None entries tickets reads own = sym reads
token_by s old new actor line call (Some p) entries tickets reads own = (
  refl,
  sym reads,
  ap (λ (h : List Entry). option_and_then (λ number. ticket_at number new.tickets) (pinned (pages s h) call.id)) entries
      ∙ ap (option_and_then (λ number. ticket_at number new.tickets)) (pin_is_own s old.entries actor line call p.number) ∙ ap (λ (ts : List (Where Snapshot)). ticket_at p.number ts) tickets ∙ own,
)

pub token_is : (s : Setting) (old new : BookView) (actor line : ℕ) (call : Call) (pin : Option Pinning) (token : Option PinnedView) → new.entries ≡ entry_of actor line (answered_call s old.entries (CallerEvent.Pin call)) ∷ old.entries
    → new.tickets ≡ old.tickets → pin_reply (option_map (λ p. p.number) pin) ≡ caller_reply (pages s old.entries) (CallerEvent.Pin call) → option_map (λ p. p.ticket.value) pin ≡ latest (pages s old.entries)
    → IfSome pin (λ p. IsTicketAt old.tickets p.number p.ticket) → token ≡ option_map (token_with call) pin → IsTokenOf s old new call token
token_is s old new actor line call pin token entries tickets reply reads own is =
    subst (λ (t : Option PinnedView). IsTokenOf s old new call t) (sym is)
    (token_by s old new actor line call pin (entries ∙ ap (λ (r : CallerReply). entry_of actor line (What.Caller (CallerEvent.Pin call) r) ∷ old.entries) (sym reply)) tickets reads own)

-- ---- answers

-- the answer by the snapshot that the call has pinned
pub routed_by : (ps : List Page) (call : Call) (number : ℕ) (x : Snapshot) (answer : RouteAnswer) → pinned ps call.id ≡ Some number → snapshot_at number ps ≡ Some x → answer ≡ route x.config.front call → IsRouted ps call answer
routed_by ps call number x answer pin at is = λ n y pin_is at_is.
    let same : number ≡ n = cc (pin, pin_is) in
    let there : snapshot_at number ps ≡ Some y = ap (λ k. snapshot_at k ps) same ∙ at_is in
    let found : x ≡ y = cc (at, there) in
    is ∙ ap (λ (z : Snapshot). route z.config.front call) found

reply_at : (ps : List Page) (call : Call) (number : ℕ) (x : Snapshot) → pinned ps call.id ≡ Some number → snapshot_at number ps ≡ Some x → caller_reply ps (CallerEvent.Hold call) ≡ CallerReply.Routed number (route x.config.front call)
reply_at ps call number x pin at =
    ap (hold_reply ps call) pin ∙ ap (λ (found : Option Snapshot). option_map_or (λ y. CallerReply.Routed number (route y.config.front call)) found CallerReply.NoSnapshot) at

pub answer_by : (ps : List Page) (call : Call) (number : ℕ) (x : Snapshot) (answer : RouteAnswer) → pinned ps call.id ≡ Some number → snapshot_at number ps ≡ Some x → answer ≡ route x.config.front call
    → IsAnswerIn answer (caller_reply ps (CallerEvent.Hold call))
answer_by ps call number x answer pin at is = subst (λ (r : CallerReply). IsAnswerIn answer r) (sym (reply_at ps call number x pin at)) is

pub routed_none : (ps : List Page) (call : Call) (answer : RouteAnswer) → pinned ps call.id ≡ None → IsRouted ps call answer
routed_none ps call answer none = λ number x pin at. absurd (cc (none, pin))

-- ---- where room was made for an entry

abbrev pub view_of : CountedView → List (Where Snapshot) → Bool → BookView
view_of journal tickets spent = record { entries = journal.entries; spare = journal.spare; counts = journal.counts; tickets = tickets; is_spent = spent }

-- the parts of a Book in which room was made
pub record IsOpened (old view : BookView) : Type 0 where
  pub entries : view.entries ≡ old.entries
  pub counts : view.counts ≡ old.counts
  pub tickets : view.tickets ≡ old.tickets
  pub spare : old.spare ≤ view.spare
  pub same : view.is_spent ≡ old.is_spent
  pub going : view.is_spent ≡ false
  pub few : length view.entries < most_entries

opened_now : (old now : BookView) → MakesNone old now → now.is_spent ≡ old.is_spent → old.is_spent ≡ false → length old.entries < most_entries → IsOpened old now
opened_now old now none same going few = record {
  entries = none.entries;
  counts = none.counts;
  tickets = none.tickets;
  spare = none.spare;
  same = same;
  going = same ∙ going;
  few = subst (λ (h : List Entry). length h < most_entries) (sym none.entries) few;
}

pub opened : (old now view : BookView) → view ≡ now → MakesNone old now → now.is_spent ≡ old.is_spent → old.is_spent ≡ false → length old.entries < most_entries → IsOpened old view
opened old now view is none same going few = subst (λ (b : BookView). IsOpened old b) (sym is) (opened_now old now none same going few)

-- the next entry of a lane's actor
pub call_next : (plan : Option (List (List Listed))) (s : Setting) (old view : BookView) (lane : LaneView) (line : ℕ) (event : CallerEvent) (reply : CallerReply) → IsOpened old view → view.counts ≡ counts_of (length view.counts) view.entries
    → IsLaneOf lane old → 0 < lane.actor → IsNext plan lane.actor lane.count line (played.caller event) old.entries → reply ≡ caller_reply (pages s view.entries) event
    → IsNextEntry plan s (length view.counts) (entry_of lane.actor line (What.Caller event reply)) view.entries
call_next plan s old view lane line event reply o counted of caller next is =
    next_call plan s view.counts view.entries lane.actor line lane.count event reply counted (subst (λ (cs : List Count). slice_get cs lane.actor ≡ Some lane.count) (sym o.counts) of) caller
    (subst (λ (h : List Entry). IsNext plan lane.actor lane.count line (played.caller event) h) (sym o.entries) next) is o.few

-- what the entry makes
pub record IsAdded (line : ℕ) (what : What) (view new : BookView) (before after : LaneView) : Type 0 where
  pub entries : new.entries ≡ entry_of before.actor line what ∷ view.entries
  pub counts : new.counts ≡ counts_of (length view.counts) new.entries
  pub spare : new.spare ≡ view.spare - 1
  pub same : new.is_spent ≡ view.is_spent
  pub lane : after ≡ record { actor = before.actor; count = count_after what before.count; refused = before.refused }
  pub counted : slice_get new.counts before.actor ≡ Some after.count

spare_falls : (old view new : ℕ) → old ≤ view → new ≡ view - 1 → old ≤ new + 1
spare_falls old view new kept is = omega (arith, kept, is)

added_lane : (s : Setting) (event : CallerEvent) (reply : CallerReply) (before after : LaneView) → after ≡ record { actor = before.actor; count = count_after (What.Caller event reply) before.count; refused = before.refused } → after ≡ lane_after (What.Caller event reply) before
added_lane s event reply before after is = is ∙ ap (λ (texts : List Name). record { actor = before.actor; count = count_after (What.Caller event reply) before.count; refused = texts }) (sym (append-nil before.refused))

makes_with : (s : Setting) (line : ℕ) (event : CallerEvent) (reply : CallerReply) (old view new : BookView) (before after : LaneView) → IsOpened old view → IsAdded line (What.Caller event reply) view new before after
    → Makes line (What.Caller event reply) old new before after
makes_with s line event reply old view new before after o added = record {
  entries = added.entries ∙ ap (λ (h : List Entry). entry_of before.actor line (What.Caller event reply) ∷ h) o.entries;
  counts = added.counts ∙ ap (λ (cs : List Count). counts_of (length cs) new.entries) o.counts;
  lane = added_lane s event reply before after added.lane;
  counted = subst (λ n. slice_get new.counts n ≡ Some after.count) (sym (ap (λ (l : LaneView). l.actor) added.lane)) added.counted;
  spare = spare_falls old.spare view.spare new.spare o.spare added.spare;
  goes_on = added.same ∙ o.same;
}

pub makes_call : (s : Setting) (line : ℕ) (event : CallerEvent) (reply : CallerReply) (old view new : BookView) (before after : LaneView) → IsOpened old view → IsAdded line (What.Caller event reply) view new before after
    → reply ≡ caller_reply (pages s view.entries) event → Makes line (answered_call s old.entries event) old new before after
makes_call s line event reply old view new before after o added is =
    subst (λ (r : CallerReply). Makes line (What.Caller event r) old new before after) (is ∙ ap (λ (h : List Entry). caller_reply (pages s h) event) o.entries)
    (makes_with s line event reply old view new before after o added)

-- ---- the pin that is kept

own_pin_some : (archive : Shelves) (s : Setting) (view : BookView) (call : CallId) (p : Pinning) → Some p.number ≡ pinned (pages s view.entries) call → snapshot_at p.number (pages s view.entries) ≡ Some p.ticket.value
    → IsTicketOf archive p.ticket → IsTicketAt view.tickets p.number p.ticket → All (λ (t : Where Snapshot). IsLawfulShown t.value) view.tickets → IsOwnPin archive s view call p
own_pin_some archive s view call p number reads stored own lawful = record {
  number_is = sym number;
  reads = reads;
  stored = stored;
  own = ap (option_and_then (λ n. ticket_at n view.tickets)) (sym number) ∙ own;
  lawful = all_at (λ (t : Where Snapshot). IsLawfulShown t.value) view.tickets (p.number - 1) p.ticket lawful own;
}

-- what is known of a pin that is kept with these calls
pub record IsKeptPin (archive : Shelves) (s : Setting) (past : List Entry) (tickets : List (Where Snapshot)) (p : Pinning) : Type 0 where
  pub reads : snapshot_at p.number (pages s past) ≡ Some p.ticket.value
  pub stored : IsTicketOf archive p.ticket
  pub own : IsTicketAt tickets p.number p.ticket

own_pin_by : (archive : Shelves) (s : Setting) (view : BookView) (call : CallId) (pin : Option Pinning) → option_map (λ p. p.number) pin ≡ pinned (pages s view.entries) call
    → IfSome pin (λ p. IsKeptPin archive s view.entries view.tickets p) → All (λ (t : Where Snapshot). IsLawfulShown t.value) view.tickets → IfSome pin (λ p. IsOwnPin archive s view call p)
own_pin_by archive s view call None number kept lawful = tt
own_pin_by archive s view call (Some p) number kept lawful = own_pin_some archive s view call p number kept.reads kept.stored kept.own lawful

kept_pin : (archive : Shelves) (s : Setting) (past : List Entry) (calls : Calls) (pin : Option Pinning) → Right s past → AreCallsAt archive (pages s past) calls
    → IfSome pin (λ p. (archive : Shelves) (s : Setting) (past : List Entry) → Right s past → AreCallsAt archive (pages s past) calls → snapshot_at p.number (pages s past) ≡ Some p.ticket.value)
    → IfSome pin (λ p. (archive : Shelves) (ps : List Page) → AreCallsAt archive ps calls → IsTicketOf archive p.ticket)
    → IfSome pin (λ p. (archive : Shelves) (ps : List Page) → AreCallsAt archive ps calls → IsTicketAt calls.tickets p.number p.ticket)
    → IfSome pin (λ p. IsKeptPin archive s past calls.tickets p)
kept_pin archive s past calls None right kept reads stored own = tt
kept_pin archive s past calls (Some p) right kept reads stored own = record { reads = reads archive s past right kept; stored = stored archive (pages s past) kept; own = own archive (pages s past) kept }

pub own_pin_is : (archive : Shelves) (s : Setting) (view now : BookView) (calls : Calls) (call : CallId) (pin : Option Pinning) → view ≡ now → view.tickets ≡ calls.tickets → Right s view.entries → AreCallsAt archive (pages s view.entries) calls
    → All (λ (t : Where Snapshot). IsLawfulShown t.value) calls.tickets → option_map (λ p. p.number) pin ≡ pinned (pages s view.entries) call
    → IfSome pin (λ p. (archive : Shelves) (s : Setting) (past : List Entry) → Right s past → AreCallsAt archive (pages s past) calls → snapshot_at p.number (pages s past) ≡ Some p.ticket.value)
    → IfSome pin (λ p. (archive : Shelves) (ps : List Page) → AreCallsAt archive ps calls → IsTicketOf archive p.ticket)
    → IfSome pin (λ p. (archive : Shelves) (ps : List Page) → AreCallsAt archive ps calls → IsTicketAt calls.tickets p.number p.ticket)
    → IfSome pin (λ p. IsOwnPin archive s now call p)
own_pin_is archive s view now calls call pin is tickets right kept lawful number reads stored own =
    subst (λ (b : BookView). IfSome pin (λ p. IsOwnPin archive s b call p)) is
    (own_pin_by archive s view call pin number
    (subst (λ (ts : List (Where Snapshot)). IfSome pin (λ p. IsKeptPin archive s view.entries ts p)) (sym tickets) (kept_pin archive s view.entries calls pin right kept reads stored own))
    (subst (λ (ts : List (Where Snapshot)). All (λ (t : Where Snapshot). IsLawfulShown t.value) ts) (sym tickets) lawful))

-- ---- the ticket of a new pin

pub new_stored : (archive : Shelves) (tickets : List (Where Snapshot)) (pin : Option Pinning) → AreTicketsOf archive tickets → IfSome pin (λ p. IsTicketAt tickets p.number p.ticket) → IfSome pin (λ p. IsTicketOf archive p.ticket)
new_stored archive tickets None all own = tt
new_stored archive tickets (Some p) all own = all_at (λ (t : Where Snapshot). IsTicketOf archive t) tickets (p.number - 1) p.ticket all own

pub new_lawful : (tickets : List (Where Snapshot)) (pin : Option Pinning) → All (λ (t : Where Snapshot). IsLawfulShown t.value) tickets → IfSome pin (λ p. IsTicketAt tickets p.number p.ticket) → IfSome pin (λ p. IsLawfulShown p.ticket.value)
new_lawful tickets None all own = tt
new_lawful tickets (Some p) all own = all_at (λ (t : Where Snapshot). IsLawfulShown t.value) tickets (p.number - 1) p.ticket all own

-- what is kept where a call's step failed
pub kept_after_fault : (plan : Option (List (List Listed))) (archive : Shelves) (s : Setting) (own : Shelves) (journal : CountedView) (calls after : Calls) (turns turned : Turns) (driver : Driver) (refused : List Name) (spent : Bool) → IsKeptIn plan archive s own journal calls turns driver refused spent
    → after.tickets ≡ calls.tickets → (spent ≡ false → IsReady archive s journal.entries after turned driver) → IsKeptIn plan archive s own journal after turned driver refused spent
kept_after_fault plan archive s own journal calls after turns turned driver refused spent kept tickets ready = record {
  book = subst (λ (ts : List (Where Snapshot)). IsBook plan archive s own journal ts refused) (sym tickets) kept.book;
  ready = ready;
}

-- ---- what a caller's entry leaves

pub left_ready : (archive : Shelves) (s : Setting) (past : List Entry) (actor line : ℕ) (event : CallerEvent) (reply : CallerReply) (calls after : Calls) (turns : Turns) (driver : Driver) → IsNoPick event → IsReady archive s past calls turns driver
    → AreCallsAt archive (pages s (entry_of actor line (What.Caller event reply) ∷ past)) after → IsReady archive s (entry_of actor line (What.Caller event reply) ∷ past) after turns driver
left_ready archive s past actor line event reply calls after turns driver other ready kept = record {
  calls_are = kept;
  turns_are = callers_leave s past (entry_of actor line (What.Caller event reply)) event reply turns refl other ready.turns_are;
  driver_is = callers_leave_driver s past actor line event reply driver ready.driver_is;
}

pub picked_ready : (archive : Shelves) (s : Setting) (past : List Entry) (actor line : ℕ) (id : CallId) (word : ℕ) (reply : CallerReply) (calls : Calls) (turns turned : Turns) (driver : Driver) → IsReady archive s past calls turns driver
    → AreTurnsAt (pages s (entry_of actor line (What.Caller (CallerEvent.Pick id word) reply) ∷ past)) turned → IsReady archive s (entry_of actor line (What.Caller (CallerEvent.Pick id word) reply) ∷ past) calls turned driver
picked_ready archive s past actor line id word reply calls turns turned driver ready kept = record {
  calls_are = picks_leave archive s past actor line id word reply calls ready.calls_are;
  turns_are = kept;
  driver_is = callers_leave_driver s past actor line (CallerEvent.Pick id word) reply driver ready.driver_is;
}

-- what is kept where a call's step failed and calls are kept still
pub fault_ready : (archive : Shelves) (s : Setting) (past : List Entry) (calls after : Calls) (turns : Turns) (driver : Driver) → IsReady archive s past calls turns driver → AreCallsAt archive (pages s past) after → IsReady archive s past after turns driver
fault_ready archive s past calls after turns driver ready kept = record { calls_are = kept; turns_are = ready.turns_are; driver_is = ready.driver_is }
