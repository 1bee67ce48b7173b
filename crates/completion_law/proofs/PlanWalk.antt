-- A walk over the lines of a session, in their order: at the first that hasn't ended its actor has a next step.
use Rattle.std.proofs.Common.{◌≡◌, ◌≢◌, ◌⊎◌, ◌≤◌, ◌<◌, ◌+◌, ℕ, suc, List, [], ◌∷◌, ◌++◌, length, true, Option, Some, None, inl, inr, refl, sym, ap, ◌∙◌, subst, ⊎_elim, arith, append_assoc, length-append}
use Rattle.std.specs.Prelude.{slice_get}
use Rattle.std.proofs.lemmas.Bool.{cases_eq, cases_lt}
use Rattle.call_journal.specs.declared.entry.Entry.{Entry}
use Rattle.call_journal.specs.declared.plan.Listed.{Listed}
use Rattle.session_lines.specs.declared.session.Line.{Line}
use Rattle.session_lines.specs.declared.session.Session.{Session}
use Rattle.session_script.specs.Plan.{Streams, work_streams}
use Rattle.session_plan.specs.PlanOfSession.{plan_of}
use Rattle.session_plan.specs.ReadablePayloads.{is_response}
use Rattle.session_shape.specs.SessionShape.{AreLines, IsGate, IsLine}
use Rattle.book_progress.specs.ActorCounts.{actor_entries, count_of}
use Rattle.book_progress.specs.EndedLines.{IsOpen, has_ended}
use Rattle.book_progress.specs.PlayedPlans.{IsPlanPlayed}
use Rattle.sweep_law.proofs.next_law.ListLemmas.{list_of}
use Rattle.completion_law.specs.CompletionLaw.{GoesOn}
use Rattle.completion_law.proofs.LineItems.{EndsIn, HasAt, IsOf, actor_of, actor_within, all_of, at_middle, items_by, last_at, left_more, left_to, line_ends, none_by}
use Rattle.completion_law.proofs.PlayedItems.{HasStep, item_ended, next_step, own_ended}

-- ---- lines that have ended

-- each line below this number, from line 5 on, has ended
abbrev pub AreEndedTo : ℕ → List Entry → Type 0
AreEndedTo number past = (line : ℕ) → 5 ≤ line → line < number → has_ended line past ≡ true

-- and one more
ended_more : (number next : ℕ) (past : List Entry) → next ≡ suc number → AreEndedTo number past → has_ended number past ≡ true → AreEndedTo next past
ended_more number next past is ended here = λ line least less.
    ⊎_elim
    (λ (lt : line < number). ended line least lt)
    (λ (le : number ≤ line). let same : number ≡ line = omega (arith, is, less, le) in subst (λ (n : ℕ). has_ended n past ≡ true) same here)
    (cases_lt line number)

open_gate : (number : ℕ) (gate : Option ℕ) (past : List Entry) → IsGate number gate → AreEndedTo number past → IsOpen gate past
open_gate number None past is ended = tt
open_gate number (Some line) past is ended = ended line is.0 is.1

-- ---- what is left to the actors

-- of a list at least all but these items have been played
pub record IsBehind (list : List Listed) (ended : ℕ) (left : List Listed) : Type 0 where
  pub front : List Listed
  pub whole : list ≡ front ++ left
  pub most : length front ≤ ended

-- each actor has played at least all but what these lines list for it
abbrev pub AreBehind : Session → List Entry → Streams → List Line → Type 0
AreBehind session past streams lines =
    (actor : ℕ) (list : List Listed) → slice_get (plan_of is_response session) actor ≡ Some list → IsBehind list (count_of actor past).ended (left_to streams lines actor)

same_left : (list : List Listed) (ended : ℕ) (left other : List Listed) → left ≡ other → IsBehind list ended left → IsBehind list ended other
same_left list ended left other is behind = subst (λ (ls : List Listed). IsBehind list ended ls) is behind

-- the items of a line have been played
items_behind : (list : List Listed) (ended : ℕ) (items left : List Listed) (behind : IsBehind list ended (items ++ left)) → length behind.front + length items ≤ ended → IsBehind list ended left
items_behind list ended items left behind most = record {
  front = behind.front ++ items;
  whole = behind.whole ∙ sym (append_assoc behind.front items left);
  most = (let long = length-append behind.front items in omega (arith, long, most));
}

-- an actor for which a line lists nothing
others_behind : (session : Session) (past : List Entry) (streams : Streams) (line : Line) (lines : List Line) (actor : ℕ) (list : List Listed) → (actor ≡ actor_of line.work → ⊥)
    → IsBehind list (count_of actor past).ended (left_to streams (line ∷ lines) actor) → IsBehind list (count_of actor past).ended (left_to (work_streams is_response streams line.work) lines actor)
others_behind session past streams line lines actor list other behind =
    let left : List Listed = left_to (work_streams is_response streams line.work) lines actor in
    same_left list (count_of actor past).ended (left_to streams (line ∷ lines) actor) left
    (left_more streams line lines actor ∙ ap (λ (items : List Listed). items ++ left) (none_by streams line line.work actor other)) behind

same_list : (plan : List (List Listed)) (actor other : ℕ) (list own : List Listed) → actor ≡ other → slice_get plan actor ≡ Some list → slice_get plan other ≡ Some own → own ≡ list
same_list plan actor other list own is get at =
    let both : Some own ≡ Some list = sym at ∙ (ap (slice_get plan) (sym is) ∙ get) in
    cc both

-- all actors, where that of the line has played its items
all_behind : (session : Session) (past : List Entry) (streams : Streams) (line : Line) (lines : List Line) (own : List Listed) → slice_get (plan_of is_response session) (actor_of line.work) ≡ Some own
    → IsBehind own (count_of (actor_of line.work) past).ended (left_to (work_streams is_response streams line.work) lines (actor_of line.work))
    → AreBehind session past streams (line ∷ lines) → AreBehind session past (work_streams is_response streams line.work) lines
all_behind session past streams line lines own at here behind = λ actor list get.
    let b : ℕ = actor_of line.work in
    let now : Streams = work_streams is_response streams line.work in
    ⊎_elim
    (λ (same : actor ≡ b).
    subst (λ (a : ℕ). IsBehind list (count_of a past).ended (left_to now lines a)) (sym same)
    (subst (λ (l : List Listed). IsBehind l (count_of b past).ended (left_to now lines b)) (same_list (plan_of is_response session) actor b list own same get at) here))
    (λ (other : actor ≡ b → ⊥). others_behind session past streams line lines actor list other (behind actor list get))
    (cases_eq actor b)

-- ---- at a line

-- the actor of a line, and what it has left with the items of the line
abbrev Here : Session → List Entry → Streams → Line → List Line → List Listed → Type 0
Here session past streams line lines list =
    IsBehind list (count_of (actor_of line.work) past).ended (items_by streams line line.work (actor_of line.work) ++ left_to (work_streams is_response streams line.work) lines (actor_of line.work))

not_zero : (number n : ℕ) → number ≡ n + 5 → number ≢ 0
not_zero number n is = λ zeroth. absurd (omega (arith, is, zeroth))

-- an item of the line is next
goes_on : (session : Session) (past : List Entry) (streams : Streams) (before : List Line) (line : Line) (lines : List Line) (list : List Listed) → IsPlanPlayed (plan_of is_response session) past
    → IsLine session.boot session.callers before line → AreEndedTo line.number past → slice_get (plan_of is_response session) (actor_of line.work) ≡ Some list
    → (here : Here session past streams line lines list) → (count_of (actor_of line.work) past).ended < length here.front + length (items_by streams line line.work (actor_of line.work))
    → GoesOn (plan_of is_response session) past
goes_on session past streams before line lines list plays is ended at here less =
    let b : ℕ = actor_of line.work in
    let n : ℕ = (count_of b past).ended in
    let items : List Listed = items_by streams line line.work b in
    let left : List Listed = left_to (work_streams is_response streams line.work) lines b in
    let middle : HasAt (IsOf line) (here.front ++ (items ++ left)) n = at_middle (IsOf line) here.front items left n here.most less (all_of streams line line.work b) in
    let get : slice_get list n ≡ Some middle.item = ap (λ (l : List Listed). slice_get l n) here.whole ∙ middle.get in
    let has : HasStep middle.item.event (count_of b past).pins = next_step list n (count_of b past).pins (actor_entries b past) middle.item (plays.played b list at) get in
    record {
      actor = b;
      line = middle.item.line;
      step = has.step;
      numbered = not_zero middle.item.line (length before) (middle.is.line_is ∙ is.number_is);
      next = record {
        listed = middle.item;
        is = record { list = list; actor_is = at; next_is = get };
        line_is = refl;
        step_is = has.is;
        gate = subst (λ (g : Option ℕ). IsOpen g past) (sym middle.is.after_is) (open_gate line.number line.gate past is.gate_is ended);
      };
    }

-- all items of the line have been played
line_ended : (session : Session) (past : List Entry) (streams : Streams) (before : List Line) (line : Line) (lines : List Line) (list : List Listed) → IsPlanPlayed (plan_of is_response session) past
    → IsLine session.boot session.callers before line → slice_get (plan_of is_response session) (actor_of line.work) ≡ Some list
    → (here : Here session past streams line lines list) → length here.front + length (items_by streams line line.work (actor_of line.work)) ≤ (count_of (actor_of line.work) past).ended
    → has_ended line.number past ≡ true
line_ended session past streams before line lines list plays is at here most =
    let b : ℕ = actor_of line.work in
    let n : ℕ = (count_of b past).ended in
    let items : List Listed = items_by streams line line.work b in
    let left : List Listed = left_to (work_streams is_response streams line.work) lines b in
    let ends : EndsIn line items = line_ends session.boot session.callers before streams line line.work is.work_is in
    let place : ℕ = length here.front + length ends.front in
    let long : length items ≡ length ends.front + length (ends.last ∷ []) = ap length ends.is ∙ length-append ends.front (ends.last ∷ []) in
    let less : place < n = omega (arith, long, most) in
    let whole : list ≡ here.front ++ ((ends.front ++ ends.last ∷ []) ++ left) = here.whole ∙ ap (λ (ls : List Listed). here.front ++ (ls ++ left)) ends.is in
    let get : slice_get list place ≡ Some ends.last = ap (λ (l : List Listed). slice_get l place) whole ∙ last_at here.front ends.front left ends.last place refl in
    let ended : has_ended ends.last.line past ≡ true =
    own_ended b ends.last.line past (item_ended list n (count_of b past).pins (actor_entries b past) place ends.last (plays.played b list at) get less ends.ends) in
    subst (λ (number : ℕ). has_ended number past ≡ true) ends.of.line_is ended

-- ---- all lines

-- all lines have ended
pub record IsWalked (session : Session) (past : List Entry) : Type 0 where
  pub streams : Streams
  pub behind : AreBehind session past streams []

pub walk : (session : Session) (past : List Entry) (streams : Streams) (before lines : List Line) → IsPlanPlayed (plan_of is_response session) past → AreLines session.boot session.callers before lines
    → AreEndedTo (length before + 5) past → AreBehind session past streams lines → GoesOn (plan_of is_response session) past ⊎ IsWalked session past
walk session past streams before [] plays are ended behind = inr (record { streams = streams; behind = behind })
walk session past streams before (line ∷ lines) plays are ended behind =
    let b : ℕ = actor_of line.work in
    let now : Streams = work_streams is_response streams line.work in
    let own = list_of session b (actor_within session.boot session.callers before line.work are.0.work_is) in
    let here : Here session past streams line lines own.0 =
    same_left own.0 (count_of b past).ended (left_to streams (line ∷ lines) b) (items_by streams line line.work b ++ left_to now lines b) (left_more streams line lines b) (behind b own.0 own.1) in
    let number : length before + 5 ≡ line.number = sym are.0.number_is in
    ⊎_elim
    (λ (lt : (count_of b past).ended < length here.front + length (items_by streams line line.work b)).
    inl (goes_on session past streams before line lines own.0 plays are.0 (subst (λ (n : ℕ). AreEndedTo n past) number ended) own.1 here lt))
    (λ (le : length here.front + length (items_by streams line line.work b) ≤ (count_of b past).ended).
    let this : has_ended (length before + 5) past ≡ true =
    subst (λ (n : ℕ). has_ended n past ≡ true) (sym number) (line_ended session past streams before line lines own.0 plays are.0 own.1 here le) in
    walk session past now (line ∷ before) lines plays are.1 (ended_more (length before + 5) (length (line ∷ before) + 5) past (omega arith) ended this)
    (all_behind session past streams line lines own.0 own.1 (items_behind own.0 (count_of b past).ended (items_by streams line line.work b) (left_to now lines b) here le) behind))
    (cases_lt (count_of b past).ended (length here.front + length (items_by streams line line.work b)))
