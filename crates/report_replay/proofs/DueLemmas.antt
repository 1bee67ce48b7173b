-- A turn of a legal history's report is due, and makes the entry of the history.
use Rattle.std.proofs.Common.{◌≡◌, ◌≢◌, ℕ, List, [], ◌∷◌, ◌++◌, All, false, Option, Some, sym, ap, ◌∙◌, subst}
use Rattle.std.proofs.lemmas.List.Elements.{All-head, All-tail}
use Rattle.call_journal.specs.declared.entry.Entry.{Entry}
use Rattle.call_journal.specs.declared.entry.What.{What}
use Rattle.call_journal.specs.declared.plan.Listed.{Listed}
use Rattle.config_assembly.specs.Orders.{Name}
use Rattle.xc_base.specs.declared.names.Kind.{Kind}
use Rattle.alike_law.specs.listed_patterns.ListedPatterns.{listed_in}
use Rattle.session_lines.specs.declared.session.Session.{Session}
use Rattle.session_plan.specs.PlanOfSession.{plan_of}
use Rattle.session_plan.specs.ReadablePayloads.{is_response}
use Rattle.session_shape.specs.SessionShape.{AreLines}
use Rattle.completion_law.specs.xds_history.Responses.{refused_in}
use Rattle.completion_law.specs.xds_history.Right.{Right}
use Rattle.completion_law.specs.xds_history.Setting.{setting_of}
use Rattle.replay_steps.specs.legal_history.Legal.{Legal}
use Rattle.book_progress.specs.ActorCounts.{count_of}
use Rattle.book_progress.specs.PlayedPlans.{IsNextOf, IsPlayed, step_in}
use Rattle.completion_law.proofs.next_law.NextProofs.{next_of_legal}
use Rattle.completion_law.proofs.sweep_law.LastProofs.{sweep_is_last}
use Rattle.replay_law.specs.ReplayLaw.{RefusesAsListed}
use Rattle.replay_law.proofs.ReplayProofs.{replayed_is_one}
use Rattle.alike_law.specs.turn_law.TurnLaw.{IsActor, IsTurn}
use Rattle.turn_player.specs.DueEvents.{told_by, told_where}
use Rattle.turn_player.specs.TableSeats.{IsBy, IsDue, ListsIn}
use Rattle.turn_player.specs.xds_book.BookEntries.{entry_of}
use Rattle.turn_player.specs.xds_book.BookViews.{BookView}

-- an entry among others is a turn
pub turn_at : (later : List Entry) (e : Entry) (past : List Entry) → All IsTurn (later ++ e ∷ past) → IsTurn e
turn_at [] e past turns = All-head IsTurn e past turns
turn_at (first ∷ later) e past turns = turn_at later e past (All-tail IsTurn first (later ++ e ∷ past) turns)

by_actor : (actor : ℕ) (what : What) → IsActor actor what → IsBy actor (step_in what)
by_actor actor (What.Driver event reply) own = own
by_actor actor (What.Caller event reply) own = own.0

-- it is due, where its entry isn't the last one
pub turn_is_due : (session : Session) (later past : List Entry) (e : Entry) (lists : List (List Listed)) (book : BookView) (actor line : ℕ) → Legal session (later ++ e ∷ past) → All IsTurn (later ++ e ∷ past)
    → AreLines session.boot session.callers [] session.lines → lists ≡ plan_of is_response session → book.entries ≡ past → book.is_spent ≡ false → actor ≡ e.actor → line ≡ e.line → IsDue lists actor line book
turn_is_due session later past e lists book actor line h turns lines planned entries goes_on actor_is line_is =
    let next : IsNextOf (plan_of is_response session) e.actor (count_of e.actor past) e.line (step_in e.what) past = next_of_legal session later past e lines h in
    let one : IsNextOf lists e.actor (count_of e.actor past) e.line (step_in e.what) past =
    subst (λ (ls : List (List Listed)). IsNextOf ls e.actor (count_of e.actor past) e.line (step_in e.what) past) (sym planned) next in
    let two : IsNextOf lists e.actor (count_of e.actor book.entries) e.line (step_in e.what) book.entries =
    subst (λ (es : List Entry). IsNextOf lists e.actor (count_of e.actor es) e.line (step_in e.what) es) (sym entries) one in
    let three : IsNextOf lists actor (count_of actor book.entries) e.line (step_in e.what) book.entries =
    subst (λ (a : ℕ). IsNextOf lists a (count_of a book.entries) e.line (step_in e.what) book.entries) (sym actor_is) two in
    record {
      step = step_in e.what;
      next = subst (λ (l : ℕ). IsNextOf lists actor (count_of actor book.entries) l (step_in e.what) book.entries) (sym line_is) three;
      by = subst (λ (a : ℕ). IsBy a (step_in e.what)) (sym actor_is) (by_actor e.actor e.what (turn_at later e past turns).actor);
      goes_on = goes_on;
    }

-- its line isn't that of the last sweep
pub line_is_no_sweep : (session : Session) (next : Entry) (later past : List Entry) (e : Entry) (line : ℕ) → AreLines session.boot session.callers [] session.lines → Legal session (next ∷ (later ++ e ∷ past)) → line ≡ e.line → line ≢ 0
line_is_no_sweep session next later past e line lines h line_is = λ zero. sweep_is_last session later past next e lines h (sym line_is ∙ zero)

-- what a turn that is played tells as refused is what the lines list, where it is answered
tells_listed : (what : What) (lines : List ℕ) → ((listed : List Name) → ListsIn what lines listed → refused_in what ≡ told_by what listed) → RefusesAsListed lines what
tells_listed (What.Driver event reply) lines refused = λ kind listed answered lists.
    refused listed lists ∙ ap (λ (k : Option Kind). told_where k listed) answered
tells_listed (What.Caller event reply) lines refused = tt

-- the entry that is made is that of the history
pub made_is : (session : Session) (later past : List Entry) (e : Entry) (what : What) (actor line : ℕ) (more : List ℕ) → Legal session (later ++ e ∷ past)
    → Right (setting_of session.boot session.target) (entry_of actor line what ∷ past) → IsPlayed (Some (plan_of is_response session)) (entry_of actor line what ∷ past) → actor ≡ e.actor
    → listed_in more ≡ Some (refused_in e.what) → ((listed : List Name) → ListsIn what more listed → refused_in what ≡ told_by what listed) → entry_of actor line what ≡ e
made_is session later past e what actor line more h right plays own listed refused =
    replayed_is_one session later past e (entry_of actor line what) h (record {
      right = right;
      played = plays;
      actor_is = own;
      more = more;
      listed = listed;
      refused = tells_listed what more refused;
    })
