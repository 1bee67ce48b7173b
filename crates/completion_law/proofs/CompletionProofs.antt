-- What is legal so far is played on entry by entry, each with its right reply, and then the last sweep.
use Rattle.std.proofs.Common.{◌≡◌, ◌≢◌, ◌≤◌, ◌<◌, ◌+◌, ℕ, zero, suc, List, [], ◌∷◌, ◌++◌, length, Some, refl, sym, ap, ◌∙◌, subst, ⊎_elim, arith, append_assoc, eq-eqb, ne_eqb}
use Rattle.std.specs.Prelude.{◌==◌, slice_get}
use Rattle.std.proofs.lemmas.Bool.{cond-false, cond-true}
use Rattle.std.proofs.lemmas.List.Elements.{All-cons, All-nil}
use Rattle.call_journal.specs.declared.event.DriverEvent.{DriverEvent}
use Rattle.call_journal.specs.declared.entry.Entry.{Entry}
use Rattle.call_journal.specs.declared.entry.What.{What}
use Rattle.call_journal.specs.declared.plan.Count.{Count}
use Rattle.call_journal.specs.declared.plan.Listed.{Listed}
use Rattle.session_lines.specs.declared.session.Session.{Session}
use Rattle.session_script.specs.Plan.{driver_event, entries_by}
use Rattle.session_plan.specs.PlanLaws.{HaveEnded}
use Rattle.session_plan.specs.PlanOfSession.{plan_of}
use Rattle.session_plan.specs.PlayedEvents as events
use Rattle.session_plan.specs.ReadablePayloads.{is_response}
use Rattle.reply_law.specs.xds_history.Setting.{Setting, setting_of}
use Rattle.reply_law.specs.xds_history.Right.{Right}
use Rattle.sweep_law.specs.legal_history.Legal.{EndsInSweep, Legal}
use Rattle.sweep_law.proofs.legal_plan.LegalityProofs.{ended_plan_is_legal}
use Rattle.session_shape.specs.SessionShape.{AreLines}
use Rattle.book_progress.specs.ActorCounts.{actor_entries, count_after, count_of, with_ended}
use Rattle.book_progress.specs.PlayedPlans.{IsNextOf, IsPlanPlayed, Step, all_ended, driver, step_in}
use Rattle.book_progress.proofs.PlayLemmas.{nothing_played, play_goes_on}
use Rattle.planned_calls.specs.PlannedCalls.{plan_entries}
use Rattle.planned_calls.proofs.RoomProofs.{next_has_room}
use Rattle.reply_law.specs.ReplyLaw.{HasReply}
use Rattle.reply_law.proofs.ReplyProofs.{each_has_reply}
use Rattle.completion_law.specs.CompletionLaw.{BeginsLegal, EachHasLegalHistory, GoesOn, IsAtSweep, IsLegalSoFar, LegalSoFarBeginsLegal}
use Rattle.completion_law.proofs.SweepNext.{always_goes_on}
use Rattle.completion_law.proofs.PlayedBefore.{all_listed, played_of}
use Rattle.completion_law.proofs.OpenGates.{gates_are_open}

-- ---- one entry more

-- an entry of this step is right in the setting of the session
abbrev HasReplyIn : Session → List Entry → ℕ → ℕ → Step → Type 0
HasReplyIn session past actor line step = HasReply (setting_of session.boot session.target) past actor line step

-- it comes next where the step does
reply_next : (session : Session) (past : List Entry) (plan : List (List Listed)) (actor line : ℕ) (step : Step) (has : HasReplyIn session past actor line step)
    → IsNextOf plan actor (count_of actor past) line step past
    → IsNextOf plan has.entry.actor (count_of has.entry.actor past) has.entry.line (step_in has.entry.what) past
reply_next session past plan actor line step has next =
    subst (λ (a : ℕ). IsNextOf plan a (count_of a past) has.entry.line (step_in has.entry.what) past) (sym has.actor_is)
    (subst (λ (n : ℕ). IsNextOf plan actor (count_of actor past) n (step_in has.entry.what) past) (sym has.line_is)
    (subst (λ (s : Step). IsNextOf plan actor (count_of actor past) line s past) (sym has.step_is) next))

plays_on : (session : Session) (past : List Entry) (actor line : ℕ) (step : Step) (has : HasReplyIn session past actor line step) → IsPlanPlayed (plan_of is_response session) past
    → IsNextOf (plan_of is_response session) actor (count_of actor past) line step past → IsPlanPlayed (plan_of is_response session) (has.entry ∷ past)
plays_on session past actor line step has plays next =
    play_goes_on (Some (plan_of is_response session)) has.entry past plays (reply_next session past (plan_of is_response session) actor line step has next)

one_more : (session : Session) (past : List Entry) (goes : GoesOn (plan_of is_response session) past) (has : HasReplyIn session past goes.actor goes.line goes.step)
    → IsLegalSoFar session past → IsLegalSoFar session (has.entry ∷ past)
one_more session past goes has way = record {
  right = (has.right, way.right);
  played = plays_on session past goes.actor goes.line goes.step has way.played goes.next;
  no_sweep = All-cons (λ (x : Entry). x.line ≢ 0) has.entry past (λ zeroth. goes.numbered (sym has.line_is ∙ zeroth)) way.no_sweep;
}

-- what begins with more begins with less
begins_before : (session : Session) (e : Entry) (past : List Entry) → BeginsLegal session (e ∷ past) → BeginsLegal session past
begins_before session e past begins = record {
  later = begins.later ++ e ∷ [];
  legal = subst (Legal session) (sym (append_assoc begins.later (e ∷ []) past)) begins.legal;
}

-- ---- the last sweep

driven_by : (what : What) → step_in what ≡ driver DriverEvent.Sweep → driver_event what ≡ Some DriverEvent.Sweep
driven_by (What.Driver event reply) is = let same : event ≡ DriverEvent.Sweep = cc is in ap (λ (x : DriverEvent). Some x) same
driven_by (What.Caller event reply) is = absurd (cc is)

driven_counts : (what : What) (c : Count) → step_in what ≡ driver DriverEvent.Sweep → count_after what c ≡ with_ended c
driven_counts (What.Driver event reply) c is = refl
driven_counts (What.Caller event reply) c is = absurd (cc is)

sweeps : (e : Entry) (past : List Entry) → e.line ≡ 0 → step_in e.what ≡ driver DriverEvent.Sweep → EndsInSweep (e ∷ past)
sweeps e past line step = let event : driver_event e.what ≡ Some DriverEvent.Sweep = driven_by e.what step in cc (line, event)

-- behind the sweep each actor has ended all
all_end : (plan : List (List Listed)) (past : List Entry) (e : Entry) → IsAtSweep plan past → e.actor ≡ 0 → step_in e.what ≡ driver DriverEvent.Sweep
    → (actor : ℕ) (list : List Listed) → slice_get plan actor ≡ Some list → count_of actor (e ∷ past) ≡ all_ended list
all_end plan past e at own step zero list get =
    cond-true (e.actor == 0) (count_after e.what (count_of 0 past)) (count_of 0 past) (eq-eqb e.actor 0 own) ∙ (driven_counts e.what (count_of 0 past) step ∙ at.driven list get)
all_end plan past e at own step (suc k) list get =
    cond-false (e.actor == suc k) (count_after e.what (count_of (suc k) past)) (count_of (suc k) past) (ne_eqb e.actor (suc k) (λ is. absurd (omega (arith, is, own))))
    ∙ at.callers (suc k) list (omega arith) get

have_ended : (plan : List (List Listed)) (history : List Entry) → IsPlanPlayed plan history
    → ((actor : ℕ) (list : List Listed) → slice_get plan actor ≡ Some list → count_of actor history ≡ all_ended list)
    → HaveEnded plan history
have_ended plan history plays ends = record {
  actors = all_listed plan history plays.gated;
  each = λ actor list get.
      subst (λ (c : Count). events.HasPlayed list c.ended c.pins (entries_by actor history)) (ends actor list get)
      (played_of list (count_of actor history).ended (count_of actor history).pins (actor_entries actor history) (plays.played actor list get));
}

ends_legal : (session : Session) (past : List Entry) → AreLines session.boot session.callers [] session.lines → IsLegalSoFar session past → IsAtSweep (plan_of is_response session) past
    → HasReplyIn session past 0 0 (driver DriverEvent.Sweep) → BeginsLegal session past
ends_legal session past are way at has =
    let plan : List (List Listed) = plan_of is_response session in
    let s : Setting = setting_of session.boot session.target in
    let history : List Entry = has.entry ∷ past in
    let right : Right s history = (has.right, way.right) in
    let plays : IsPlanPlayed plan history = plays_on session past 0 0 (driver DriverEvent.Sweep) has way.played at.next in
    let ended : HaveEnded plan history = have_ended plan history plays (all_end plan past has.entry at has.actor_is has.step_is) in
    record {
      later = has.entry ∷ [];
      legal = ended_plan_is_legal session history right ended (gates_are_open s session history are right plays) (sweeps has.entry past has.line_is has.step_is);
    }

-- ---- all that is left

no_room : (most n : ℕ) → most ≤ n + 0 → n < most → ⊥
no_room most n few less = absurd (omega (arith, few, less))

one_less : (most n room : ℕ) → most ≤ n + suc room → most ≤ suc n + room
one_less most n room few = omega (arith, few)

-- where the plan makes at most so many entries more
begins : (session : Session) → AreLines session.boot session.callers [] session.lines → (room : ℕ) (past : List Entry) → plan_entries (plan_of is_response session) ≤ length past + room
    → IsLegalSoFar session past → BeginsLegal session past
begins session are zero past few way =
    let plan : List (List Listed) = plan_of is_response session in
    ⊎_elim
    (λ (goes : GoesOn plan past). absurd (no_room (plan_entries plan) (length past) few (next_has_room plan past goes.actor goes.line goes.step way.played goes.next)))
    (λ (at : IsAtSweep plan past). ends_legal session past are way at (each_has_reply session past 0 0 (driver DriverEvent.Sweep)))
    (always_goes_on session past are way.played way.no_sweep)
begins session are (suc room) past few way =
    let plan : List (List Listed) = plan_of is_response session in
    ⊎_elim
    (λ (goes : GoesOn plan past).
    let has : HasReplyIn session past goes.actor goes.line goes.step = each_has_reply session past goes.actor goes.line goes.step in
    begins_before session has.entry past
    (begins session are room (has.entry ∷ past) (one_less (plan_entries plan) (length past) room few) (one_more session past goes has way)))
    (λ (at : IsAtSweep plan past). ends_legal session past are way at (each_has_reply session past 0 0 (driver DriverEvent.Sweep)))
    (always_goes_on session past are way.played way.no_sweep)

enough : (most n : ℕ) → most ≤ n + most
enough most n = omega arith

pub legal_so_far_begins_legal : LegalSoFarBeginsLegal
legal_so_far_begins_legal session past are way =
    let most : ℕ = plan_entries (plan_of is_response session) in
    begins session are most past (enough most (length past)) way

-- ---- from the beginning

pub each_has_legal_history : EachHasLegalHistory
each_has_legal_history session are =
    let begun : BeginsLegal session [] =
    legal_so_far_begins_legal session [] are (record { right = tt; played = nothing_played (Some (plan_of is_response session)); no_sweep = All-nil (λ (e : Entry). e.line ≢ 0) }) in
    record { history = begun.later ++ []; legal = begun.legal }
