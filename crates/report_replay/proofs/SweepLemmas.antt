-- The last sweep of a legal history, whose other turns have been played.
use Rattle.std.proofs.Common.{◌≡◌, ◌<◌, ℕ, zero, suc, List, [], ◌∷◌, length, get_or, Some, refl, sym, ap, ◌∙◌, subst, arith}
use Rattle.std.specs.Prelude.{slice_get}
use Rattle.std.proofs.lemmas.Option.{slice_get-get_or, slice_get_within}
use Rattle.call_journal.specs.declared.entry.Entry.{Entry}
use Rattle.call_journal.specs.declared.plan.Count.{Count}
use Rattle.call_journal.specs.declared.plan.Listed.{Listed}
use Rattle.session_lines.specs.declared.session.Session.{Session}
use Rattle.session_plan.specs.PlanOfSession.{plan_of}
use Rattle.session_plan.specs.ReadablePayloads.{is_response}
use Rattle.replay_steps.specs.legal_history.Legal.{Legal}
use Rattle.book_progress.specs.ActorCounts.{count_of}
use Rattle.book_progress.specs.PlayedPlans.{IsListed, all_ended}
use Rattle.book_progress.proofs.TallyLemmas.{count_is}
use Rattle.completion_law.proofs.next_law.EndProofs.{end_of_legal}
use Rattle.completion_law.specs.sweep_law.SweepLaw.{listed_sweep}
use Rattle.completion_law.proofs.sweep_law.SweepProofs.{sweep_is_listed, sweep_stands}
use Rattle.turn_player.specs.xds_book.BookViews.{BookView}
use Rattle.turn_player.specs.TurnPlans.{SeatView}
use Rattle.turn_player.specs.TableSeats.{AreDone, IsSeatOf, IsSweepNext}
use Rattle.turn_player.proofs.PlaceLemmas.{one_listed}
use Rattle.report_replay.specs.ReplayedTurns.{HasCome}

-- a caller that has ended all has nothing listed next
nothing_more : (list : List Listed) (count : Count) (listed : Listed) → count ≡ all_ended list → slice_get list count.ended ≡ Some listed → ⊥
nothing_more list count listed is get =
    let less : count.ended < length list = slice_get_within list count.ended listed get in
    let all : count.ended ≡ length list = ap (λ (c : Count). c.ended) is in
    omega (arith, less, all)

-- what is listed next for an actor before the last sweep is of line 0
left_at : (session : Session) (past : List Entry) (sweep : Entry) (actor : ℕ) (listed : Listed) → Legal session (sweep ∷ past) → IsListed (plan_of is_response session) actor (count_of actor past) listed → listed.line ≡ 0
left_at session past sweep zero listed h is =
    ap (λ (l : Listed). l.line) (one_listed (plan_of is_response session) 0 (count_of 0 past) listed listed_sweep is (sweep_is_listed session past sweep h))
left_at session past sweep (suc actor) listed h is =
    let ended : count_of (suc actor) past ≡ all_ended is.list = (end_of_legal session past sweep h).callers (suc actor) is.list (omega arith) is.actor_is in
    absurd (nothing_more is.list (count_of (suc actor) past) listed ended is.next_is)

-- before the last sweep each seat is done
pub seats_done : (session : Session) (past : List Entry) (sweep : Entry) (lists : List (List Listed)) (book : BookView) (seats : List SeatView) → Legal session (sweep ∷ past) → lists ≡ plan_of is_response session
    → length lists ≡ length book.counts → HasCome past book seats → AreDone lists seats
seats_done session past sweep lists book seats h planned actors come = λ k d within.
    let seat : SeatView = get_or seats k d in
    let at : slice_get seats k ≡ Some seat = slice_get-get_or seats k d within in
    let stood : IsSeatOf book k seat = come.seated.each k seat at in
    let counted : seat.lane.count ≡ count_of seat.lane.actor book.entries = count_is (length book.counts) book.entries book.counts seat.lane.actor seat.lane.count come.seated.counted stood.own in
    let count : seat.lane.count ≡ count_of k past = counted ∙ (ap (λ (a : ℕ). count_of a book.entries) stood.actor_is ∙ ap (λ (es : List Entry). count_of k es) come.entries) in
    let less : k < length (plan_of is_response session) = subst (λ (n : ℕ). k < n) (come.seated.many ∙ (sym actors ∙ ap length planned)) within in
    let list : List Listed = get_or (plan_of is_response session) k [] in
    let pins : (count_of k past).pins ≡ 0 = (sweep_stands session past sweep h).no_pin k list (slice_get-get_or (plan_of is_response session) k [] less) in
    record {
      free = ap (λ (c : Count). c.pins) count ∙ pins;
      left = λ listed is.
          let one : IsListed (plan_of is_response session) seat.lane.actor seat.lane.count listed = subst (λ (ls : List (List Listed)). IsListed ls seat.lane.actor seat.lane.count listed) planned is in
          let two : IsListed (plan_of is_response session) k seat.lane.count listed = subst (λ (a : ℕ). IsListed (plan_of is_response session) a seat.lane.count listed) stood.actor_is one in
          left_at session past sweep k listed h (subst (λ (c : Count). IsListed (plan_of is_response session) k c listed) count two);
    }

-- its turn comes next
pub sweep_next : (session : Session) (past : List Entry) (sweep : Entry) (lists : List (List Listed)) (book : BookView) (actor line : ℕ) → Legal session (sweep ∷ past) → lists ≡ plan_of is_response session
    → book.entries ≡ past → actor ≡ sweep.actor → line ≡ sweep.line → IsSweepNext lists actor line book
sweep_next session past sweep lists book actor line h planned entries actor_is line_is = record {
  actor_is = actor_is ∙ (sweep_stands session past sweep h).actor_is;
  line_is = line_is ∙ (sweep_stands session past sweep h).line_is;
  listed = listed_sweep;
  next = subst (λ (es : List Entry). IsListed lists 0 (count_of 0 es) listed_sweep) (sym entries)
      (subst (λ (ls : List (List Listed)). IsListed ls 0 (count_of 0 past) listed_sweep) (sym planned) (sweep_is_listed session past sweep h));
  sweep = refl;
}
