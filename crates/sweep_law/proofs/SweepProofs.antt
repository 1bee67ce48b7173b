-- The last sweep is what the plan lists last for the driver, and no pin is up where all but it has ended.
use Rattle.std.proofs.Common.{◌≡◌, ◌≤◌, ◌+◌, ℕ, zero, suc, List, [], ◌∷◌, ◌++◌, length, Option, Some, refl, ap, ◌∙◌, arith}
use Rattle.std.specs.List.{slice_get}
use Rattle.call_journal.specs.declared.event.DriverEvent.{DriverEvent}
use Rattle.call_journal.specs.declared.entry.Entry.{Entry}
use Rattle.call_journal.specs.declared.plan.Count.{Count}
use Rattle.call_journal.specs.declared.plan.Listed.{Listed}
use Rattle.session_script.specs.Plan.{none_up}
use Rattle.session_plan.specs.PlanOfSession.{driver_plan, plan_of}
use Rattle.session_plan.specs.ReadablePayloads.{is_response}
use Rattle.book_progress.specs.ActorCounts.{count_of}
use Rattle.next_law.specs.NextLaw.{IsPlayedOut}
use Rattle.next_law.proofs.EndProofs.{end_of_legal}
use Rattle.sweep_law.specs.SweepLaw.{SweepIsListed, SweepStands, listed_sweep}
use Rattle.sweep_law.proofs.ListLemmas.{before_sweep, last_at, one_longer, sweep_behind}

-- ---- what the plan lists

pub sweep_is_listed : SweepIsListed
sweep_is_listed session past sweep h =
    let list : List Listed = driver_plan is_response session.lines in
    let front : List Listed = before_sweep none_up session.lines in
    let out : IsPlayedOut (plan_of is_response session) sweep past = end_of_legal session past sweep h in
    let ends : list ≡ front ++ listed_sweep ∷ [] = sweep_behind none_up session.lines in
    let more : (count_of 0 past).ended + 1 ≡ length list = ap (λ (c : Count). c.ended) (out.driver list refl) in
    let longer : length list ≡ length front + 1 = ap (λ (l : List Listed). length l) ends ∙ one_longer front listed_sweep in
    let ended : (count_of 0 past).ended ≡ length front = omega (arith, more, longer) in
    record {
      list = list;
      actor_is = refl;
      next_is = ap (λ (n : ℕ). slice_get list n) ended ∙ (ap (λ (l : List Listed). slice_get l (length front)) ends ∙ last_at front listed_sweep);
    }

-- ---- where it stands

pins_down : (plan : List (List Listed)) (sweep : Entry) (past : List Entry) → IsPlayedOut plan sweep past → (actor : ℕ) (list : List Listed) → slice_get plan actor ≡ Some list
    → (count_of actor past).pins ≡ 0
pins_down plan sweep past out zero list get = ap (λ (c : Count). c.pins) (out.driver list get)
pins_down plan sweep past out (suc k) list get =
    let least : 1 ≤ suc k = omega arith in
    ap (λ (c : Count). c.pins) (out.callers (suc k) list least get)

pub sweep_stands : SweepStands
sweep_stands session past sweep h =
    let out : IsPlayedOut (plan_of is_response session) sweep past = end_of_legal session past sweep h in
    record {
      actor_is = out.actor_is;
      line_is = ap (λ (x : ℕ × Option DriverEvent). x.0) h.ends;
      no_pin = pins_down (plan_of is_response session) sweep past out;
    }
