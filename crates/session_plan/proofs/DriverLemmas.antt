-- The driver's list, and its entries.
use Rattle.std.proofs.Common.{◌≡◌, ◌<◌, ◌≤◌, ◌+◌, ℕ, List, [], ◌∷◌, ◌++◌, length, drop, get_or, map, append_assoc, Bool, refl, sym, ap, ap₂, ◌∙◌}
use Rattle.std.proofs.lemmas.List.{drop_all, drop_more, map-append}
use Rattle.call_journal.specs.declared.event.DriverEvent.{DriverEvent}
use Rattle.call_journal.specs.declared.entry.Entry.{Entry}
use Rattle.session_lines.specs.declared.session.Line.{Line}
use Rattle.session_script.specs.Plan as plan
use Rattle.session_script.specs.Plan.{driver_list, entry_event, last_sweep, listed_event, listed_for, work_events, work_streams}
use Rattle.call_journal.specs.declared.plan.Listed.{Listed}
use Rattle.session_plan.specs.ComingFrames.{AreWaiting, Waiting}
use Rattle.session_plan.specs.PlanOfSession.{plan_item}
use Rattle.session_plan.specs.ReadablePayloads.{is_response}
use Rattle.session_plan.specs.PlayedEvents.{IsOne, IsPin, IsHold, Plays, all, one, pin, start}

-- the entries that play the driver's list are the entries of its events
pub driver_plays : (made : List plan.Listed) (es : List Entry) → Plays (map plan_item made) es → map entry_event es ≡ map listed_event made
driver_plays [] _ all = refl
driver_plays (m ∷ ms) _ (one _ _ e es line event rest) = ap₂ (λ x xs. x ∷ xs) (cc (line, event)) (driver_plays ms es rest)
driver_plays (m ∷ ms) _ (pin _ _ e es line event rest) = absurd (cc event.start)
driver_plays (m ∷ ms) _ (start _ _ e f es line event again hold rest) = absurd (cc event.start)

-- the driver's list, line by line
pub list_more : (readable : List ℕ → Bool) (s : plan.Streams) (line : Line) (lines : List Line)
    → map plan_item (driver_list readable s (line ∷ lines))
    ≡ map plan_item (map (listed_for line) (work_events readable s line.work)) ++ map plan_item (driver_list readable (work_streams readable s line.work) lines)
unfolding driver_list
list_more readable s line lines = map-append plan_item (map (listed_for line) (work_events readable s line.work)) (driver_list readable (work_streams readable s line.work) lines)

pub list_end : (readable : List ℕ → Bool) (s : plan.Streams) → map plan_item (driver_list readable s []) ≡ plan_item last_sweep ∷ []
unfolding driver_list
list_end readable s = refl

-- one line more: the list so far, with what the lines from one on make, stays
pub step_waits : (lines : List Line) (i : ℕ) (line : Line) (s : plan.Streams) (old new : Waiting) (so_far now total : List Listed) → i < length lines → line ≡ get_or lines i line → AreWaiting s old
    → ((t : plan.Streams) → AreWaiting t old → now ≡ so_far ++ map plan_item (map (listed_for line) (work_events is_response t line.work)))
    → ((t : plan.Streams) → AreWaiting t old → AreWaiting (work_streams is_response t line.work) new)
    → so_far ++ map plan_item (driver_list is_response s (drop i lines)) ≡ total
    → (t : plan.Streams) × (AreWaiting t new × (now ++ map plan_item (driver_list is_response t (drop (i + 1) lines)) ≡ total))
step_waits lines i line s old new so_far now total less here waits lists leaves is =
    let made : List Listed = map plan_item (map (listed_for line) (work_events is_response s line.work)) in
    let later : List Listed = map plan_item (driver_list is_response (work_streams is_response s line.work) (drop (i + 1) lines)) in
    let left : drop i lines ≡ line ∷ drop (i + 1) lines = drop_more lines i line less ∙ ap (λ (l : Line). l ∷ drop (i + 1) lines) (sym here) in
    let step : map plan_item (driver_list is_response s (drop i lines)) ≡ made ++ later =
    ap (λ (ls : List Line). map plan_item (driver_list is_response s ls)) left ∙ list_more is_response s line (drop (i + 1) lines) in (
      work_streams is_response s line.work,
      (
        leaves s waits,
        ap (λ (l : List Listed). l ++ later) (lists s waits) ∙ (append_assoc so_far made later ∙ (ap (λ (l : List Listed). so_far ++ l) (sym step) ∙ is)),
      ),
    )

-- no line is left
pub list_done : (lines : List Line) (i : ℕ) (s : plan.Streams) (so_far now : List Listed) (last : Listed) (total : List Listed) → length lines ≤ i → now ≡ so_far ++ last ∷ [] → last ≡ plan_item last_sweep
    → so_far ++ map plan_item (driver_list is_response s (drop i lines)) ≡ total → now ≡ total
list_done lines i s so_far now last total le made sweep is =
    made ∙ (ap (λ (l : Listed). so_far ++ l ∷ []) sweep
    ∙ (ap (λ (l : List Listed). so_far ++ l) (sym (ap (λ (ls : List Line). map plan_item (driver_list is_response s ls)) (drop_all i lines le) ∙ list_end is_response s)) ∙ is))
