-- Where an actor has come so far, one line and one step are next.
use Rattle.std.proofs.Common.{◌≡◌, ℕ, zero, suc, List, Some, sym, ap, ◌∙◌, subst}
use Rattle.std.specs.List.{slice_get}
use Rattle.xc_base.specs.declared.call.Call.{Call}
use Rattle.call_journal.specs.declared.event.CallerEvent.{CallerEvent}
use Rattle.call_journal.specs.declared.plan.Count.{Count}
use Rattle.call_journal.specs.declared.plan.Listed.{Listed}
use Rattle.call_journal.specs.declared.plan.ListedEvent.{ListedEvent}
use Rattle.book_progress.specs.PlayedPlans.{IsStep, Step, caller, driver}
use Rattle.entry_law.specs.EntryLaw.{OneNextStep}

-- the step of a start, where so many pins are up
abbrev start_step : ℕ → Call → Step
start_step zero call = caller (CallerEvent.Pin call)
start_step (suc pins) call = caller (CallerEvent.Hold call)

-- the step of a listed event
abbrev listed_step : ListedEvent → ℕ → Step
listed_step (ListedEvent.Driver event) pins = driver event
listed_step (ListedEvent.Start call) pins = start_step pins call
listed_step (ListedEvent.Pick id word) pins = caller (CallerEvent.Pick id word)
listed_step (ListedEvent.Commit id) pins = caller (CallerEvent.Commit id)

-- it is the one step of it
listed_step_is : (step : Step) (listed : ListedEvent) (pins : ℕ) → IsStep step listed pins → listed_step listed pins ≡ step
listed_step_is (driver event) listed pins is = ap (λ (l : ListedEvent). listed_step l pins) is.0
listed_step_is (caller (CallerEvent.Pin call)) listed pins is = ap (λ (l : ListedEvent). listed_step l pins) is.0 ∙ ap (λ (n : ℕ). start_step n call) is.1
listed_step_is (caller (CallerEvent.Hold call)) listed pins is = ap (λ (l : ListedEvent). listed_step l pins) is.0 ∙ ap (λ (n : ℕ). start_step n call) is.1
listed_step_is (caller (CallerEvent.Pick id word)) listed pins is = ap (λ (l : ListedEvent). listed_step l pins) is.0
listed_step_is (caller (CallerEvent.Commit id)) listed pins is = ap (λ (l : ListedEvent). listed_step l pins) is.0

-- what is next in one list is alike
pub next_alike : (list : List Listed) (count : Count) (listed other : Listed) (line number : ℕ) (step event : Step)
    → slice_get list count.ended ≡ Some listed → slice_get list count.ended ≡ Some other → line ≡ listed.line → number ≡ other.line
    → IsStep step listed.event count.pins → IsStep event other.event count.pins → (line ≡ number) × (step ≡ event)
next_alike list count listed other line number step event get found line_is number_is step_next event_next =
    let same : listed ≡ other = cc (get, found) in (
      line_is ∙ (ap (λ (l : Listed). l.line) same ∙ sym number_is),
      sym (listed_step_is step listed.event count.pins step_next) ∙ (ap (λ (l : Listed). listed_step l.event count.pins) same ∙ listed_step_is event other.event count.pins event_next),
    )

pub one_next_step : OneNextStep
one_next_step plan actor count line number step event past a b =
    let lists : b.is.list ≡ a.is.list = cc (a.is.actor_is, b.is.actor_is) in
    next_alike a.is.list count a.listed b.listed line number step event a.is.next_is
    (subst (λ (list : List Listed). slice_get list count.ended ≡ Some b.listed) lists b.is.next_is) a.line_is b.line_is a.step_is b.step_is
