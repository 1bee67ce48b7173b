-- The laws of calls whose start or whose hold comes next.
use Rattle.std.proofs.Common.{◌≡◌, ◌≢◌, ◌<◌, ℕ, ◌+◌, Bool, true, false, ◌==◌, List, Option, Some, None, refl, sym, ap, ◌∙◌, subst, arith, eq-eqb}
use Rattle.std.specs.Prelude.{slice_get}
use Rattle.xc_base.specs.declared.call.Call.{Call}
use Rattle.call_journal.specs.declared.entry.Entry.{Entry}
use Rattle.call_journal.specs.declared.plan.Listed.{Listed}
use Rattle.call_journal.specs.declared.plan.ListedEvent.{ListedEvent}
use Rattle.xds_history.specs.References.{pinned, pins_after}
use Rattle.xds_history.specs.Pages.{pages}
use Rattle.book_progress.specs.ActorCounts.{actor_entries, count_of}
use Rattle.planned_calls.specs.PlannedCalls.{IsStartAt, IsStartOf, NextHoldIsUp, NextStartIsNew, StartsOnce}
use Rattle.planned_calls.proofs.BegunCalls.{Each, IsPlanned, IsPlannedFor, begins, each_map, each_planned, first_of}
use Rattle.planned_calls.proofs.OpenPins.{IsLastPin, last_pin, no_hold, no_pin, pin_told, up_in}

unless : (b : Bool) → (b ≡ true → ⊥) → b ≡ false
unless true none = absurd (none refl)
unless false none = refl

-- the plan has the start that comes next, or whose pin is up
start_at : (plan : List (List Listed)) (actor ended : ℕ) (call : Call) (list : List Listed) (listed : Listed) → slice_get plan actor ≡ Some list → slice_get list ended ≡ Some listed
    → listed.event ≡ ListedEvent.Start call → IsStartAt plan call.id.0 actor ended
start_at plan actor ended call list listed actor_is next_is start = record {
  list = list;
  actor_is = actor_is;
  listed = listed;
  place_is = next_is;
  start = subst (λ (e : ListedEvent). IsStartOf call.id.0 e) (sym start) refl;
}

-- ---- a start

not_yet : (n place first pins : ℕ) → first ≡ n + pins → pins ≡ 0 → place ≡ n → place < first → ⊥
not_yet n place first pins is none at less = absurd (omega (arith, is, none, at, less))

never : (plan : List (List Listed)) (history : List Entry) (actor number : ℕ) → StartsOnce plan → (count_of actor history).pins ≡ 0 → IsStartAt plan number actor (count_of actor history).ended
    → (e : Entry) → IsPlanned plan history e → begins number e.what ≡ false
never plan history actor number once none next e planned =
    unless (begins number e.what)
    (λ begun.
    let by : IsPlannedFor plan history number e.actor = planned number begun in
    let (own, at) = once number e.actor actor by.place (count_of actor history).ended by.at next in
    let before : by.place < first_of history actor = subst (λ a. by.place < first_of history a) own by.before in
    not_yet (count_of actor history).ended by.place (first_of history actor) (count_of actor history).pins refl none at before)

pub next_start_is_new : NextStartIsNew
next_start_is_new s plan history actor line call is once next =
    let at : IsStartAt plan call.id.0 actor (count_of actor history).ended =
    start_at plan actor (count_of actor history).ended call next.is.list next.listed next.is.actor_is next.is.next_is next.step_is.0 in
    let none : Each (λ e. begins call.id.0 e.what ≡ false) history =
    each_map (λ e. IsPlanned plan history e) (λ e. begins call.id.0 e.what ≡ false) (never plan history actor call.id.0 once next.step_is.1 at) history (each_planned plan history is) in
    record {
      free = no_pin s history call.id none;
      idle = no_hold s history call.id none;
    }

-- ---- a hold

nobody : (plan : List (List Listed)) (history : List Entry) (actor place number : ℕ) → StartsOnce plan → IsStartAt plan number actor place → (e : Entry) → IsPlanned plan history e
    → (e.actor == actor) ≡ false → begins number e.what ≡ false
nobody plan history actor place number once at e planned other =
    unless (begins number e.what)
    (λ begun.
    let by : IsPlannedFor plan history number e.actor = planned number begun in
    let own : e.actor ≡ actor = (once number e.actor actor by.place place by.at at).0 in
    let same : (e.actor == actor) ≡ true = eq-eqb e.actor actor own in
    cc (same, other))

some_pinned : (o : Option ℕ) (number : ℕ) → o ≡ Some number → o ≢ None
some_pinned o number is = λ none. cc (is, none)

pub next_hold_is_up : NextHoldIsUp
next_hold_is_up s plan history actor line call is once next =
    let n : ℕ = (count_of actor history).ended in
    let at : IsStartAt plan call.id.0 actor n = start_at plan actor n call next.is.list next.listed next.is.actor_is next.is.next_is next.step_is.0 in
    let last : IsLastPin next.is.list n (actor_entries actor history) =
    last_pin next.is.list n (count_of actor history).pins (actor_entries actor history) (is.played actor next.is.list next.is.actor_is) next.step_is.1 in
    let next_is = next.is.next_is in
    let last_is = last.next_is in
    let same : last.next ≡ next.listed = cc (next_is, last_is) in
    let starts : ListedEvent.Start last.pins.call ≡ ListedEvent.Start call = sym last.pins.start ∙ (ap (λ (l : Listed). l.event) same ∙ next.step_is.0) in
    let own : last.pins.call ≡ call = cc starts in
    let (number, told) = pin_told last.pin.what last.pins.call last.pins.pin last.pins.reply in
    let others : Each (λ e. (e.actor == actor) ≡ false → begins call.id.0 e.what ≡ false) history =
    each_map (λ e. IsPlanned plan history e) (λ e. (e.actor == actor) ≡ false → begins call.id.0 e.what ≡ false) (nobody plan history actor n call.id.0 once at) history (each_planned plan history is) in
    some_pinned (pinned (pages s history) call.id) number
    (up_in s actor number call.id history last.pin last.earlier last.is (subst (λ (c : Call). pins_after c.id last.pin.what ≡ Some (Some number)) own told) others)
