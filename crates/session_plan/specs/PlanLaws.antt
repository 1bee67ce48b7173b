-- Laws of the plan of a session (this project's own): entries that play its lists are those that the session lists.
use Rattle.std.specs.Prelude.{◌≡◌, ℕ, ◌<◌, List, length, Bool, Some, All, reverse}
use Rattle.std.specs.List.{slice_get}
use Rattle.call_journal.specs.declared.entry.Entry.{Entry}
use Rattle.call_journal.specs.declared.plan.Listed.{Listed}
use Rattle.session_lines.specs.declared.session.Session.{Session}
use Rattle.session_script.specs.Plan.{AreListed, entries_by}
use Rattle.session_plan.specs.PlanOfSession.{plan_of}
use Rattle.session_plan.specs.PlayedEvents.{HasPlayed, Plays}

-- the entries of each actor are the events of its list, all of them
pub record PlaysPlan (plan : List (List Listed)) (entries : List Entry) : Type 0 where
  pub actors : All (λ entry. entry.actor < length plan) entries
  pub each : (actor : ℕ) (list : List Listed) → slice_get plan actor ≡ Some list → Plays list (entries_by actor entries)

abbrev pub PlanIsListed : Type 0
PlanIsListed = (readable : List ℕ → Bool) (session : Session) (entries : List Entry) → PlaysPlan (plan_of readable session) entries
    → AreListed readable session.callers session.lines entries

-- an actor all of whose events have ended, and no pin is up
abbrev pub EndedListIsPlayed : Type 0
EndedListIsPlayed = (list : List Listed) (past : List Entry) → HasPlayed list (length list) 0 past → Plays list (reverse past)

-- in a history, which has the newest entry first, each actor has come to the end of its list, and no pin is up
pub record HaveEnded (plan : List (List Listed)) (history : List Entry) : Type 0 where
  pub actors : All (λ entry. entry.actor < length plan) history
  pub each : (actor : ℕ) (list : List Listed) → slice_get plan actor ≡ Some list → HasPlayed list (length list) 0 (entries_by actor history)

abbrev pub EndedPlanIsListed : Type 0
EndedPlanIsListed = (readable : List ℕ → Bool) (session : Session) (history : List Entry) → HaveEnded (plan_of readable session) history
    → AreListed readable session.callers session.lines (reverse history)
